-- What stood in a vector before something was written behind it.
use Rattle.std.proofs.Common.{◌≡◌, ℕ, ◌≤◌, List, ◌++◌, length, take, Result, Ok, Err, sym, ap, ◌∙◌, arith, length-append}
use Rattle.std.specs.Prelude.{OnErr}
use Rattle.std.proofs.lemmas.List.{take_at, take-take}

-- a part that was written of more leaves what stood there
pub kept : (old more mid new : List ℕ) (n m : ℕ) → n ≡ length old → m ≡ length mid → mid ≡ old ++ more → take m new ≡ mid → take n new ≡ old
kept old more mid new n m n-is m-is mid-is new-is =
    let within : n ≤ m = omega (arith, length-append old more, ap length mid-is) in
    sym (take-take n m new within) ∙ ap (λ (xs : List ℕ). take n xs) (new-is ∙ mid-is) ∙ take_at old more n (sym n-is)

pub on_err : {A E : Type 0} (r : Result A E) (P : Type 0) → P → OnErr r P
on_err (Ok x) P p = tt
on_err (Err e) P p = p
