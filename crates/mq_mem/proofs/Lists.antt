-- What is copied to a buffer is the front of what was there; and what holds of each element holds of each behind the first.
use Rattle.std.proofs.Common.{◌≡◌, ◌≤◌, ◌+◌, ℕ, List, ◌++◌, length, take, drop, sym, subst, ◌∙◌, ap}
use Rattle.std.specs.List.{All}
use Rattle.std.proofs.lemmas.List.Elements.{All-drop}
use Rattle.std.proofs.lemmas.List.{take-append-drop, take-append-le, drop-drop}

-- what one call copies of a list
pub copied_front : (n : ℕ) (left front rest buffer : List ℕ) → left ≡ front ++ rest → n ≤ length front → take n buffer ≡ take n front → take n buffer ≡ take n left
copied_front n left front rest buffer whole fits copied =
    copied ∙ sym (take-append-le n front rest fits) ∙ ap (λ (l : List ℕ). take n l) (sym whole)

pub given : (n p : ℕ) (contents left front rest buffer : List ℕ) → left ≡ drop p contents → left ≡ front ++ rest → n ≤ length front → take n buffer ≡ take n front
    → left ≡ take n buffer ++ drop (p + n) contents
given n p contents left front rest buffer is whole fits copied =
    sym (take-append-drop n left)
    ∙ ap (λ (l : List ℕ). l ++ drop n left) (sym (copied_front n left front rest buffer whole fits copied))
    ∙ ap (λ (l : List ℕ). take n buffer ++ l) (ap (λ (l : List ℕ). drop n l) is ∙ drop-drop n p contents)

-- what holds of each holds of each but the first
pub rest_all : {X : Type 0} (P : X → Type 0) (items rest : List X) → rest ≡ drop 1 items → All P items → All P rest
rest_all {X} P items rest is all = let Q : List X → Type 0 = λ xs. All P xs in subst Q (sym is) (All-drop P 1 items all)
