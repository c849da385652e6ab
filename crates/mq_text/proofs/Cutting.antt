-- The first place of a byte.
use Rattle.std.proofs.Common.{◌≡◌, ◌≢◌, ℕ, ◌<◌, ◌==◌, List, [], ◌∷◌, ◌++◌, length, get_or, take, drop, position, Some, None, Bool, true, false, sym, ◌∙◌, ap, refl, arith, drop-cons}
use Rattle.std.proofs.Common.{suc, length-take, eq-eqb, inl, inr}
use Rattle.std.proofs.lemmas.Bool.{cases_lt, lt-ltb, cond-true, eqb-true}
use Rattle.std.proofs.lemmas.List.{take-append-drop, get_or-take}
use Rattle.std.proofs.lemmas.List.Sums.{fails_before_first}
use Rattle.std.specs.List.{position_or_len}
use Rattle.std.proofs.lemmas.List.Quantifiers.{position-Some}
use Rattle.mq_text.specs.Cut.{Lacks, IsCut}

-- equal heads and tails
pub one_cut : (separator : ℕ) (a c b d : List ℕ) → Lacks separator a → Lacks separator c → a ++ separator ∷ b ≡ c ++ separator ∷ d → (a ≡ c) × (b ≡ d)
one_cut s [] [] b d p q e = (refl, cc)
one_cut s [] (y ∷ ys) b d p q e = let head : s ≡ y = cc in absurd (q.0 (sym head))
one_cut s (x ∷ xs) [] b d p q e = let head : x ≡ s = cc in absurd (p.0 head)
one_cut s (x ∷ xs) (y ∷ ys) b d p q e =
    let head : x ≡ y = cc in
    let tail : xs ++ s ∷ b ≡ ys ++ s ∷ d = cc in
    let rest = one_cut s xs ys b d p.1 q.1 tail in
    let same = rest.0 in
    (cc, rest.1)

lacks_by_place : (separator : ℕ) (text : List ℕ) → ((k : ℕ) → k < length text → get_or text k 0 ≢ separator) → Lacks separator text
lacks_by_place s [] h = tt
lacks_by_place s (b ∷ bs) h = (h 0 (omega arith), lacks_by_place s bs (λ k l. h (suc k) (omega arith)))

other : (b s : ℕ) → (b == s) ≡ false → b ≢ s
other b s e same = let yes : (b == s) ≡ true = eq-eqb b s same in cc

pub no_place : (separator : ℕ) (text : List ℕ) → position (λ b. b == separator) text ≡ None → Lacks separator text
no_place s text e =
    let p : ℕ → Bool = λ b. b == s in
    elim (cases_lt (position_or_len p text) (length text)) [
      | inl here ↦ (let some : position p text ≡ Some (position_or_len p text) = cond-true _ _ _ (lt-ltb _ _ here) in absurd cc)
      | inr none ↦ lacks_by_place s text (λ k l. other _ s (fails_before_first p text k 0 (omega arith)))
    ]

pub cut_at_place : (separator : ℕ) (text : List ℕ) (i : ℕ) → position (λ b. b == separator) text ≡ Some i → IsCut separator text (take i text) (drop 1 (drop i text))
cut_at_place s text i e =
    let p : ℕ → Bool = λ b. b == s in
    let told = position-Some p text i 0 e in
    let here : get_or text i 0 ≡ s = eqb-true _ _ told.1 in
    let behind : drop i text ≡ get_or text i 0 ∷ drop (suc i) text = drop-cons text i 0 told.0 in
    let rest : drop 1 (drop i text) ≡ drop (suc i) text = ap (drop 1) behind in
    record {
      is = sym (take-append-drop i text) ∙ ap (λ (xs : List ℕ). take i text ++ xs) (behind ∙ ap (λ (b : ℕ). b ∷ drop (suc i) text) here ∙ ap (λ (xs : List ℕ). s ∷ xs) (sym rest));
      first = lacks_by_place s (take i text) (λ k l. let h : k < i = grind (arith, length-take i text) in rw (get_or-take i text k 0 h) (other _ s (told.2 k h)));
    }
