-- Where a number is among offered links whose numbers rise.
use Rattle.std.proofs.Common.{refl, ◌≡◌, ◌∙◌, sym, ap, subst, ℕ, ◌<◌, ◌≤◌, ◌==◌, Bool, true, false, cond, List, [], ◌∷◌, length, position, nat_lt, slice_get, slice_index_or, Some, None}
use native.Mathlib.Omega.{arith}
use Rattle.std.specs.List.Sorted.{IsPartitionedBy, IsPartitionPoint}
use Rattle.std.specs.List.{position_or_len}
use Rattle.std.proofs.lemmas.Bool.{ltb-true, ltb-false, lt-ltb, eqb-true, eqb-false, ne_eqb}
use Rattle.std.proofs.lemmas.List.Sums.{position_or_len_is}
use Rattle.std.proofs.lemmas.Option.{slice_get-get_or}
use Rattle.mq_actor.specs.declared.offer.Offer.{Offer as OfferBy}
use Rattle.mq_actor.specs.Offers.{Rise}

-- numbers below this one stand before the others
pub below_first : {L : Type 0} (fs : List (OfferBy L)) (n : ℕ) → Rise fs → IsPartitionedBy (λ (f : OfferBy L). nat_lt f.number n) fs
below_first {L} fs n rise i j d le lt h = by_order (i == j) refl where
  at : ℕ → OfferBy L
  at k = slice_index_or fs k d

  by_order : (b : Bool) → (i == j) ≡ b → nat_lt (at i).number n ≡ true
  by_order true e = subst (λ (k : ℕ). nat_lt (at k).number n ≡ true) (sym (eqb-true i j e)) h
  by_order false e =
      let less : i < j = omega (arith, le, eqb-false i j e) in
      let up : (at i).number < (at j).number = rise i j (at i) (at j) (slice_get-get_or fs i d (omega (arith, le, lt))) (slice_get-get_or fs j d lt) less in
      lt-ltb (at i).number n (omega (arith, up, ltb-true (at j).number n h))

-- before the place none has the number
before : {L : Type 0} (fs : List (OfferBy L)) (n i : ℕ) (d : OfferBy L) → IsPartitionPoint (λ (f : OfferBy L). nat_lt f.number n ≡ true) (λ (f : OfferBy L). nat_lt f.number n ≡ false) fs i
    → (k : ℕ) → k < i → ((slice_index_or fs k d).number == n) ≡ false
before fs n i d point k lt =
    let less : (slice_index_or fs k d).number < n = ltb-true _ n (point.0 k d (omega arith) lt) in
    ne_eqb _ n (λ e. omega (arith, less, e))

pub first_at : {A : Type 0} (p : A → Bool) (xs : List A) (i : ℕ) → position_or_len p xs ≡ i → position p xs ≡ cond (nat_lt i (length xs)) (Some i) None
first_at p xs i e = ap (λ (l : ℕ). cond (nat_lt l (length xs)) (Some l) None) e

not_below : (l : ℕ) → nat_lt l l ≡ false
not_below l = by (nat_lt l l) refl where
  by : (b : Bool) → nat_lt l l ≡ b → b ≡ false
  by true e = let h : l < l = ltb-true l l e in absurd (omega (arith, h))
  by false e = refl

-- a place where one has it
pub found : {L : Type 0} (fs : List (OfferBy L)) (n i : ℕ) (d : OfferBy L) → IsPartitionPoint (λ (f : OfferBy L). nat_lt f.number n ≡ true) (λ (f : OfferBy L). nat_lt f.number n ≡ false) fs i
    → i < length fs → ((slice_index_or fs i d).number == n) ≡ true → position (λ (f : OfferBy L). f.number == n) fs ≡ Some i
found {L} fs n i d point lt is =
    let e = position_or_len_is (λ (f : OfferBy L). f.number == n) fs i d (omega (arith, lt)) (before fs n i d point) (λ h. is) in
    first_at (λ (f : OfferBy L). f.number == n) fs i e ∙ ap (λ (b : Bool). cond b (Some i) None) (lt-ltb i (length fs) lt)

-- no place has it
pub missed : {L : Type 0} (fs : List (OfferBy L)) (n i : ℕ) → Rise fs → IsPartitionPoint (λ (f : OfferBy L). nat_lt f.number n ≡ true) (λ (f : OfferBy L). nat_lt f.number n ≡ false) fs i
    → ((f : OfferBy L) → slice_get fs i ≡ Some f → (f.number == n) ≡ false) → position (λ (f : OfferBy L). f.number == n) fs ≡ None
missed [] n i rise point apart = refl
missed {L} (first ∷ rest) n i rise point apart =
    let e = position_or_len_is (λ (f : OfferBy L). f.number == n) fs (length fs) first (omega arith) all (λ h. absurd (omega (arith, h))) in
    first_at (λ (f : OfferBy L). f.number == n) fs (length fs) e ∙ ap (λ (b : Bool). cond b (Some (length fs)) None) (not_below (length fs))
  where
    fs : List (OfferBy L)
    fs = first ∷ rest

    at : ℕ → OfferBy L
    at k = slice_index_or fs k first

    behind : (k : ℕ) → k < length fs → nat_lt k i ≡ false → (b : Bool) → (i == k) ≡ b → ((at k).number == n) ≡ false
    behind k lt le true e = apart (at k) (subst (λ (j : ℕ). slice_get fs j ≡ Some (at k)) (sym (eqb-true i k e)) (slice_get-get_or fs k first lt))
    behind k lt le false e =
        let above : i ≤ k = ltb-false k i le in
        let less : i < k = omega (arith, above, eqb-false i k e) in
        let low : n ≤ (at i).number = ltb-false (at i).number n (point.1 i first (omega arith) (omega (arith, less, lt))) in
        let up : (at i).number < (at k).number = rise i k (at i) (at k) (slice_get-get_or fs i first (omega (arith, less, lt))) (slice_get-get_or fs k first lt) less in
        ne_eqb _ n (λ e. omega (arith, low, up, e))

    all : (k : ℕ) → k < length fs → ((at k).number == n) ≡ false
    all k lt = by (nat_lt k i) refl where
      by : (b : Bool) → nat_lt k i ≡ b → ((at k).number == n) ≡ false
      by true e = before fs n i first point k (ltb-true k i e)
      by false e = behind k lt e (i == k) refl
