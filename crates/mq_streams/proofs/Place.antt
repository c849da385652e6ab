-- What a search finds among rows whose ids rise, and what removing a row keeps.
use Rattle.std.proofs.Common.{◌≡◌, ◌≢◌, ℕ, ◌+◌, ◌<◌, ◌≤◌, List, All, length, get_or, Result, Ok, Err, sym, ap, inl, inr, arith, ◌⊎◌}
use Rattle.std.specs.Option.{MatchOption}
use Rattle.std.specs.Result.{result_ok}
use Rattle.std.specs.List.{HoldsAt, remove}
use Rattle.std.specs.List.Sorted.{IsSearchInRange, IsBinarySearchResult, IsNonDecreasingBy}
use Rattle.std.specs.Ordering.{nat_cmp, ordering_index}
use Rattle.std.proofs.lemmas.Cmp.{ranked}
use Rattle.std.proofs.lemmas.List.Edits.{length-remove, get_or-remove_below, get_or-remove_above}
use Rattle.std.proofs.lemmas.Bool.{cases_lt, cases_order}
use Rattle.std.proofs.lemmas.Bool.Decides.{nat_tests}
use Rattle.mq_streams.specs.declared.stream.Stream.{Stream}
use Rattle.mq_streams.specs.Rows.{Rise}

module _ (rows : List Stream) (rise : Rise rows) (id : ℕ) where
  -- the comparisons with the id rise along the rows, as a binary search asks
  comparisons_rise : IsNonDecreasingBy (λ (row : Stream). ordering_index (nat_cmp row.id id)) rows
  comparisons_rise i j d le within =
      elim (cases_order i j) [
        | inl same ↦ let P = λ (k : ℕ). ordering_index (nat_cmp (get_or rows i d).id id) ≤ ordering_index (nat_cmp (get_or rows k d).id id) in
            grind (arith, λ (e : i ≡ j). ap (λ (k : ℕ). (get_or rows k d).id) e)
        | inr other ↦ let less : i < j = omega arith in grind (arith, nat_tests, rise i j d less within)
      ]

  pub searched : (r : Result ℕ ℕ) → IsSearchInRange r (length rows) → IsBinarySearchResult (λ row. nat_cmp row.id id) rows r →
      MatchOption (result_ok r) (All (λ row. row.id ≢ id) rows) (λ at. (at < length rows) × HoldsAt (λ row. row.id ≡ id) rows at)
  searched (Ok at) within equal = (within, λ d. ranked _ id _ (sym (equal d)))
  searched (Err at) within parted = λ k d below same.
      elim (cases_lt k at) [
        | inl before ↦ let h : (get_or rows k d).id < id = ranked _ id _ (sym ((parted comparisons_rise).0 k d (omega arith) before)) in omega arith
        | inr after ↦ let h : id < (get_or rows k d).id = ranked _ id _ (sym ((parted comparisons_rise).1 k d after below)) in omega arith
      ]

module _ (rows : List Stream) (at : ℕ) (within : at < length rows) where
  -- a row that stays is one of the old rows, below the place or above it
  shifted : (k : ℕ) (d : Stream) → ((k < at) × (get_or (remove rows at) k d ≡ get_or rows k d)) ⊎ ((at ≤ k) × (get_or (remove rows at) k d ≡ get_or rows (k + 1) d))
  shifted k d =
      elim (cases_lt k at) [
        | inl before ↦ inl (before, get_or-remove_below rows at d k before within)
        | inr after ↦ inr (after, get_or-remove_above rows at d k after within)
      ]

  pub rise_without : Rise rows → Rise (remove rows at)
  rise_without rise i j d less below =
      let shorter = length-remove rows at within in
      let id = λ (row : Stream). row.id in
      elim (shifted i d) [
        | inl low ↦ elim (shifted j d) [
          | inl high ↦ let h = rise i j d less (omega arith) in let e = ap id low.1 in let f = ap id high.1 in omega arith
          | inr high ↦ let h = rise i (j + 1) d (omega arith) (omega arith) in let e = ap id low.1 in let f = ap id high.1 in omega arith
        ]
        | inr low ↦ elim (shifted j d) [
          | inl high ↦ absurd (omega arith)
          | inr high ↦ let h = rise (i + 1) (j + 1) d (omega arith) (omega arith) in let e = ap id low.1 in let f = ap id high.1 in omega arith
        ]
      ]

  pub all_without : (P : Stream → Type 0) → All P rows → All P (remove rows at)
  all_without P all k d below =
      let shorter = length-remove rows at within in
      elim (shifted k d) [
        | inl low ↦ rw low.1 (all k d (omega arith))
        | inr high ↦ rw high.1 (all (k + 1) d (omega arith))
      ]
