-- Counts that rise.
use Rattle.std.proofs.Common.{◌≡◌, ◌⊎◌, inl, inr, ℕ, ◌+◌, ◌<◌, ◌≤◌, min, max, ap, ◌∙◌, arith}
use Rattle.std.proofs.lemmas.Bool.{cases_lt}
use Rattle.std.proofs.Math.Nat.{min-eq_left, min-eq_right, max-eq_left, max-eq_right}
use Rattle.mq_outside.specs.Counts.{last_count, risen}
use Rattle.mq_machine.specs.Acting.{Rose}

risen_below : (n : ℕ) → n < last_count → risen n ≡ n + 1
risen_below n lt =
    let least : min (n + 1) last_count ≡ n + 1 = min-eq_left (omega (arith, lt)) in
    ap {B = ℕ} (λ (m : ℕ). max n m) least ∙ max-eq_right (omega arith)

risen_at : (n : ℕ) → last_count ≤ n → risen n ≡ n
risen_at n le =
    let least : min (n + 1) last_count ≡ last_count = min-eq_right (omega (arith, le)) in
    ap {B = ℕ} (λ (m : ℕ). max n m) least ∙ max-eq_left le

-- a count that rose by one rose
pub rose_risen : (n m : ℕ) → m ≡ risen n → Rose n m
rose_risen n m is = by_case (cases_lt n last_count) where
  by_case : (n < last_count) ⊎ (last_count ≤ n) → Rose n m
  by_case (inl lt) = let e = is ∙ risen_below n lt in inl (omega (arith, e))
  by_case (inr le) = inr (is ∙ risen_at n le, le)

-- one that can still be counted
pub risen_within : (n : ℕ) → n ≤ last_count → risen n ≡ min (n + 1) last_count
risen_within n within = max-eq_right (least_within n within (cases_lt n last_count)) where
  least_within : (n : ℕ) → n ≤ last_count → (n < last_count) ⊎ (last_count ≤ n) → n ≤ min (n + 1) last_count
  least_within n within (inl lt) = let e : min (n + 1) last_count ≡ n + 1 = min-eq_left (omega (arith, lt)) in omega (arith, e)
  least_within n within (inr le) = let e : min (n + 1) last_count ≡ last_count = min-eq_right (omega (arith, le)) in omega (arith, e, within)
