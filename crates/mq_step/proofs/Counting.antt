-- Counts that rise.
use Rattle.std.proofs.Common.{◌≡◌, ◌⊎◌, inl, inr, ℕ, ◌+◌, ◌<◌, ◌≤◌, min, max, ap, ◌∙◌, arith}
use Rattle.std.proofs.lemmas.Bool.{cases_lt}
use Rattle.std.proofs.Math.Nat.{min-eq_left, min-eq_right, max-eq_left, max-eq_right}
use Rattle.mq_outside.specs.Counts.{last_count, risen, LinkCounts, PortCounts}
use Rattle.mq_machine.specs.Acting.{Rose}
use Rattle.mq_step.specs.Sights.{LinkGrows, PortGrows}

risen_below : (n : ℕ) → n < last_count → risen n ≡ n + 1
risen_below n lt =
    let least : min (n + 1) last_count ≡ n + 1 = min-eq_left (omega (arith, lt)) in
    ap {B = ℕ} (λ (m : ℕ). max n m) least ∙ max-eq_right (omega arith)

risen_at : (n : ℕ) → last_count ≤ n → risen n ≡ n
risen_at n le =
    let least : min (n + 1) last_count ≡ last_count = min-eq_right (omega (arith, le)) in
    ap {B = ℕ} (λ (m : ℕ). max n m) least ∙ max-eq_left le

-- a count that rose by one rose
pub rose_risen : (n m : ℕ) → m ≡ risen n → Rose n m
rose_risen n m is = by_case (cases_lt n last_count) where
  by_case : (n < last_count) ⊎ (last_count ≤ n) → Rose n m
  by_case (inl lt) = let e = is ∙ risen_below n lt in inl (omega (arith, e))
  by_case (inr le) = inr (is ∙ risen_at n le, le)

pub risen_grows : (n : ℕ) → n ≤ risen n
risen_grows n = by_case (cases_lt n last_count) where
  by_case : (n < last_count) ⊎ (last_count ≤ n) → n ≤ risen n
  by_case (inl lt) = let e = risen_below n lt in omega (arith, e)
  by_case (inr le) = let e = risen_at n le in omega (arith, e)

pub same_grows : (n m : ℕ) → m ≡ n → n ≤ m
same_grows n m is = omega (arith, is)

-- a count that rose before has risen behind
pub rose_then : (a b c : ℕ) → Rose a b → b ≤ c → Rose a c
rose_then a b c (inl lt) le = inl (omega (arith, lt, le))
rose_then a b c (inr (same, last)) le = by_case (cases_lt a c) where
  by_case : (a < c) ⊎ (c ≤ a) → Rose a c
  by_case (inl lt) = inl lt
  by_case (inr ge) = inr (omega (arith, same, le, ge), last)

-- and one that rose behind has risen since before
pub then_rose : (a b c : ℕ) → a ≤ b → Rose b c → Rose a c
then_rose a b c le (inl lt) = inl (omega (arith, lt, le))
then_rose a b c le (inr (same, last)) = by_case (cases_lt a c) where
  by_case : (a < c) ⊎ (c ≤ a) → Rose a c
  by_case (inl lt) = inl lt
  by_case (inr ge) = inr (omega (arith, same, le, ge), omega (arith, same, le, ge, last))

pub port_same : (a b : PortCounts) → b ≡ a → PortGrows a b
port_same a b is = record {
  send_waits = same_grows a.send_waits b.send_waits (ap (λ (c : PortCounts). c.send_waits) is);
  receive_waits = same_grows a.receive_waits b.receive_waits (ap (λ (c : PortCounts). c.receive_waits) is);
  faults = same_grows a.faults b.faults (ap (λ (c : PortCounts). c.faults) is);
}

pub link_same : (a b : LinkCounts) → b ≡ a → LinkGrows a b
link_same a b is = record {
  read_waits = same_grows a.read_waits b.read_waits (ap (λ (c : LinkCounts). c.read_waits) is);
  write_waits = same_grows a.write_waits b.write_waits (ap (λ (c : LinkCounts). c.write_waits) is);
  faults = same_grows a.faults b.faults (ap (λ (c : LinkCounts). c.faults) is);
}
