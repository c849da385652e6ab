-- The seat of a tunnel is one.
use Rattle.std.proofs.Common.{◌≡◌, ◌<◌, ◌≤◌, ◌⊎◌, inl, inr, ℕ, zero, suc, List, [], ◌∷◌, Option, Some, None, MatchOption, slice_get, slice_index_or, ap, ◌∙◌, arith}
use Rattle.std.proofs.lemmas.Bool.{cases_lt}
use Rattle.mq_outside.specs.Counts.{risen_by}
use Rattle.mq_outside.specs.Ports.{PortsHolds}
use Rattle.mq_machine.specs.Acting.{Binder, handed_back}
use Rattle.mq_held.specs.declared.held.PortSeat.{PortSeat}
use Rattle.mq_held.specs.Seats.{IsSeatOf}

no_later : (seats : List PortSeat) (tunnel p q : ℕ) (a b : PortSeat) → IsSeatOf seats tunnel p a → IsSeatOf seats tunnel q b → p < q → ⊥
no_later seats tunnel p q a b x y before = y.first p a before x.at x.tunnel_is

pub place_once : (seats : List PortSeat) (tunnel p q : ℕ) (a b : PortSeat) → IsSeatOf seats tunnel p a → IsSeatOf seats tunnel q b → p ≡ q
place_once seats tunnel p q a b x y = by_case (cases_lt p q) (cases_lt q p) where
  by_case : (p < q) ⊎ (q ≤ p) → (q < p) ⊎ (p ≤ q) → p ≡ q
  by_case (inl lt) other = absurd (no_later seats tunnel p q a b x y lt)
  by_case (inr le) (inl lt) = absurd (no_later seats tunnel q p b a y x lt)
  by_case (inr le) (inr ge) = omega (arith, le, ge)

-- what stands at a place
pub at_place : {A : Type 0} (xs : List A) (i : ℕ) (a d : A) → slice_get xs i ≡ Some a → slice_index_or xs i d ≡ a
at_place [] i a d at = absurd cc
at_place (x ∷ xs) zero a d at = cc
at_place (x ∷ xs) (suc i) a d at = at_place xs i a d at

pub match_map : {Q : Type 0} (o : Option Q) (A N : Type 0) (B M : Q → Type 0) → (A → N) → ((q : Q) → B q → M q) → MatchOption o A B → MatchOption o N M
match_map None A N B M f h m = f m
match_map (Some q) A N B M f h m = h q m

-- a port that failed so often was handed back
pub is_handed_back : (old new : Binder) (failures : ℕ) → new.holds ≡ old.holds → new.faults ≡ risen_by failures old.faults → new ≡ handed_back failures old
is_handed_back old new failures holds faults =
    ap (λ (h : Option PortsHolds). record new { holds = h }) holds ∙ ap (λ (k : ℕ). record old { faults = k }) faults

-- what binds ports holds what it held, whether a port was handed back or not
pub holds_kept : {Q : Type 0} (o : Option Q) (N : Type 0) (B : Q → Type 0) (a b : Option PortsHolds) → (N → a ≡ b) → ((q : Q) → B q → a ≡ b) → MatchOption o N B → a ≡ b
holds_kept None N B a b none some m = none m
holds_kept (Some q) N B a b none some m = some q m
