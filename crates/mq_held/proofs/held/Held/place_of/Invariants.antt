use Rattle.std.proofs.Common.{◌≡◌, ◌≢◌, ◌<◌, ℕ, Some, slice_get}
use Rattle.mq_held.specs.declared.held.PortSeat.{PortSeat}
use Rattle.mq_held.proofs.held.Held.place_of.Given as goal

abbrev pub invariant-loop-place : goal.invariant-loop-place
invariant-loop-place g l = record {
  passed : (other : ℕ) (seat : PortSeat) → other < l.place → slice_get l.self.ports.items other ≡ Some seat → seat.tunnel ≢ l.tunnel;
}
