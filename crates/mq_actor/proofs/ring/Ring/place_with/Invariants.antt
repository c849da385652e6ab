use Rattle.std.proofs.Common.{◌≡◌, ℕ, ◌<◌, Some, false, slice_get}
use Rattle.mq_held.specs.declared.held.Held.{Held as HeldBy}
use Rattle.mq_actor.specs.Seats.{IsLive}
use Rattle.mq_actor.proofs.ring.Ring.place_with.Given as goal

abbrev pub invariant-loop-place : goal.invariant-loop-place
invariant-loop-place g l = record {
  before : (i : ℕ) → i < l.place → (h : HeldBy g.row.L.Denot) → slice_get l.self.conns.items i ≡ Some h → IsLive h.conn l.tunnel false;
}
