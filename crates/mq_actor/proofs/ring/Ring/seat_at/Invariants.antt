use Rattle.std.proofs.Common.{◌≡◌, ◌==◌, find, flat_map, drop}
use Rattle.mq_held.specs.declared.held.PortSeat.{PortSeat}
use Rattle.mq_held.specs.declared.held.Held.{Held as HeldBy}
use Rattle.mq_actor.specs.Lent.{seat_at}
use Rattle.mq_actor.proofs.ring.Ring.seat_at.Given as goal

abbrev pub invariant-loop-place : goal.invariant-loop-place
invariant-loop-place g l = record {
  behind : seat_at l.tunnel l.self ≡ find (λ (seat : PortSeat). seat.tunnel == l.tunnel) (flat_map (λ (h : HeldBy g.row.L.Denot). h.ports.items) (drop l.place l.self.conns.items));
}
