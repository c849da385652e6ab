-- A port that was asked for a datagram in vain.
use Rattle.std.specs.Prelude.{◌≡◌, ◌≢◌, ℕ, Option, Some}
use Rattle.slab.specs.Slab.{Slab, get}
use Rattle.mq_outside.specs.Counts.{PortCounts}
use Rattle.mq_outside.specs.Ports.{PortHolds, PortPast}
use Rattle.mq_held.specs.declared.held.PortSeat.{PortSeat}
use Rattle.mq_held.specs.Ports.{receive_calls, ReceiveWaits}

-- the port of the seat has nothing now, and all that stands under other keys stays
pub record AskedInVain {Q : Type 0} (holds : Q → Option PortHolds) (past : Q → PortPast) (counts : Q → PortCounts) (table after : Slab Q) (seat : PortSeat) : Type 0 where
  pub was : Q
  pub at : get table seat.key ≡ Some was
  pub now : Q
  pub at_now : get after seat.key ≡ Some now
  pub waits : ReceiveWaits (receive_calls holds past counts was now)
  pub others : (other : ℕ) → other ≢ seat.key → get after other ≡ get table other
