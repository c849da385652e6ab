-- The seats of a connection's ports.
use Rattle.std.specs.Prelude.{◌≡◌, ◌≢◌, ℕ, ◌+◌, ◌<◌, List, min, slice_get, Some}
use Rattle.mq_outside.specs.Counts.{last_count}
use Rattle.mq_held.specs.declared.held.PortSeat.{PortSeat}

-- the place is that of the first seat of this tunnel
pub record IsSeatOf (seats : List PortSeat) (tunnel place : ℕ) (seat : PortSeat) : Type 0 where
  pub at : slice_get seats place ≡ Some seat
  pub tunnel_is : seat.tunnel ≡ tunnel
  pub first : (other : ℕ) (before : PortSeat) → other < place → slice_get seats other ≡ Some before → before.tunnel ≢ tunnel

abbrev pub HasNoSeat : List PortSeat → ℕ → Type 0
HasNoSeat seats tunnel = (place : ℕ) (seat : PortSeat) → slice_get seats place ≡ Some seat → seat.tunnel ≢ tunnel

-- one more, while that can be counted
abbrev pub counted : ℕ → ℕ
counted n = min (n + 1) last_count
