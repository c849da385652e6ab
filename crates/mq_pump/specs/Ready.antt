-- Whether a network may now give a packet, where it tells what it holds.
use Rattle.std.specs.Prelude.{◌≡◌, ◌&&◌, Bool, true, not, nat_lt, length, Option, Some, None}
use Rattle.mq_outside.specs.Nets.{NetHolds}

-- it gives a packet
abbrev pub may_give : NetHolds → Bool
may_give holds = not holds.receive_fails && nat_lt 0 (length holds.arrived)

-- what a network says of that: one that tells nothing always may
abbrev pub WouldGive : Option NetHolds → Bool → Type 0
WouldGive None would = would ≡ true
WouldGive (Some holds) would = would ≡ may_give holds
