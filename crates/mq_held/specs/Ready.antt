-- Whether a link may now take something, and a port give something, where they tell what they hold.
use Rattle.std.specs.Prelude.{◌≡◌, ⊤, ◌||◌, Bool, true, nat_lt, length, Option, Some, None}
use Rattle.mq_outside.specs.Ports.{PortHolds}
use Rattle.mq_machine.specs.State.{Link}
use Rattle.mq_machine.specs.Turn.{has_room_for}

-- ---- writes

-- it takes something, or fails
abbrev pub may_take : Link → Bool
may_take link = link.write_fails || has_room_for link.room

-- what a link says of that: one that tells nothing always may
abbrev pub WouldWrite : Option Link → Bool → Type 0
WouldWrite None would = would ≡ true
WouldWrite (Some link) would = would ≡ may_take link

-- it could be written to
abbrev pub CanTake : Option Link → Type 0
CanTake None = ⊤
CanTake (Some link) = may_take link ≡ true

-- ---- receives

-- it gives a datagram, or fails
abbrev pub may_give : PortHolds → Bool
may_give holds = holds.receive_fails || nat_lt 0 (length holds.arrived)

-- what a port says of that: one that tells nothing always may
abbrev pub WouldReceive : Option PortHolds → Bool → Type 0
WouldReceive None would = would ≡ true
WouldReceive (Some holds) would = would ≡ may_give holds

-- something could be received
abbrev pub CanGive : Option PortHolds → Type 0
CanGive None = ⊤
CanGive (Some holds) = may_give holds ≡ true
