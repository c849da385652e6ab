-- Whether a link may now give something, and a port take something, where they tell what they hold.
use Rattle.std.specs.Prelude.{◌≡◌, ◌||◌, not, Bool, true, Option, Some, None}
use Rattle.mq_outside.specs.Ports.{PortHolds}
use Rattle.mq_machine.specs.State.{Link}
use Rattle.mq_machine.specs.Turn.{can_take}

-- what a link says of a read: one that tells nothing always may give something
abbrev pub WouldRead : Option Link → Bool → Type 0
WouldRead None would = would ≡ true
WouldRead (Some link) would = would ≡ can_take link

-- it takes a payload, or fails
abbrev pub may_send : PortHolds → Bool
may_send holds = holds.send_fails || not holds.send_waits

-- what a port says of a send: one that tells nothing always may take something
abbrev pub WouldSend : Option PortHolds → Bool → Type 0
WouldSend None would = would ≡ true
WouldSend (Some holds) would = would ≡ may_send holds
