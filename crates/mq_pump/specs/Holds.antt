-- For which pump of the machine a pump stands, whatever its network holds.
use Rattle.std.specs.Prelude.{◌≡◌, ⊤, ℕ, ◌≤◌, length, Option, MatchOption}
use Rattle.mq_outside.specs.Counts.{PortCounts}
use Rattle.mq_outside.specs.Nets.{NetHolds}
use Rattle.mq_talk.specs.declared.place.Parcel.{Parcel}
use Rattle.mq_talk.specs.Mails.{HasInbox, IsParcel, Inboxes}
use Rattle.mq_talk.specs.Offices.{Seen}
use Rattle.mq_machine.specs.State as machine
use Rattle.mq_machine.specs.Acting.{PumpSight}
use Rattle.mq_pump.specs.declared.pump.Pump.{Pump}

-- a parcel that may be pushed: there is an inbox for it
pub record CanGo (workers : ℕ) (parcel : Parcel) : Type 0 where
  pub is : IsParcel parcel
  pub inbox : HasInbox workers parcel.to

-- one that may be sent
abbrev pub CanSend : Parcel → Type 0
CanSend parcel = length parcel.packet ≤ 65535

pub record IsPump {N : Type 0} (p : Pump N) (s : machine.Pump) : Type 0 where
  pub mtu : s.mtu ≡ p.mtu
  pub to_push : s.to_push ≡ p.to_push
  pub to_send : s.to_send ≡ p.to_send
  pub received : s.net.received ≡ p.received
  pub room : length p.datagrams.room.items ≡ 65535
  pub can_go : MatchOption p.to_push ⊤ (CanGo p.workers)
  pub can_send : MatchOption p.to_send ⊤ CanSend

-- what a pump sees: its network, its office and its mail
abbrev pub pump_sight : Option NetHolds → PortCounts → Seen → Inboxes → PumpSight
pump_sight net counts seen boxes = record { net = net; counts = counts; seen = seen; boxes = boxes }
