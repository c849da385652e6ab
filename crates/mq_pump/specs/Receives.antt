-- What comes of a receive from the network, and of the packet that it gave.
use Rattle.std.specs.Prelude.{◌≡◌, ℕ, ◌+◌, ◌≤◌, min, true, false, Bool, List, length, take, nat_lt, Option, Some, None, Result, Ok, Err}
use Rattle.std.specs.Bool.{MatchBool}
use Rattle.mq_wire.specs.declared.NoMemory.{NoMemory}
use Rattle.mq_addr.specs.declared.range.Flow.{Flow}
use Rattle.mq_outside.specs.declared.PortGot.{PortGot}
use Rattle.mq_outside.specs.declared.PortGot.TheVariants as got
use Rattle.mq_outside.specs.Counts.{last_count}
use Rattle.mq_outside.specs.Nets.{NetReceives}
use Rattle.mq_outside.specs.Ports.{after_receive}
use Rattle.mq_talk.specs.declared.note.From.TheVariants as source
use Rattle.mq_talk.specs.declared.note.Note.{Note}
use Rattle.mq_talk.specs.declared.note.Note.TheVariants.{Passed, Dropped}
use Rattle.mq_talk.specs.declared.place.Cause.{Cause}
use Rattle.mq_talk.specs.declared.place.Cause.TheVariants as cause
use Rattle.mq_talk.specs.declared.place.Judged.{Judged}
use Rattle.mq_talk.specs.declared.place.Origin.TheVariants as origin
use Rattle.mq_talk.specs.declared.place.Parcel.{Parcel}
use Rattle.mq_talk.specs.declared.place.Verdict.{Verdict}
use Rattle.mq_talk.specs.declared.place.Verdict.TheVariants as verdict
use Rattle.mq_talk.specs.Offices.{Seen, JudgeGives}
use Rattle.mq_talk.specs.Packets.{flow_of}
use Rattle.mq_pump.specs.Ready.{WouldGive}
use Rattle.mq_pump.specs.Sends.{NetSeen}

-- ---- a packet that came

-- the note of what is said of packet n, judged on so many entries
abbrev pub judged_note : ℕ → ℕ → Verdict → Note
judged_note n at (verdict.Pass to) = Passed source.Net n at to
judged_note n at verdict.Source = Dropped source.Net n cause.Source
judged_note n at verdict.NoRoute = Dropped source.Net n cause.NoRoute

-- the parcel that is to be pushed then
abbrev pub judged_parcel : ℕ → List ℕ → Verdict → Option Parcel
judged_parcel n packet (verdict.Pass to) = Some (record { from = origin.Net; n = n; to = to; packet = packet })
judged_parcel n packet verdict.Source = None
judged_parcel n packet verdict.NoRoute = None

-- it is judged
pub record IsJudgedSo (old new : Seen) (n : ℕ) (packet : List ℕ) (flow : Flow) (said : Note) (pushes : Option Parcel) : Type 0 where
  pub judged : Judged
  pub gives : JudgeGives old origin.Net flow judged new
  pub says : said ≡ judged_note n judged.at judged.verdict
  pub left : pushes ≡ judged_parcel n packet judged.verdict

-- it is dropped before that
pub record IsDropped (old new : Seen) (n : ℕ) (why : Cause) (said : Note) (pushes : Option Parcel) : Type 0 where
  pub says : said ≡ Dropped source.Net n why
  pub left : pushes ≡ None
  pub same : new ≡ old

-- the first that holds: its header is bad, it is longer than the network's packets may be, it is judged
abbrev pub Comes : Seen → Seen → ℕ → ℕ → List ℕ → Option Flow → Note → Option Parcel → Type 0
Comes old new mtu n packet None said pushes = IsDropped old new n cause.BadHeader said pushes
Comes old new mtu n packet (Some flow) said pushes =
    MatchBool (nat_lt mtu (length packet)) (IsDropped old new n cause.TooLong said pushes) (IsJudgedSo old new n packet flow said pushes)

-- ---- a receive

abbrev pub is_datagram : PortGot → Bool
is_datagram (got.Datagram count) = true
is_datagram got.NotNow = false
is_datagram got.Failed = false

-- a receive gave nothing
pub record GaveNothing (old new : NetSeen) : Type 0 where
  pub buffer : List ℕ
  pub got : PortGot
  pub none : is_datagram got ≡ false
  pub receives : NetReceives old.holds new.holds buffer got
  pub counts : new.counts ≡ after_receive old.counts got

-- a receive gave this packet
pub record GavePacket (old new : NetSeen) (packet : List ℕ) : Type 0 where
  pub buffer : List ℕ
  pub count : ℕ
  pub receives : NetReceives old.holds new.holds buffer (got.Datagram count)
  pub counts : new.counts ≡ old.counts
  pub packet_is : packet ≡ take count buffer
  pub size : length packet ≤ 65535

-- one packet more was received, while that can be counted
abbrev pub one_more : ℕ → ℕ
one_more n = min (n + 1) last_count

-- and that is what came of it
pub record Takes (net net_after : NetSeen) (old new : Seen) (mtu n n_after : ℕ) (said : Note) (pushes : Option Parcel) : Type 0 where
  pub packet : List ℕ
  pub gave : GavePacket net net_after packet
  pub comes : Comes old new mtu n packet (flow_of packet) said pushes
  pub counted : n_after ≡ one_more n

-- nothing was received
pub record TakesNothing (old new : Seen) (n n_after : ℕ) (pushes : Option Parcel) : Type 0 where
  pub same : new ≡ old
  pub counted : n_after ≡ n
  pub left : pushes ≡ None

-- Memory is refused before the receive, and only where that might have given a packet.
abbrev pub ReceiveGives : NetSeen → NetSeen → Seen → Seen → ℕ → ℕ → ℕ → Option Parcel → Result (Option Note) NoMemory → Type 0
ReceiveGives net net_after old new mtu n n_after pushes (Ok (Some said)) = Takes net net_after old new mtu n n_after said pushes
ReceiveGives net net_after old new mtu n n_after pushes (Ok None) = GaveNothing net net_after × TakesNothing old new n n_after pushes
ReceiveGives net net_after old new mtu n n_after pushes (Err refused) = WouldGive net.holds true × (net_after ≡ net) × TakesNothing old new n n_after pushes
