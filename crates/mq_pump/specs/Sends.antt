-- What comes of a parcel that the network is sent: of the one that waits, or of the next of the inbox.
use Rattle.std.specs.Prelude.{◌≡◌, ℕ, Option, Some, None}
use Rattle.std.specs.Option.{unwrap_or}
use Rattle.mq_outside.specs.declared.PortPut.{PortPut}
use Rattle.mq_outside.specs.declared.PortPut.TheVariants as put
use Rattle.mq_outside.specs.Counts.{PortCounts}
use Rattle.mq_outside.specs.Nets.{NetHolds, NetSends}
use Rattle.mq_outside.specs.Ports.{after_send}
use Rattle.mq_talk.specs.declared.note.Note.{Note}
use Rattle.mq_talk.specs.declared.note.Note.TheVariants.{Sent, Waits, Dropped}
use Rattle.mq_talk.specs.declared.place.Cause.TheVariants as cause
use Rattle.mq_talk.specs.declared.place.Parcel.{Parcel}
use Rattle.mq_talk.specs.Mails.{Boxes, PopGives, Inboxes, missed_by}
use Rattle.mq_machine.specs.Turn.{source_of}

-- what a network holds, where it tells that, and what it counts
pub record NetSeen : Type 0 where
  pub holds : Option NetHolds
  pub counts : PortCounts

abbrev pub net_seen : Option NetHolds → PortCounts → NetSeen
net_seen holds counts = record { holds = holds; counts = counts }

-- ---- one send

-- the note of a parcel whose send was answered so; one that waits has none
abbrev pub sent_note : Parcel → PortPut → Option Note
sent_note parcel put.Sent = Some (Sent (source_of parcel.from) parcel.n parcel.packet)
sent_note parcel put.NotNow = None
sent_note parcel put.Failed = Some (Dropped (source_of parcel.from) parcel.n cause.Port)

-- it waits where the network takes nothing now
abbrev pub waits_after : Parcel → PortPut → Option Parcel
waits_after parcel put.Sent = None
waits_after parcel put.NotNow = Some parcel
waits_after parcel put.Failed = None

-- one send of a parcel, the note of it, and what waits then
pub record Tries (old new : NetSeen) (parcel : Parcel) (said : Option Note) (waits : Option Parcel) : Type 0 where
  pub put : PortPut
  pub sends : NetSends old.holds new.holds parcel.packet put
  pub counts : new.counts ≡ after_send old.counts put
  pub says : said ≡ sent_note parcel put
  pub left : waits ≡ waits_after parcel put

-- ---- the inbox

-- a parcel that came through the inbox has a note in any case
pub record TriesNext (old new : NetSeen) (parcel : Parcel) (said : Option Note) (waits : Option Parcel) : Type 0 where
  pub tried : Option Note
  pub tries : Tries old new parcel tried waits
  pub says : said ≡ Some (unwrap_or tried (Waits (source_of parcel.from) parcel.n))

abbrev pub OfNext : NetSeen → NetSeen → Option Parcel → Option Note → Option Parcel → Type 0
OfNext old new None said waits = (new ≡ old) × (said ≡ None) × (waits ≡ None)
OfNext old new (Some parcel) said waits = TriesNext old new parcel said waits

-- the next parcel of the inbox, where there is one
pub record SendsNext (count : ℕ) (boxes : Inboxes) (actor : ℕ) (boxes_after : Inboxes) (old new : NetSeen) (said : Option Note) (waits : Option Parcel) : Type 0 where
  pub popped : Option Parcel
  pub pops : PopGives count boxes actor popped boxes_after
  pub does : OfNext old new popped said waits

-- ---- what is to be sent

-- the parcel that waits is sent; where none does, the next of the inbox
abbrev pub SendGives : Option Parcel → ℕ → Inboxes → ℕ → Inboxes → NetSeen → NetSeen → Option Note → Option Parcel → Type 0
SendGives None count boxes actor boxes_after old new said waits = SendsNext count boxes actor boxes_after old new said waits
SendGives (Some parcel) count boxes actor boxes_after old new said waits = Tries old new parcel said waits × (boxes_after ≡ boxes)

-- and the inbox is asked where none waits
abbrev pub missed_behind : Option Parcel → Option Note → Option Boxes → ℕ → ℕ
missed_behind None said told missed = missed_by said told missed
missed_behind (Some parcel) said told missed = missed
