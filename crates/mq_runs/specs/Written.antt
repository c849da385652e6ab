-- What notes say that the book answered, and what the book says.
use Rattle.std.specs.Prelude.{◌≡◌, ⊤, ℕ, ◌≤◌, List, ◌∷◌, length, take, slice_get, Some}
use Rattle.mq_addr.specs.declared.entry.Asked.{Asked}
use Rattle.mq_addr.specs.declared.range.Flow.{Flow}
use Rattle.mq_addr.specs.declared.range.Range.{Range}
use Rattle.mq_outside.specs.Nets.{Arrival}
use Rattle.mq_talk.specs.declared.book.Call.{Call}
use Rattle.mq_talk.specs.declared.book.Call.TheVariants as call
use Rattle.mq_talk.specs.declared.book.Config.{Config}
use Rattle.mq_talk.specs.declared.book.Entry.{Entry}
use Rattle.mq_talk.specs.declared.book.Reply.{Reply}
use Rattle.mq_talk.specs.declared.book.Reply.TheVariants as reply
use Rattle.mq_talk.specs.declared.note.From.{From}
use Rattle.mq_talk.specs.declared.note.From.TheVariants as source
use Rattle.mq_talk.specs.declared.note.Note.{Note}
use Rattle.mq_talk.specs.declared.note.Note.TheVariants as note
use Rattle.mq_talk.specs.declared.place.Origin.{Origin}
use Rattle.mq_talk.specs.declared.place.Origin.TheVariants as origin
use Rattle.mq_talk.specs.declared.place.Place.{Place}
use Rattle.mq_talk.specs.declared.place.Verdict.TheVariants as verdict
use Rattle.mq_talk.specs.Judging.{IsJudged}
use Rattle.mq_talk.specs.Packets.{flow_of}
use Rattle.mq_machine.specs.declared.act.StreamAct.TheVariants as stream
use Rattle.mq_talk.specs.declared.goal.Goal.{Goal}
use Rattle.mq_machine.specs.State.{State, kind_of}
use Rattle.mq_runs.specs.Payloads.{IsNext}

-- By the first so many entries of the book this packet may go there.
pub record MayGo (config : Config) (book : List Entry) (at : ℕ) (from : Origin) (packet : List ℕ) (to : Place) : Type 0 where
  pub flow : Flow
  pub flow_is : flow_of packet ≡ Some flow
  pub at_most : at ≤ length book
  pub judged : IsJudged config (take at book) from flow (verdict.Pass to)

-- the network's next packet is this one, and has this number
pub record ArrivesNext (s : State) (n : ℕ) (packet : List ℕ) : Type 0 where
  pub first : Arrival
  pub others : List Arrival
  pub arrived : s.pump.net.holds.arrived ≡ first ∷ others
  pub packet_is : packet ≡ first.packet
  pub number : n ≡ s.pump.net.received

-- Packet number n is the one that is judged here: the tunnel's, or the network's. None is judged that came to a port.
abbrev pub IsJudgedHere : State → State → From → ℕ → ℕ → Place → Type 0
IsJudgedHere here last (source.Tunnel t) n at to =
    (packet : List ℕ) × (flow : Flow) × IsNext here t (stream.Packet n packet flow) × MayGo last.shared.config last.shared.book at (origin.Tunnel t) packet to
IsJudgedHere here last source.Net n at to =
    (packet : List ℕ) × ArrivesNext here n packet × MayGo last.shared.config last.shared.book at origin.Net packet to
IsJudgedHere here last (source.Port t) n at to = ⊥

-- the book has this call with this reply at this place, behind the entries that it had here
pub record IsWritten (here last : State) (at : ℕ) (call : Call) (reply : Reply) : Type 0 where
  pub entry : Entry
  pub at_is : at ≡ length here.shared.book
  pub has : slice_get last.shared.book at ≡ Some entry
  pub call_is : entry.call ≡ call
  pub reply_is : entry.reply ≡ reply

-- What a note says that the book said is what the book said when the note came, and its history says so ever after.
abbrev pub IsTrueOf : State → State → Note → Type 0
IsTrueOf here last (note.Passed from n at to) = (at ≡ length here.shared.book) × IsJudgedHere here last from n at to
IsTrueOf here last (note.Assigned tunnel at list) = (asked : List Asked) × IsWritten here last at (call.Assign tunnel asked) (reply.Assigned list at)
IsTrueOf here last (note.Advertised tunnel at accepts) = (ranges : List Range) × IsWritten here last at (call.Advertise tunnel ranges) (reply.Accepted accepts at)
IsTrueOf here last (note.Opened tunnel conn on kind) =
    (actor : ℕ) × (goal : Goal) × (routes : List Range) × (kind ≡ kind_of goal) × IsWritten here last tunnel (call.Open conn on actor goal) (reply.Opened tunnel routes)
IsTrueOf here last (note.Closed tunnel reason left) = IsWritten here last (length here.shared.book) (call.Close tunnel) reply.Closed
IsTrueOf here last said = ⊤
