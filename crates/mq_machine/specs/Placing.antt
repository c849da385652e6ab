-- That each packet which a connection is to push has an inbox. Its place came with the book's verdict.
use Rattle.std.specs.Prelude.{◌≡◌, ℕ, Bool, List, Some}
use Rattle.std.specs.List.{AllByRecursion}
use Rattle.mq_talk.specs.declared.note.End.{End}
use Rattle.mq_talk.specs.declared.note.From.{From}
use Rattle.mq_talk.specs.declared.note.Note.{Note}
use Rattle.mq_talk.specs.declared.place.Verdict.{Verdict}
use Rattle.mq_talk.specs.declared.place.Verdict.TheVariants as verdict
use Rattle.mq_talk.specs.Mails.{HasInbox}
use Rattle.mq_machine.specs.declared.act.Act.{Act}
use Rattle.mq_machine.specs.declared.act.Act.TheVariants as act
use Rattle.mq_machine.specs.declared.act.StreamAct.{StreamAct}
use Rattle.mq_machine.specs.declared.act.StreamAct.TheVariants as stream
use Rattle.mq_machine.specs.declared.act.Due.{Due}
use Rattle.mq_machine.specs.declared.act.Due.TheVariants as due
use Rattle.mq_machine.specs.declared.setup.Setup.{Setup}
use Rattle.mq_machine.specs.Done.{done}
use Rattle.mq_machine.specs.Reading.{TookNext}
use Rattle.mq_machine.specs.State.{Conn, Tunnel, new_conn}
use Rattle.mq_machine.specs.Steps.{finished, framed, given_up, port_failed, queued, settled_note, wrote}
use Rattle.mq_machine.specs.Want.{Answer, Said, Bound, Replied, Judged, Pushed, Put}

abbrev pub IsStreamPlaced : ℕ → StreamAct → Type 0
IsStreamPlaced workers (stream.Payload n payload) = Unit {0}
IsStreamPlaced workers (stream.Packet n packet flow) = Unit {0}
IsStreamPlaced workers (stream.Push n to packet) = HasInbox workers to
IsStreamPlaced workers (stream.Drop n cause) = Unit {0}
IsStreamPlaced workers (stream.Assign asked) = Unit {0}
IsStreamPlaced workers (stream.Advertise ranges) = Unit {0}
IsStreamPlaced workers (stream.Close why) = Unit {0}

abbrev pub IsActPlaced : ℕ → Act → Type 0
IsActPlaced workers (act.Bind id goal) = Unit {0}
IsActPlaced workers (act.Open id goal) = Unit {0}
IsActPlaced workers (act.Refuse id status rule) = Unit {0}
IsActPlaced workers (act.Reset id code) = Unit {0}
IsActPlaced workers (act.OfStream id a) = IsStreamPlaced workers a

abbrev pub IsPlaced : ℕ → Due → Type 0
IsPlaced workers (due.Do a) = IsActPlaced workers a
IsPlaced workers (due.Spend id size) = Unit {0}
IsPlaced workers (due.Fault code) = Unit {0}

-- each push that is due has its inbox, among those of so many workers and the pump
abbrev pub ArePlaced : ℕ → List Due → Type 0
ArePlaced workers dues = AllByRecursion (IsPlaced workers) dues

-- a verdict that lets a packet pass names an inbox that there is
abbrev pub IsVerdictPlaced : ℕ → Verdict → Type 0
IsVerdictPlaced workers (verdict.Pass to) = HasInbox workers to
IsVerdictPlaced workers verdict.Source = Unit {0}
IsVerdictPlaced workers verdict.NoRoute = Unit {0}

abbrev pub IsAnswerPlaced : ℕ → Answer → Type 0
IsAnswerPlaced workers Said = Unit {0}
IsAnswerPlaced workers (Bound did) = Unit {0}
IsAnswerPlaced workers (Replied reply) = Unit {0}
IsAnswerPlaced workers (Judged verdict at) = IsVerdictPlaced workers verdict
IsAnswerPlaced workers (Pushed did) = Unit {0}
IsAnswerPlaced workers (Put put limit) = Unit {0}

-- A connection is so at its beginning, and each step keeps that.
pub record StaysPlaced : Type 0 where
  pub begins : (workers number actor : ℕ) → ArePlaced workers (new_conn number actor).due
  pub answers : (workers : ℕ) (c d : Conn) (answer : Answer) (note : Note) → ArePlaced workers c.due → IsAnswerPlaced workers answer → done c answer ≡ Some (note, d) → ArePlaced workers d.due
  pub frames : (workers : ℕ) (c d : Conn) (note : Note) → ArePlaced workers c.due → framed c ≡ Some (note, d) → ArePlaced workers d.due
  pub writes : (workers : ℕ) (c : Conn) (count : ℕ) → ArePlaced workers c.due → ArePlaced workers (wrote c count).1.due
  pub reads : (workers : ℕ) (setup : Setup) (c d : Conn) (bytes : List ℕ) → ArePlaced workers c.due → TookNext setup c bytes d → ArePlaced workers d.due
  pub finishes : (workers : ℕ) (c : Conn) (inside : Bool) → ArePlaced workers c.due → ArePlaced workers (finished c inside).1.due
  pub gives_up : (workers : ℕ) (why : End) (c : Conn) → ArePlaced workers c.due → ArePlaced workers (given_up why c).due
  pub queues : (workers : ℕ) (c : Conn) (t : Tunnel) (from : From) (n : ℕ) (packet : List ℕ) → ArePlaced workers c.due → ArePlaced workers (settled_note (queued c t from n packet)).1.due
  pub port_fails : (workers : ℕ) (c : Conn) (t : Tunnel) → ArePlaced workers c.due → ArePlaced workers (port_failed c t).due
