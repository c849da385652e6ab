-- Printed lines whose numbers, bytes and addresses are ones that notes can have, and what such a line doesn't say.
use Rattle.std.specs.Prelude.{◌≡◌, ◌≢◌, ℕ, ◌<◌, ◌^◌, ⊤, List, All}
use Rattle.std.specs.List.{AllByRecursion}
use Rattle.mq_addr.specs.declared.entry.Given.{Given}
use Rattle.mq_addr.specs.Block.{IsPrefix}
use Rattle.mq_addr.specs.Printed.{Fits}
use Rattle.mq_talk.specs.declared.note.End.{End}
use Rattle.mq_talk.specs.declared.note.End.TheVariants as end
use Rattle.mq_talk.specs.declared.note.From.{From}
use Rattle.mq_talk.specs.declared.note.From.TheVariants as from
use Rattle.mq_talk.specs.declared.note.Note.{Note}
use Rattle.mq_talk.specs.declared.note.Note.TheVariants.{Accepted, Took, Finished, Ported, Opened, Refused, Reset, Assigned, Advertised, Passed, PushedNote, Waits, Sent, Queued, Part, Delivered, Control, Dropped, Wrote, Closed, Ended}
use Rattle.mq_talk.specs.declared.place.Place.{Place}
use Rattle.mq_talk.specs.declared.place.Place.TheVariants as place
use Rattle.mq_machine.specs.Turn.{WorkerOf, ThePump}
use Rattle.mq_play.specs.Text.{Print, Says, Idle, More, Bad}

abbrev pub Small : ℕ → Type 0
Small n = n < 2 ^ 64

abbrev pub AreBytes : List ℕ → Type 0
AreBytes bytes = All (λ b. b < 256) bytes

abbrev pub SmallFrom : From → Type 0
SmallFrom (from.Tunnel tunnel) = Small tunnel
SmallFrom from.Net = ⊤
SmallFrom (from.Port tunnel) = Small tunnel

abbrev pub SmallPlace : Place → Type 0
SmallPlace (place.Tunnel tunnel actor) = Small tunnel
SmallPlace place.Net = ⊤

abbrev pub SmallEnd : End → Type 0
SmallEnd (end.Protocol code) = Small code
SmallEnd reason = ⊤

pub record SmallGiven (g : Given) : Type 0 where
  pub id : Small g.id
  pub addr : Fits g.block.addr
  pub prefix : IsPrefix g.block

-- the numbers of a note are below 2^64, and a rule is named at status 403 alone
abbrev pub SmallNote : Note → Type 0
SmallNote (Accepted conn actor) = Small conn × Small actor
SmallNote (Took conn count) = Small conn × Small count
SmallNote (Finished conn) = Small conn
SmallNote (Ported conn stream) = Small conn × Small stream
SmallNote (Opened tunnel conn stream kind) = Small tunnel × Small conn × Small stream
SmallNote (Refused conn stream status rule) = Small conn × Small stream × Small status × Small rule × (status ≢ 403 → rule ≡ 0)
SmallNote (Reset conn stream code) = Small conn × Small stream × Small code
SmallNote (Assigned tunnel at list) = Small tunnel × Small at × AllByRecursion SmallGiven list
SmallNote (Advertised tunnel at accepts) = Small tunnel × Small at
SmallNote (Passed from n at to) = SmallFrom from × Small n × Small at × SmallPlace to
SmallNote (PushedNote from n to) = SmallFrom from × Small n × SmallPlace to
SmallNote (Waits from n) = SmallFrom from × Small n
SmallNote (Sent from n packet) = SmallFrom from × Small n × AreBytes packet
SmallNote (Queued from n to) = SmallFrom from × Small n × Small to
SmallNote (Part tunnel count) = Small tunnel × Small count
SmallNote (Delivered from n to packet) = SmallFrom from × Small n × Small to × AreBytes packet
SmallNote (Control tunnel capsule) = Small tunnel × AreBytes capsule
SmallNote (Dropped from n cause) = SmallFrom from × Small n
SmallNote (Wrote conn bytes) = Small conn × AreBytes bytes
SmallNote (Closed tunnel reason left) = Small tunnel × Small left
SmallNote (Ended conn reason) = Small conn × SmallEnd reason

abbrev pub SmallPrint : Print → Type 0
SmallPrint (Says note) = SmallNote note
SmallPrint (Idle (WorkerOf number)) = Small number
SmallPrint (Idle ThePump) = ⊤
SmallPrint More = ⊤
SmallPrint (Bad number) = Small number

-- the actor of a place isn't printed: it is that of the book's entry that opened the tunnel
abbrev pub unnamed_place : Place → Place
unnamed_place (place.Tunnel tunnel actor) = place.Tunnel tunnel 0
unnamed_place place.Net = place.Net

abbrev pub unnamed_note : Note → Note
unnamed_note (Passed from n at to) = Passed from n at (unnamed_place to)
unnamed_note (PushedNote from n to) = PushedNote from n (unnamed_place to)
unnamed_note note = note

abbrev pub unnamed : Print → Print
unnamed (Says note) = Says (unnamed_note note)
unnamed p = p
