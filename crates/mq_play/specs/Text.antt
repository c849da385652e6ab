-- The lines that a replay prints: words parted by one space, numbers in decimal, bytes in lower-case hex.
use Rattle.std.specs.Prelude.{ℕ, ◌==◌, List, [], ◌∷◌, ◌++◌, map, Bool, true, false, codes, decimal, if◌then◌else◌}
use Rattle.hex.specs.Hex.{encode_lower}
use Rattle.mq_addr.specs.declared.entry.Given.{Given}
use Rattle.mq_addr.specs.Printed.{prefix_text_of}
use Rattle.mq_talk.specs.declared.note.End.{End}
use Rattle.mq_talk.specs.declared.note.End.TheVariants as end
use Rattle.mq_talk.specs.declared.note.From.{From}
use Rattle.mq_talk.specs.declared.note.From.TheVariants as from
use Rattle.mq_talk.specs.declared.note.Note.{Note}
use Rattle.mq_talk.specs.declared.note.Note.TheVariants.{Accepted, Took, Finished, Ported, Opened, Refused, Reset, Assigned, Advertised, Passed, PushedNote, Waits, Sent, Queued, Part, Delivered, Control, Dropped, Wrote, Closed, Ended}
use Rattle.mq_talk.specs.declared.note.Why.{Why}
use Rattle.mq_talk.specs.declared.note.Why.TheVariants as why
use Rattle.mq_talk.specs.declared.place.Cause.{Cause}
use Rattle.mq_talk.specs.declared.place.Cause.TheVariants as cause
use Rattle.mq_talk.specs.declared.place.Place.{Place}
use Rattle.mq_talk.specs.declared.place.Place.TheVariants as place
use Rattle.mq_machine.specs.Turn.{Actor, WorkerOf, ThePump}
use Rattle.mq_play.specs.Parts.{space}
use Rattle.mq_play.specs.Settings.{kind_text}

-- words parted by one space
abbrev pub spaced : List (List ℕ) → List ℕ
spaced [] = []
spaced (w ∷ []) = w
spaced (w ∷ v ∷ words) = w ++ space ∷ spaced (v ∷ words)

-- bytes, or a dash where there are none
abbrev pub bytes_text : List ℕ → List ℕ
bytes_text [] = codes "-"
bytes_text (b ∷ bs) = encode_lower (b ∷ bs)

abbrev pub from_text : From → List ℕ
from_text (from.Tunnel tunnel) = decimal tunnel
from_text from.Net = codes "net"
from_text (from.Port tunnel) = codes "port" ++ decimal tunnel

-- the actor of a tunnel is that of the book's entry that opened it
abbrev pub place_text : Place → List ℕ
place_text (place.Tunnel tunnel actor) = decimal tunnel
place_text place.Net = codes "net"

abbrev pub why_text : Why → List ℕ
why_text why.End = codes "End"
why_text why.Malformed = codes "Malformed"
why_text why.Truncated = codes "Truncated"
why_text why.Reset = codes "Reset"
why_text why.Port = codes "Port"
why_text why.Full = codes "Full"
why_text why.Conn = codes "Conn"

abbrev pub end_words : End → List (List ℕ)
end_words end.Done = codes "Done" ∷ []
end_words end.Truncated = codes "Truncated" ∷ []
end_words end.Link = codes "Link" ∷ []
end_words (end.Protocol code) = codes "Protocol" ∷ decimal code ∷ []
end_words end.Refused = codes "Refused" ∷ []
end_words end.Tunnel = codes "Tunnel" ∷ []
end_words end.NoMemory = codes "NoMemory" ∷ []

abbrev pub cause_text : Cause → List ℕ
cause_text cause.UnknownContext = codes "UnknownContext"
cause_text cause.BadHeader = codes "BadHeader"
cause_text cause.TooLong = codes "TooLong"
cause_text cause.Source = codes "Source"
cause_text cause.NoRoute = codes "NoRoute"
cause_text cause.InboxFull = codes "InboxFull"
cause_text cause.Gone = codes "Gone"
cause_text cause.HopLimit = codes "HopLimit"
cause_text cause.QueueFull = codes "QueueFull"
cause_text cause.Port = codes "Port"

-- the rule that refused, at status 403 alone
abbrev pub rule_words : ℕ → ℕ → List (List ℕ)
rule_words status rule = if status == 403 then codes "rule" ∷ decimal rule ∷ [] else []

-- a Request ID and its block
abbrev pub given_text : Given → List ℕ
given_text g = decimal g.id ++ codes "=" ++ prefix_text_of g.block

abbrev pub yes_text : Bool → List ℕ
yes_text true = codes "yes"
yes_text false = codes "no"

abbrev pub note_words : Note → List (List ℕ)
note_words (Accepted conn actor) = codes "accepted" ∷ decimal conn ∷ decimal actor ∷ []
note_words (Took conn count) = codes "took" ∷ decimal conn ∷ decimal count ∷ []
note_words (Finished conn) = codes "finished" ∷ decimal conn ∷ []
note_words (Ported conn stream) = codes "ported" ∷ decimal conn ∷ decimal stream ∷ []
note_words (Opened tunnel conn stream kind) = codes "opened" ∷ decimal tunnel ∷ decimal conn ∷ decimal stream ∷ kind_text kind ∷ []
note_words (Refused conn stream status rule) = codes "refused" ∷ decimal conn ∷ decimal stream ∷ decimal status ∷ rule_words status rule
note_words (Reset conn stream code) = codes "reset" ∷ decimal conn ∷ decimal stream ∷ decimal code ∷ []
note_words (Assigned tunnel at list) = codes "assigned" ∷ decimal tunnel ∷ codes "at" ∷ decimal at ∷ map given_text list
note_words (Advertised tunnel at accepts) = codes "advertised" ∷ decimal tunnel ∷ codes "at" ∷ decimal at ∷ yes_text accepts ∷ []
note_words (Passed from n at to) = codes "passed" ∷ from_text from ∷ decimal n ∷ codes "at" ∷ decimal at ∷ codes "to" ∷ place_text to ∷ []
note_words (PushedNote from n to) = codes "pushed" ∷ from_text from ∷ decimal n ∷ codes "to" ∷ place_text to ∷ []
note_words (Waits from n) = codes "waits" ∷ from_text from ∷ decimal n ∷ []
note_words (Sent from n packet) = codes "sent" ∷ from_text from ∷ decimal n ∷ bytes_text packet ∷ []
note_words (Queued from n to) = codes "queued" ∷ from_text from ∷ decimal n ∷ codes "to" ∷ decimal to ∷ []
note_words (Part tunnel count) = codes "part" ∷ decimal tunnel ∷ decimal count ∷ []
note_words (Delivered from n to packet) = codes "delivered" ∷ from_text from ∷ decimal n ∷ codes "to" ∷ decimal to ∷ bytes_text packet ∷ []
note_words (Control tunnel capsule) = codes "control" ∷ decimal tunnel ∷ bytes_text capsule ∷ []
note_words (Dropped from n cause) = codes "dropped" ∷ from_text from ∷ decimal n ∷ cause_text cause ∷ []
note_words (Wrote conn bytes) = codes "wrote" ∷ decimal conn ∷ bytes_text bytes ∷ []
note_words (Closed tunnel reason left) = codes "closed" ∷ decimal tunnel ∷ why_text reason ∷ codes "left" ∷ decimal left ∷ []
note_words (Ended conn reason) = codes "ended" ∷ decimal conn ∷ end_words reason

abbrev pub actor_text : Actor → List ℕ
actor_text (WorkerOf number) = decimal number
actor_text ThePump = codes "net"

-- what a line that is printed says
pub data Print : Type 0 where
  Says : (note : Note) → Print
  -- the actor had no step left
  Idle : (actor : Actor) → Print
  -- some actor has a step left
  More : Print
  -- the line of this number, counted from 1, is bad
  Bad : (number : ℕ) → Print

abbrev pub print_words : Print → List (List ℕ)
print_words (Says note) = note_words note
print_words (Idle actor) = codes "idle" ∷ actor_text actor ∷ []
print_words More = codes "more" ∷ []
print_words (Bad number) = codes "bad" ∷ codes "line" ∷ decimal number ∷ []

abbrev pub newline : ℕ
newline = 10

-- the printed line, with its newline
unfoldable pub printed : Print → List ℕ
printed p = spaced (print_words p) ++ newline ∷ []
