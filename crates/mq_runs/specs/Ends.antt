-- The end of a payload: it was sent, delivered or dropped.
use Rattle.std.specs.Prelude.{⊤, ℕ, ◌<◌, ◌==◌, ◌&&◌, Bool, true, false, List, length, filter}
use Rattle.mq_outside.specs.Counts.{last_count}
use Rattle.mq_talk.specs.declared.note.From.{From}
use Rattle.mq_talk.specs.declared.note.From.TheVariants as source
use Rattle.mq_talk.specs.declared.note.Note.{Note}
use Rattle.mq_talk.specs.declared.note.Note.TheVariants as note

abbrev pub is_same : From → From → Bool
is_same (source.Tunnel t) (source.Tunnel u) = t == u
is_same source.Net source.Net = true
is_same (source.Port t) (source.Port u) = t == u
is_same from other = false

-- the note is an end of payload n of this origin
abbrev pub is_end : From → ℕ → Note → Bool
is_end from n (note.Sent whose number packet) = is_same whose from && number == n
is_end from n (note.Delivered whose number to packet) = is_same whose from && number == n
is_end from n (note.Dropped whose number cause) = is_same whose from && number == n
is_end from n said = false

abbrev pub ends_of : From → ℕ → List Note → ℕ
ends_of from n notes = length (filter (is_end from n) notes)

-- The number is one that is counted: the counts of what the network and a port gave stop at the last one.
abbrev pub IsCounted : From → ℕ → Type 0
IsCounted (source.Tunnel t) n = ⊤
IsCounted source.Net n = n < last_count
IsCounted (source.Port t) n = n < last_count
