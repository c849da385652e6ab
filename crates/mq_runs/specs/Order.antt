-- What is delivered and sent of one origin, in order.
use Rattle.std.specs.Prelude.{⊤, ℕ, ◌<◌, ◌==◌, ◌&&◌, List, [], ◌∷◌, if◌then◌else◌}
use Rattle.std.specs.List.{AllByRecursion}
use Rattle.mq_talk.specs.declared.note.From.{From}
use Rattle.mq_talk.specs.declared.note.Note.{Note}
use Rattle.mq_talk.specs.declared.note.Note.TheVariants as note
use Rattle.mq_runs.specs.Ends.{is_same}

-- the numbers of this origin's payloads that the tunnel delivered, in the order of the notes
abbrev pub delivered_of : From → ℕ → List Note → List ℕ
delivered_of from tunnel [] = []
delivered_of from tunnel (note.Delivered whose n to packet ∷ notes) =
    if is_same whose from && to == tunnel then n ∷ delivered_of from tunnel notes else delivered_of from tunnel notes
delivered_of from tunnel (said ∷ notes) = delivered_of from tunnel notes

-- the numbers of this origin's payloads that were sent, to a port or to the network
abbrev pub sent_of : From → List Note → List ℕ
sent_of from [] = []
sent_of from (note.Sent whose n packet ∷ notes) = if is_same whose from then n ∷ sent_of from notes else sent_of from notes
sent_of from (said ∷ notes) = sent_of from notes

-- each number is above all before it
abbrev pub IsRising : List ℕ → Type 0
IsRising [] = ⊤
IsRising (n ∷ ns) = AllByRecursion (λ m. n < m) ns × IsRising ns
