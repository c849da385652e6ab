-- What waits in a tunnel: what came to wait there, but for what was delivered, in order.
use Rattle.std.specs.Prelude.{ℕ, ◌==◌, List, [], ◌∷◌, if◌then◌else◌}
use Rattle.std.specs.List.{flat_map}
use Rattle.mq_talk.specs.declared.note.From.{From}
use Rattle.mq_talk.specs.declared.note.Note.{Note}
use Rattle.mq_talk.specs.declared.note.Note.TheVariants as note
use Rattle.mq_machine.specs.State.{What, Packet, Value, Waiting}

-- the packet that waits, by its origin and number: none where it is a control value
abbrev pub what_names : What → List (From × ℕ)
what_names (Packet from n packet) = (from, n) ∷ []
what_names Value = []

-- the packets that wait, in order
abbrev pub waiting_names : List Waiting → List (From × ℕ)
waiting_names ws = flat_map (λ (w : Waiting). what_names w.what) ws

-- the packet of which the note says that it came to wait in this tunnel
abbrev pub queued_in : ℕ → Note → List (From × ℕ)
queued_in tunnel (note.Queued from n to) = if to == tunnel then (from, n) ∷ [] else []
queued_in tunnel said = []

-- the packet of which the note says that this tunnel delivered it
abbrev pub delivered_in : ℕ → Note → List (From × ℕ)
delivered_in tunnel (note.Delivered from n to packet) = if to == tunnel then (from, n) ∷ [] else []
delivered_in tunnel said = []
