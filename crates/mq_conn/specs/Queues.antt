-- What that which waits in a tunnel stands for.
use Rattle.std.specs.Prelude.{ℕ, List, [], ◌∷◌, ◌++◌, length, sum_by, Option, Some, None}
use Rattle.mq_capsule.specs.Writing.{capsule_text, datagram}
use Rattle.mq_talk.specs.declared.note.From.{From}
use Rattle.mq_machine.specs.State as machine
use Rattle.mq_machine.specs.State.{What, Waiting}
use Rattle.mq_conn.specs.declared.queue.Queued.{Queued}
use Rattle.mq_conn.specs.declared.queue.Queued.TheVariants.{Packet, Value}

abbrev pub what_of : Queued → What
what_of (Packet from n header packet) = machine.Packet from n packet
what_of (Value capsule) = machine.Value

-- its whole capsule
abbrev pub capsule_of : Queued → List ℕ
capsule_of (Packet from n header packet) = header ++ packet
capsule_of (Value capsule) = capsule

abbrev pub count_of : Queued → ℕ
count_of (Packet from n header packet) = 1
count_of (Value capsule) = 0

-- of whose capsule so many bytes were framed
abbrev pub behind : ℕ → Queued → Waiting
behind framed q = record { what = what_of q; capsule = capsule_of q; framed = framed }

abbrev pub waiting_of : Queued → Waiting
waiting_of q = behind 0 q

-- a packet of which nothing was framed
abbrev pub a_packet : From → ℕ → List ℕ → Waiting
a_packet from n packet = record { what = machine.Packet from n packet; capsule = capsule_text (datagram packet); framed = 0 }

-- and a control value
abbrev pub a_value : List ℕ → Waiting
a_value capsule = record { what = machine.Value; capsule = capsule; framed = 0 }

-- the first was framed so far
abbrev pub with_framed : ℕ → List Waiting → List Waiting
with_framed framed [] = []
with_framed framed (w ∷ ws) = record w { framed = framed } ∷ ws

-- the bytes of the capsules that wait
abbrev pub size_of : List Waiting → ℕ
size_of ws = sum_by (λ (w : Waiting). length w.capsule) ws

-- a capsule that waits, where there is one
abbrev pub values_of : Option (List ℕ) → List Waiting
values_of None = []
values_of (Some capsule) = a_value capsule ∷ []
