-- Of a payload of a data stream that was read: what was done with it, what is due, and what keeps it from that.
use Rattle.std.specs.Prelude.{ℕ, ◌+◌, ◌==◌, ◌&&◌, ◌||◌, if◌then◌else◌, Bool, true, false, not, nat_le, List, [], ◌∷◌}
use Rattle.std.specs.List.{list_any}
use Rattle.mq_addr.specs.declared.kind.Kind.{Kind}
use Rattle.mq_capsule.specs.declared.item.Item.{Item}
use Rattle.mq_talk.specs.declared.note.From.TheVariants as source
use Rattle.mq_talk.specs.declared.note.Note.{Note}
use Rattle.mq_talk.specs.declared.note.Note.TheVariants as note
use Rattle.mq_talk.specs.declared.place.Cause.{Cause}
use Rattle.mq_talk.specs.declared.place.Cause.TheVariants as cause
use Rattle.mq_machine.specs.declared.act.Act.TheVariants as act
use Rattle.mq_machine.specs.declared.act.StreamAct.{StreamAct}
use Rattle.mq_machine.specs.declared.act.StreamAct.TheVariants as stream
use Rattle.mq_machine.specs.declared.act.Due.{Due}
use Rattle.mq_machine.specs.declared.act.Due.TheVariants as due
use Rattle.mq_machine.specs.Reading.{item_acts, is_payload, is_close}
use Rattle.mq_machine.specs.Turn.{WorkerOf, ThePump}
use Rattle.mq_runs.specs.Runs.{Moment, Happened, Noted, Refused}

-- such a drop is of a packet that came to the tunnel, through an inbox or from its port
abbrev pub is_of_arrival : Cause → Bool
is_of_arrival cause.Gone = true
is_of_arrival cause.HopLimit = true
is_of_arrival cause.QueueFull = true
is_of_arrival other = false

-- The note of a worker says of payload n of the tunnel that it was sent to the tunnel's port, or pushed, or dropped before that.
abbrev pub acts_on : ℕ → ℕ → Note → Bool
acts_on tunnel n (note.Sent (source.Tunnel t) m payload) = t == tunnel && m == n
acts_on tunnel n (note.PushedNote (source.Tunnel t) m to) = t == tunnel && m == n
acts_on tunnel n (note.Dropped (source.Tunnel t) m cause) = not (is_of_arrival cause) && (t == tunnel && m == n)
acts_on tunnel n said = false

-- a worker said so at this moment
abbrev pub acted_by : ℕ → ℕ → Moment → Bool
acted_by tunnel n (Noted (WorkerOf number) said) = acts_on tunnel n said
acted_by tunnel n (Noted ThePump said) = false
acted_by tunnel n (Happened event) = false
acted_by tunnel n (Refused actor reached) = false

-- the act is one with payload n
abbrev pub is_with : ℕ → StreamAct → Bool
is_with n (stream.Payload m payload) = m == n
is_with n (stream.Packet m packet flow) = m == n
is_with n (stream.Push m to packet) = m == n
is_with n (stream.Drop m cause) = m == n
is_with n (stream.Assign asked) = false
is_with n (stream.Advertise ranges) = false
is_with n (stream.Close why) = false

-- what is due is an act of this stream with payload n
abbrev pub is_due : ℕ → ℕ → Due → Bool
is_due on n (due.Do (act.OfStream id a)) = id == on && is_with n a
is_due on n other = false

-- what is due is the close of the tunnel on this stream
abbrev pub closes : ℕ → Due → Bool
closes on (due.Do (act.OfStream id a)) = id == on && is_close a
closes on other = false

-- an item asks for the close of a tunnel of this kind, whatever the largest packet and its number are
abbrev pub asks_close : Kind → Item → Bool
asks_close kind i = list_any is_close (item_acts kind 0 0 i)

-- One of these items asks for the close, of those up to payload n of the data stream. Of their payloads the first has number m.
abbrev pub is_behind_close : Kind → ℕ → ℕ → List Item → Bool
is_behind_close kind n m [] = false
is_behind_close kind n m (i ∷ items) = nat_le m n && (asks_close kind i || is_behind_close kind n (m + (if is_payload i then 1 else 0)) items)
