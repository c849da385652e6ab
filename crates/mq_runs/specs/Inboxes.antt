-- What is in an inbox, or in a hand of the pump: what came there, but for what left it, in order.
use Rattle.std.specs.Prelude.{ℕ, ◌==◌, List, [], ◌∷◌, if◌then◌else◌, Option, Some, None}
use Rattle.mq_talk.specs.declared.note.From.{From}
use Rattle.mq_talk.specs.declared.note.From.TheVariants as source
use Rattle.mq_talk.specs.declared.note.Note.{Note}
use Rattle.mq_talk.specs.declared.note.Note.TheVariants as note
use Rattle.mq_talk.specs.declared.place.Cause.TheVariants as cause
use Rattle.mq_talk.specs.declared.place.Parcel.{Parcel}
use Rattle.mq_talk.specs.Mails.{inbox_in}
use Rattle.mq_machine.specs.Turn.{WorkerOf, ThePump, source_of}
use Rattle.mq_runs.specs.Runs.{Moment, Happened, Noted, Refused}

-- the packet of a parcel, by its origin and number
abbrev pub parcel_name : Parcel → From × ℕ
parcel_name parcel = (source_of parcel.from, parcel.n)

-- the parcel in a hand of the pump, if there is one
abbrev pub held_names : Option Parcel → List (From × ℕ)
held_names None = []
held_names (Some parcel) = parcel_name parcel ∷ []

-- the packet of which the note says that it was pushed to inbox i, where so many workers have theirs before the pump's
abbrev pub pushed_in : ℕ → ℕ → Note → List (From × ℕ)
pushed_in workers i (note.PushedNote from n to) = if inbox_in workers to == i then (from, n) ∷ [] else []
pushed_in workers i said = []

-- a packet comes through an inbox, and a datagram of a port doesn't
abbrev pub through : From → ℕ → List (From × ℕ)
through (source.Tunnel t) n = (source.Tunnel t, n) ∷ []
through source.Net n = (source.Net, n) ∷ []
through (source.Port t) n = []

-- the packet of which a worker's note says that it left that worker's inbox: it came to wait in a tunnel, or was dropped as it was
-- taken
abbrev pub left_in : Note → List (From × ℕ)
left_in (note.Queued from n to) = through from n
left_in (note.Dropped from n cause.Gone) = through from n
left_in (note.Dropped from n cause.HopLimit) = through from n
left_in (note.Dropped from n cause.QueueFull) = through from n
left_in said = []

-- the packet of which the pump's note says that it was sent, or dropped as the network failed
abbrev pub sent_or_failed_in : Note → List (From × ℕ)
sent_or_failed_in (note.Sent from n packet) = (from, n) ∷ []
sent_or_failed_in (note.Dropped from n cause.Port) = (from, n) ∷ []
sent_or_failed_in said = []

-- what was pushed to inbox i in this moment
abbrev pub pushed_by : ℕ → ℕ → Moment → List (From × ℕ)
pushed_by workers i (Happened event) = []
pushed_by workers i (Noted actor said) = pushed_in workers i said
pushed_by workers i (Refused actor reached) = []

-- what left the inbox of worker i in this moment
abbrev pub left_by : ℕ → Moment → List (From × ℕ)
left_by i (Noted (WorkerOf number) said) = if number == i then left_in said else []
left_by i (Noted ThePump said) = []
left_by i (Happened event) = []
left_by i (Refused actor reached) = []

-- what the pump sent in this moment, or dropped as the network failed
abbrev pub sent_or_failed_by : Moment → List (From × ℕ)
sent_or_failed_by (Noted (WorkerOf number) said) = []
sent_or_failed_by (Noted ThePump said) = sent_or_failed_in said
sent_or_failed_by (Happened event) = []
sent_or_failed_by (Refused actor reached) = []

-- the packet of which the pump's note says that it passed, and that what passed was pushed, or dropped as its inbox was full
abbrev pub passed_in : Note → List (From × ℕ)
passed_in (note.Passed from n at to) = (from, n) ∷ []
passed_in said = []

abbrev pub pushed_or_full_in : Note → List (From × ℕ)
pushed_or_full_in (note.PushedNote from n to) = (from, n) ∷ []
pushed_or_full_in (note.Dropped from n cause.InboxFull) = (from, n) ∷ []
pushed_or_full_in said = []

-- what the pump let pass in this moment, and what it pushed or dropped so
abbrev pub passed_by : Moment → List (From × ℕ)
passed_by (Noted (WorkerOf number) said) = []
passed_by (Noted ThePump said) = passed_in said
passed_by (Happened event) = []
passed_by (Refused actor reached) = []

abbrev pub pushed_or_full_by : Moment → List (From × ℕ)
pushed_or_full_by (Noted (WorkerOf number) said) = []
pushed_or_full_by (Noted ThePump said) = pushed_or_full_in said
pushed_or_full_by (Happened event) = []
pushed_or_full_by (Refused actor reached) = []
