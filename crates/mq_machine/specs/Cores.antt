-- What the calls of a connection's core promise: each is an equation on the state for which it stands.
use Rattle.std.specs.Prelude.{◌≡◌, ℕ, Bool, true, false, List, Some, is_some, Result, Ok, Err}
use Rattle.mq_wire.specs.declared.NoMemory.{NoMemory}
use Rattle.mq_talk.specs.declared.note.Note.{Note}
use Rattle.mq_machine.specs.declared.setup.Setup.{Setup}
use Rattle.mq_machine.specs.State.{Conn}
use Rattle.mq_machine.specs.Want.{Want, Answer, want_of}
use Rattle.mq_machine.specs.Done.{done}
use Rattle.mq_machine.specs.Steps.{can_read, framed}
use Rattle.mq_machine.specs.Reading.{TookNext}

-- for each state for which it stood, it stands for one that is so
abbrev pub Goes : (before after : Conn → Type 0) → (Conn → Conn → Type 0) → Type 0
Goes before after R = (s : Conn) → before s → (t : Conn) × after t × R s t

-- `next` says what the state wants
abbrev pub Wants : (Conn → Type 0) → Want → Type 0
Wants stands want = (s : Conn) → stands s → want ≡ want_of s

-- an answering call: of a want that this answers, its note and where it leads
abbrev pub Answered : (before after : Conn → Type 0) → Answer → Note → Type 0
Answered before after answer note = (s : Conn) → before s → is_some (done s answer) ≡ true → (t : Conn) × after t × (done s answer ≡ Some (note, t))

-- one that may be refused memory: then it is spent, and only its own ending is left
abbrev pub MayAnswer : (before after : Conn → Type 0) → (spent : Type 0) → Answer → Result Note NoMemory → Type 0
MayAnswer before after spent answer (Ok note) = Answered before after answer note
MayAnswer before after spent answer (Err fault) = spent

-- a frame
abbrev pub Frames : (before after : Conn → Type 0) → (spent : Type 0) → Result Note NoMemory → Type 0
Frames before after spent (Ok note) = (s : Conn) → before s → is_some (framed s) ≡ true → (t : Conn) × after t × (framed s ≡ Some (note, t))
Frames before after spent (Err fault) = spent

-- a read
abbrev pub Feeds : (before after : Conn → Type 0) → (spent : Type 0) → Setup → List ℕ → Bool → Type 0
Feeds before after spent setup bytes true = (s : Conn) → before s → can_read s ≡ true → (t : Conn) × after t × TookNext setup s bytes t
Feeds before after spent setup bytes false = spent
