-- What framing gives.
use Rattle.std.specs.Prelude.{◌≡◌, true, Option, Some, None, is_some, Result, Ok, Err}
use Rattle.mq_wire.specs.declared.NoMemory.{NoMemory}
use Rattle.mq_talk.specs.declared.note.Note.{Note}
use Rattle.mq_machine.specs.State.{Conn}
use Rattle.mq_machine.specs.Steps.{framed, starved}

-- the capsule whose turn it is was framed, or none can be
abbrev pub FrameGives : (Conn → Type 0) → Conn → Result (Option Note) NoMemory → Type 0
FrameGives stands s (Ok None) = (framed s ≡ None) × stands s
FrameGives stands s (Ok (Some said)) = (t : Conn) × (framed s ≡ Some (said, t)) × stands t
FrameGives stands s (Err refused) = (is_some (framed s) ≡ true) × stands (starved s)
