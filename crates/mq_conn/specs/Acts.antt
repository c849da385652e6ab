-- What the calls that do what is due promise, by what they do to a state. Only the crate's own functions cite these words.
use Rattle.std.specs.Prelude.{◌≡◌, Some, None, Result, Ok, Err}
use Rattle.mq_machine.specs.declared.act.Act.{Act}
use Rattle.mq_machine.specs.declared.act.Act.TheVariants as act
use Rattle.mq_machine.specs.declared.act.StreamAct.TheVariants as stream
use Rattle.mq_machine.specs.Done.{act_done}
use Rattle.mq_machine.specs.State as machine
use Rattle.mq_machine.specs.Want.{Answer}
use Rattle.mq_talk.specs.declared.note.Note.{Note}
use Rattle.mq_wire.specs.declared.NoMemory.{NoMemory}
use Rattle.mq_conn.specs.declared.acts.Saying.{Saying}
use Rattle.mq_conn.specs.declared.acts.Saying.TheVariants as saying
use Rattle.mq_conn.specs.declared.conn.Conn.{Conn}
use Rattle.mq_conn.specs.Conns.{Stands, Leaves}

-- the act of what is due and needs nothing of the outside
abbrev pub saying_act : Saying → Act
saying_act (saying.Refuse id status rule) = act.Refuse id status rule
saying_act (saying.Reset id code) = act.Reset id code
saying_act (saying.Drop id n cause) = act.OfStream id (stream.Drop n cause)

-- it does this to the state that it stood for, and says so
abbrev pub Steps : Conn → Conn → (machine.Conn → Note × machine.Conn) → Note → Type 0
Steps old new step note = (s : machine.Conn) → Stands old s → s.ending ≡ None → (note ≡ (step s).0) × Stands new (step s).1

-- or is refused memory
abbrev pub MayStep : Conn → Conn → (machine.Conn → Note × machine.Conn) → Result Note NoMemory → Type 0
MayStep old new step (Ok note) = Steps old new step note
MayStep old new step (Err fault) = Leaves old new

-- it does this act by this answer, or is refused memory
abbrev pub DoesAct : Conn → Conn → Act → Answer → Result Note NoMemory → Type 0
DoesAct old new a answer (Ok note) = (s : machine.Conn) → Stands old s → s.ending ≡ None → (x : machine.Conn) × (act_done s a answer ≡ Some (note, x)) × Stands new x
DoesAct old new a answer (Err fault) = Leaves old new
