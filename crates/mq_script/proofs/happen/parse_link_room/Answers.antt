use Rattle.std.proofs.Common.{ℕ, List, codes, Option, Err}
use Rattle.mq_machine.specs.declared.event.Event.TheVariants as event
use Rattle.mq_play.specs.declared.line.Line.{Line}
use Rattle.mq_play.specs.declared.line.Line.TheVariants as line
use Rattle.mq_play.specs.Parts.{IsNumberOr, Means}
use Rattle.mq_play.specs.Lines.{most_room}
use Rattle.mq_script.proofs.Parts.{means_none, name_none, name_read}
use Rattle.mq_script.specs.declared.fault.LineFault.TheVariants.{Syntax}
use Rattle.mq_script.proofs.happen.parse_link_room.Goals as goal

abbrev made : ℕ → Option ℕ → Line
made conn room = line.Happens (event.Room conn room)

abbrev Behind : ℕ → List ℕ → Line → Type 0
Behind conn = Means (IsNumberOr (codes "all") most_room) (made conn)

pub returns-in_default : goal.returns-in_default
returns-in_default c = name_none Behind c.args.rest.now c.in_default.ensures

pub returns-in-None : goal.returns-in-None
returns-in-None c =
    name_read Behind c.cut_once.ensures c.args.rest.now c.in-Some.conn c.in-Some.text.now c.in-Some.ensures (Err Syntax)
    (means_none (IsNumberOr (codes "all") most_room) (made c.in-Some.conn) c.in-Some.text.now c.in-None.ensures)
