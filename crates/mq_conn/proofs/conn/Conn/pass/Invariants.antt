use Rattle.std.proofs.Common.{length}
use Rattle.mq_machine.specs.Lawful.{IsLoose}
use Rattle.mq_machine.specs.Settle.{passing}
use Rattle.mq_machine.specs.State as machine
use Rattle.mq_conn.specs.Conns.{Stands}
use Rattle.mq_conn.proofs.Passing.{Passing}
use Rattle.mq_conn.proofs.conn.Conn.pass.Given as goal

-- those so far were passed
abbrev pub invariant-loop-mark : goal.invariant-loop-mark
invariant-loop-mark l = (s : machine.Conn) → Stands l.initial.self s → IsLoose s → Passing l.self (passing s.due s)

abbrev pub decreases-loop-mark : goal.decreases-loop-mark
decreases-loop-mark l = length l.self.due
