use Rattle.mq_conn.proofs.Framing.{Passes}
use Rattle.mq_conn.proofs.conn.Conn.next_of.Given as goal

abbrev pub invariant-loop-place : goal.invariant-loop-place
invariant-loop-place l = record { passed : Passes l.self l.late l.place }
