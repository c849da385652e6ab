use Rattle.mq_conn.proofs.Framing.{NoneCan}
use Rattle.mq_conn.proofs.conn.Conn.can_frame_any.Given as goal

abbrev pub invariant-loop-place : goal.invariant-loop-place
invariant-loop-place l = record { none : NoneCan l.self l.place }
