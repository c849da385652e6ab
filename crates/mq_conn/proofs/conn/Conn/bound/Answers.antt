use Rattle.mq_conn.proofs.Answering.{starves}
use Rattle.mq_conn.proofs.conn.Conn.bound.Goals as goal

pub returns-in-Err-clause-answers : goal.returns-in-Err-clause-answers
returns-in-Err-clause-answers c = starves c.args.self.now c.try_bound.new.self c.starve.new.self c.in-Err.ensures.answers c.starve.ensures
