use Rattle.mq_conn.proofs.Answering.{starves}
use Rattle.mq_conn.proofs.conn.Conn.say.Goals as goal

pub returns-in-Err-clause-answers : goal.returns-in-Err-clause-answers
returns-in-Err-clause-answers c = starves c.args.self.now c.try_say.new.self c.starve.new.self c.in-Err.ensures.answers c.starve.ensures
