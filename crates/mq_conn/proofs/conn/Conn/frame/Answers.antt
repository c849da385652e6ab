use Rattle.mq_conn.proofs.Answering.{starves}
use Rattle.mq_conn.proofs.conn.Conn.frame.Goals as goal

pub returns-in-Ok-clause-frames : goal.returns-in-Ok-clause-frames
returns-in-Ok-clause-frames c = λ s stands some. c.in-Ok.ensures.framed s stands

pub returns-in-Err-clause-frames : goal.returns-in-Err-clause-frames
returns-in-Err-clause-frames c = starves c.args.self.now c.try_frame.new.self c.starve.new.self c.in-Err.ensures.keeps c.starve.ensures
