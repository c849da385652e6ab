use Rattle.mq_conn.proofs.Answering.{starves}
use Rattle.mq_conn.proofs.Serving.{pumped}
use Rattle.mq_conn.proofs.conn.Conn.feed.Goals as goal

pub returns-in-Ok-clause-takes : goal.returns-in-Ok-clause-takes
returns-in-Ok-clause-takes c = λ some s stands can.
    (let r = c.in-Ok.ensures.takes s stands can in
    (r.0, pumped c.try_feed.new.self c.args.setup.now.pump r.0 r.1, r.2))

pub returns-in-Err-clause-takes : goal.returns-in-Err-clause-takes
returns-in-Err-clause-takes c = λ some. starves c.args.self.now c.try_feed.new.self c.starve.new.self c.in-Err.ensures.keeps c.starve.ensures
