use Rattle.mq_conn.proofs.Feeding.{finishes_so}
use Rattle.mq_conn.proofs.conn.Conn.finish.Goals as goal

pub returns : goal.returns
returns c = finishes_so c.args.self.now c.end.new.self c.settle.new.self c.end.ensures c.settle.ensures
