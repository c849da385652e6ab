use Rattle.mq_conn.proofs.Wanting.{wrote_so}
use Rattle.mq_conn.proofs.conn.Conn.wrote.Goals as goal

pub returns : goal.returns
returns c = wrote_so c.args.self.now c.give.new.self c.settle.new.self c.args.count c.give.ensures c.settle.ensures
