use Rattle.std.proofs.Common.{refl}
use Rattle.mq_conn.proofs.Wanting.{gives_so, gives_none}
use Rattle.mq_conn.proofs.conn.Conn.give.Goals as goal

pub returns-in-Some : goal.returns-in-Some
returns-in-Some c = gives_so c.args.self.now _ c.in-Some.front c.wrote.new.self c.args.count c.in-Some.is refl c.wrote.ensures

pub returns-in_default : goal.returns-in_default
returns-in_default c = gives_none c.args.self.now c.args.count c.in_default.is
