use Rattle.mq_conn.proofs.Wanting.{owes, owes_none}
use Rattle.mq_conn.proofs.conn.Conn.owed.Goals as goal

pub returns-in-Some : goal.returns-in-Some
returns-in-Some c = owes c.args.self.now c.in-Some.front c.owed.result.now c.in-Some.is c.owed.ensures

pub returns-in-None : goal.returns-in-None
returns-in-None c = owes_none c.args.self.now c.in-None.is
