use Rattle.mq_conn.proofs.Wanting.{no_want_so}
use Rattle.mq_conn.proofs.conn.Conn.want_due.Goals as goal

pub returns-in-None : goal.returns-in-None
returns-in-None c = λ none. no_want_so c.args.self.now none c.in_default.is c.in-None.ensures

pub returns-in-Some-first : goal.returns-in-Some-first
returns-in-Some-first c = λ none. c.want_of_due.ensures none c.in_default.is c.in-Some-first.ensures.0 c.in-Some-first.ensures.1
