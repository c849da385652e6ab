use Rattle.mq_conn.proofs.conn.Conn.answer.Goals as goal

pub returns-in-Err-clause-hears : goal.returns-in-Err-clause-hears
returns-in-Err-clause-hears c = c.in-Err.ensures.hears c.starve.new.self c.starve.ensures
