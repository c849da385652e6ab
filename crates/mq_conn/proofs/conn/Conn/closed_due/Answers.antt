use Rattle.std.proofs.Common.{sym, ◌∙◌}
use Rattle.mq_conn.proofs.Hearing.{closes_due_one, closes_none}
use Rattle.mq_conn.proofs.conn.Conn.closed_due.Goals as goal

pub returns : goal.returns
returns c = λ over. closes_due_one c.args.self.now c.take_front.new.self c.close_so.new.self c.in-Some.closing c.close_so.result (sym c.closing.ensures ∙ c.in-Some.is) over c.take_front.ensures c.close_so.ensures

pub returns-in_default : goal.returns-in_default
returns-in_default c = λ over. closes_none c.args.self.now _ _ (sym c.closing.ensures ∙ c.in_default.is) over
