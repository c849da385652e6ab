use Rattle.std.proofs.Common.{◌∙◌, sym}
use Rattle.mq_conn.proofs.Framing.{turn_waits, turn_late, turn_early}
use Rattle.mq_conn.proofs.conn.Conn.next_framed.Goals as goal

pub returns-then-not-can_go_on : goal.returns-then-not-can_go_on
returns-then-not-can_go_on c = λ s stands. turn_waits c.args.self.now s (sym (c.can_go_on.ensures s stands) ∙ c.if-not-can_go_on.true)

pub returns-in-Some : goal.returns-in-Some
returns-in-Some c = λ s stands. turn_late c.args.self.now c.in-Some.place c.in-Some.ensures s stands (sym (c.can_go_on.ensures s stands) ∙ c.if-not-can_go_on.false)

pub returns-in-None : goal.returns-in-None
returns-in-None c = λ s stands. turn_early c.args.self.now c.next_of-in-None.result c.in-None.ensures c.next_of-in-None.ensures s stands (sym (c.can_go_on.ensures s stands) ∙ c.if-not-can_go_on.false)
