use Rattle.std.proofs.Common.{◌∙◌, sym}
use Rattle.mq_conn.proofs.Wanting.{reads_so, reads_not}
use Rattle.mq_conn.proofs.conn.Conn.can_read.Goals as goal

pub returns-then-can_go_on : goal.returns-then-can_go_on
returns-then-can_go_on c = λ s stands. reads_so c.args.self.now s stands (sym c.if-can_go_on.true ∙ c.can_go_on.ensures s stands)

pub returns-else-can_go_on : goal.returns-else-can_go_on
returns-else-can_go_on c = λ s stands. c.if-can_go_on.false ∙ reads_not s (sym c.if-can_go_on.false ∙ c.can_go_on.ensures s stands)
