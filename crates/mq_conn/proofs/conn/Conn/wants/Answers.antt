use Rattle.std.proofs.Common.{◌∙◌, sym}
use Rattle.mq_conn.proofs.Wanting.{wants_some, wants_rest, none_first}
use Rattle.mq_conn.proofs.conn.Conn.wants.Goals as goal

pub returns-then-is_some : goal.returns-then-is_some
returns-then-is_some c = λ s stands. c.if-is_some.true ∙ wants_some c.args.self.now c.in-None.is (sym c.is_some.ensures ∙ c.if-is_some.true) s stands

pub returns-else-is_some : goal.returns-else-is_some
returns-else-is_some c = wants_rest c.args.self.now c.is_empty.result c.in-None.is (none_first c.args.self.now.first (sym c.is_some.ensures ∙ c.if-is_some.false)) c.is_empty.ensures
