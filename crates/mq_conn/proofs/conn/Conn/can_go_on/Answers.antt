use Rattle.std.proofs.Common.{◌∙◌, sym}
use Rattle.mq_conn.proofs.Wanting.{wants_stop, ending_stops, goes_so}
use Rattle.mq_conn.proofs.conn.Conn.can_go_on.Goals as goal

pub returns-then-wants : goal.returns-then-wants
returns-then-wants c = λ s stands. wants_stop s (sym (c.wants.ensures s stands) ∙ c.if-wants.true)

pub returns-then-is_some : goal.returns-then-is_some
returns-then-is_some c = ending_stops c.args.self.now (sym c.is_some.ensures ∙ c.if-is_some.true)

pub returns : goal.returns
returns c = goes_so c.args.self.now c.owed.result.now (sym c.is_some.ensures ∙ c.if-is_some.false) (λ s stands. sym c.if-wants.false ∙ c.wants.ensures s stands) c.owed.ensures
