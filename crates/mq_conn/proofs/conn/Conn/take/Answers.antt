use Rattle.std.proofs.Common.{refl, sym, ◌∙◌}
use Rattle.mq_conn.proofs.Answering.{takes_due, takes_none}
use Rattle.mq_conn.proofs.conn.Conn.take.Goals as goal

pub returns-then-is_some-clause-keeps : goal.returns-then-is_some-clause-keeps
returns-then-is_some-clause-keeps c = refl

pub returns-then-is_some-clause-took : goal.returns-then-is_some-clause-took
returns-then-is_some-clause-took c = takes_none c.args.self.now.first c.args.self.now.due (sym c.is_some.ensures ∙ c.if-is_some.true)

pub returns-clause-keeps : goal.returns-clause-keeps
returns-clause-keeps c = refl

pub returns-clause-took : goal.returns-clause-took
returns-clause-took c = takes_due c.args.self.now.first c.args.self.now.due c.pop.new.self c.pop.result (sym c.is_some.ensures ∙ c.if-is_some.false) c.pop.ensures
