use Rattle.std.proofs.Common.{subst}
use Rattle.mq_desk.specs.declared.ask.Ask.TheVariants as ask
use Rattle.mq_desk.specs.Keys.{DeskOf, KeyOf}
use Rattle.mq_desk.proofs.Answering.{Did, judges}
use Rattle.mq_desk.proofs.key.DeskKey.judge.Goals as goal

pub returns-clause-gives : goal.returns-clause-gives
returns-clause-gives g c = (judges c.args.desk.now.settings c.args.self.now c.with_turn.new.self c.self.inside.actor c.args.origin c.args.flow.now _ c.in-Judged.judged c.in-Judged.is
    (subst (λ (p : DeskOf × KeyOf). Did p.0.settings p.1 (ask.Judge c.self.inside.actor c.args.origin c.args.flow.now) c.with_turn.result c.with_turn.new.self)
    (λ i. (c.desk.view_is i, c.self.view_is i)) c.with_turn.ensures)).0

pub returns-clause-own : goal.returns-clause-own
returns-clause-own g c = (judges c.args.desk.now.settings c.args.self.now c.with_turn.new.self c.self.inside.actor c.args.origin c.args.flow.now _ c.in-Judged.judged c.in-Judged.is
    (subst (λ (p : DeskOf × KeyOf). Did p.0.settings p.1 (ask.Judge c.self.inside.actor c.args.origin c.args.flow.now) c.with_turn.result c.with_turn.new.self)
    (λ i. (c.desk.view_is i, c.self.view_is i)) c.with_turn.ensures)).1
