use Rattle.std.proofs.Common.{ap, ◌∙◌, subst}
use Rattle.mq_desk.specs.declared.ask.Ask.TheVariants as ask
use Rattle.mq_desk.specs.Keys.{DeskOf, KeyOf}
use Rattle.mq_desk.proofs.Answering.{calls, Did}
use Rattle.mq_desk.proofs.key.DeskKey.call.Goals as goal

pub returns-clause-gives : goal.returns-clause-gives
returns-clause-gives g c = (calls c.args.desk.now.settings c.args.self.now c.with_turn.new.self c.self.inside.actor c.args.call _ c.in-Called.result
    (c.self.invariant ∙ ap (λ k. k.number) c.self.view_is) c.in-Called.is
    (subst (λ (p : DeskOf × KeyOf). Did p.0.settings p.1 (ask.Call c.self.inside.actor c.args.call) c.with_turn.result c.with_turn.new.self) (λ i. (c.desk.view_is i, c.self.view_is i)) c.with_turn.ensures)).0

pub returns-clause-own : goal.returns-clause-own
returns-clause-own g c = (calls c.args.desk.now.settings c.args.self.now c.with_turn.new.self c.self.inside.actor c.args.call _ c.in-Called.result
    (c.self.invariant ∙ ap (λ k. k.number) c.self.view_is) c.in-Called.is
    (subst (λ (p : DeskOf × KeyOf). Did p.0.settings p.1 (ask.Call c.self.inside.actor c.args.call) c.with_turn.result c.with_turn.new.self) (λ i. (c.desk.view_is i, c.self.view_is i)) c.with_turn.ensures)).1
