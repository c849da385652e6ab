use Rattle.std.proofs.Common.{[], ◌∷◌, ◌++◌, ap, ◌∙◌}
use Rattle.mq_machine.specs.declared.act.Act.{Act}
use Rattle.mq_machine.specs.declared.act.Due.TheVariants as due
use Rattle.mq_front.proofs.Asking.{leads_there}
use Rattle.mq_front.proofs.event.lead.Goals as goal

pub returns : goal.returns
returns c =
    leads_there c.args.id c.args.goal c.args.ends c.args.due.now c.push.new.self c.close_if.new.due c.args.streams.now.items c.push-2.new.self.items c.new.result
    (c.in_ok-push.ensures ∙ ap (λ (a : Act). c.args.due.now ++ due.Do a ∷ []) c.goal_act.ensures) c.in_ok-close_if.ensures c.in_ok-push-2.ensures.items c.new.ensures
