use Rattle.std.proofs.Common.{sym, ap, ◌∙◌}
use Rattle.std.specs.Bool.{then_some}
use Rattle.mq_actor.proofs.Beginnings.{lower_begins}
use Rattle.mq_actor.proofs.conns.first.first_lower.Goals as goal

pub returns : goal.returns
returns g c = c.then_some.ensures ∙ ap (λ b. then_some b 0) c.is_before.ensures ∙ sym (lower_begins c.args.from c.args.conns.now c.requires)
