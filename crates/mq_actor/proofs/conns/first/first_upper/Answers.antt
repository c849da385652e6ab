use Rattle.std.proofs.Common.{sym, ◌∙◌}
use Rattle.mq_actor.proofs.Beginnings.{upper_begins}
use Rattle.mq_actor.proofs.conns.first.first_upper.Goals as goal

pub returns : goal.returns
returns g c =
    c.then_some.ensures ∙ sym (upper_begins c.args.from c.args.conns.now c.args.likely c.requires (sym c.begins_at.ensures ∙ c.if-not-begins_at.false))
