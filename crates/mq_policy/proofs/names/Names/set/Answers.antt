use Rattle.std.proofs.Common.{◌∙◌}
use Rattle.mq_policy.proofs.Trees.{set_is}
use Rattle.mq_policy.proofs.names.Names.set.Goals as goal

pub returns-clause-ok : goal.returns-clause-ok
returns-clause-ok c =
    set_is c.in_ok-name.name c.args.name.now c.args.addr c.self.inside.addrs c.insert.new.self c.args.self.now
    c.in_ok-insert.ensures.entries (c.in_ok-name.ensures.items ∙ c.as_slice.ensures.same) c.self.view_is
