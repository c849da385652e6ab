use Rattle.std.proofs.Common.{◌∙◌}
use Rattle.mq_policy.proofs.Trees.{clone_is}
use Rattle.mq_policy.proofs.names.Names.copy.Goals as goal

pub returns : goal.returns
returns c = clone_is c.self.inside.addrs c.in_ok-addrs.addrs c.in_ok-addrs.ensures.cases ∙ c.self.view_is
