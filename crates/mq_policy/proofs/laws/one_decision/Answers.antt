use Rattle.mq_policy.proofs.Decided.{one}
use Rattle.mq_policy.proofs.laws.one_decision.Goals as goal

pub returns : goal.returns
returns c = one
