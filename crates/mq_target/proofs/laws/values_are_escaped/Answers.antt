use Rattle.mq_target.proofs.Escapes.{are_escaped}
use Rattle.mq_target.proofs.laws.values_are_escaped.Goals as goal

pub returns : goal.returns
returns c = are_escaped
