use Rattle.mq_capsule.proofs.Limits.{items_sized}
use Rattle.mq_capsule.proofs.laws.is_within_limits.Goals as goal

pub returns : goal.returns
returns c = λ control bytes items of. items_sized control bytes items of
