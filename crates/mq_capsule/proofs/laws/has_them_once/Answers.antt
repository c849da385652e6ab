use Rattle.mq_capsule.proofs.Capsules.{capsules_one}
use Rattle.mq_capsule.proofs.laws.has_them_once.Goals as goal

pub returns : goal.returns
returns c = λ bytes capsules others rest tail a b. let one = capsules_one bytes capsules others rest tail a b in (one.capsules_are, one.rest_is)
