use Rattle.mq_capsule.proofs.Capsules.{capsules_on}
use Rattle.mq_capsule.proofs.laws.goes_on.Goals as goal

pub returns : goal.returns
returns c = λ bytes more capsules later rest tail are next. capsules_on bytes more capsules rest are later tail next
