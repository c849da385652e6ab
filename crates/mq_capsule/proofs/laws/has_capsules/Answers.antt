use Rattle.mq_capsule.proofs.Capsules.{reading}
use Rattle.mq_capsule.proofs.laws.has_capsules.Goals as goal

pub returns : goal.returns
returns c = λ bytes. let read = reading bytes in (read.capsules, read.rest, read.are)
