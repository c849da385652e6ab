use Rattle.mq_capsule.proofs.Spelling.{are_joined, are_capsules}
use Rattle.mq_capsule.proofs.laws.are_spelled.Goals as goal

pub returns : goal.returns
returns c = λ bytes capsules rest. (λ are. are_joined bytes capsules rest are, λ joined. are_capsules bytes capsules rest joined.0 joined.1)
