use Rattle.mq_capsule.proofs.Writing.{payload_back}
use Rattle.mq_capsule.proofs.laws.says_payload.Goals as goal

pub returns : goal.returns
returns c = λ control payload fits. payload_back control payload fits
