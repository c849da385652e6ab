use Rattle.mq_capsule.proofs.Items.{says_on}
use Rattle.mq_capsule.proofs.laws.says_on.Goals as goal

pub returns : goal.returns
returns c = λ control bytes more capsules rest later are sound of. says_on control bytes more capsules rest later are sound of
