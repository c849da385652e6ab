use Rattle.mq_capsule.proofs.Items.{items_all}
use Rattle.mq_capsule.proofs.laws.is_readable.Goals as goal

pub returns : goal.returns
returns c = λ control bytes. items_all control bytes
