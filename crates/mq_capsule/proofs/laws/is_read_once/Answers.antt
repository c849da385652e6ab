use Rattle.mq_capsule.proofs.Items.{items_one}
use Rattle.mq_capsule.proofs.laws.is_read_once.Goals as goal

pub returns : goal.returns
returns c = λ control bytes items others a b. items_one control bytes items others a b
