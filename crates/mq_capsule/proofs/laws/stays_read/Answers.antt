use Rattle.mq_capsule.proofs.Items.{items_stay}
use Rattle.mq_capsule.proofs.laws.stays_read.Goals as goal

pub returns : goal.returns
returns c = λ control bytes more items all a b. items_stay control bytes more items all a b
