use Rattle.mq_capsule.proofs.Items.{bad_last}
use Rattle.mq_capsule.proofs.laws.ends_at_bad.Goals as goal

pub returns : goal.returns
returns c = λ control bytes items fault later of. bad_last control bytes items fault later of
