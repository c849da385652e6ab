use Rattle.mq_head.proofs.StepsLemmas.{front_waits}
use Rattle.mq_head.proofs.laws.head_waits.Goals as goal

pub returns : goal.returns
returns c = front_waits
