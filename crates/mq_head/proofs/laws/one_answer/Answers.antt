use Rattle.mq_head.proofs.StepsLemmas.{one_step}
use Rattle.mq_head.proofs.laws.one_answer.Goals as goal

pub returns : goal.returns
returns c = one_step
