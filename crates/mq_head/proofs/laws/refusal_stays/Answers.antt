use Rattle.mq_head.proofs.StepsLemmas.{refused_append}
use Rattle.mq_head.proofs.laws.refusal_stays.Goals as goal

pub returns : goal.returns
returns c = refused_append
