use Rattle.mq_huff.proofs.Outcomes.{outcome}
use Rattle.mq_huff.proofs.laws.an_answer.Goals as goal

pub returns : goal.returns
returns c = λ bytes. outcome bytes
