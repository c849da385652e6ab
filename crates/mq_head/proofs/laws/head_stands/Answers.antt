use Rattle.mq_head.proofs.HeadsLemmas.{has_front}
use Rattle.mq_head.proofs.laws.head_stands.Goals as goal

pub returns : goal.returns
returns c = has_front
