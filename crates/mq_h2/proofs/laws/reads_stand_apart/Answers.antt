use Rattle.mq_h2.proofs.Apart.{reads_apart}
use Rattle.mq_h2.proofs.laws.reads_stand_apart.Goals as goal

pub returns : goal.returns
returns c = reads_apart
