use Rattle.mq_machine.proofs.Told.{told}
use Rattle.mq_machine.proofs.laws.told_step.Goals as goal

pub returns : goal.returns
returns c = λ orders old new boxes s t result tells has whole mail x. told orders old new boxes s t result tells has whole mail x
