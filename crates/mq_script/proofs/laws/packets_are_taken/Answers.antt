use Rattle.mq_script.proofs.Taking.{are_taken}
use Rattle.mq_script.proofs.laws.packets_are_taken.Goals as goal

pub returns : goal.returns
returns c = are_taken
