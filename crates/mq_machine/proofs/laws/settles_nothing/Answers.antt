use Rattle.mq_machine.proofs.Settling.{settles}
use Rattle.mq_machine.proofs.laws.settles_nothing.Goals as goal

pub returns : goal.returns
returns c = λ d plain begins. settles d plain begins
