use Rattle.mq_machine.proofs.Quiets.{quiet}
use Rattle.mq_machine.proofs.laws.quiet_or_turn.Goals as goal

pub returns : goal.returns
returns c = λ old actor reads some none. quiet old some reads actor none
