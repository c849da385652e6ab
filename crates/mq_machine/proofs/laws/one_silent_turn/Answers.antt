use Rattle.mq_machine.proofs.Silents.{one_turn}
use Rattle.mq_machine.proofs.laws.one_silent_turn.Goals as goal

pub returns : goal.returns
returns c = λ old actor reached a b one x y. one_turn old one actor reached a b x y
