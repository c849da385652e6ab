use Rattle.mq_machine.proofs.Turns.{one_turn}
use Rattle.mq_machine.proofs.laws.one_turn.Goals as goal

pub returns : goal.returns
returns c = λ old actor n m a b one x y. one_turn old c.brings_once.ensures one actor n m a b x y
