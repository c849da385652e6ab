use Rattle.mq_machine.specs.Done.{done}
use Rattle.mq_machine.proofs.Turns.{pair_same}
use Rattle.mq_machine.proofs.laws.done_once.Goals as goal

pub returns : goal.returns
returns c = λ d a b answer n m x y. pair_same (done d answer) n m a b x y
