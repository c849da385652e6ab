use Rattle.mq_machine.proofs.Silents.{once}
use Rattle.mq_machine.proofs.laws.starves_once.Goals as goal

pub returns : goal.returns
returns c = λ old new sh after number reached answer h x has ending. once old new sh after number reached answer h x has ending
