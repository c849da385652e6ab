use Rattle.std.proofs.Common.{refl}
use Rattle.mq_machine.proofs.Turns.{one_worker}
use Rattle.mq_machine.proofs.laws.one_worker_turn.Goals as goal

pub returns : goal.returns
returns c = λ old box sh answer n m a b s t one x y.
    let same = one_worker sh one answer answer (λ actor want ports s t u v k l. refl) old c.brings_once.ensures box n m a b s t x y in
    (same.0, same.1, same.2)
