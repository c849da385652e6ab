use Rattle.mq_machine.proofs.Readings.{one_took}
use Rattle.mq_machine.proofs.laws.brings_once.Goals as goal

pub returns : goal.returns
returns c = λ setup old a b bytes x y.
    one_took (record { answer = c.one_answer.ensures; capsules = c.is_read_once.ensures; reading = c.one_reading.ensures; decision = c.one_decision.ensures; frames = c.one_read.ensures })
    setup old a b bytes x y
