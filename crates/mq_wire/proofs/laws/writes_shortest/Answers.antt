use Rattle.mq_wire.proofs.Integers.{int_front}
use Rattle.mq_wire.proofs.laws.writes_shortest.Goals as goal

pub returns : goal.returns
returns c = λ bytes n used e. (int_front bytes (n, used) e).shortest
