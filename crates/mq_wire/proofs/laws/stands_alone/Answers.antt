use Rattle.mq_wire.proofs.Integers.{int_front}
use Rattle.mq_wire.proofs.laws.stands_alone.Goals as goal

pub returns : goal.returns
returns c = λ bytes more n used e. (int_front bytes (n, used) e).stays more
