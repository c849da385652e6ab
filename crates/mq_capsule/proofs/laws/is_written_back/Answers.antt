use Rattle.mq_capsule.proofs.Writing.{written_back}
use Rattle.mq_capsule.proofs.laws.is_written_back.Goals as goal

pub returns : goal.returns
returns c = λ capsule rest kind size. written_back c.read_again.ensures capsule rest kind size
