use Rattle.mq_frame.proofs.Writing.{spelling_len}
use Rattle.mq_frame.proofs.laws.is_as_long.Goals as goal

pub returns : goal.returns
returns c = λ frame. spelling_len frame
