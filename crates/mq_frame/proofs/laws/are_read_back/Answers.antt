use Rattle.mq_frame.proofs.Writing.{list_back}
use Rattle.mq_frame.proofs.laws.are_read_back.Goals as goal

pub returns : goal.returns
returns c = λ frames written. list_back frames written
