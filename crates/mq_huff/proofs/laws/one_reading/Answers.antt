use Rattle.mq_huff.proofs.laws.one_reading.Goals as goal
use Rattle.mq_huff.proofs.Unique.{one_text}

pub returns : goal.returns
returns c = one_text
