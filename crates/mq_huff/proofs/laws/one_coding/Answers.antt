use Rattle.mq_huff.proofs.laws.one_coding.Goals as goal
use Rattle.mq_huff.proofs.Unique.{one_code}

pub returns : goal.returns
returns c = one_code
