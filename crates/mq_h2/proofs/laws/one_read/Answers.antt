use Rattle.mq_h2.proofs.OneRead.{one_outcome}
use Rattle.mq_h2.proofs.laws.one_read.Goals as goal

pub returns : goal.returns
returns c = one_outcome c.has_one_reading.ensures c.is_read_once.ensures
