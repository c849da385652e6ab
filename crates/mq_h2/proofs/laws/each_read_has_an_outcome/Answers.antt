use Rattle.mq_h2.proofs.Outcome.{each_comes}
use Rattle.mq_h2.proofs.laws.each_read_has_an_outcome.Goals as goal

pub returns : goal.returns
returns c = each_comes c.is_readable-2.ensures c.is_readable.ensures c.stays_read.ensures
