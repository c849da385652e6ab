use Rattle.mq_hpack.proofs.Readable.{is_readable}
use Rattle.mq_hpack.proofs.laws.is_readable.Goals as goal

pub returns : goal.returns
returns c = is_readable c.an_answer.ensures
