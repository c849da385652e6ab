use Rattle.mq_hpack.proofs.Lengths.{is_no_longer}
use Rattle.mq_hpack.proofs.laws.is_no_longer.Goals as goal

pub returns : goal.returns
returns c = is_no_longer
