use Rattle.mq_addr.proofs.Within.{by_bits}
use Rattle.mq_addr.proofs.prefix.within_by_bits.Goals as goal

pub returns : goal.returns
returns c = by_bits
