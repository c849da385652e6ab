use Rattle.mq_target.proofs.Readings.{one_reading}
use Rattle.mq_target.proofs.laws.one_reading.Goals as goal

pub returns : goal.returns
returns c = one_reading c.addr_bytes.ensures c.one_addr.ensures c.one_prefix.ensures
