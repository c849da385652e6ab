use Rattle.mq_target.proofs.Readings.{one_host}
use Rattle.mq_target.proofs.laws.one_host.Goals as goal

pub returns : goal.returns
returns c = one_host c.one_addr.ensures
