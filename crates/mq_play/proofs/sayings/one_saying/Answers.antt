use Rattle.mq_play.proofs.reading.Once.{says_once}
use Rattle.mq_play.proofs.sayings.one_saying.Goals as goal

pub returns : goal.returns
returns c = says_once c.cut_once.ensures c.addr_bytes.ensures c.one_addr.ensures c.one_prefix.ensures
