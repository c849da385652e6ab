use Rattle.mq_play.proofs.Prints.{printed_once}
use Rattle.mq_play.proofs.laws.printed_once.Goals as goal

pub returns : goal.returns
returns c = printed_once c.cut_once.ensures c.addr_bytes.ensures c.printed_again.ensures c.one_prefix.ensures
