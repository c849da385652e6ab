use Rattle.mq_target.proofs.Again.{read_again}
use Rattle.mq_target.proofs.laws.expanded_again.Goals as goal

pub returns : goal.returns
returns c = read_again c.addr_bytes.ensures c.printed_again.ensures
