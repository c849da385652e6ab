use Rattle.mq_addr.proofs.prefix_form.one_prefix.Goals as goal
use Rattle.mq_addr.proofs.Forms.{one_form}

pub returns : goal.returns
returns c = one_form c.one_addr.ensures c.cut_once.ensures c.reads_one.ensures
