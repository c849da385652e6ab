use Rattle.mq_runs.proofs.SentOrder.{all_sent_rise}
use Rattle.mq_runs.proofs.laws.sent_in_order.Goals as goal

pub returns : goal.returns
returns c = λ plan moments last from run counted. all_sent_rise c.stays_lawful.ensures c.is_readable.ensures c.is_read_once.ensures from plan moments last run counted
