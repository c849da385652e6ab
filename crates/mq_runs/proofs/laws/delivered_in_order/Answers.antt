use Rattle.mq_runs.proofs.Order.{all_rise}
use Rattle.mq_runs.proofs.laws.delivered_in_order.Goals as goal

pub returns : goal.returns
returns c = λ plan moments last from tunnel run counted. all_rise c.stays_lawful.ensures c.is_readable.ensures c.is_read_once.ensures from tunnel plan moments last run counted
