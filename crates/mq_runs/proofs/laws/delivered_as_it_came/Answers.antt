use Rattle.mq_runs.proofs.Behind.{any}
use Rattle.mq_runs.proofs.Came.{delivered_came}
use Rattle.mq_runs.proofs.laws.delivered_as_it_came.Goals as goal

pub returns : goal.returns
returns c = λ plan before here next number from n tunnel packet run x. delivered_came c.is_within_limits.ensures c.stays_lawful.ensures (any c.is_readable.ensures c.is_read_once.ensures) plan before here next number from n tunnel packet run x
