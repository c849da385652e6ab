use Rattle.mq_runs.proofs.Behind.{any}
use Rattle.mq_runs.proofs.Came.{sent_came}
use Rattle.mq_runs.proofs.laws.sent_as_pushed.Goals as goal

pub returns : goal.returns
returns c = λ plan before here next from n packet run x. sent_came c.is_within_limits.ensures c.stays_lawful.ensures (any c.is_readable.ensures c.is_read_once.ensures) plan before here next from n packet run x
