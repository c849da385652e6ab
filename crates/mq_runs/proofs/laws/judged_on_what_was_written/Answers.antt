use Rattle.mq_runs.proofs.Written.{written_true}
use Rattle.mq_runs.proofs.laws.judged_on_what_was_written.Goals as goal

pub returns : goal.returns
returns c = written_true c.is_within_limits.ensures
