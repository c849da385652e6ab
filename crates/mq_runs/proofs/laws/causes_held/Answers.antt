use Rattle.mq_runs.proofs.Causes.{causes_hold}
use Rattle.mq_runs.proofs.laws.causes_held.Goals as goal

pub returns : goal.returns
returns c = causes_hold c.is_within_limits.ensures
