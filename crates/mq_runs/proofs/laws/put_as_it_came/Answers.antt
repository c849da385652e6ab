use Rattle.mq_runs.proofs.Putting.{put_whole}
use Rattle.mq_runs.proofs.laws.put_as_it_came.Goals as goal

pub returns : goal.returns
returns c = put_whole c.is_within_limits.ensures
