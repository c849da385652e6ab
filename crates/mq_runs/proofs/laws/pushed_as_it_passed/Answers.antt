use Rattle.mq_runs.proofs.Behind.{any}
use Rattle.mq_runs.proofs.Passing.{pushed_passed}
use Rattle.mq_runs.proofs.laws.pushed_as_it_passed.Goals as goal

pub returns : goal.returns
returns c = λ plan before here tunnel n to packet run is. pushed_passed c.is_within_limits.ensures c.stays_lawful.ensures (any c.is_readable.ensures c.is_read_once.ensures) plan before here tunnel n to packet run is
