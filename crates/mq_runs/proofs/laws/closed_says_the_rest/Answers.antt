use Rattle.mq_runs.proofs.Lasts.{closing_lasts}
use Rattle.mq_runs.proofs.laws.closed_says_the_rest.Goals as goal

pub returns : goal.returns
returns c = λ plan before here next actor tunnel reason left run goes.
    closing_lasts tunnel c.is_within_limits.ensures c.stays_lawful.ensures c.is_readable.ensures c.is_read_once.ensures plan before here next actor reason left run goes
