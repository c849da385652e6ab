use Rattle.std.proofs.Common.{true, refl}
use Rattle.mq_runs.proofs.Whole.{one_end}
use Rattle.mq_runs.proofs.laws.no_two_ends.Goals as goal

pub returns : goal.returns
returns c = λ plan moments last from n run counted.
    one_end c.stays_lawful.ensures (record { from = from; number = n; readable = c.is_readable.ensures; once = c.is_read_once.ensures; to_the_end = true }) refl counted plan moments last run
