use Rattle.std.proofs.Common.{false}
use Rattle.mq_talk.specs.declared.note.From.TheVariants as source
use Rattle.mq_runs.proofs.Flight.{Key}
use Rattle.mq_runs.proofs.Turning.{none_passed}
use Rattle.mq_runs.proofs.laws.none_is_passed_over.Goals as goal

pub returns : goal.returns
returns c = λ plan moments last number worker conn held tunnel t data_stream items n run works has serves goes_on there says before.
    let k : Key = record { from = source.Net; number = n; readable = c.is_readable.ensures; once = c.is_read_once.ensures; to_the_end = false } in
    none_passed k c.says_nothing.ensures.1 c.is_within_limits.ensures c.stays_lawful.ensures plan moments last number worker conn held tunnel t data_stream items run works has serves goes_on there says before
