use Rattle.mq_runs.proofs.Behind.{any}
use Rattle.mq_runs.proofs.Filling.{filled_at}
use Rattle.mq_runs.proofs.laws.inboxes_lose_none.Goals as goal

pub returns : goal.returns
returns c = λ plan moments last run.
    let h = filled_at c.is_within_limits.ensures c.stays_lawful.ensures (any c.is_readable.ensures c.is_read_once.ensures) plan moments last run in
    record { of_worker = h.each; of_pump = h.pump }
