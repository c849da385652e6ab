use Rattle.mq_runs.proofs.Handing.{handed_at}
use Rattle.mq_runs.proofs.laws.pump_loses_none.Goals as goal

pub returns : goal.returns
returns c = λ plan moments last run. handed_at plan moments last run
