use Rattle.mq_frame.proofs.Writing.{read_back}
use Rattle.mq_frame.proofs.laws.is_read_back.Goals as goal

pub returns : goal.returns
returns c = λ place frame rest on writable fits. read_back place frame rest on writable fits
