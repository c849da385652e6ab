use Rattle.mq_client.proofs.Cutting as cutting
use Rattle.mq_client.proofs.laws.reads_in_any_cutting.Goals as goal

pub returns : goal.returns
returns c = cutting.cut c.is_read_once.ensures
