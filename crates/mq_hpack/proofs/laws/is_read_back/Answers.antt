use Rattle.mq_hpack.proofs.ReadBack.{read_back}
use Rattle.mq_hpack.proofs.laws.is_read_back.Goals as goal

pub returns : goal.returns
returns c = λ t owed fields bytes h small. read_back t owed fields bytes h small
