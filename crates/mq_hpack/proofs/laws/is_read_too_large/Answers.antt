use Rattle.mq_hpack.proofs.ReadBack.{read_too_large}
use Rattle.mq_hpack.proofs.laws.is_read_too_large.Goals as goal

pub returns : goal.returns
returns c = λ t owed fields bytes h short large. read_too_large t owed fields bytes h short large
