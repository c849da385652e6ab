use Rattle.mq_client.proofs.Puts as puts
use Rattle.mq_client.proofs.laws.what_is_put_is_framed.Goals as goal

pub returns : goal.returns
returns c = puts.always_framed
