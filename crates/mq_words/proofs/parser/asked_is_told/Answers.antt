use Rattle.mq_words.proofs.Taking.{asked_told}
use Rattle.mq_words.proofs.parser.asked_is_told.Goals as goal

pub returns : goal.returns
returns c = asked_told c.addr_bytes.ensures
