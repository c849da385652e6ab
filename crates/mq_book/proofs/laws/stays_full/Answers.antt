use Rattle.mq_book.proofs.Full.{stays_full}
use Rattle.mq_book.proofs.laws.stays_full.Goals as goal

pub returns : goal.returns
returns c = stays_full
