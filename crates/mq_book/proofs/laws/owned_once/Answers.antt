use Rattle.mq_book.proofs.Owners.{owned_once}
use Rattle.mq_book.proofs.laws.owned_once.Goals as goal

pub returns : goal.returns
returns c = owned_once
