use Rattle.mq_book.proofs.Owners.{one_owner}
use Rattle.mq_book.proofs.laws.one_owner.Goals as goal

pub returns : goal.returns
returns c = one_owner
