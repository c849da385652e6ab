use Rattle.mq_book.proofs.Inboxes.{judged_has_inbox}
use Rattle.mq_book.proofs.laws.judged_has_inbox.Goals as goal

pub returns : goal.returns
returns c = judged_has_inbox
