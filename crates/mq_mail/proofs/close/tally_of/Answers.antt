use Rattle.mq_mail.proofs.InboxMoves.{learns_all}
use Rattle.mq_mail.proofs.close.tally_of.Goals as goal

pub len_as-waiting-requires-clause-rule : goal.len_as-waiting-requires-clause-rule
len_as-waiting-requires-clause-rule g c = learns_all _ _ c.requires.pops
