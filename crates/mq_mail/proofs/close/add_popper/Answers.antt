use Rattle.mq_mail.proofs.InboxMoves.{pops_too}
use Rattle.mq_mail.proofs.close.add_popper.Goals as goal

pub absorb-requires-clause-rule : goal.absorb-requires-clause-rule
absorb-requires-clause-rule c = pops_too _ _ _ _ c.requires.popper.1
