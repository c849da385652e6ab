use Rattle.mq_mail.proofs.Closing.{began}
use Rattle.mq_mail.proofs.KeyMoves.{way_at}
use Rattle.mq_mail.proofs.close.begin.Goals as goal

pub add_popper-requires-clause-free : goal.add_popper-requires-clause-free
add_popper-requires-clause-free c = λ i p at. (way_at _ _ i p c.first.invariant.ways at).rest

pub returns : goal.returns
returns c = began _ _ _ _ _ _ _ _ _ c.first.invariant c.first.view_is c.requires.post c.requires.actor c.add_popper.ensures.passes c.add_popper.ensures.popped
