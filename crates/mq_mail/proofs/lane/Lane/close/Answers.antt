use Rattle.mq_mail.proofs.LaneMoves.{joins}
use Rattle.mq_mail.proofs.lane.Lane.close.Goals as goal

pub absorb-requires-clause-rule : goal.absorb-requires-clause-rule
absorb-requires-clause-rule g c = joins _ _ _ _ c.into.invariant.1 c.out.invariant.2
