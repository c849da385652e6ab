use Rattle.mq_mail.proofs.LaneMoves.{tells}
use Rattle.mq_mail.proofs.lane.LaneIn.tell.Goals as goal

pub another-requires-clause-rule : goal.another-requires-clause-rule
another-requires-clause-rule g c = tells _ _ c.self.invariant.1
