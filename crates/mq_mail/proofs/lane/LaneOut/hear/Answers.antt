use Rattle.mq_mail.proofs.LaneMoves.{hears}
use Rattle.mq_mail.proofs.lane.LaneOut.hear.Goals as goal

pub absorb-requires-clause-rule : goal.absorb-requires-clause-rule
absorb-requires-clause-rule g c = hears _ _ _ _
