use Rattle.mq_mail.proofs.LaneMoves.{puts, learns_put}
use Rattle.mq_mail.proofs.lane.LaneIn.put.Goals as goal

pub push_as-requires-clause-rule : goal.push_as-requires-clause-rule
push_as-requires-clause-rule g c = (puts _ _ _ _ c.self.invariant.1, learns_put _ _ c.self.invariant.1)
