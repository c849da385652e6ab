use Rattle.mq_mail.proofs.LaneMoves.{takes, learns_taken}
use Rattle.mq_mail.proofs.lane.LaneOut.take.Goals as goal

pub pop_as-requires-clause-rule : goal.pop_as-requires-clause-rule
pop_as-requires-clause-rule g c = (takes _ _ c.self.invariant.2, learns_taken _ _ c.self.invariant.2)
