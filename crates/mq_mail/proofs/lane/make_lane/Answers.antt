use Rattle.std.proofs.Common.{rules}
use Rattle.mq_mail.proofs.LaneMoves.{parts}
use Rattle.mq_mail.proofs.lane.make_lane.Goals as goal

pub another-second-requires-clause-rule : goal.another-second-requires-clause-rule
another-second-requires-clause-rule g c = parts _ _ (search rules) (search rules)
