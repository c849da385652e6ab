use Rattle.mq_replay.proofs.Playing.{told_none}
use Rattle.mq_replay.proofs.told.Told.new.Goals as goal

pub invariant_of-result : goal.invariant_of-result
invariant_of-result c = told_none _ c.new.ensures
