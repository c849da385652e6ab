use Rattle.std.proofs.Common.{sym}
use Rattle.mq_actor.proofs.ring.Ring.leave.Goals as goal

pub returns-clause-kept : goal.returns-clause-kept
returns-clause-kept g c = sym c.take.ensures.taken
