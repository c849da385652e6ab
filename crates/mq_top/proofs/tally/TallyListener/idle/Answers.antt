use Rattle.std.proofs.Common.{refl}
use Rattle.mq_play.specs.Play.{actor_of}
use Rattle.mq_play.specs.Text.{Idle}
use Rattle.mq_top.proofs.Tallying.{counted_print}
use Rattle.mq_top.proofs.tally.TallyListener.idle.Goals as goal

pub returns-clause-ok : goal.returns-clause-ok
returns-clause-ok c = counted_print _ _ (Idle (actor_of _)) refl refl
