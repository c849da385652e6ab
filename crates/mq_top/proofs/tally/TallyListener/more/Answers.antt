use Rattle.std.proofs.Common.{refl}
use Rattle.mq_play.specs.Text.{More}
use Rattle.mq_top.proofs.Tallying.{counted_print}
use Rattle.mq_top.proofs.tally.TallyListener.more.Goals as goal

pub returns-clause-ok : goal.returns-clause-ok
returns-clause-ok c = counted_print _ _ More refl refl
