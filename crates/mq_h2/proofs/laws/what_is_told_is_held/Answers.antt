use Rattle.mq_h2.proofs.Held.{told_is_held}
use Rattle.mq_h2.proofs.laws.what_is_told_is_held.Goals as goal

pub returns : goal.returns
returns c = told_is_held
