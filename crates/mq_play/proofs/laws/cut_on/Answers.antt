use Rattle.mq_play.proofs.Cuts.{front_lines}
use Rattle.mq_play.proofs.laws.cut_on.Goals as goal

pub returns : goal.returns
returns c = front_lines
