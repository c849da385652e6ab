use Rattle.mq_play.proofs.Fates.{all_noted}
use Rattle.mq_play.proofs.laws.are_alike.Goals as goal

pub returns : goal.returns
returns c = λ f g x y. all_noted f g x y
