use Rattle.mq_play.specs.Play.{opening, Settings}
use Rattle.mq_play.proofs.Plans.{kept_plan}
use Rattle.mq_play.proofs.Plays.{plays_lawful}
use Rattle.mq_play.proofs.Sure.{lawful_opening}
use Rattle.mq_play.proofs.laws.makes_a_plan.Goals as goal

pub returns : goal.returns
returns c = λ lines fates text told plays. kept_plan told (plays_lawful lines opening (Settings told) fates text lawful_opening plays)
