use Rattle.mq_play.specs.Lines.{IsActor}
use Rattle.mq_script.proofs.Stepping.{one}
use Rattle.mq_script.proofs.Parts.{means_none}
use Rattle.mq_script.proofs.steps.parse_one.Goals as goal

pub returns-in-None : goal.returns-in-None
returns-in-None c = means_none IsActor one c.args.rest.now c.in-None.ensures
