use Rattle.std.proofs.Common.{subst}
use Rattle.mq_play.specs.Play.{Running, opened}
use Rattle.mq_replay.proofs.Playing.{happened}
use Rattle.mq_replay.proofs.Spoken.{spoken_served, spoken_outside}
use Rattle.mq_replay.specs.Listening.{MayBeNone}
use Rattle.mq_replay.specs.Stages.{IsStage}
use Rattle.mq_replay.specs.declared.stage.Stage.{Stage}
use Rattle.mq_replay.proofs.play.happen.Goals as goal

pub step-requires : goal.step-requires
step-requires c = spoken_served c.args.event c.requires

pub returns-clause-happens : goal.returns-clause-happens
returns-clause-happens c = λ s stands.
    let P : Stage → Type 0 = λ x. IsStage x (Running (opened s)) in
    let world = subst P c.in-Running.is (c.in_ok-open.ensures.opens s stands) in
    happened MayBeNone c.step.new.self s c.args.event c.step.result c.answer_of.result (spoken_outside c.args.event c.requires) (c.step.ensures (opened s) world) c.answer_of.ensures.answers
