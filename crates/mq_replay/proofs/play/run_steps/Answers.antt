use Rattle.std.proofs.Common.{[], refl, subst}
use Rattle.std.proofs.lemmas.Result.{err_from_is_err_and}
use Rattle.mq_play.specs.declared.line.Line.TheVariants as line
use Rattle.mq_play.specs.Play.{Running, opened}
use Rattle.mq_replay.proofs.Playing.{steps_said, unsaid_spent}
use Rattle.mq_replay.specs.Stages.{IsStage}
use Rattle.mq_replay.specs.declared.stage.Stage.{Stage}
use Rattle.mq_replay.proofs.play.run_steps.Goals as goal

pub returns-in_err-open-clause-said : goal.returns-in_err-open-clause-said
returns-in_err-open-clause-said g c = (
  [],
  g.met.L.Listener.hears_none _,
  λ s stands.
      let p = err_from_is_err_and c.from_residual.result c.from_residual.ensures.1 in
      rw p.1 (unsaid_spent g.L.Listener.may_hear c.open.new.self s (line.Steps c.args.actor c.args.count) _ p.2),
)

pub returns-in-Some-clause-said : goal.returns-in-Some-clause-said
returns-in-Some-clause-said g c =
    let told = c.take_steps.ensures.runs in (
      told.0,
      told.1,
      λ s stands.
          let P : Stage → Type 0 = λ x. IsStage x (Running (opened s)) in
          let world = subst P c.in-Running.is (c.in_ok-open.ensures.opens s stands) in
          let at = c.in-Some.ensures (opened s) world in
          steps_said g.L.Listener.may_hear c.take_steps.new.world s c.args.actor c.args.count told.0 c.take_steps.result at.0 (told.2 (opened s) world at.1),
    )

pub returns-in-None-clause-said : goal.returns-in-None-clause-said
returns-in-None-clause-said g c = (
  [],
  g.met.L.Listener.hears_none _,
  λ s stands.
      let P : Stage → Type 0 = λ x. IsStage x (Running (opened s)) in
      let world = subst P c.in-Running.is (c.in_ok-open.ensures.opens s stands) in
      (c.in-None.ensures (opened s) world, refl),
)
