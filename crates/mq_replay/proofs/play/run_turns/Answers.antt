use Rattle.std.proofs.Common.{[], subst}
use Rattle.std.proofs.lemmas.Result.{err_from_is_err_and}
use Rattle.mq_play.specs.declared.line.Line.TheVariants as line
use Rattle.mq_play.specs.Play.{Running, opened}
use Rattle.mq_replay.proofs.Playing.{turns_said, unsaid_spent}
use Rattle.mq_replay.specs.Stages.{IsStage}
use Rattle.mq_replay.specs.declared.stage.Stage.{Stage}
use Rattle.mq_replay.proofs.play.run_turns.Goals as goal

pub returns-in_err-open-clause-said : goal.returns-in_err-open-clause-said
returns-in_err-open-clause-said g c = (
  [],
  g.met.L.Listener.hears_none _,
  λ s stands.
      let p = err_from_is_err_and c.from_residual.result c.from_residual.ensures.1 in
      rw p.1 (unsaid_spent g.L.Listener.may_hear c.open.new.self s (line.Run c.args.count) _ p.2),
)

pub returns-clause-said : goal.returns-clause-said
returns-clause-said g c =
    let told = c.take_turns.ensures.goes in (
      told.0,
      told.1,
      λ s stands.
          let P : Stage → Type 0 = λ x. IsStage x (Running (opened s)) in
          let world = subst P c.in-Running.is (c.in_ok-open.ensures.opens s stands) in
          turns_said g.L.Listener.may_hear c.take_turns.new.world s c.args.count told.0 c.take_turns.result (told.2 (opened s) world),
    )
