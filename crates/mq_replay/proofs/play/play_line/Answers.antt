use Rattle.std.proofs.Common.{[], Option, Ok, Err, refl, sym, subst}
use Rattle.std.proofs.lemmas.Result.{err_from_is_err_and}
use Rattle.mq_play.specs.declared.line.Line.TheVariants as line
use Rattle.mq_output.proofs.Shown.{silent_counts, silent_why}
use Rattle.mq_replay.proofs.Playing.{line_said, line_any, none_left, steps_left}
use Rattle.mq_replay.specs.Stages.{IsStage}
use Rattle.mq_replay.specs.declared.play.StepsLine.{StepsLine}
use Rattle.mq_replay.specs.declared.play.StepsLine.TheVariants as steps
use Rattle.mq_replay.specs.declared.stage.Stage.{Stage}
use Rattle.mq_replay.proofs.play.play_line.Goals as goal

pub returns-in_err-do_line-clause-line : goal.returns-in_err-do_line-clause-line
returns-in_err-do_line-clause-line g c = (
  [],
  g.met.L.Listener.hears_none _,
  λ s stands.
      let p = err_from_is_err_and c.from_residual.result c.from_residual.ensures.1 in
      rw p.1 (rw p.2 (line_any g.L.Listener.may_hear s c.args.text.now [] (Err c.in_err-do_line.field-0.0) c.do_line.new.stage (c.in_err-do_line.ensures.does s stands))),
)

pub returns-in_err-do_line-clause-counts : goal.returns-in_err-do_line-clause-counts
returns-in_err-do_line-clause-counts g c =
    let p = err_from_is_err_and c.from_residual.result c.from_residual.ensures.1 in
    rw p.1 (rw p.2 (silent_counts {A = Unit {0}} _ _ (Err c.in_err-do_line.field-0.0) refl (silent_why (Option StepsLine) (Unit {0}) c.in_err-do_line.field-0.0 c.in_err-do_line.ensures.silent)))

pub returns-in-None-clause-line : goal.returns-in-None-clause-line
returns-in-None-clause-line g c = (
  [],
  g.met.L.Listener.hears_none _,
  λ s stands. line_any g.L.Listener.may_hear s c.args.text.now [] (Ok tt) c.do_line.new.stage (none_left s c.args.text.now c.args.stage.now c.do_line.new.stage c.in_ok-do_line.field-0 c.in-None.is (c.in_ok-do_line.ensures.does s stands)),
)

pub returns-in-Some-Steps-clause-line : goal.returns-in-Some-Steps-clause-line
returns-in-Some-Steps-clause-line g c =
    let told = c.run_steps.ensures.said in (
      told.0,
      told.1,
      λ s stands.
          let P : Stage → Type 0 = λ x. IsStage x s in
          let left = steps_left s c.args.text.now c.args.stage.now c.do_line.new.stage c.in_ok-do_line.field-0 c.in-Some-Steps.field-0 (steps.Steps c.in-Some-Steps.actor c.in-Some-Steps.count) c.in-Some-Steps.is c.in-Some-Steps.field-0-is (c.in_ok-do_line.ensures.does s stands) in
          line_said g.L.Listener.may_hear c.run_steps.new.stage s c.args.text.now (line.Steps c.in-Some-Steps.actor c.in-Some-Steps.count) told.0 c.run_steps.result c.requires left.0 (told.2 s (subst P (sym left.1) stands)),
    )

pub returns-in-Some-Run-clause-line : goal.returns-in-Some-Run-clause-line
returns-in-Some-Run-clause-line g c =
    let told = c.run_turns.ensures.said in (
      told.0,
      told.1,
      λ s stands.
          let P : Stage → Type 0 = λ x. IsStage x s in
          let left = steps_left s c.args.text.now c.args.stage.now c.do_line.new.stage c.in_ok-do_line.field-0 c.in-Some-Run.field-0 (steps.Run c.in-Some-Run.count) c.in-Some-Run.is c.in-Some-Run.field-0-is (c.in_ok-do_line.ensures.does s stands) in
          line_said g.L.Listener.may_hear c.run_turns.new.stage s c.args.text.now (line.Run c.in-Some-Run.count) told.0 c.run_turns.result c.requires left.0 (told.2 s (subst P (sym left.1) stands)),
    )
