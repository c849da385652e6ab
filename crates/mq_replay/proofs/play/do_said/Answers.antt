use Rattle.std.proofs.Common.{[], Option, Err, refl, sym, subst}
use Rattle.std.proofs.lemmas.Result.{err_from_is_err_and}
use Rattle.mq_play.specs.declared.line.Line.{Line}
use Rattle.mq_output.proofs.Shown.{silent_why}
use Rattle.mq_replay.proofs.Playing.{blank_said}
use Rattle.mq_replay.specs.Listening.{MayBeNone}
use Rattle.mq_replay.specs.Playing.{SaidTo}
use Rattle.mq_replay.specs.declared.play.StepsLine.{StepsLine}
use Rattle.mq_replay.proofs.play.do_said.Goals as goal

pub returns-in-Blank-clause-does : goal.returns-in-Blank-clause-does
returns-in-Blank-clause-does c = λ s stands. blank_said c.args.stage.now s c.args.said c.in-Blank.is stands

pub returns-in_err-set-in-Setting-clause-does : goal.returns-in_err-set-in-Setting-clause-does
returns-in_err-set-in-Setting-clause-does c = λ s stands.
    let p = err_from_is_err_and c.from_residual.result c.from_residual.ensures.1 in
    let P : Line → Type 0 = λ said. SaidTo MayBeNone s said [] (Err c.in_err-set-in-Setting.field-0.0) c.set.new.self in
    rw p.1 (rw p.2 (subst P (sym c.in-Setting.is) (c.in_err-set-in-Setting.ensures.sets s stands)))

pub returns-in_err-set-in-Setting-clause-silent : goal.returns-in_err-set-in-Setting-clause-silent
returns-in_err-set-in-Setting-clause-silent c =
    let p = err_from_is_err_and c.from_residual.result c.from_residual.ensures.1 in
    rw p.1 (rw p.2 (silent_why (Unit {0}) (Option StepsLine) c.in_err-set-in-Setting.field-0.0 c.in_err-set-in-Setting.ensures.silent))

pub returns-in_ok-set-in-Setting-clause-does : goal.returns-in_ok-set-in-Setting-clause-does
returns-in_ok-set-in-Setting-clause-does c = λ s stands. rw c.in-Setting.is (c.in_ok-set-in-Setting.ensures.sets s stands)

pub returns-in_err-happen-in-Happens-clause-does : goal.returns-in_err-happen-in-Happens-clause-does
returns-in_err-happen-in-Happens-clause-does c = λ s stands.
    let p = err_from_is_err_and c.from_residual-in_err-happen-in-Happens.result c.from_residual-in_err-happen-in-Happens.ensures.1 in
    let P : Line → Type 0 = λ said. SaidTo MayBeNone s said [] (Err c.in_err-happen-in-Happens.field-0.0) c.happen.new.stage in
    rw p.1 (rw p.2 (subst P (sym c.in-Happens.is) (c.in_err-happen-in-Happens.ensures.happens s stands)))

pub returns-in_err-happen-in-Happens-clause-silent : goal.returns-in_err-happen-in-Happens-clause-silent
returns-in_err-happen-in-Happens-clause-silent c =
    let p = err_from_is_err_and c.from_residual-in_err-happen-in-Happens.result c.from_residual-in_err-happen-in-Happens.ensures.1 in
    rw p.1 (rw p.2 (silent_why (Unit {0}) (Option StepsLine) c.in_err-happen-in-Happens.field-0.0 c.in_err-happen-in-Happens.ensures.silent))

pub returns-in_ok-happen-in-Happens-clause-does : goal.returns-in_ok-happen-in-Happens-clause-does
returns-in_ok-happen-in-Happens-clause-does c = λ s stands. rw c.in-Happens.is (c.in_ok-happen-in-Happens.ensures.happens s stands)

pub returns-in-Steps-clause-does : goal.returns-in-Steps-clause-does
returns-in-Steps-clause-does c = λ s stands. (c.in-Steps.is, refl)

pub returns-in-Run-clause-does : goal.returns-in-Run-clause-does
returns-in-Run-clause-does c = λ s stands. (c.in-Run.is, refl)
