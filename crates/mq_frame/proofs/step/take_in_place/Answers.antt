use Rattle.std.proofs.Common.{◌++◌, List, ℕ, ◌∙◌, sym, ap, subst, arith}
use Rattle.std.proofs.lemmas.List.{drop-append-le}
use Rattle.mq_frame.specs.declared.state.State.{State}
use Rattle.mq_frame.specs.Steps.{Holds}
use Rattle.mq_frame.proofs.Steps.{more_begun, front_begun, step_part}
use Rattle.mq_frame.proofs.step.take_in_place.Goals as goal

pub returns-in_ok-extend_from_slice-in-Contents-clause-takes : goal.returns-in_ok-extend_from_slice-in-Contents-clause-takes
returns-in_ok-extend_from_slice-in-Contents-clause-takes c = λ yes place rest holds.
    let P : State → Type 0 = λ s. Holds s rest in
    let kept = subst P c.in-Contents.is holds in
    let piece = c.args.piece.now in
    let more = more_begun _ _ rest piece kept.0 (omega (arith, c.if-piece-missing.false)) in
    let seam = drop-append-le 9 rest piece kept.0.begun in
    step_part place rest piece _ (front_begun place _ _ _ more)
    (more, kept.1, c.in_ok-extend_from_slice-in-Contents.ensures.items ∙ ap (λ (b : List ℕ). b ++ piece) kept.2 ∙ sym seam)

pub returns-else-piece-missing-2-clause-takes : goal.returns-else-piece-missing-2-clause-takes
returns-else-piece-missing-2-clause-takes c = λ yes place rest holds.
    let P : State → Type 0 = λ s. Holds s rest in
    let skipped = subst P c.in-Skip.is holds in
    let more = more_begun _ _ rest c.args.piece.now skipped.0 (omega (arith, c.if-piece-missing-2.false)) in
    step_part place rest c.args.piece.now _ (front_begun place _ _ _ more) (more, skipped.1)
