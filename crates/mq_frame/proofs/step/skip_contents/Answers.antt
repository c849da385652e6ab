use Rattle.std.proofs.Common.{◌++◌, drop, take, ◌∙◌, sym}
use Rattle.mq_frame.proofs.Fronts.{same_skipped}
use Rattle.mq_frame.proofs.Steps.{more_begun, front_begun, step_part, step_ends}
use Rattle.mq_frame.proofs.step.skip_contents.Goals as goal

pub returns-then-piece-missing-clause-gives : goal.returns-then-piece-missing-clause-gives
returns-then-piece-missing-clause-gives c = λ rest begun skipped.
    let more = more_begun _ _ rest c.args.piece.now begun c.if-piece-missing.true in
    step_part c.args.place rest c.args.piece.now _ (front_begun c.args.place _ _ _ more) (more, skipped)

pub returns-clause-gives : goal.returns-clause-gives
returns-clause-gives c = λ rest begun skipped.
    step_ends c.args.place rest c.args.piece.now c.args.header c.args.missing c.in_ok-frame.frame c.whole.result
    c.requires begun.begun begun.header_is begun.fits begun.count c.if-piece-missing.false
    (c.in_ok-frame.ensures ∙ sym (same_skipped c.args.place c.args.header (drop 9 rest ++ take c.args.missing c.args.piece.now) skipped))
    c.whole.ensures.frame c.whole.ensures.used c.whole.ensures.state
