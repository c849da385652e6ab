use Rattle.std.proofs.Common.{sym, ap, ◌∙◌, List, ℕ, ◌++◌}
use Rattle.mq_capsule.proofs.Steps.{front_nothing, kept_on, kept_ends}
use Rattle.mq_capsule.proofs.step.read_kept.Goals as goal

pub returns-then-piece-missing-clause-gives : goal.returns-then-piece-missing-clause-gives
returns-then-piece-missing-clause-gives c = λ control rest kept.
    kept_on control rest c.args.piece.now c.args.what c.args.bytes.items _ c.args.missing _ kept c.in_ok-extend_from_slice.ensures.items c.if-piece-missing.true
    (λ holds. holds)

pub returns-clause-gives : goal.returns-clause-gives
returns-clause-gives c = λ control rest kept.
    kept_ends control rest c.args.piece.now c.args.what c.args.bytes.items _ c.args.missing _ c.item.result kept
    (c.in_ok-extend_from_slice-2.ensures.items ∙ ap (λ (b : List ℕ). c.args.bytes.items ++ b) c.split_at.ensures.front) c.if-piece-missing.false c.item.ensures
    (sym c.new.ensures, front_nothing control)
