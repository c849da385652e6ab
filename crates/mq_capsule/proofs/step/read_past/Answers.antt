use Rattle.std.proofs.Common.{sym}
use Rattle.mq_capsule.proofs.Steps.{front_nothing, skipped_on, skipped_ends}
use Rattle.mq_capsule.proofs.step.read_past.Goals as goal

pub returns-then-piece-missing-clause-gives : goal.returns-then-piece-missing-clause-gives
returns-then-piece-missing-clause-gives c = λ control rest skipped.
    skipped_on control rest c.args.piece.now c.args.what c.args.missing skipped c.if-piece-missing.true

pub returns-clause-gives : goal.returns-clause-gives
returns-clause-gives c = λ control rest skipped.
    skipped_ends control rest c.args.piece.now c.args.what c.args.missing _ c.item.result skipped c.if-piece-missing.false c.item.ensures
    (sym c.new.ensures, front_nothing control)
