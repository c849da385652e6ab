use Rattle.std.proofs.Common.{subst, arith}
use Rattle.mq_capsule.specs.declared.state.State.{State}
use Rattle.mq_capsule.specs.Steps.{Holds}
use Rattle.mq_capsule.proofs.Steps.{kept_on, skipped_on}
use Rattle.mq_capsule.proofs.step.take_in_place.Goals as goal

pub returns-in_ok-extend_from_slice-in-Keep-clause-takes : goal.returns-in_ok-extend_from_slice-in-Keep-clause-takes
returns-in_ok-extend_from_slice-in-Keep-clause-takes c = λ yes control rest holds.
    let P : State → Type 0 = λ s. Holds control s rest in
    let kept = subst P c.in-Keep.is holds in
    kept_on control rest c.args.piece.now c.in-Keep.what c.in-Keep.bytes.items _ c.in-Keep.missing _ kept.0 c.in_ok-extend_from_slice-in-Keep.ensures.items
    (omega (arith, c.if-more-missing.false)) (λ now. now)

pub returns-else-more-missing-2-clause-takes : goal.returns-else-more-missing-2-clause-takes
returns-else-more-missing-2-clause-takes c = λ yes control rest holds.
    let P : State → Type 0 = λ s. Holds control s rest in
    let skipped = subst P c.in-Skip.is holds in
    skipped_on control rest c.args.piece.now c.in-Skip.what c.in-Skip.missing skipped.0 (omega (arith, c.if-more-missing-2.false))
