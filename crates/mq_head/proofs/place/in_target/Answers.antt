use Rattle.std.proofs.Common.{◌≡◌, ◌++◌, true, inl, sym, ◌∙◌}
use Rattle.mq_head.specs.Places.{stays_in_target}
use Rattle.mq_head.proofs.BytesLemmas.{target_stays, target_waits}
use Rattle.mq_head.proofs.place.in_target.Goals as goal

pub returns-then-stays_in_target : goal.returns-then-stays_in_target
returns-then-stays_in_target c = λ bytes inside.
    let piece = c.args.piece.now in
    let plain : stays_in_target piece ≡ true = sym c.stays_in_target.ensures ∙ c.if-stays_in_target.true in
    let still = target_stays bytes piece inside plain in
    record { none = target_waits (bytes ++ piece) still; goes_on = inl still; ends = still }
