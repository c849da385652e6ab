use Rattle.std.proofs.Common.{arith, subst}
use Rattle.mq_client.specs.Heads.{IsAnswered}
use Rattle.mq_client.proofs.Heads.{found_answered}
use Rattle.mq_client.proofs.front.answer_of.Goals as goal

pub returns-then-head-ne-SWITCHING_PROTOCOLS : goal.returns-then-head-ne-SWITCHING_PROTOCOLS
returns-then-head-ne-SWITCHING_PROTOCOLS c = λ front headers within of fits.
    let r = c.args.head.now in
    (r.len, found_answered front headers r of.0 within of.1 fits (omega (arith, c.if-head-gt-MAX_FIELDS.false)), c.if-head-ne-SWITCHING_PROTOCOLS.true)

pub returns : goal.returns
returns c = λ front headers within of fits.
    let r = c.args.head.now in
    let found = found_answered front headers r of.0 within of.1 fits (omega (arith, c.if-head-gt-MAX_FIELDS.false)) in
    (r.len, subst (λ s. IsAnswered front s r.len) c.if-head-ne-SWITCHING_PROTOCOLS.false found, c.saturating_sub.ensures)
