use Rattle.std.proofs.Common.{◌≡◌, ℕ, suc, ◌+◌, ◌-◌, drop, slice_index, Ok, sym, ap, ◌∙◌, arith}
use Rattle.mq_addr.specs.Packet.{extension_len, past, past_first, walk}
use Rattle.mq_iphdr.proofs.Walking as step
use Rattle.mq_iphdr.proofs.extensions.walk.Goals as goal

pub returns-then-not-is_extension : goal.returns-then-not-is_extension
returns-then-not-is_extension c =
    sym (step.done (8 - c.loop.counter) c.loop.view c.loop.rest.now (sym c.is_extension.ensures ∙ c.if-not-is_extension.true)) ∙ c.loop.invariant.0

pub returns-in_default : goal.returns-in_default
returns-in_default c =
    sym (step.cut (8 - c.loop.counter) c.loop.view c.loop.rest.now (omega arith) (sym c.is_extension.ensures ∙ c.if-not-is_extension.false) c.in_default.ensures) ∙ c.loop.invariant.0

pub returns-then-is_last : goal.returns-then-is_last
returns-then-is_last c =
    let passed : c.past-view.result ≡ past_first c.loop.view c.loop.rest.now =
    c.past-view.ensures ∙ ap (λ (n : ℕ). past c.loop.view (slice_index c.loop.rest.now 0) n) c.in-Some.ensures.1 in
    ap Ok passed
    ∙ sym (step.last (8 - c.loop.counter) c.loop.view c.loop.rest.now (omega arith) (sym c.is_extension.ensures ∙ c.if-not-is_extension.false) c.in-Some.ensures.0 c.if-is_last.true)
    ∙ c.loop.invariant.0

pub loop-preserved : goal.loop-preserved
loop-preserved c =
    let passed : c.past-view.result ≡ past_first c.loop.view c.loop.rest.now =
    c.past-view.ensures ∙ ap (λ (n : ℕ). past c.loop.view (slice_index c.loop.rest.now 0) n) c.in-Some.ensures.1 in
    let one_less : 8 - c.loop.counter ≡ suc (8 - (c.loop.counter + 1)) = omega arith in
    let behind : c.split_at.result.1.now ≡ drop (extension_len c.loop.view.flow.protocol c.loop.rest.now) c.loop.rest.now =
    c.split_at.ensures.back ∙ ap (λ (n : ℕ). drop n c.loop.rest.now) (c.from.ensures ∙ c.in-Some.ensures.1) in
    let stepped = step.next (8 - (c.loop.counter + 1)) c.loop.view c.loop.rest.now (sym c.is_extension.ensures ∙ c.if-not-is_extension.false) c.in-Some.ensures.0 c.if-is_last.false in (
      rw (passed, behind) (sym stepped ∙ ap (λ (n : ℕ). walk n c.loop.view c.loop.rest.now) (sym one_less) ∙ c.loop.invariant.0),
      rw c.past-view.ensures (omega (arith, c.loop.invariant.1, c.in-Some.ensures.4)),
    )

pub returns-then-is_extension : goal.returns-then-is_extension
returns-then-is_extension c =
    sym (step.full (8 - c.loop.counter) c.loop.view c.loop.rest.now (omega arith) (sym c.is_extension-2.ensures ∙ c.if-is_extension.true)) ∙ c.loop.invariant.0

pub returns-else-is_extension : goal.returns-else-is_extension
returns-else-is_extension c =
    sym (step.done (8 - c.loop.counter) c.loop.view c.loop.rest.now (sym c.is_extension-2.ensures ∙ c.if-is_extension.false)) ∙ c.loop.invariant.0
