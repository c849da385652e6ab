use Rattle.std.proofs.Common.{◌∙◌, subst, sym}
use Rattle.std.specs.List.{All}
use Rattle.mq_talk.specs.Config.{HasNoZero}
use Rattle.mq_addr.specs.Ranges.{IsOrdered}
use Rattle.mq_cores_tests.proofs.Allowed.{apart_of, no_zero_of, config_is, joined}
use Rattle.mq_cores_tests.proofs.book.config.is_config.Goals as goal

pub returns-then-not-are_apart : goal.returns-then-not-are_apart
returns-then-not-are_apart c =
    let is = joined c.args.config.now _ _ _ _ _ c.as_slice-3.ensures.value c.in_ok-extend_from_slice.ensures.items c.in_ok-blocks.ensures.items c.as_slice.ensures c.as_slice-2.ensures in
    (λ b. absurd cc, λ may. c.if-not-are_apart.ensures.1 (apart_of c.args.config.now _ is may))

pub returns-then-not-have_no_zero : goal.returns-then-not-have_no_zero
returns-then-not-have_no_zero c =
    let is = joined c.args.config.now _ _ _ _ _ c.as_slice-4.ensures.value c.in_ok-extend_from_slice.ensures.items c.in_ok-blocks.ensures.items c.as_slice.ensures c.as_slice-2.ensures in
    (λ b. absurd cc, λ may. c.if-not-have_no_zero.ensures.1 (no_zero_of c.args.config.now _ is may))

pub returns : goal.returns
returns c =
    let is = joined c.args.config.now _ _ _ _ _ c.as_slice-3.ensures.value c.in_ok-extend_from_slice.ensures.items c.in_ok-blocks.ensures.items c.as_slice.ensures c.as_slice-2.ensures in
    let none = subst (All HasNoZero) (c.as_slice-4.ensures.value ∙ sym c.as_slice-3.ensures.value) (c.have_no_zero.ensures.0 c.if-not-have_no_zero.false) in (
      λ b. config_is c.args.config.now _ is (c.is_short.ensures.0 c.if-not-is_short.false) (c.are_apart.ensures.0 c.if-not-are_apart.false) none
          (subst IsOrdered c.as_slice-5.ensures (c.is_ordered.ensures.0 b)),
      λ may. c.is_ordered.ensures.1 (subst IsOrdered (sym c.as_slice-5.ensures) may.ordered),
    )
