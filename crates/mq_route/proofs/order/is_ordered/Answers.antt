use Rattle.std.proofs.Common.{below_more, arith, refl}
use Rattle.mq_route.proofs.Ordered.{at_place, from_place, ordered, follows_at}
use Rattle.mq_route.proofs.order.is_ordered.Goals as goal

pub loop-place-preserved : goal.loop-place-preserved
loop-place-preserved c =
    below_more _ _ c.loop-place.invariant
    (at_place c.args.ranges.now c.split_at.result.0.now c.loop-place.place _ c.loop-place-test.true c.split_at.ensures.front (c.may_follow.ensures.0 c.if-not-may_follow.false))

pub returns : goal.returns
returns c = (λ _. ordered c.args.ranges.now (λ j less. c.loop-place.invariant j (omega (arith, less))), λ _. refl)

pub returns-then-not-may_follow : goal.returns-then-not-may_follow
returns-then-not-may_follow c = (
  λ b. absurd cc,
  λ is. c.if-not-may_follow.ensures.1
      (from_place c.args.ranges.now c.split_at.result.0.now c.loop-place.place _ c.split_at.ensures.front (follows_at c.args.ranges.now c.loop-place.place c.loop-place-test.true is)),
)
