use Rattle.std.proofs.Common.{below_more, arith, refl}
use Rattle.mq_cores_tests.proofs.Allowed.{all_apart, none_before, one_before}
use Rattle.mq_cores_tests.proofs.book.config.are_apart.Goals as goal

pub loop-place-preserved : goal.loop-place-preserved
loop-place-preserved c =
    below_more _ _ c.loop-place.invariant
    (none_before c.args.blocks.now c.split_at.result.0.now c.loop-place.place _ c.loop-place-test.true c.split_at.ensures.front c.meets_any.result c.meets_any.ensures.1 c.if-meets_any.false)

pub returns : goal.returns
returns c = (λ _. all_apart c.args.blocks.now (λ j less. c.loop-place.invariant j (omega (arith, less))), λ _. refl)

pub returns-then-meets_any : goal.returns-then-meets_any
returns-then-meets_any c = (
  λ b. absurd cc,
  λ all. absurd
      (one_before c.args.blocks.now c.split_at.result.0.now c.loop-place.place _ c.loop-place-test.true c.split_at.ensures.front (c.meets_any.ensures.0 c.if-meets_any.true) all),
)
