use Rattle.std.proofs.Common.{arith}
use Rattle.mq_addr.proofs.prefix.overlaps.Goals as goal
use Rattle.mq_addr.proofs.Blocks.{nested, holds_start, swapped}

pub returns-then-a-b : goal.returns-then-a-b
returns-then-a-b c = (
  λ yes. holds_start _ _ (c.contains.ensures.0 yes),
  λ h. c.contains.ensures.1 (nested c.args.a.now c.args.b.now c.if-a-b.true h),
)

pub returns-else-a-b : goal.returns-else-a-b
returns-else-a-b c = (
  λ yes. swapped _ _ (holds_start c.args.b.now c.args.a.now (c.contains-else-a-b.ensures.0 yes)),
  λ h. c.contains-else-a-b.ensures.1 (nested c.args.b.now c.args.a.now (omega arith) (swapped c.args.a.now c.args.b.now h)),
)
