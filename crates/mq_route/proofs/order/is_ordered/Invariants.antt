use Rattle.std.proofs.Common.{ℕ, ◌<◌}
use Rattle.mq_route.proofs.Ordered.{FollowsAt}
use Rattle.mq_route.proofs.order.is_ordered.Given as goal

abbrev pub invariant-loop-place : goal.invariant-loop-place
invariant-loop-place l = (j : ℕ) → j < l.place → FollowsAt l.ranges j
