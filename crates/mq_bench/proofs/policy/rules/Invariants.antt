use Rattle.std.proofs.Common.{◌≡◌, length}
use Rattle.mq_bench.proofs.policy.rules.Given as goal

-- so many rules were added
abbrev pub invariant-loop-network : goal.invariant-loop-network
invariant-loop-network l = length l.policy.rules ≡ l.network
