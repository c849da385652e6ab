use Rattle.std.proofs.Common.{◌≡◌, length}
use Rattle.mq_cores_tests.proofs.policy.crowded.Given as goal

abbrev pub invariant-loop-number : goal.invariant-loop-number
invariant-loop-number l = length l.policy.rules ≡ l.number
