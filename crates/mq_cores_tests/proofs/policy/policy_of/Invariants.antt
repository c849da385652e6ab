use Rattle.std.proofs.Common.{◌≡◌, length}
use Rattle.mq_cores_tests.proofs.policy.policy_of.Given as goal

abbrev pub invariant-loop-rule : goal.invariant-loop-rule
invariant-loop-rule l = length l.policy.rules ≡ l.rule-index
