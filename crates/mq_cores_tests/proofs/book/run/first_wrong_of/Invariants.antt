use Rattle.std.proofs.Common.{◌≡◌}
use Rattle.mq_cores_tests.proofs.book.run.first_wrong_of.Given as goal

abbrev pub invariant-loop-row : goal.invariant-loop-row
invariant-loop-row l = l.book.config.workers ≡ 2
