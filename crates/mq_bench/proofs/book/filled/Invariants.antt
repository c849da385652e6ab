use Rattle.std.proofs.Common.{◌≡◌}
use Rattle.mq_bench.proofs.book.filled.Given as goal

abbrev pub invariant-loop-tunnel : goal.invariant-loop-tunnel
invariant-loop-tunnel l = l.book.config.workers ≡ 1
