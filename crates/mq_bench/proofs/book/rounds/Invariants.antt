use Rattle.std.proofs.Common.{◌≡◌}
use Rattle.mq_bench.proofs.book.rounds.Given as goal

abbrev pub invariant-loop : goal.invariant-loop
invariant-loop l = l.book.config.workers ≡ 1
