use Rattle.std.proofs.Common.{◌≡◌}
use Rattle.mq_desk.proofs.tests.replay.replayed.Given as goal

abbrev pub invariant-loop-place : goal.invariant-loop-place
invariant-loop-place l = l.book.config ≡ l.initial.book.config
