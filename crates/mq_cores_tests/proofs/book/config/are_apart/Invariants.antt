use Rattle.std.proofs.Common.{ℕ, ◌<◌}
use Rattle.mq_cores_tests.proofs.Allowed.{IsApartAt}
use Rattle.mq_cores_tests.proofs.book.config.are_apart.Given as goal

abbrev pub invariant-loop-place : goal.invariant-loop-place
invariant-loop-place l = (j : ℕ) → j < l.place → IsApartAt l.blocks j
