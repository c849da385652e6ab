use Rattle.std.proofs.Common.{◌≡◌}
use Rattle.mq_actors_tests.proofs.mail.take_all.Given as goal

abbrev pub invariant-loop : goal.invariant-loop
invariant-loop g l = l.out.lane ≡ l.lane
