use Rattle.std.proofs.Common.{◌≡◌}
use Rattle.mq_actors_tests.proofs.mail.inboxes.pop_all.Given as goal

abbrev pub invariant-loop : goal.invariant-loop
invariant-loop g l = record {
  post : l.key.post ≡ l.fn.key.post;
  actor : l.key.actor ≡ l.fn.key.actor;
}
