use Rattle.std.proofs.Common.{◌≡◌}
use Rattle.mq_actors_tests.proofs.mail.inboxes.push_all.Given as goal

abbrev pub invariant-loop-n : goal.invariant-loop-n
invariant-loop-n g l = record {
  post : l.key.post ≡ l.fn.key.post;
  actor : l.key.actor ≡ l.fn.key.actor;
}
