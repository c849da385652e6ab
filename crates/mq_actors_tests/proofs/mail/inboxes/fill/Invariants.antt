use Rattle.std.proofs.Common.{◌≡◌}
use Rattle.mq_actors_tests.proofs.mail.inboxes.fill.Given as goal

abbrev pub invariant-loop-n : goal.invariant-loop-n
invariant-loop-n g l = record {
  post : l.mail.key.post ≡ l.fn.key.post;
  actor : l.mail.key.actor ≡ l.fn.key.actor;
}
