use Rattle.std.proofs.Common.{◌≡◌, ◌+◌, All, length}
use Rattle.mq_mail.specs.Posts.{KeyOf}
use Rattle.mq_actors_tests.proofs.mail.many.jobs_of.Given as goal

abbrev pub invariant-loop-i : goal.invariant-loop-i
invariant-loop-i l = record {
  size : length l.keys.items + l.i ≡ 5;
  keys : All (λ (key : KeyOf). key.post ≡ l.post.inboxes) l.keys.items;
}
