use Rattle.std.proofs.Common.{◌≡◌}
use Rattle.mq_talk.specs.Mails.{IsParcel}
use Rattle.mq_actors_tests.proofs.mail.inboxes.push_until.Given as goal

abbrev pub invariant-loop : goal.invariant-loop
invariant-loop g l = record {
  post : l.key.post ≡ l.initial.key.post;
  actor : l.key.actor ≡ l.initial.key.actor;
  parcel : IsParcel l.parcel;
}
