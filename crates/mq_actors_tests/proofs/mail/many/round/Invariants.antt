use Rattle.std.proofs.Common.{◌≡◌}
use Rattle.mq_talk.specs.Mails.{IsParcel}
use Rattle.mq_actors_tests.proofs.mail.many.round.Given as goal

abbrev pub invariant-loop : goal.invariant-loop
invariant-loop g l = record {
  post : l.key.post ≡ l.fn.key.post;
  parcel : IsParcel l.parcel;
}
