-- What an actor's way to a shared post tells: nothing of what waits in the inboxes, and all that the actor moved.
use Rattle.std.specs.Prelude.{ℕ, map, Some, None}
use Rattle.mq_talk.specs.Mails.{Inboxes}
use Rattle.mq_mail.specs.declared.inbox_rule.Letter.{Letter}
use Rattle.mq_mail.specs.Posts.{KeyOf}

abbrev pub untold : KeyOf → ℕ → ℕ → Inboxes
untold key back back_by = record {
  told = None;
  went = Some (record { taken = key.pushed; popped = map (λ (l : Letter). l.parcel) key.popped; back = back; back_by = back_by });
}
