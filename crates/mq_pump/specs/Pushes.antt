-- What comes of a parcel that is pushed to the inbox of its place.
use Rattle.std.specs.Prelude.{◌≡◌, ℕ, Bool, true, false, length}
use Rattle.mq_talk.specs.declared.note.Note.{Note}
use Rattle.mq_talk.specs.declared.note.Note.TheVariants.{PushedNote, Dropped}
use Rattle.mq_talk.specs.declared.place.Cause.TheVariants.{InboxFull}
use Rattle.mq_talk.specs.declared.place.Parcel.{Parcel}
use Rattle.mq_talk.specs.Mails.{Boxes, IsTold, has_room, with_parcel, Inboxes, MailMoves}
use Rattle.mq_machine.specs.Turn.{source_of}

-- it is pushed where the inbox has room, and dropped where that is full
abbrev pub PushSays : Bool → Boxes → ℕ → Parcel → Note → Boxes → Type 0
PushSays true old to parcel said new = (said ≡ PushedNote (source_of parcel.from) parcel.n parcel.to) × (new ≡ with_parcel old to parcel)
PushSays false old to parcel said new = (said ≡ Dropped (source_of parcel.from) parcel.n InboxFull) × (new ≡ old)

-- between inboxes with which that fits what is told
pub record Pushes (count : ℕ) (old : Inboxes) (to : ℕ) (parcel : Parcel) (said : Note) (new : Inboxes) : Type 0 where
  pub before : Boxes
  pub after : Boxes
  pub size : length before ≡ count
  pub was : IsTold old.told before
  pub is : IsTold new.told after
  pub moves : MailMoves old new before after
  pub says : PushSays (has_room before to) before to parcel said after
