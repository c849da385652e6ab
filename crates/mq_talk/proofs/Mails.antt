-- What a step moves by its mail, for the crates whose steps do.
use Rattle.std.specs.Prelude.{◌≡◌, ℕ, List, Option, Some, None, option_map}
use Rattle.std.proofs.Common.{refl, sym, ap, subst, ◌∙◌}
use Rattle.std.specs.Option.{is_some}
use Rattle.mq_talk.specs.declared.place.Parcel.{Parcel}
use Rattle.mq_talk.specs.declared.place.Pushed.{Pushed}
use Rattle.mq_talk.specs.Mails.{Boxes, IsTold, Inboxes, Went, Nothing, Put, Got, went_after, MailMoves, PushGives, PopGives}

unmoved : (went : Option Went) → option_map (went_after Nothing) went ≡ went
unmoved None = refl
unmoved (Some w) = refl

-- nothing
pub nothing_moved : (old new : Inboxes) (boxes : Boxes) → new ≡ old → MailMoves old new boxes boxes
nothing_moved old new boxes same =
    let P : Inboxes → Type 0 = λ m. MailMoves old m boxes boxes in
    subst P (sym same) (record { moved = Nothing; goes = sym (unmoved old.went); does = refl })

-- the parcel of a push
pub push_moved : (count to : ℕ) (old new : Inboxes) (parcel : Parcel) (answer : Pushed) (gives : PushGives count old to parcel answer new) → MailMoves old new gives.before gives.after
push_moved count to old new parcel answer gives = record { moved = Put to parcel answer; goes = gives.goes; does = gives.does }

-- that of a pop
pub pop_moved : (count of : ℕ) (old new : Inboxes) (parcel : Parcel) (gives : PopGives count old of (Some parcel) new) → MailMoves old new gives.before gives.after
pop_moved count of old new parcel gives = record { moved = Got of parcel; goes = gives.goes; does = gives.does }

-- ---- a pop that gave nothing

told_same : (old new : Option Boxes) (before after : Boxes) → IsTold old before → IsTold new after → is_some new ≡ is_some old → after ≡ before → new ≡ old
told_same None None before after was is tells same = refl
told_same None (Some b) before after was is tells same = absurd cc
told_same (Some a) None before after was is tells same = absurd cc
told_same (Some a) (Some b) before after was is tells same = ap {B = Option Boxes} (λ (x : Boxes). Some x) (sym is ∙ same ∙ was)

-- behind it what is told stays
pub popped_same : (old new : Inboxes) (count of : ℕ) → PopGives count old of None new → new ≡ old
popped_same old new count of pops =
    let told = told_same old.told new.told pops.before pops.after pops.was pops.is pops.tells pops.does.1 in
    let went = pops.goes ∙ unmoved old.went in
    ap (λ (t : Option Boxes). record new { told = t }) told ∙ ap (λ (w : Option Went). record old { went = w }) went
