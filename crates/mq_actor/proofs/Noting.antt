-- A note was told where something was done.
use Rattle.std.proofs.Common.{◌≡◌, ◌∙◌, ℕ, true, false, IfOk, Bool, Option, Some, None, Result, Ok, Err, IsErr, is_some, refl, ap, subst}
use Rattle.mq_wire.specs.declared.NoMemory.{NoMemory}
use Rattle.mq_talk.specs.declared.note.Note.{Note}
use Rattle.mq_talk.specs.Mails.{Boxes, Inboxes}
use Rattle.mq_talk.specs.Offices.{Seen}
use Rattle.mq_machine.specs.declared.setup.Setup.{Setup}
use Rattle.mq_machine.specs.State.{Held}
use Rattle.mq_machine.specs.Acting.{Outside}
use Rattle.mq_held.specs.Notes.{note_by, note_with}
use Rattle.mq_step.specs.declared.stepped.Stepped.{Stepped}
use Rattle.mq_step.specs.declared.stepped.Stepped.TheVariants.{Quiet, Did, Ended}
use Rattle.mq_step.specs.Gives.{Gives, Tries, InVain}
use Rattle.mq_step.specs.Notes.{SteppedWith, stepped_with}
use Rattle.mq_step.specs.Notes as with
use Rattle.mq_actor.specs.declared.ring.Ring.{Ring}
use Rattle.mq_actor.specs.Seats.{InboxGives, missed_at}

pub some_told : (told : Option Note) → is_some told ≡ true → (said : Note) × (told ≡ Some said)
some_told None some = absurd cc
some_told (Some said) some = (said, refl)

-- where something was done, that is the note; where nothing was, there is none
pub note_is : (did : Bool) (told : Option Note) → did ≡ true → is_some told ≡ true → (said : Note) × (note_by did told ≡ Some said) × (told ≡ Some said)
note_is did None is some = absurd cc
note_is did (Some said) is some = (said, ap (λ (b : Bool). note_by b (Some said)) is, refl)

pub none_is : (did : Bool) (told : Option Note) → did ≡ false → note_by did told ≡ None
none_is did told is = ap (λ (b : Bool). note_by b told) is

-- nothing came out of an inbox
pub popped_none : {L : Type 0} (count : ℕ) (old : Inboxes) (id : ℕ) (upper : Bool) (r s : Ring L) (did : Bool) (told : Option Note) (new : Inboxes) → did ≡ false
    → InboxGives count old id upper r s (note_by did told) new → InboxGives count old id upper r s None new
popped_none count old id upper r s did told new is gives =
    let G : Option Note → Type 0 = λ z. InboxGives count old id upper r s z new in subst G (none_is did told is) gives

pub missed_none : (tried did : Bool) (told : Option Note) (boxes : Option Boxes) (old new : ℕ) → did ≡ false → new ≡ missed_at tried (note_by did told) boxes old
    → new ≡ missed_at {A = Note} tried None boxes old
missed_none tried did told boxes old new is missed = missed ∙ ap (λ (z : Option Note). missed_at tried z boxes old) (none_is did told is)

-- a packet came out of it
pub popped_some : {L : Type 0} (count : ℕ) (old : Inboxes) (id : ℕ) (upper : Bool) (r s : Ring L) (did : Bool) (told : Option Note) (new : Inboxes) → did ≡ true
    → is_some told ≡ true → InboxGives count old id upper r s (note_by did told) new → (said : Note) × (told ≡ Some said) × InboxGives count old id upper r s (Some said) new
popped_some count old id upper r s did told new is some gives =
    let G : Option Note → Type 0 = λ z. InboxGives count old id upper r s z new in
    let said = note_is did told is some in
    (said.0, said.2, subst G said.1 gives)

-- memory was refused, whatever was told
pub note_err : (r : Result Bool NoMemory) (told : Option Note) → IsErr r → IsErr (note_with r told)
note_err (Ok did) told is = absurd cc
note_err (Err refused) told is = refl

-- a step that isn't quiet told a note
pub told_by : (setup : Setup) (tries : Tries) (vain : InVain) (o n : Outside) (seen seen_after : Seen) (mail mail_after : Inboxes) (stands : Held → Type 0) (s : Held)
    (r : Result Stepped NoMemory) (told : Option Note) → Gives setup tries vain o n seen seen_after mail mail_after stands s (stepped_with r told)
    → IfOk r (λ stepped. (stepped ≡ Quiet → ⊥) → is_some told ≡ true)
told_by setup tries vain o n seen seen_after mail mail_after stands s (Ok Quiet) told gives = λ loud. absurd (loud refl)
told_by setup tries vain o n seen seen_after mail mail_after stands s (Ok Did) None gives = absurd gives
told_by setup tries vain o n seen seen_after mail mail_after stands s (Ok Did) (Some said) gives = λ loud. refl
told_by setup tries vain o n seen seen_after mail mail_after stands s (Ok Ended) None gives = absurd gives
told_by setup tries vain o n seen seen_after mail mail_after stands s (Ok Ended) (Some said) gives = λ loud. refl
told_by setup tries vain o n seen seen_after mail mail_after stands s (Err refused) told gives = tt

-- so what was quiet without its note was so
pub quiet_with : (r : Result Stepped NoMemory) (told : Option Note) → stepped_with r told ≡ Ok with.Quiet → r ≡ Ok Quiet
quiet_with (Ok Quiet) told is = refl
quiet_with (Ok Did) None is = absurd cc
quiet_with (Ok Did) (Some said) is = absurd cc
quiet_with (Ok Ended) None is = absurd cc
quiet_with (Ok Ended) (Some said) is = absurd cc
quiet_with (Err refused) told is = absurd cc

-- and what ended with it ended
pub ended_with : (r : Result Stepped NoMemory) (told : Option Note) (said : Note) → stepped_with r told ≡ Ok (with.Ended said) → r ≡ Ok Ended
ended_with (Ok Quiet) told said is = absurd cc
ended_with (Ok Did) None said is = absurd cc
ended_with (Ok Did) (Some note) said is = absurd cc
ended_with (Ok Ended) None said is = absurd cc
ended_with (Ok Ended) (Some note) said is = refl
ended_with (Err refused) told said is = absurd cc
