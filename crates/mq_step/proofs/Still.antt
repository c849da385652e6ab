-- A quiet step leaves the connection as one that stands for the same.
use Rattle.std.proofs.Common.{◌≡◌, ℕ, true, false, IfOk, Option, Result, Ok, Err, refl, sym, subst, ◌∙◌}
use Rattle.slab.specs.Slab.{Slab}
use Rattle.mq_wire.specs.declared.NoMemory.{NoMemory}
use Rattle.mq_outside.specs.Counts.{PortCounts}
use Rattle.mq_outside.specs.Ports.{PortHolds}
use Rattle.mq_talk.specs.Mails.{Inboxes}
use Rattle.mq_talk.specs.Offices.{Seen}
use Rattle.mq_machine.specs.State.{Held}
use Rattle.mq_machine.specs.Want.{want_of, may_wait}
use Rattle.mq_machine.specs.Acting.{Outside, Binder}
use Rattle.mq_held.specs.declared.held.Held.{Held as HeldBy}
use Rattle.mq_talk.specs.declared.note.Note.{Note}
use Rattle.mq_step.specs.declared.stepped.Stepped.{Stepped}
use Rattle.mq_step.specs.declared.stepped.Stepped.TheVariants.{Quiet, Did, Ended}
use Rattle.mq_step.specs.Notes.{SteppedWith, stepped_by, stepped_with}
use Rattle.mq_step.specs.Notes as with
use Rattle.mq_step.specs.Holds.{IsHeld}
use Rattle.mq_step.specs.Sights.{SeesTable, idle}
use Rattle.mq_step.specs.Wanted.{ActGives, ported}
use Rattle.mq_step.specs.Closing.{CloseGives}
use Rattle.mq_step.proofs.Failing.{fallen, can_then}
use Rattle.mq_step.proofs.Standing.{same_apart}
use Rattle.mq_step.proofs.Seeing.{sight_of, sight_sees}
use Rattle.mq_step.proofs.Stepping.{silent, want_waits}

-- it stands for each state whose want waits and for which it stood
abbrev pub Still : {L Q : Type 0} → (Q → ℕ) → Slab Q → Slab Q → HeldBy L → HeldBy L → Type 0
Still {L} {Q} most table after old new = (s : Held) → IsHeld most table old s → may_wait (want_of s.conn) ≡ true → IsHeld most after new s

-- where that holds of a call in vain, and of the one behind it
pub still_from : {L Q : Type 0} (most : Q → ℕ) (table after : Slab Q) (old mid new : HeldBy L) (r : Result Stepped NoMemory) → Still most table table old mid
    → IfOk r (λ stepped. stepped ≡ Quiet → Still most table after mid new) → IfOk r (λ stepped. stepped ≡ Quiet → Still most table after old new)
still_from most table after old mid new (Ok stepped) moves still = λ is s held wait. still is s (moves s held wait) wait
still_from most table after old mid new (Err refused) moves still = tt

-- the close of a tunnel is never quiet
pub closes_still : (seen seen_after : Seen) (mail mail_after : Inboxes) (stand : Held → Type 0) (tunnel : ℕ) (s : Held) (r : Result Stepped NoMemory) (told : Option Note) (X : Type 0)
    → CloseGives seen seen_after mail mail_after stand tunnel s (stepped_with r told) → IfOk r (λ stepped. stepped ≡ Quiet → X)
closes_still seen seen_after mail mail_after stand tunnel s (Ok Did) told X gives = λ is. absurd cc
closes_still seen seen_after mail mail_after stand tunnel s (Ok Quiet) told X gives = absurd gives
closes_still seen seen_after mail mail_after stand tunnel s (Ok Ended) told X gives = λ is. absurd cc
closes_still seen seen_after mail mail_after stand tunnel s (Err refused) told X gives = absurd gives

-- what a want does whatever the outside tells
abbrev pub Acts : {L Q : Type 0} → (Q → ℕ) → (Q → Option PortHolds) → (Q → PortCounts) → (binds binds_after : Binder) → (table after : Slab Q)
    → (old new : HeldBy L) → (seen seen_after : Seen) → (mail mail_after : Inboxes) → Held → Result SteppedWith NoMemory → Type 0
Acts {L} {Q} most holds counts binds binds_after table after old new seen seen_after mail mail_after s r =
    (o n : Outside) → SeesTable holds counts binds table old.ports.items o → SeesTable holds counts binds_after after new.ports.items n
    → ActGives o n seen seen_after mail mail_after (IsHeld most after new) s r

module _ {L Q : Type 0} (most : Q → ℕ) (holds : Q → Option PortHolds) (counts : Q → PortCounts) (binds binds_after : Binder) (table after : Slab Q)
    (old new : HeldBy L) (seen seen_after : Seen) (mail mail_after : Inboxes) (s : Held) where
  -- seen with what its ports tell
  seen_acts : (r : Result SteppedWith NoMemory) → IsHeld most table old s → new.ports.items ≡ old.ports.items
      → Acts most holds counts binds binds_after table after old new seen seen_after mail mail_after s r
      → ActGives (sight_of holds counts binds table old.ports.items silent) (sight_of holds counts binds_after after new.ports.items silent) seen
      seen_after mail mail_after (IsHeld most after new) s r
  seen_acts r held stays acts =
      acts (sight_of holds counts binds table old.ports.items silent) (sight_of holds counts binds_after after new.ports.items silent)
      (sight_sees holds counts binds table old.ports.items silent held.apart)
      (sight_sees holds counts binds_after after new.ports.items silent (same_apart old.ports.items new.ports.items stays held.apart))

  -- a want in vain waits, and changes nothing
  pub quiet_stands : IsHeld most table old s → new.ports.items ≡ old.ports.items
      → Acts most holds counts binds binds_after table after old new seen seen_after mail mail_after s (Ok with.Quiet)
      → IsHeld most after new s × (may_wait (want_of s.conn) ≡ true)
  quiet_stands held stays acts =
      let gives = seen_acts (Ok with.Quiet) held stays acts in (
        gives.1,
        want_waits (sight_of holds counts binds table old.ports.items silent) (sight_of holds counts binds_after after new.ports.items silent) s seen
            seen_after mail mail_after gives.0,
      )

-- a connection whose link failed is never quiet
pub fallen_still : {L Q : Type 0} (most : Q → ℕ) (holds : Q → Option PortHolds) (counts : Q → PortCounts) (binds binds_after : Binder) (table after : Slab Q)
    (old new : HeldBy L) (seen seen_after : Seen) (mail mail_after : Inboxes) (s : Held) (r : Result Stepped NoMemory) (told : Option Note) (X : Type 0) → IsHeld most table old (fallen s s.link)
    → IfOk r (λ stepped. stepped ≡ Quiet → new.ports.items ≡ old.ports.items)
    → Acts most holds counts binds binds_after table after old new seen seen_after mail mail_after (fallen s s.link) (stepped_with r told) → IfOk r (λ stepped. stepped ≡ Quiet → X)
fallen_still {L} {Q} most holds counts binds binds_after table after old new seen seen_after mail mail_after s (Ok stepped) told X held stays acts = λ is.
    let o = sight_of holds counts binds table old.ports.items silent in
    let A : Stepped → Type 0 = λ x. Acts most holds counts binds binds_after table after old new seen seen_after mail mail_after (fallen s s.link) (Ok (stepped_by x told)) in
    let gives = seen_acts most holds counts binds binds_after table after old new seen seen_after mail mail_after (fallen s s.link) (Ok with.Quiet) held
    (stays is) (subst A is acts) in
    let e : true ≡ false = sym (can_then s.conn (ported o idle (fallen s s.link)).ports) ∙ gives.0.cannot idle (λ tunnel. (refl, refl)) in
    absurd cc
fallen_still {L} {Q} most holds counts binds binds_after table after old new seen seen_after mail mail_after s (Err refused) told X held stays acts = tt

-- a want in vain, and then what is done behind it
pub still_then : {L Q : Type 0} (most : Q → ℕ) (table between after : Slab Q) (old mid new : HeldBy L) (r : Result Stepped NoMemory)
    → ((s : Held) → IsHeld most table old s → IsHeld most between mid s × (may_wait (want_of s.conn) ≡ true))
    → IfOk r (λ stepped. stepped ≡ Quiet → Still most between after mid new)
    → IfOk r (λ stepped. stepped ≡ Quiet → (s : Held) → IsHeld most table old s → IsHeld most after new s)
still_then most table between after old mid new (Ok stepped) quiet still = λ is s held. let stood = quiet s held in still is s stood.0 stood.1
still_then most table between after old mid new (Err refused) quiet still = tt
