-- What went before each seat of a step.
use Rattle.std.proofs.Common.{◌≡◌, ◌⊎◌, inl, inr, ℕ, ◌+◌, ◌<◌, Bool, true, false, List, [], length, Some, None, refl, sym, ap, subst, ◌∙◌, arith}
use Rattle.std.specs.Prelude.{⊤}
use Rattle.mq_talk.specs.declared.place.Parcel.{Parcel}
use Rattle.mq_talk.specs.Mails.{Boxes, PopGives, Inboxes}
use Rattle.mq_actor.specs.declared.ring.Ring.{Ring}
use Rattle.mq_actor.specs.Passing.{Tried, Passed, is_in_part, InPart}
use Rattle.mq_actor.specs.Seats.{OffersWait}
use Rattle.mq_actor.specs.Seen.{Words, Moment}
use Rattle.mq_actor.proofs.Kept.{kept, kept_popped}
use Rattle.mq_actor.proofs.Passings.{none_passed, passed_then}
use Rattle.mq_actor.proofs.SoFar.{SoFar, MailKept}
use Rattle.mq_actor.proofs.Stages.{Untried, AllUpper, Lower, AllTried, InUpper, in_one, in_other}

-- ---- the inbox

-- what is in the own inbox, and that it was found empty where it was tried
pub record Own (mail : Inboxes) (count id : ℕ) (inbox_tried : Type 0) : Type 0 where
  pub box : List Parcel
  pub mail_is : MailKept mail count id box
  pub empty : inbox_tried → box ≡ []

module _ (mail : Inboxes) (count id : ℕ) (lt : id < count) (fit : (bs : Boxes) → mail.told ≡ Some bs → length bs ≡ count) where
  -- before it was tried
  pub own_untried : Own mail count id ⊥
  own_untried = let k = kept mail count id lt fit in record { box = k.0; mail_is = k.1; empty = λ never. absurd never }

  -- behind its turn in the upper part
  pub own_upper : (from : ℕ) (mail_now : Inboxes) → (InUpper from 1 → PopGives count mail id None mail_now) → Own mail count id (InUpper from 1)
  own_upper from now pops = by_part (is_in_part true from 1) refl where
    by_part : (b : Bool) → is_in_part true from 1 ≡ b → Own mail count id (InUpper from 1)
    by_part true is = record { box = []; mail_is = kept_popped mail now count id lt (pops is); empty = λ up. refl }
    by_part false is = let k = kept mail count id lt fit in record { box = k.0; mail_is = k.1; empty = λ up. let e : true ≡ false = sym up ∙ is in absurd cc }

  -- and in the lower part
  pub own_lower : (from : ℕ) (mail_one mail_mid mail_now : Inboxes) → (InUpper from 1 → PopGives count mail id None mail_one) → mail_mid ≡ mail
      → (is_in_part false from 1 ≡ true → PopGives count mail_mid id None mail_now) → Own mail count id ⊤
  own_lower from one mid now pops same pops_later = by_part (in_other from 1) where
    by_part : (is_in_part true from 1 ≡ true) ⊎ (is_in_part false from 1 ≡ true) → Own mail count id ⊤
    by_part (inl up) = record { box = []; mail_is = kept_popped mail one count id lt (pops up); empty = λ any. refl }
    by_part (inr down) =
        let P : Inboxes → Type 0 = λ b. PopGives count b id None now in
        record { box = []; mail_is = kept_popped mail now count id lt (subst P same (pops_later down)); empty = λ any. refl }

-- ---- all that went before

module _ {L Q : Type 0} (words : Words L Q) (r : Ring L) (old : Moment L Q) (count : ℕ) (starts : old.conns ≡ r.conns.items) where
  -- of whichever moment
  pub so_far : (m : Ring L) (mid : Moment L Q) (tried : Tried) (offers_tried inbox_tried : Type 0) → Passed words old mid tried
      → m ≡ record r { conns = m.conns; rooms = m.rooms } → (offers_tried → OffersWait r) → Own old.boxes count r.id inbox_tried
      → SoFar words r m old mid count tried offers_tried inbox_tried
  so_far m mid tried offers_tried inbox_tried passed ring offers own =
      record { passed = passed; starts = starts; ring = ring; offers = offers; box = own.box; mail = own.mail_is; inbox = own.empty }

  -- before a connection was tried
  pub first_passed : Passed words old old Untried
  first_passed = none_passed words old Untried (λ place h at never. never)

  -- the lower part's connections up to a place, behind the upper part
  pub lower_passed : (mid now : Moment L Q) (k : ℕ) → Passed words old mid (AllUpper r.next_seat) → Passed words mid now (λ i number. (i < k) × InPart false r.next_seat number)
      → Passed words old now (Lower r.next_seat k)
  lower_passed mid now k upper lower =
      passed_then words old mid now (AllUpper r.next_seat) (λ i number. (i < k) × InPart false r.next_seat number) upper lower (λ place number up down. in_one r.next_seat (number + 2) up down.1)

  -- both parts
  pub all_passed : (mid now : Moment L Q) → Passed words old mid (AllUpper r.next_seat) → Passed words mid now (λ i number. InPart false r.next_seat number)
      → Passed words old now (AllTried r.next_seat)
  all_passed mid now upper lower =
      passed_then words old mid now (AllUpper r.next_seat) (λ i number. InPart false r.next_seat number) upper lower (λ place number up down. in_one r.next_seat (number + 2) up down)

  -- the offered links waited in their turn, whichever part that was in
  pub offers_waited : (m : Ring L) → m ≡ record r { conns = m.conns; rooms = m.rooms } → length m.conns.items ≡ length r.conns.items
      → (InUpper r.next_seat 0 → OffersWait r) → (is_in_part false r.next_seat 0 ≡ true → OffersWait m) → OffersWait r
  offers_waited m ring size upper lower = by_part (in_other r.next_seat 0) where
    back : OffersWait m → OffersWait r
    back (inl none) = inl (sym (ap (λ (z : Ring L). z.offered.items) ring) ∙ none)
    back (inr full) = inr (omega (arith, full, size))

    by_part : (is_in_part true r.next_seat 0 ≡ true) ⊎ (is_in_part false r.next_seat 0 ≡ true) → OffersWait r
    by_part (inl up) = upper up
    by_part (inr down) = back (lower down)
