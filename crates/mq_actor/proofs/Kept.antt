-- The inboxes, where nothing was taken from the own one.
use Rattle.std.proofs.Common.{◌≡◌, ℕ, zero, suc, ◌<◌, List, [], ◌∷◌, length, Option, Some, None, refl, sym, ap, ◌∙◌, arith}
use Rattle.std.specs.Option.{unwrap_or}
use Rattle.mq_talk.specs.declared.place.Parcel.{Parcel}
use Rattle.mq_talk.specs.Mails.{Boxes, IsTold, PopGives, Inboxes}
use Rattle.mq_actor.proofs.Pointwise.{there}
use Rattle.mq_actor.proofs.SoFar.{MailKept}

-- so many inboxes without a parcel
empty_boxes : ℕ → Boxes
empty_boxes zero = []
empty_boxes (suc n) = [] ∷ empty_boxes n

empty_size : (n : ℕ) → length (empty_boxes n) ≡ n
unfolding empty_boxes
empty_size zero = refl
empty_size (suc n) = ap (λ (k : ℕ). suc k) (empty_size n)

-- what they hold, where that is told
fitting : (told : Option Boxes) (count : ℕ) → ((bs : Boxes) → told ≡ Some bs → length bs ≡ count) → (bs : Boxes) × IsTold told bs × (length bs ≡ count)
fitting None count size = (empty_boxes count, tt, empty_size count)
fitting (Some bs) count size = (bs, refl, size bs refl)

pub kept : (mail : Inboxes) (count id : ℕ) → id < count → ((bs : Boxes) → mail.told ≡ Some bs → length bs ≡ count) → (box : List Parcel) × MailKept mail count id box
kept mail count id lt size =
    let f = fitting mail.told count size in
    let x = there f.0 id (omega (arith, lt, f.2)) in
    (x.0, record { boxes = f.0; told = f.1; size = f.2; at = x.1 })

-- the own one was found empty
pub kept_popped : (old new : Inboxes) (count id : ℕ) → id < count → PopGives count old id None new → MailKept old count id []
kept_popped old new count id lt pops =
    let size = pops.size in
    let x = there pops.before id (omega (arith, lt, size)) in
    let empty : x.0 ≡ [] = ap (λ (o : Option (List Parcel)). unwrap_or o []) (sym x.1) ∙ pops.does.0 in
    record {
      boxes = pops.before;
      told = pops.was;
      size = size;
      at = x.1 ∙ ap {B = Option (List Parcel)} (λ (b : List Parcel). Some b) empty;
    }
