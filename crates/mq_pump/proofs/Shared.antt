-- What the pump shares, before and after a step.
use Rattle.std.proofs.Common.{◌≡◌, ℕ, zero, suc, ◌+◌, ◌<◌, List, [], ◌∷◌, ◌++◌, length, slice_get, replicate, Option, Some, None, refl, sym, ap, ◌∙◌, subst, arith}
use Rattle.std.specs.Option.{unwrap_or}
use Rattle.std.proofs.lemmas.List.Elements.{All-nil}
use Rattle.std.proofs.lemmas.Option.{slice_get-get_or, unwrap_or-slice_get}
use Rattle.mq_talk.specs.declared.book.Entry.{Entry}
use Rattle.mq_talk.specs.declared.place.Parcel.{Parcel}
use Rattle.mq_talk.specs.declared.place.Place.{Place}
use Rattle.mq_talk.specs.declared.place.Place.TheVariants as place
use Rattle.mq_talk.specs.Mails.{Boxes, IsTold, box_at, inbox_in, MailMoves}
use Rattle.mq_talk.specs.Offices.{Seen, Sees, IsSame, IsOfOther}
use Rattle.mq_machine.specs.State.{Shared, Orders}
use Rattle.mq_machine.specs.Shared.{inbox_of}
use Rattle.mq_machine.specs.Acting.{Outside, PumpSight, PumpKnown, Meets, WasInbox, shared_sight}

-- ---- what isn't told is made up

pub told_or : {A : Type 0} (told : Option A) (made : A) → IsTold told (unwrap_or told made)
told_or None made = tt
told_or (Some a) made = refl

pub is_told : {A : Type 0} (told : Option A) (a : A) → told ≡ Some a → IsTold told a
is_told None a e = absurd cc
is_told (Some told) a e = cc

pub untold : {A : Type 0} (told : Option A) (a : A) → told ≡ None → IsTold told a
untold None a e = tt
untold (Some told) a e = absurd cc

-- ---- inboxes

-- the last inbox is the pump's
pub inbox_is : (boxes : Boxes) (to : Place) (workers : ℕ) → length boxes ≡ workers + 1 → inbox_of boxes to ≡ inbox_in workers to
inbox_is boxes (place.Tunnel u actor) workers long = refl
inbox_is [] place.Net workers long = absurd (omega (arith, long))
inbox_is (box ∷ boxes) place.Net workers long = omega (arith, long)

-- the inbox that is there
pub box_there : (boxes : Boxes) (i : ℕ) → i < length boxes → slice_get boxes i ≡ Some (box_at boxes i)
box_there boxes i there = slice_get-get_or boxes i [] there ∙ ap (λ (b : List Parcel). Some b) (sym (unwrap_or-slice_get boxes i []))

pub was_box : (told : Option Boxes) (boxes : Boxes) (i : ℕ) → IsTold told boxes → i < length boxes → WasInbox told i (box_at boxes i)
was_box None boxes i is there = tt
was_box (Some told) boxes i is there = subst (λ (b : Boxes). slice_get b i ≡ Some (box_at boxes i)) is (box_there boxes i there)

-- so many are told as there are
pub as_many : (told : Option Boxes) (boxes : Boxes) (n : ℕ) → IsTold told boxes → length boxes ≡ n → (shown : Boxes) → told ≡ Some shown → length shown ≡ n
as_many None boxes n is long shown e = absurd cc
as_many (Some told) boxes n is long shown e = cc

-- inboxes that fit what is told
abbrev pub boxes_or : (told : Option Boxes) (n : ℕ) → Boxes
boxes_or told n = unwrap_or told (replicate n [])

pub length_or : (told : Option Boxes) (n : ℕ) → ((boxes : Boxes) → told ≡ Some boxes → length boxes ≡ n) → length (boxes_or told n) ≡ n
length_or None n known = length-replicate n [] where
  length-replicate : (m : ℕ) (b : List Parcel) → length (replicate m b) ≡ m
  length-replicate zero b = refl
  length-replicate (suc m) b = ap suc (length-replicate m b)
length_or (Some boxes) n known = known boxes refl

-- ---- the book

pub sees_same : (seen : Seen) → Sees seen seen.entries
sees_same seen = record { more = []; goes_on = sym (append_none seen.entries); others = All-nil (IsOfOther seen); whole = λ is. refl } where
  append_none : (es : List Entry) → es ++ [] ≡ es
  append_none [] = refl
  append_none (e ∷ es) = ap (λ (xs : List Entry). e ∷ xs) (append_none es)

-- ---- what is shared

abbrev pub sharing : Seen → List Entry → Boxes → Orders → Shared
sharing seen book boxes orders = record { config = seen.config; book = book; boxes = boxes; orders = orders }

-- a step after which the office has seen this
pub meets_by : (orders : Orders) (o : Outside) (old new : PumpSight) (before after : Boxes) → IsSame old.seen new.seen → Sees old.seen new.seen.entries
    → IsTold old.boxes.told before → length before ≡ old.seen.config.workers + 1 → IsTold new.boxes.told after → MailMoves old.boxes new.boxes before after
    → Meets orders (shared_sight o old) (shared_sight o new) (sharing old.seen new.seen.entries before orders) (sharing old.seen new.seen.entries after orders)
meets_by orders o old new before after same sees was long is moves = record {
  config = refl;
  same = same;
  book = sees;
  wrote = refl;
  boxes = was;
  count = long;
  boxes_after = is;
  moves = moves;
  orders_are = refl;
}

-- and there are as many inboxes as before
pub known_by : (old new : PumpSight) (after : Boxes) → IsSame old.seen new.seen → IsTold new.boxes.told after → length after ≡ old.seen.config.workers + 1 → PumpKnown new
known_by old new after same is long = record {
  boxes = as_many new.boxes.told after (new.seen.config.workers + 1) is (long ∙ ap (λ c. c.workers + 1) (sym same.config));
}

pub same_office : (old new : Seen) → new ≡ old → IsSame old new
same_office old new same = record { config = ap (λ (x : Seen). x.config) same; whole = ap (λ (x : Seen). x.is_whole) same }

pub sees_new : (old new : Seen) → new ≡ old → Sees old new.entries
sees_new old new same = subst (λ (x : Seen). Sees old x.entries) (sym same) (sees_same old)
