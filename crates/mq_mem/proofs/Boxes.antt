-- Inboxes of which one changes.
use Rattle.std.proofs.Common.{◌≡◌, ℕ, ◌+◌, add-one, ◌<◌, zero, suc, List, [], ◌∷◌, ◌++◌, length, get_or, slice_set, slice_get, Option, Some, None, refl, sym, ap, ◌∙◌}
use borrow.Author.Tests.{lt-ltb, le-ltb}
use Rattle.std.specs.Option.{unwrap_or}
use Rattle.std.proofs.lemmas.Option.{slice_get_read}
use Rattle.std.proofs.lemmas.List.{set-get_or}
use Rattle.mq_talk.specs.declared.place.Parcel.{Parcel}
use Rattle.mq_talk.specs.declared.place.Pushed.{Pushed}
use Rattle.mq_talk.specs.declared.place.Pushed.TheVariants as pushed
use Rattle.mq_talk.specs.Mails.{Boxes, PushDoes, PushGives, PopDoes, PopGives, box_at}
use Rattle.mq_mem.specs.Mails.{Pushes, Pops, empty_boxes, shown}

more_empty : (count : ℕ) → empty_boxes count ++ [] ∷ [] ≡ empty_boxes (suc count)
more_empty zero = refl
more_empty (suc count) = ap (λ (boxes : Boxes). [] ∷ boxes) (more_empty count)

-- one empty inbox more
pub one_more : (old new : Boxes) (inbox : List Parcel) (count : ℕ) → old ≡ empty_boxes count → inbox ≡ [] → new ≡ old ++ inbox ∷ [] → new ≡ empty_boxes (count + 1)
one_more old new inbox count before empty is = rw (add-one count) (
    is ∙ ap (λ (b : List Parcel). old ++ b ∷ []) empty ∙ ap (λ (boxes : Boxes). boxes ++ [] ∷ []) before ∙ more_empty count
    )

pub length_empty : (count : ℕ) → length (empty_boxes count) ≡ count
length_empty zero = refl
length_empty (suc count) = ap (λ n. suc n) (length_empty count)

found : (items : Boxes) (i : ℕ) (box : List Parcel) → i < length items → box ≡ get_or items i box → slice_get items i ≡ Some box
found items i box within is = slice_get_read items (length items) i box refl within is

box_found : (items : Boxes) (i : ℕ) (box : List Parcel) → slice_get items i ≡ Some box → box_at items i ≡ box
box_found items i box is = ap (λ (b : Option (List Parcel)). unwrap_or b []) is

unchanged : (items : Boxes) (i : ℕ) (box : List Parcel) → box ≡ get_or items i box → slice_set items i box ≡ items
unchanged items i box is = ap (λ (b : List Parcel). slice_set items i b) is ∙ set-get_or items i box

push_does : (items : Boxes) (to : ℕ) (parcel : Parcel) (answer : Pushed) (box after : List Parcel) → to < length items → box ≡ get_or items to box
    → Pushes box parcel answer after → PushDoes answer items to parcel (slice_set items to after)
push_does items to parcel pushed.Taken box after within is pushes =
    let here : box_at items to ≡ box = box_found items to box (found items to box within is) in
    (rw here (lt-ltb _ _ pushes.0), ap (λ (b : List Parcel). slice_set items to b) (pushes.1 ∙ ap (λ (b : List Parcel). b ++ parcel ∷ []) (sym here)))
push_does items to parcel (pushed.Full back) box after within is pushes =
    let here : box_at items to ≡ box = box_found items to box (found items to box within is) in
    (rw here (le-ltb _ _ pushes.0), ap (λ (b : List Parcel). slice_set items to b) pushes.1 ∙ unchanged items to box is, pushes.2)

pub push_gives : (items : Boxes) (to : ℕ) (parcel : Parcel) (answer : Pushed) (box after : List Parcel) → to < length items
    → box ≡ get_or items to box → Pushes box parcel answer after → PushGives (length items) (shown items) to parcel answer (shown (slice_set items to after))
push_gives items to parcel answer box after within is pushes = record {
  before = items;
  after = slice_set items to after;
  size = refl;
  was = refl;
  is = refl;
  tells = refl;
  goes = refl;
  does = push_does items to parcel answer box after within is pushes;
}

pop_does : (items : Boxes) (of : ℕ) (answer : Option Parcel) (box after : List Parcel) → of < length items → box ≡ get_or items of box → Pops box answer after
    → PopDoes answer items of (slice_set items of after)
pop_does items of None box after within is pops =
    (box_found items of box (found items of box within is) ∙ pops.0, ap (λ (b : List Parcel). slice_set items of b) pops.1 ∙ unchanged items of box is)
pop_does items of (Some parcel) box after within is pops =
    (after, found items of box within is ∙ ap (λ (b : List Parcel). Some b) pops.0, refl, pops.1)

pub pop_gives : (items : Boxes) (of : ℕ) (answer : Option Parcel) (box after : List Parcel) → of < length items → box ≡ get_or items of box
    → Pops box answer after → PopGives (length items) (shown items) of answer (shown (slice_set items of after))
pop_gives items of answer box after within is pops = record {
  before = items;
  after = slice_set items of after;
  size = refl;
  was = refl;
  is = refl;
  tells = refl;
  goes = refl;
  does = pop_does items of answer box after within is pops;
}
