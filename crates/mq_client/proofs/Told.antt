-- What items bring, one behind the other, up to the last event.
use Rattle.std.proofs.Common.{◌≡◌, Bool, true, false, cond, ◌||◌, List, [], ◌∷◌, ◌++◌, Option, Some, None, refl, sym, ap, ◌∙◌, arith, append_assoc, append-nil}
use Rattle.std.specs.Prelude.{option_to_list}
use Rattle.std.specs.Iterator.{Yields}
use Rattle.std.specs.List.{filter_map, list_any, cons_option}
use Rattle.std.specs.Vec.Iter.{into_iter_items, into_iter_len, into_iter_steps}
use Rattle.std.specs.declared.vec.IntoIter.{IntoIter}
use Rattle.std.proofs.lemmas.List.{nil_from_length}
use Rattle.std.proofs.lemmas.List.Elements.{filter_map-append}
use Rattle.std.proofs.lemmas.List.Folds.{list_any-append}
use Rattle.mq_capsule.specs.declared.item.Item.{Item}
use Rattle.mq_client.specs.declared.event.ClientEvent.{ClientEvent}
use Rattle.mq_client.specs.Events.{is_last, event_of, up_to_last, events_of, TellsItem}

abbrev pub ended : List ClientEvent → Bool
ended events = list_any is_last events

pub ended_both : (xs ys : List ClientEvent) → ended (xs ++ ys) ≡ (ended xs || ended ys)
ended_both xs ys = list_any-append is_last xs ys

on_by : (b a : Bool) (e : ClientEvent) (all front more : List ClientEvent) → all ≡ front ++ cond a [] more
    → e ∷ cond b [] all ≡ (e ∷ cond b [] front) ++ cond (b || a) [] more
on_by true a e all front more is = refl
on_by false a e all front more is = ap (λ (l : List ClientEvent). e ∷ l) is

-- what comes later follows, where no event was the last before
up_on : (events more : List ClientEvent) → up_to_last (events ++ more) ≡ up_to_last events ++ cond (ended events) [] (up_to_last more)
up_on [] more = refl
up_on (e ∷ events) more =
    on_by (is_last e) (ended events) e (up_to_last (events ++ more)) (up_to_last events) (up_to_last more) (up_on events more)

any_by : (b : Bool) (front events : List ClientEvent) → ended front ≡ ended events → (b || ended (cond b [] front)) ≡ (b || ended events)
any_by true front events e = refl
any_by false front events e = e

-- the last event isn't left out
up_any : (events : List ClientEvent) → ended (up_to_last events) ≡ ended events
up_any [] = refl
up_any (e ∷ events) = any_by (is_last e) (up_to_last events) events (up_any events)

pub events_on : (items more : List Item) → events_of (items ++ more) ≡ events_of items ++ cond (ended (events_of items)) [] (events_of more)
events_on items more =
    let front = filter_map event_of items in
    ap up_to_last (filter_map-append event_of items more) ∙ up_on front (filter_map event_of more)
    ∙ ap (λ (b : Bool). events_of items ++ cond b [] (events_of more)) (sym (up_any front))

pub events_open : (items more : List Item) → ended (events_of items) ≡ false → events_of (items ++ more) ≡ events_of items ++ events_of more
events_open items more none = events_on items more ∙ ap (λ (b : Bool). events_of items ++ cond b [] (events_of more)) none

pub events_over : (items more : List Item) → ended (events_of items) ≡ true → events_of (items ++ more) ≡ events_of items
events_over items more over =
    events_on items more ∙ ap (λ (b : Bool). events_of items ++ cond b [] (events_of more)) over ∙ append-nil (events_of items)

one_event : (o : Option ClientEvent) → up_to_last (cons_option o []) ≡ option_to_list o
one_event None = refl
one_event (Some e) = only (is_last e)
  where
    only : (b : Bool) → e ∷ cond b [] [] ≡ e ∷ []
    only true = refl
    only false = refl

-- ---- the items that were told so far

abbrev pub Told : List Item → List ClientEvent → List ClientEvent → Type 0
Told items old new = (new ≡ old ++ events_of items) × (ended (events_of items) ≡ false)

pub told_none : (old : List ClientEvent) → Told [] old old
told_none old = (sym (append-nil old), refl)

-- one more
pub told_next : (items : List Item) (i : Item) (old mid new : List ClientEvent) (last : Bool) → Told items old mid → TellsItem i mid new last
    → (new ≡ old ++ events_of (items ++ i ∷ [])) × (last ≡ ended (events_of (items ++ i ∷ [])))
told_next items i old mid new last was tells =
    let more = events_of (i ∷ []) in
    let here : more ≡ option_to_list (event_of i) = one_event (event_of i) in
    let both : events_of (items ++ i ∷ []) ≡ events_of items ++ more = events_open items (i ∷ []) was.1 in (
      tells.0 ∙ ap (λ (l : List ClientEvent). l ++ option_to_list (event_of i)) was.0
          ∙ append_assoc old (events_of items) (option_to_list (event_of i))
          ∙ ap (λ (l : List ClientEvent). old ++ (events_of items ++ l)) (sym here) ∙ ap (λ (l : List ClientEvent). old ++ l) (sym both),
      tells.1 ∙ ap ended (sym here) ∙ ap (λ (b : Bool). b || ended more) (sym was.1) ∙ sym (ended_both (events_of items) more)
          ∙ ap ended (sym both),
    )

-- the last event is told, and what stands behind it isn't
pub told_last : (items before : List Item) (i : Item) (rest : List Item) (old mid new : List ClientEvent) (last : Bool) → items ≡ before ++ i ∷ rest
    → Told before old mid → TellsItem i mid new last → last ≡ true → (new ≡ old ++ events_of items) × (true ≡ ended (events_of items))
told_last items before i rest old mid new last are was tells is =
    let next = told_next before i old mid new last was tells in
    let all : items ≡ (before ++ i ∷ []) ++ rest = are ∙ sym (append_assoc before (i ∷ []) rest) in
    let over : ended (events_of (before ++ i ∷ [])) ≡ true = sym next.1 ∙ is in
    let same : events_of (before ++ i ∷ []) ≡ events_of items = sym (ap events_of all ∙ events_over (before ++ i ∷ []) rest over) in
    (next.0 ∙ ap (λ (l : List ClientEvent). old ++ l) same, sym over ∙ ap ended same)

-- what the iterator of a vector has given is a front of its items
pub taken_front : {X A : Type 0} (s : IntoIter X A) (xs : List X) (t : IntoIter X A) → Yields into_iter_steps s xs t → into_iter_items s ≡ xs ++ into_iter_items t
taken_front s [] t y = ap into_iter_items y
taken_front s (x ∷ xs) t y = y.1.0 ∙ ap (λ ys. x ∷ ys) (taken_front y.0 xs t y.2)

pub none_left : {X A : Type 0} (it : IntoIter X A) → into_iter_len it ≡ 0 → into_iter_items it ≡ []
none_left it none = nil_from_length (into_iter_items it) (let is = it.rest.ok in omega arith)

-- with the one that comes
pub taken_next : {X A : Type 0} (s : IntoIter X A) (xs : List X) (t u : IntoIter X A) (x : X) → Yields into_iter_steps s xs t
    → into_iter_items t ≡ x ∷ into_iter_items u → into_iter_items s ≡ xs ++ x ∷ into_iter_items u
taken_next s xs t u x y e = taken_front s xs t y ∙ ap (λ l. xs ++ l) e
