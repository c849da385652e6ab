-- A key after a push or a pop.
use Rattle.std.proofs.Common.{◌≡◌, ℕ, zero, suc, ◌+◌, ◌<◌, List, [], ◌∷◌, ◌++◌, length, map, set, get_or, slice_get, Option, Some, sym, refl, ap, ◌∙◌, subst, length-append, arith}
use Rattle.std.specs.Option.{unwrap_or, option_map}
use Rattle.std.proofs.lemmas.List.{append-nil}
use Rattle.std.proofs.lemmas.Option.{none-some, same_Some, slice_get-map, slice_get_read, slice_get_within}
use lib.ListN.{length-map}
use Rattle.std.proofs.Math.ListN.{length-set}
use Rattle.crossbeam_queue.specs.Passes.{view}
use Rattle.mq_talk.specs.declared.place.Parcel.{Parcel}
use Rattle.mq_mail.specs.declared.inbox_rule.Letter.{Letter}
use Rattle.mq_mail.specs.Keys.{InboxPass, id_of, first_pushed, pushed_of, count_of, IsWay, AreWays, IsKey}
use Rattle.crossbeam_queue.specs.declared.array_queue.Doing.{Doing}
use Rattle.crossbeam_queue.specs.declared.array_queue.Slotted.{Slotted}
use Rattle.crossbeam_queue.specs.Passes.{ruled_capacity}
use Rattle.mq_mail.specs.declared.inbox_rule.Part.{Part}
use Rattle.mq_mail.specs.Letters.{AreNumbered}
use Rattle.mq_mail.specs.PostParts.{HaveRoom}
use Rattle.mq_mail.specs.Posts.{pushed_to, with_pushed, WasFull}

pub at_map : {A B : Type 0} (f : A → B) (xs : List A) (i : ℕ) (x : A) → slice_get xs i ≡ Some x → slice_get (map f xs) i ≡ Some (f x)
at_map {A} f xs i x e = slice_get-map f xs i ∙ ap (λ (o : Option A). option_map f o) e

-- two lists that look the same, at one place
pub alike : {A B C : Type 0} (f : A → C) (g : B → C) (xs : List A) (ys : List B) (i : ℕ) (x : A) (y : B) → map f xs ≡ map g ys → slice_get xs i ≡ Some x → slice_get ys i ≡ Some y → f x ≡ g y
alike {A} {B} {C} f g xs ys i x y e a b = same_Some (f x) (g y) (sym (at_map f xs i x a) ∙ ap (λ (l : List C). slice_get l i) e ∙ at_map g ys i y b)

map_set : {A B : Type 0} (f : A → B) (xs : List A) (i : ℕ) (x : A) → map f (set xs i x) ≡ set (map f xs) i (f x)
map_set f [] i x = refl
map_set f (y ∷ ys) zero x = refl
map_set {A} {B} f (y ∷ ys) (suc i) x = ap (λ (l : List B). f y ∷ l) (map_set f ys i x)

same_set : {A B : Type 0} (f : A → B) (xs : List A) (i : ℕ) (x x' : A) → slice_get xs i ≡ Some x → f x' ≡ f x → map f (set xs i x') ≡ map f xs
same_set f [] i x x' at e = refl
same_set {A} {B} f (y ∷ ys) zero x x' at e = ap (λ (z : B). z ∷ map f ys) (e ∙ ap f (sym (same_Some y x at)))
same_set {A} {B} f (y ∷ ys) (suc i) x x' at e = ap (λ (l : List B). f y ∷ l) (same_set f ys i x x' at e)

pub way_at : (actor : ℕ) (ways : List InboxPass) (i : ℕ) (p : InboxPass) → AreWays actor ways → slice_get ways i ≡ Some p → IsWay actor p
way_at actor [] i p h at = absurd (none-some p at)
way_at actor (q ∷ qs) zero p h at = let P : InboxPass → Type 0 = IsWay actor in subst P (same_Some q p at) h.0
way_at actor (q ∷ qs) (suc i) p h at = way_at actor qs i p h.1 at

ways_set : (actor : ℕ) (ways : List InboxPass) (i : ℕ) (p : InboxPass) → AreWays actor ways → IsWay actor p → AreWays actor (set ways i p)
ways_set actor [] i p h w = tt
ways_set actor (q ∷ qs) zero p h w = (w, h.1)
ways_set actor (q ∷ qs) (suc i) p h w = (h.0, ways_set actor qs i p h.1 w)

-- a pass whose actor has pushed these
way_of : (actor : ℕ) (p : InboxPass) (xs : List Parcel) → p.me.1 ≡ [] → (view p).owns ≡ (actor, xs) ∷ [] → IsWay actor p
way_of actor p xs rest e = record { rest = rest; owns = e ∙ ap (λ (l : List Parcel). (actor, l) ∷ []) (sym (ap first_pushed e)) }

pub key_more : (actor : ℕ) (ways : List InboxPass) (counts : List ℕ) (inbox : InboxPass) (count to place : ℕ) (p p' : InboxPass) (x : Parcel) → IsKey actor ways counts inbox count
    → slice_get ways to ≡ Some p → p'.table_id ≡ p.table_id → p'.me.1 ≡ [] → (view p').owns ≡ (actor, pushed_of p ++ x ∷ []) ∷ [] → place ≡ count_of p
    → IsKey actor (set ways to p') (set counts to (place + 1)) inbox count
key_more actor ways counts inbox count to place p p' x h at id rest owns is =
    let pushed : pushed_of p' ≡ pushed_of p ++ x ∷ [] = ap first_pushed owns in
    let more : place + 1 ≡ count_of p' = omega (arith, ap length pushed, length-append (pushed_of p) (x ∷ []), is) in
    record {
      ways = ways_set actor ways to p' h.ways (way_of actor p' (pushed_of p ++ x ∷ []) rest owns);
      counts = ap (λ (l : List ℕ). set l to (place + 1)) h.counts ∙ ap (λ n. set (map count_of ways) to n) more ∙ sym (map_set count_of ways to p');
      own = ap (λ l. slice_get l actor) (same_set id_of ways to p p' at id) ∙ h.own;
      rest = h.rest;
      pops = h.pops;
      made = h.made ∙ sym (length-set ways to p');
      count = h.count;
    }

pub key_same : (actor : ℕ) (ways : List InboxPass) (counts : List ℕ) (inbox : InboxPass) (count to : ℕ) (p p' : InboxPass) → IsKey actor ways counts inbox count
    → slice_get ways to ≡ Some p → p'.table_id ≡ p.table_id → p'.me.1 ≡ [] → (view p').owns ≡ (view p).owns → IsKey actor (set ways to p') counts inbox count
key_same actor ways counts inbox count to p p' h at id rest owns =
    let pushed : pushed_of p' ≡ pushed_of p = ap first_pushed owns in
    record {
      ways = ways_set actor ways to p' h.ways (way_of actor p' (pushed_of p) rest (owns ∙ (way_at actor ways to p h.ways at).owns));
      counts = h.counts ∙ sym (same_set count_of ways to p p' at (ap length pushed));
      own = ap (λ l. slice_get l actor) (same_set id_of ways to p p' at id) ∙ h.own;
      rest = h.rest;
      pops = h.pops;
      made = h.made ∙ sym (length-set ways to p');
      count = h.count;
    }

pub ids_same : (ways : List InboxPass) (to : ℕ) (p p' : InboxPass) → slice_get ways to ≡ Some p → p'.table_id ≡ p.table_id → map id_of (set ways to p') ≡ map id_of ways
ids_same ways to p p' at id = same_set id_of ways to p p' at id

pub pushed_more : (ways : List InboxPass) (to : ℕ) (p p' : InboxPass) (x : Parcel) (actor : ℕ) → slice_get ways to ≡ Some p → (view p').owns ≡ (actor, pushed_of p ++ x ∷ []) ∷ []
    → map pushed_of (set ways to p') ≡ with_pushed (map pushed_of ways) to x
pushed_more ways to p p' x actor at owns =
    let here : pushed_to (map pushed_of ways) to ≡ pushed_of p = ap (λ (o : Option (List Parcel)). unwrap_or o []) (at_map pushed_of ways to p at) in
    map_set pushed_of ways to p' ∙ ap (λ (l : List Parcel). set (map pushed_of ways) to l) (ap first_pushed owns ∙ ap (λ (l : List Parcel). l ++ x ∷ []) (sym here))

pub pushed_same : (ways : List InboxPass) (to : ℕ) (p p' : InboxPass) → slice_get ways to ≡ Some p → (view p').owns ≡ (view p).owns → map pushed_of (set ways to p') ≡ map pushed_of ways
pushed_same ways to p p' at owns = same_set pushed_of ways to p p' at (ap first_pushed owns)

-- what a read at an index gave
pub read_at : {A : Type 0} (xs : List A) (i : ℕ) (x : A) → i < length xs → x ≡ get_or xs i x → slice_get xs i ≡ Some x
read_at xs i x lt e = slice_get_read xs (length xs) i x refl lt e

pub within : {A C : Type 0} (f : A → C) (xs : List A) (ids : List C) (i : ℕ) → map f xs ≡ ids → i < length ids → i < length xs
within f xs ids i e lt = omega (arith, length-map xs f, ap length e)

pub count_at : (ways : List InboxPass) (counts : List ℕ) (to : ℕ) (p : InboxPass) (n : ℕ) → counts ≡ map count_of ways → slice_get ways to ≡ Some p → n ≡ get_or counts to n → n ≡ count_of p
count_at ways counts to p n h at e =
    let far = slice_get_within ways to p at in
    let lt : to < length counts = omega (arith, ap length h, length-map ways count_of) in
    same_Some n (count_of p) (sym (read_at counts to n lt e) ∙ ap (λ (l : List ℕ). slice_get l to) h ∙ at_map count_of ways to p at)

pub room_at : {Q A : Type 0} (capacity : ℕ) (inboxes : List (Slotted (Option Letter) (Doing Letter Part) Q A)) (i : ℕ) (q : Slotted (Option Letter) (Doing Letter Part) Q A)
    → HaveRoom capacity inboxes → slice_get inboxes i ≡ Some q → ruled_capacity q ≡ capacity
room_at capacity [] i q h at = absurd (none-some q at)
room_at {Q} {A} capacity (x ∷ xs) zero q h at = sym (ap (λ (y : Slotted (Option Letter) (Doing Letter Part) Q A). ruled_capacity y) (same_Some x q at)) ∙ h.0
room_at capacity (x ∷ xs) (suc i) q h at = room_at capacity xs i q h.1 at

pub full_as : (c c' a a' : ℕ) (xs xs' : List Parcel) → c ≡ c' → a ≡ a' → xs ≡ xs' → WasFull c a xs → WasFull c' a' xs'
full_as c c' a a' xs xs' e f g h = let P : ℕ × ℕ × List Parcel → Type 0 = λ y. WasFull y.0 y.1 y.2 in subst P (λ i. (e i, f i, g i)) h

pub pushed_at : (ways : List InboxPass) (to : ℕ) (p : InboxPass) → slice_get ways to ≡ Some p → pushed_of p ≡ pushed_to (map pushed_of ways) to
pushed_at ways to p at = sym (ap (λ (o : Option (List Parcel)). unwrap_or o []) (at_map pushed_of ways to p at))

pub none_left : (popped items : List Letter) → length items ≡ 0 → AreNumbered (popped ++ items) → AreNumbered popped
none_left popped [] z h = subst AreNumbered (append-nil popped) h
none_left popped (x ∷ xs) z h = absurd (omega arith)
