-- How the passes of a matrix come, one after another.
use Rattle.std.proofs.Common.{◌≡◌, ℕ, zero, suc, ◌+◌, add-one, add-zero, zero-add, List, [], ◌∷◌, ◌++◌, length, map, set, replicate, slice_get, Option, Some, Vec, sym, refl, ap, ◌∙◌, subst, append_assoc, arith}
use Rattle.std.proofs.lemmas.Option.{none-some, same_Some}
use Rattle.atomic_table.specs.Seated.{TableId}
use Rattle.crossbeam_queue.specs.declared.array_queue.Doing.{Doing}
use Rattle.crossbeam_queue.specs.declared.array_queue.Slotted.{Slotted}
use Rattle.crossbeam_queue.specs.Passes.{view, ruled_capacity}
use Rattle.mq_talk.specs.declared.place.Parcel.{Parcel}
use Rattle.mq_mail.specs.declared.inbox_rule.Letter.{Letter}
use Rattle.mq_mail.specs.declared.inbox_rule.Part.{Part}
use Rattle.mq_mail.specs.InboxRule.{pusher, popper}
use Rattle.mq_mail.specs.Keys.{InboxPass, id_of, first_pushed, pushed_of, count_of, AreWays, IsKey}
use Rattle.mq_mail.specs.Made.{IsFirst, IsNewWay, AreFirsts, AreWaysTo, AreRows, AreLast}
use Rattle.mq_mail.specs.PostParts.{inbox_id, HaveRoom}
use Rattle.mq_mail.specs.Posts.{PostId, KeyOf, new_key, new_keys}

firsts_more : (made : ℕ) (ids : List TableId) (ps : List InboxPass) (id : TableId) (p : InboxPass) → AreFirsts made ids ps → IsFirst made id p → AreFirsts made (ids ++ id ∷ []) (ps ++ p ∷ [])
firsts_more made [] [] id p h f = (f, tt)
firsts_more made [] (x ∷ xs) id p h f = absurd h
firsts_more made (i ∷ is) [] id p h f = absurd h
firsts_more made (i ∷ is) (x ∷ xs) id p h f = (h.0, firsts_more made is xs id p h.1 f)

module _ {Q A : Type 0} where
  map_more : (qs : List (Slotted (Option Letter) (Doing Letter Part) Q A)) (q : Slotted (Option Letter) (Doing Letter Part) Q A) → map inbox_id (qs ++ q ∷ []) ≡ map inbox_id qs ++ inbox_id q ∷ []
  map_more [] q = refl
  map_more (x ∷ xs) q = ap (λ (l : List TableId). inbox_id x ∷ l) (map_more xs q)

  -- one inbox more, with its first pass
  pub inbox_more : (qs : List (Slotted (Option Letter) (Doing Letter Part) Q A)) (ps : List InboxPass) (q : Slotted (Option Letter) (Doing Letter Part) Q A) (p : InboxPass) (qs' : List (Slotted (Option Letter) (Doing Letter Part) Q A)) (ps' : List InboxPass)
      → AreFirsts 0 (map inbox_id qs) ps → qs' ≡ qs ++ q ∷ [] → ps' ≡ ps ++ p ∷ [] → p.table_id ≡ inbox_id q → p.me.1 ≡ [] → view p ≡ popper 0 [] → AreFirsts 0 (map inbox_id qs') ps'
  inbox_more qs ps q p qs' ps' h more_q more_p id rest knows =
      let P : List TableId × List InboxPass → Type 0 = λ y. AreFirsts 0 y.0 y.1 in
      let e : map inbox_id qs' ≡ map inbox_id qs ++ inbox_id q ∷ [] = ap (λ (l : List (Slotted (Option Letter) (Doing Letter Part) Q A)). map inbox_id l) more_q ∙ map_more qs q in
      subst P (λ i. (sym e i, sym more_p i)) (firsts_more 0 (map inbox_id qs) ps (inbox_id q) p h (record { id = id; rest = rest; knows = knows }))

  has_room : (capacity : ℕ) (qs : List (Slotted (Option Letter) (Doing Letter Part) Q A)) (q : Slotted (Option Letter) (Doing Letter Part) Q A) → HaveRoom capacity qs → ruled_capacity q ≡ capacity → HaveRoom capacity (qs ++ q ∷ [])
  has_room capacity [] q h r = (r, tt)
  has_room capacity (x ∷ xs) q h r = (h.0, has_room capacity xs q h.1 r)

  pub room_more : (capacity : ℕ) (qs : List (Slotted (Option Letter) (Doing Letter Part) Q A)) (q : Slotted (Option Letter) (Doing Letter Part) Q A) (qs' : List (Slotted (Option Letter) (Doing Letter Part) Q A))
      → HaveRoom capacity qs → qs' ≡ qs ++ q ∷ [] → ruled_capacity q ≡ capacity → HaveRoom capacity qs'
  room_more capacity qs q qs' h e r = let P : List (Slotted (Option Letter) (Doing Letter Part) Q A) → Type 0 = HaveRoom capacity in subst P (sym e) (has_room capacity qs q h r)

-- the first i of them have made one more
abbrev pub AreHalfway : ℕ → ℕ → List TableId → List InboxPass → Type 0
AreHalfway made zero ids ps = AreFirsts made ids ps
AreHalfway made (suc i) [] ps = ⊥
AreHalfway made (suc i) (id ∷ ids) [] = ⊥
AreHalfway made (suc i) (id ∷ ids) (p ∷ ps) = IsFirst (suc made) id p × AreHalfway made i ids ps

pub half_length : (made i : ℕ) (ids : List TableId) (ps : List InboxPass) → AreHalfway made i ids ps → length ps ≡ length ids
half_length made zero [] [] h = refl
half_length made zero [] (p ∷ ps) h = absurd h
half_length made zero (id ∷ ids) [] h = absurd h
half_length made zero (id ∷ ids) (p ∷ ps) h = ap suc (half_length made zero ids ps h.1)
half_length made (suc i) [] ps h = absurd h
half_length made (suc i) (id ∷ ids) [] h = absurd h
half_length made (suc i) (id ∷ ids) (p ∷ ps) h = ap suc (half_length made i ids ps h.1)

-- the next one has made no more yet
pub half_at : (made i : ℕ) (ids : List TableId) (ps : List InboxPass) (id : TableId) (p : InboxPass) → AreHalfway made i ids ps → slice_get ids i ≡ Some id → slice_get ps i ≡ Some p → IsFirst made id p
half_at made zero [] ps id p h a b = absurd (none-some id a)
half_at made zero (x ∷ ids) [] id p h a b = absurd h
half_at made zero (x ∷ ids) (y ∷ ps) id p h a b = let P : TableId × InboxPass → Type 0 = λ z. IsFirst made z.0 z.1 in subst P (λ k. (same_Some x id a k, same_Some y p b k)) h.0
half_at made (suc i) [] ps id p h a b = absurd h
half_at made (suc i) (x ∷ ids) [] id p h a b = absurd h
half_at made (suc i) (x ∷ ids) (y ∷ ps) id p h a b = half_at made i ids ps id p h.1 a b

half_set : (made i : ℕ) (ids : List TableId) (ps : List InboxPass) (id : TableId) (p : InboxPass) → AreHalfway made i ids ps → slice_get ids i ≡ Some id → IsFirst (suc made) id p → AreHalfway made (suc i) ids (set ps i p)
half_set made zero [] ps id p h a f = absurd (none-some id a)
half_set made zero (x ∷ ids) [] id p h a f = absurd h
half_set made zero (x ∷ ids) (y ∷ ps) id p h a f = let P : TableId → Type 0 = λ z. IsFirst (suc made) z p in (subst P (sym (same_Some x id a)) f, h.1)
half_set made (suc i) [] ps id p h a f = absurd h
half_set made (suc i) (x ∷ ids) [] id p h a f = absurd h
half_set made (suc i) (x ∷ ids) (y ∷ ps) id p h a f = (h.0, half_set made i ids ps id p h.1 a f)

-- it made one more
pub half_more : (made i : ℕ) (ids : List TableId) (ps : List InboxPass) (id : TableId) (p p' : InboxPass) → AreHalfway made i ids ps → slice_get ids i ≡ Some id → IsFirst made id p
    → p'.table_id ≡ p.table_id → p'.me.1 ≡ p.me.1 → view p' ≡ record (view p) { made = suc (view p).made } → AreHalfway made (i + 1) ids (set ps i p')
half_more made i ids ps id p p' h a f same rest more =
    let P : ℕ → Type 0 = λ n. AreHalfway made n ids (set ps i p') in
    subst P (sym (add-one i)) (half_set made i ids ps id p' h a
    (record { id = same ∙ f.id; rest = rest ∙ f.rest; knows = more ∙ ap (λ (v : Part). record v { made = suc v.made }) f.knows }))

pub half_all : (made : ℕ) (ids : List TableId) (ps : List InboxPass) → AreHalfway made (length ids) ids ps → AreFirsts (suc made) ids ps
half_all made [] [] h = tt
half_all made [] (p ∷ ps) h = absurd h
half_all made (id ∷ ids) [] h = absurd h
half_all made (id ∷ ids) (p ∷ ps) h = (h.0, half_all made ids ps h.1)

ways_snoc : (actor i : ℕ) (ids : List TableId) (ws : List InboxPass) (id : TableId) (w : InboxPass) → AreWaysTo actor i ids ws → slice_get ids i ≡ Some id → IsNewWay actor id w → AreWaysTo actor (suc i) ids (ws ++ w ∷ [])
ways_snoc actor zero [] ws id w h a f = absurd (none-some id a)
ways_snoc actor zero (x ∷ ids) [] id w h a f = let P : TableId → Type 0 = λ z. IsNewWay actor z w in (subst P (sym (same_Some x id a)) f, tt)
ways_snoc actor zero (x ∷ ids) (y ∷ ws) id w h a f = absurd h
ways_snoc actor (suc i) [] ws id w h a f = absurd h
ways_snoc actor (suc i) (x ∷ ids) [] id w h a f = absurd h
ways_snoc actor (suc i) (x ∷ ids) (y ∷ ws) id w h a f = (h.0, ways_snoc actor i ids ws id w h.1 a f)

-- one way more, made by the pass of its inbox that pops
pub ways_more : (actor i : ℕ) (ids : List TableId) (ws ws' : List InboxPass) (id : TableId) (first w : InboxPass) → AreWaysTo actor i ids ws → slice_get ids i ≡ Some id → IsFirst actor id first
    → w.table_id ≡ id → w.me.1 ≡ [] → view w ≡ pusher (view first).made [] → ws' ≡ ws ++ w ∷ [] → AreWaysTo actor (i + 1) ids ws'
ways_more actor i ids ws ws' id first w h a f same rest knows more =
    let P : ℕ × List InboxPass → Type 0 = λ y. AreWaysTo actor y.0 ids y.1 in
    subst P (λ k. (sym (add-one i) k, sym more k)) (ways_snoc actor i ids ws id w h a
    (record { id = same; rest = rest; knows = knows ∙ ap (λ (v : Part). pusher v.made []) f.knows }))

rows_snoc : {A : Type 0} (from : ℕ) (ids : List TableId) (rows : List (Vec InboxPass A)) (row : Vec InboxPass A) → AreRows from ids rows → AreWaysTo (length rows + from) (length ids) ids row.items → AreRows from ids (rows ++ row ∷ [])
rows_snoc from ids [] row h w = let P : ℕ → Type 0 = λ n. AreWaysTo n (length ids) ids row.items in (subst P (zero-add from) w, tt)
rows_snoc from ids (r ∷ rs) row h w =
    let P : ℕ → Type 0 = λ n. AreWaysTo n (length ids) ids row.items in
    let e : length (r ∷ rs) + from ≡ length rs + suc from = omega arith in
    (h.0, rows_snoc (suc from) ids rs row h.1 (subst P e w))

pub rows_more : {A : Type 0} (actor : ℕ) (ids : List TableId) (rows rows' : List (Vec InboxPass A)) (row : Vec InboxPass A) → AreRows 0 ids rows → length rows ≡ actor → AreWaysTo actor (length ids) ids row.items
    → rows' ≡ rows ++ row ∷ [] → AreRows 0 ids rows'
rows_more {A} actor ids rows rows' row h n w more =
    let P : ℕ → Type 0 = λ n. AreWaysTo n (length ids) ids row.items in
    let Q : List (Vec InboxPass A) → Type 0 = AreRows 0 ids in
    let e : actor ≡ length rows + 0 = omega arith in
    subst Q (sym more) (rows_snoc 0 ids rows row h (subst P e w))

at_front : (front : List TableId) (id : TableId) (ids : List TableId) → slice_get (front ++ (id ∷ ids)) (length front) ≡ Some id
at_front [] id ids = refl
at_front (x ∷ xs) id ids = at_front xs id ids

longer : (front : List TableId) (id : TableId) → length (front ++ id ∷ []) ≡ suc (length front)
longer [] id = refl
longer (x ∷ xs) id = ap suc (longer xs id)

last_from : (made : ℕ) (front ids : List TableId) (ps : List InboxPass) → AreFirsts made ids ps → AreLast made (length front) (front ++ ids) ps
last_from made front [] [] h = tt
last_from made front [] (p ∷ ps) h = absurd h
last_from made front (id ∷ ids) [] h = absurd h
last_from made front (id ∷ ids) (p ∷ ps) h =
    let P : ℕ × List TableId → Type 0 = λ y. AreLast made y.0 y.1 ps in
    ((id, at_front front id ids, h.0), subst P (λ k. (longer front id k, append_assoc front (id ∷ []) ids k)) (last_from made (front ++ id ∷ []) ids ps h.1))

pub all_last : (made : ℕ) (ids : List TableId) (ps : List InboxPass) → AreFirsts made ids ps → AreLast made 0 ids ps
all_last made ids ps h = last_from made [] ids ps h

-- what an actor's new ways are
pub new_ways : (actor : ℕ) (ids : List TableId) (ws : List InboxPass) → AreWaysTo actor (length ids) ids ws
    → AreWays actor ws × (map id_of ws ≡ ids) × (map pushed_of ws ≡ map (λ _. []) ids) × (replicate (length ws) 0 ≡ map count_of ws) × (length ws ≡ length ids)
new_ways actor [] [] h = (tt, refl, refl, refl, refl)
new_ways actor [] (w ∷ ws) h = absurd h
new_ways actor (id ∷ ids) [] h = absurd h
new_ways actor (id ∷ ids) (w ∷ ws) h =
    let r = new_ways actor ids ws h.1 in
    let none : pushed_of w ≡ [] = ap (λ (v : Part). first_pushed v.owns) h.0.knows in (
      (record { rest = h.0.rest; owns = ap (λ (v : Part). v.owns) h.0.knows ∙ ap (λ (l : List Parcel). (actor, l) ∷ []) (sym none) }, r.0),
      (λ k. h.0.id k ∷ r.1 k),
      (λ k. none k ∷ r.2 k),
      (λ k. sym (ap length none) k ∷ r.3 k),
      ap suc r.4,
    )

pub is_key : (actor made : ℕ) (ids : List TableId) (id : TableId) (ws : List InboxPass) (counts : List ℕ) (p : InboxPass) → AreWaysTo actor (length ids) ids ws → slice_get ids actor ≡ Some id
    → IsFirst made id p → made ≡ length ids → counts ≡ replicate (length ws) 0 → IsKey actor ws counts p 0
is_key actor made ids id ws counts p ways at first all zeros =
    let new = new_ways actor ids ws ways in
    record {
      ways = new.0;
      counts = zeros ∙ new.3;
      own = ap (λ (l : List TableId). slice_get l actor) new.1 ∙ at ∙ ap Some (sym first.id);
      rest = first.rest;
      pops = ap (λ (v : Part). v.pops) first.knows;
      made = ap (λ (v : Part). v.made) first.knows ∙ all ∙ sym new.4;
      count = sym (ap (λ (v : Part). length v.popped) first.knows);
    }

pub is_new_key : (actor made : ℕ) (ids : List TableId) (id : TableId) (ws : List InboxPass) (p : InboxPass) → AreWaysTo actor (length ids) ids ws → IsFirst made id p
    → ◌≡◌ {A = KeyOf} (record { post = map id_of ws; actor = actor; pushed = map pushed_of ws; popped = (view p).popped }) (new_key ids actor)
is_new_key actor made ids id ws p ways first =
    let new = new_ways actor ids ws ways in
    λ k. record { post = new.1 k; actor = actor; pushed = new.2 k; popped = ap (λ (v : Part). v.popped) first.knows k }

pub keys_more : (ids : PostId) (from count : ℕ) → new_keys ids from (suc count) ≡ new_keys ids from count ++ new_key ids (count + from) ∷ []
keys_more ids from zero = ap (λ (n : ℕ). new_key ids n ∷ []) (sym (zero-add from))
keys_more ids from (suc count) =
    let e : count + suc from ≡ suc count + from = omega arith in
    ap (λ (l : List KeyOf). new_key ids from ∷ l) (keys_more ids (suc from) count ∙ ap (λ (n : ℕ). new_keys ids (suc from) count ++ new_key ids n ∷ []) e)

pub keys_next : (ids : PostId) (actor : ℕ) (keys new : List KeyOf) (key : KeyOf) → keys ≡ new_keys ids 0 actor → key ≡ new_key ids actor → new ≡ keys ++ key ∷ [] → new ≡ new_keys ids 0 (actor + 1)
keys_next ids actor keys new key was is more =
    more ∙ ap (λ (l : List KeyOf). l ++ key ∷ []) was ∙ ap (λ (k : KeyOf). new_keys ids 0 actor ++ k ∷ []) is
    ∙ ap (λ (n : ℕ). new_keys ids 0 actor ++ new_key ids n ∷ []) (sym (add-zero actor)) ∙ sym (keys_more ids 0 actor) ∙ ap (λ (n : ℕ). new_keys ids 0 n) (sym (add-one actor))

pub zeros : (n : ℕ) (ws : List InboxPass) (counts : List ℕ) → counts ≡ replicate n 0 → n ≡ length ws → counts ≡ replicate (length ws) 0
zeros n ws counts e f = e ∙ ap (λ (k : ℕ). replicate k 0) f
