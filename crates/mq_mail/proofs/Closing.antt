-- Each step of a close, from all keys to one pass of each inbox and its tally.
use Rattle.std.proofs.Common.{◌≡◌, ◌≢◌, ℕ, zero, suc, ◌+◌, ◌<◌, ◌≤◌, ◌⊎◌, inl, inr, true, List, [], ◌∷◌, ◌++◌, length, map, set, slice_get, Some, sym, refl, ap, ◌∙◌, subst, ⊎_elim, length-append, append_assoc, arith}
use lib.ListN.{length-map}
use Rattle.std.proofs.lemmas.List.{append-nil}
use Rattle.std.proofs.Math.ListN.{length-set}
use Rattle.std.proofs.lemmas.Option.{none-some, same_Some, slice_get_within}
use Rattle.atomic_table.specs.Seated.{TableId}
use Rattle.crossbeam_queue.specs.Passes.{view}
use Rattle.mq_talk.specs.declared.place.Parcel.{Parcel}
use Rattle.mq_mail.specs.declared.inbox_rule.Letter.{Letter}
use Rattle.mq_mail.specs.declared.inbox_rule.Part.{Part}
use Rattle.mq_mail.specs.declared.post.Tally.{Tally}
use Rattle.mq_mail.specs.Closing.{owns_to, TookWay, TookWays, AddsPopper, IsGathered, AreGathered}
use Rattle.mq_mail.specs.InboxRule.{AreAll}
use Rattle.mq_mail.specs.Keys.{InboxPass, id_of, pushed_of, count_of, AreWays, IsKey}
use Rattle.mq_mail.specs.Letters.{letters, of, pushed_by}
use Rattle.mq_mail.specs.Posts.{PostId, KeyOf, pushed_to}
use Rattle.mq_mail.specs.Tallies.{AreAllKeys, AreKeysOf, all_to, IsTallied, AreTalliedFrom, AreTallied}
use Rattle.mq_mail.proofs.Counting.{many_all, owned, counted}
use Rattle.mq_mail.proofs.KeyMoves.{way_at, pushed_at, ids_same}

-- one element changed
pub at_put : {A : Type 0} (xs : List A) (i j : ℕ) (x y : A) → slice_get (set xs i x) j ≡ Some y → ((j ≡ i) × (x ≡ y)) ⊎ ((j ≢ i) × (slice_get xs j ≡ Some y))
at_put [] i j x y e = absurd (none-some y e)
at_put (z ∷ zs) zero zero x y e = inl (refl, same_Some x y e)
at_put (z ∷ zs) zero (suc j) x y e = inr ((λ q. omega (arith, q)), e)
at_put (z ∷ zs) (suc i) zero x y e = inr ((λ q. omega (arith, q)), e)
at_put {A} (z ∷ zs) (suc i) (suc j) x y e = ⊎_elim (λ (t : (j ≡ i) × (x ≡ y)). inl (ap suc t.0, t.1))
    (λ (t : (j ≢ i) × (slice_get zs j ≡ Some y)). inr ((λ q. t.0 (omega (arith, q))), t.1))
    (at_put zs i j x y e)

put_here : {A : Type 0} (xs : List A) (i : ℕ) (x : A) → i < length xs → slice_get (set xs i x) i ≡ Some x
put_here [] i x lt = absurd (omega (arith, lt))
put_here (y ∷ ys) zero x lt = refl
put_here (y ∷ ys) (suc i) x lt = put_here ys i x (omega (arith, lt))

pub put_else : {A : Type 0} (xs : List A) (i j : ℕ) (x : A) → j ≢ i → slice_get (set xs i x) j ≡ slice_get xs j
put_else [] i j x ne = refl
put_else (y ∷ ys) zero zero x ne = absurd (ne refl)
put_else (y ∷ ys) zero (suc j) x ne = refl
put_else (y ∷ ys) (suc i) zero x ne = refl
put_else (y ∷ ys) (suc i) (suc j) x ne = put_else ys i j x (λ e. ne (ap suc e))

-- one element more
pub at_last : {A : Type 0} (xs : List A) (j : ℕ) (x y : A) → slice_get (xs ++ x ∷ []) j ≡ Some y → (slice_get xs j ≡ Some y) ⊎ ((j ≡ length xs) × (x ≡ y))
at_last [] zero x y e = inr (refl, same_Some x y e)
at_last [] (suc j) x y e = absurd (none-some y e)
at_last (z ∷ zs) zero x y e = inl e
at_last (z ∷ zs) (suc j) x y e = ⊎_elim (λ (t : slice_get zs j ≡ Some y). inl t) (λ (t : (j ≡ length zs) × (x ≡ y)). inr (ap suc t.0, t.1)) (at_last zs j x y e)

-- the passes up to one have taken in their ways, and the ways to the others are left
pub record AreHalfJoined (old ways : List InboxPass) (i : ℕ) (now rest : List InboxPass) : Type 0 where
  pub ids : map id_of now ≡ map id_of old
  pub done : (j : ℕ) (p : InboxPass) → j < i → slice_get now j ≡ Some p → TookWay old ways j p
  pub later : (j : ℕ) → i ≤ j → slice_get now j ≡ slice_get old j
  pub left : (j : ℕ) → slice_get rest j ≡ slice_get ways (j + i)
  pub size : length rest + i ≡ length old

pub joins_none : (old ways : List InboxPass) → length ways ≡ length old → AreHalfJoined old ways 0 old ways
joins_none old ways size = record {
  ids = refl;
  done = λ j p lt at. absurd (omega (arith, lt));
  later = λ j le. refl;
  left = λ j. let e : j ≡ j + 0 = omega arith in ap (λ (n : ℕ). slice_get ways n) e;
  size = omega (arith, size);
}

-- the way that is next
pub next_way : (old ways now left left' : List InboxPass) (i : ℕ) (w : InboxPass) → AreHalfJoined old ways i now left → left ≡ w ∷ left' → slice_get ways i ≡ Some w
next_way old ways now left left' i w h e =
    let z : 0 + i ≡ i = omega arith in
    sym (h.left 0 ∙ ap (λ (n : ℕ). slice_get ways n) z) ∙ ap (λ (l : List InboxPass). slice_get l 0) e

pub joins_more : (old ways now left left' : List InboxPass) (i : ℕ) (a w p : InboxPass) → AreHalfJoined old ways i now left → slice_get now i ≡ Some a → left ≡ w ∷ left'
    → p.table_id ≡ a.table_id → p.me.1 ≡ [] → view p ≡ record (view a) { owns = (view a).owns ++ (view w).owns } → AreHalfJoined old ways (i + 1) (set now i p) left'
joins_more old ways now left left' i a w p h at e id rest knows =
    let was : slice_get old i ≡ Some a = sym (h.later i (omega arith)) ∙ at in
    let here : TookWay old ways i p = record { was = a; way = w; was_there = was; way_there = next_way old ways now left left' i w h e; rest = rest; knows = knows } in
    record {
      ids = ids_same now i a p at id ∙ h.ids;
      done = λ j q lt there. ⊎_elim
          (λ (t : (j ≡ i) × (p ≡ q)). let P : ℕ × InboxPass → Type 0 = λ y. TookWay old ways y.0 y.1 in subst P (λ k. (sym t.0 k, t.1 k)) here)
          (λ (t : (j ≢ i) × (slice_get now j ≡ Some q)). h.done j q (omega (arith, lt, t.0)) t.1)
          (at_put now i j p q there);
      later = λ j le. put_else now i j p (λ same. omega (arith, le, same)) ∙ h.later j (omega (arith, le));
      left = λ j.
          let n : suc j + i ≡ j + (i + 1) = omega arith in
          sym (ap (λ (l : List InboxPass). slice_get l (suc j)) e) ∙ h.left (suc j) ∙ ap (λ (k : ℕ). slice_get ways k) n;
      size = omega (arith, h.size, ap (λ (l : List InboxPass). length l) e);
    }

pub joins_all : (old ways now left : List InboxPass) (i : ℕ) → AreHalfJoined old ways i now left → length old ≤ i → TookWays old ways now
joins_all old ways now left i h far = record {
  ids = h.ids;
  each = λ j p at.
      let within = slice_get_within now j p at in
      h.done j p (omega (arith, within, far, length-map now id_of, length-map old id_of, ap (λ (l : List TableId). length l) h.ids)) at;
}

owns_more : (keys : List KeyOf) (key : KeyOf) (inbox : ℕ) → owns_to (keys ++ key ∷ []) inbox ≡ owns_to keys inbox ++ (key.actor, pushed_to key.pushed inbox) ∷ []
owns_more [] key inbox = refl
owns_more (k ∷ ks) key inbox = ap (λ (l : List (ℕ × List Parcel)). (k.actor, pushed_to k.pushed inbox) ∷ l) (owns_more ks key inbox)

-- a key's way to an inbox pushes for its actor
owns_way : (key : KeyOf) (ways : List InboxPass) (i : ℕ) (w : InboxPass) → AreWays key.actor ways → map pushed_of ways ≡ key.pushed → slice_get ways i ≡ Some w
    → (view w).owns ≡ (key.actor, pushed_to key.pushed i) ∷ []
owns_way key ways i w are same at =
    (way_at key.actor ways i w are at).owns ∙ ap (λ (l : List Parcel). (key.actor, l) ∷ []) (pushed_at ways i w at ∙ ap (λ (l : List (List Parcel)). pushed_to l i) same)

-- the passes of the first key
pub first_gathered : (ids : List TableId) (key : KeyOf) (ways : List InboxPass) (counts : List ℕ) → map id_of ways ≡ ids → AreWays key.actor ways → map pushed_of ways ≡ key.pushed
    → counts ≡ map count_of ways → AreGathered ids (key ∷ []) [] ways counts
first_gathered ids key ways counts same are pushed numbers = record {
  ids = same;
  each = λ i p at. record {
    rest = (way_at key.actor ways i p are at).rest;
    owns = owns_way key ways i p are pushed at;
    pops = λ k there. absurd (none-some k there);
  };
  size = omega (arith, ap (λ (l : List ℕ). length l) numbers, length-map ways count_of, length-map ways id_of, ap (λ (l : List TableId). length l) same);
  counts = λ i k there. absurd (none-some k there);
}

-- the ways of one more key
pub more_pushers : (ids : List TableId) (pushers poppers : List KeyOf) (key : KeyOf) (old ways new : List InboxPass) (popped : List ℕ) → AreGathered ids pushers poppers old popped
    → TookWays old ways new → AreWays key.actor ways → map pushed_of ways ≡ key.pushed → AreGathered ids (pushers ++ key ∷ []) poppers new popped
more_pushers ids pushers poppers key old ways new popped h joined are same = record {
  ids = joined.ids ∙ h.ids;
  each = λ i p at.
      let t = joined.each i p at in
      let was = h.each i t.was t.was_there in
      let way = owns_way key ways i t.way are same t.way_there in
      record {
        rest = t.rest;
        owns = ap (λ (v : Part). v.owns) t.knows ∙ (λ k. was.owns k ++ way k) ∙ sym (owns_more pushers key i);
        pops = λ k there. let old = was.pops k there in (ap (λ (v : Part). v.pops) t.knows ∙ old.0, ap (λ (v : Part). v.popped) t.knows ∙ old.1, ap (λ (v : Part). v.made) t.knows ∙ old.2);
      };
  size = h.size;
  counts = h.counts;
}

-- the pass that pops one more inbox
pub more_poppers : (ids : List TableId) (pushers poppers : List KeyOf) (key : KeyOf) (old new : List InboxPass) (popped : List ℕ) (popper : InboxPass) (count : ℕ)
    → AreGathered ids pushers poppers old popped → AddsPopper key.actor popper old new → length poppers ≡ key.actor → (view popper).pops ≡ true → (view popper).popped ≡ key.popped
    → (view popper).made ≡ length key.post → count ≡ length key.popped → AreGathered ids pushers (poppers ++ key ∷ []) new (set popped key.actor count)
more_poppers ids pushers poppers key old new popped popper count h adds place pops same made number =
    let actor : ℕ = key.actor in
    let was = h.each actor adds.was adds.there in
    let far = slice_get_within old actor adds.was adds.there in
    let within : actor < length popped = omega (arith, far, h.size, length-map old id_of, ap (λ (l : List TableId). length l) h.ids) in
    let here : IsGathered pushers (poppers ++ key ∷ []) actor adds.is = record {
      rest = adds.rest;
      owns = ap (λ (v : Part). v.owns) adds.knows ∙ was.owns;
      pops = λ k there. ⊎_elim
          (λ (t : slice_get poppers actor ≡ Some k). absurd (omega (arith, slice_get_within poppers actor k t, place)))
          (λ (t : (actor ≡ length poppers) × (key ≡ k)). (
            ap (λ (v : Part). v.pops) adds.knows ∙ pops,
            ap (λ (v : Part). v.popped) adds.knows ∙ same ∙ ap (λ (l : KeyOf). l.popped) t.1,
            ap (λ (v : Part). v.made) adds.knows ∙ made ∙ ap (λ (l : KeyOf). length l.post) t.1,
          ))
          (at_last poppers actor key k there);
    } in
    record {
      ids = ap (λ (l : List InboxPass). map id_of l) adds.set ∙ ids_same old actor adds.was adds.is adds.there adds.id ∙ h.ids;
      each = λ i p at. ⊎_elim
          (λ (t : (i ≡ actor) × (adds.is ≡ p)). let P : ℕ × InboxPass → Type 0 = λ y. IsGathered pushers (poppers ++ key ∷ []) y.0 y.1 in subst P (λ k. (sym t.0 k, t.1 k)) here)
          (λ (t : (i ≢ actor) × (slice_get old i ≡ Some p)).
          let then = h.each i p t.1 in
          record {
            rest = then.rest;
            owns = then.owns;
            pops = λ k there. ⊎_elim (λ (s : slice_get poppers i ≡ Some k). then.pops k s)
                (λ (s : (i ≡ length poppers) × (key ≡ k)). absurd (t.0 (s.0 ∙ place)))
                (at_last poppers i key k there);
          })
          (at_put old actor i adds.is p (ap (λ (l : List InboxPass). slice_get l i) (sym adds.set) ∙ at));
      size = length-set popped actor count ∙ h.size;
      counts = λ i k there. ⊎_elim
          (λ (t : slice_get poppers i ≡ Some k). put_else popped actor i count (λ e. omega (arith, e, place, slice_get_within poppers i k t)) ∙ h.counts i k t)
          (λ (t : (i ≡ length poppers) × (key ≡ k)).
          let P : ℕ × KeyOf → Type 0 = λ y. slice_get (set popped actor count) y.0 ≡ Some (length y.1.popped) in
          let at : slice_get (set popped actor count) actor ≡ Some (length key.popped) = put_here popped actor count within ∙ ap Some number in
          subst P (λ j. (sym (t.0 ∙ place) j, t.1 j)) at)
          (at_last poppers i key k there);
    }

-- a pass that learned what is left changes nothing
pub gathered_same : (ids : List TableId) (keys : List KeyOf) (passes : List InboxPass) (popped : List ℕ) (i : ℕ) (p p' : InboxPass) → AreGathered ids keys keys passes popped
    → slice_get passes i ≡ Some p → p'.table_id ≡ p.table_id → p'.me.1 ≡ [] → view p' ≡ view p → AreGathered ids keys keys (set passes i p') popped
gathered_same ids keys passes popped i p p' h at id rest same =
    let was = h.each i p at in
    let here : IsGathered keys keys i p' = record {
      rest = rest;
      owns = ap (λ (v : Part). v.owns) same ∙ was.owns;
      pops = λ k there. let old = was.pops k there in (ap (λ (v : Part). v.pops) same ∙ old.0, ap (λ (v : Part). v.popped) same ∙ old.1, ap (λ (v : Part). v.made) same ∙ old.2);
    } in
    record {
      ids = ids_same passes i p p' at id ∙ h.ids;
      each = λ j q there. ⊎_elim
          (λ (t : (j ≡ i) × (p' ≡ q)). let P : ℕ × InboxPass → Type 0 = λ y. IsGathered keys keys y.0 y.1 in subst P (λ k. (sym t.0 k, t.1 k)) here)
          (λ (t : (j ≢ i) × (slice_get passes j ≡ Some q)). h.each j q t.1)
          (at_put passes i j p' q there);
      size = h.size;
      counts = h.counts;
    }

-- the tally of an inbox whose one pass took in all others
pub tally_is : (post : PostId) (keys : List KeyOf) (inbox : ℕ) (key : KeyOf) (p : InboxPass) (left : List Letter) (tally : Tally) → AreAllKeys post keys → IsGathered keys keys inbox p
    → slice_get keys inbox ≡ Some key → key.post ≡ post → AreAll (view p).owns (view p).made ((view p).popped ++ left) → tally.left ≡ length left → tally.popped ≡ length key.popped
    → tally.pushed ≡ tally.popped + tally.left → IsTallied (all_to keys inbox) key.popped tally
tally_is post keys inbox key p left tally are is at mine learned left_count popped_count adds_up =
    let pops = is.pops key at in
    let all : List Letter = key.popped ++ left in
    let P : List (ℕ × List Parcel) × ℕ × List Letter → Type 0 = λ y. AreAll y.0 y.1 (y.2 ++ left) in
    let count : (view p).made ≡ length keys = pops.2 ∙ ap (λ (l : PostId). length l) mine ∙ sym are.size in
    let knows : AreAll (owns_to keys inbox) (length keys) all = subst P (λ k. (is.owns k, count k, pops.1 k)) learned in
    let numbers = counted post keys 0 inbox all are.each knows.mine in
    let total = many_all (length keys) all knows.none in
    let sizes = length-append key.popped left in
    record {
      left = left;
      whole = λ actor.
          let Q : ℕ → Type 0 = λ n. of n all ≡ letters n (pushed_by (all_to keys inbox) actor) in
          let e : actor + 0 ≡ actor = omega arith in
          subst Q e (owned post keys 0 inbox actor all are.each knows.mine (λ q le. knows.none q (omega (arith, le))));
      pushed_count = omega (arith, numbers, total, sizes, left_count, popped_count, adds_up);
      popped_count = popped_count;
      left_count = left_count;
      adds_up = adds_up;
    }

key_at : (post : PostId) (from : ℕ) (keys : List KeyOf) (i : ℕ) (key : KeyOf) → AreKeysOf post from keys → slice_get keys i ≡ Some key → (key.post ≡ post) × (key.actor ≡ i + from)
key_at post from [] i key are at = absurd (none-some key at)
key_at post from (k ∷ ks) zero key are at =
    let P : KeyOf → Type 0 = λ y. (y.post ≡ post) × (y.actor ≡ zero + from) in
    subst P (same_Some k key at) (are.0, omega (arith, are.1))
key_at post from (k ∷ ks) (suc i) key are at =
    let r = key_at post (suc from) ks i key are.2 at in
    (r.0, omega (arith, r.1))

-- the key of an inbox's own actor
pub own_key : (post : PostId) (keys : List KeyOf) (i : ℕ) (key : KeyOf) → AreAllKeys post keys → slice_get keys i ≡ Some key → (key.post ≡ post) × (key.actor ≡ i)
own_key post keys i key are at = let r = key_at post 0 keys i key are.each at in (r.0, omega (arith, r.1))

tallied_from : (from : ℕ) (all keys : List KeyOf) (tallies : List Tally) → length tallies ≡ length keys
    → ((i : ℕ) (key : KeyOf) (tally : Tally) → slice_get keys i ≡ Some key → slice_get tallies i ≡ Some tally → IsTallied (all_to all (i + from)) key.popped tally) → AreTalliedFrom from all keys tallies
tallied_from from all [] [] size each = tt
tallied_from from all [] (t ∷ ts) size each = absurd (omega (arith, size))
tallied_from from all (k ∷ ks) [] size each = absurd (omega (arith, size))
tallied_from from all (k ∷ ks) (t ∷ ts) size each =
    let P : ℕ → Type 0 = λ n. IsTallied (all_to all n) k.popped t in
    let e : 0 + from ≡ from = omega arith in (
      subst P e (each 0 k t refl refl),
      tallied_from (suc from) all ks ts (omega (arith, size)) (λ i key tally a b.
          let Q : ℕ → Type 0 = λ n. IsTallied (all_to all n) key.popped tally in
          let s : suc i + from ≡ i + suc from = omega arith in
          subst Q s (each (suc i) key tally a b)),
    )

-- each inbox up to one has its tally
abbrev pub AreTalliedTo : List KeyOf → List Tally → Type 0
AreTalliedTo keys tallies = (i : ℕ) (key : KeyOf) (tally : Tally) → slice_get keys i ≡ Some key → slice_get tallies i ≡ Some tally → IsTallied (all_to keys i) key.popped tally

pub tallied_more : (keys : List KeyOf) (tallies new : List Tally) (i : ℕ) (tally : Tally) → AreTalliedTo keys tallies → length tallies ≡ i → new ≡ tallies ++ tally ∷ []
    → ((key : KeyOf) → slice_get keys i ≡ Some key → IsTallied (all_to keys i) key.popped tally) → AreTalliedTo keys new
tallied_more keys tallies new i tally was size more is = λ j key t at there. ⊎_elim
    (λ (s : slice_get tallies j ≡ Some t). was j key t at s)
    (λ (s : (j ≡ length tallies) × (tally ≡ t)).
    let e : j ≡ i = s.0 ∙ size in
    let P : ℕ × Tally → Type 0 = λ y. IsTallied (all_to keys y.0) key.popped y.1 in
    subst P (λ k. (sym e k, s.1 k)) (is key (ap (λ (n : ℕ). slice_get keys n) (sym e) ∙ at)))
    (at_last tallies j tally t (ap (λ (l : List Tally). slice_get l j) (sym more) ∙ there))

pub tallied_all : (keys : List KeyOf) (tallies : List Tally) → AreTalliedTo keys tallies → length tallies ≡ length keys → AreTallied keys tallies
tallied_all keys tallies each size = tallied_from 0 keys keys tallies size (λ i key tally a b.
    let P : ℕ → Type 0 = λ n. IsTallied (all_to keys n) key.popped tally in
    let e : i ≡ i + 0 = omega arith in
    subst P e (each i key tally a b))

-- a key as its fields make it
abbrev pub key_of : ℕ → List InboxPass → InboxPass → KeyOf
key_of actor ways inbox = record { post = map id_of ways; actor = actor; pushed = map pushed_of ways; popped = (view inbox).popped }

pub began : (ids : PostId) (key : KeyOf) (actor : ℕ) (ways new : List InboxPass) (counts popped : List ℕ) (inbox : InboxPass) (count : ℕ) → IsKey actor ways counts inbox count
    → key_of actor ways inbox ≡ key → key.post ≡ ids → key.actor ≡ 0 → AddsPopper actor inbox ways new → popped ≡ set counts actor count → AreGathered ids (key ∷ []) (key ∷ []) new popped
began ids key actor ways new counts popped inbox count h same post lowest adds is =
    let P : KeyOf → Type 0 = λ k. k.post ≡ ids → k.actor ≡ 0 → AreGathered ids (k ∷ []) (k ∷ []) new (set counts actor count) in
    let Q : List ℕ → Type 0 = λ l. AreGathered ids (key ∷ []) (key ∷ []) new l in
    subst Q (sym is) (subst P same (λ e z. more_poppers ids (key_of actor ways inbox ∷ []) [] (key_of actor ways inbox) ways new counts inbox count
    (first_gathered ids (key_of actor ways inbox) ways counts e h.ways refl h.counts) adds (sym z) h.pops refl (h.made ∙ sym (length-map ways id_of)) h.count) post lowest)

pub took : (ids : PostId) (keys : List KeyOf) (key : KeyOf) (actor : ℕ) (ways joined old mid new : List InboxPass) (counts popped popped' : List ℕ) (inbox : InboxPass) (count : ℕ)
    → IsKey actor ways counts inbox count → key_of actor ways inbox ≡ key → length keys ≡ key.actor → joined ≡ ways → TookWays old joined mid → AddsPopper actor inbox mid new
    → popped' ≡ set popped actor count → AreGathered ids keys keys old popped → AreGathered ids (keys ++ key ∷ []) (keys ++ key ∷ []) new popped'
took ids keys key actor ways joined old mid new counts popped popped' inbox count h same place moved joins adds is gathered =
    let P : KeyOf → Type 0 = λ k. length keys ≡ k.actor → AreGathered ids (keys ++ k ∷ []) (keys ++ k ∷ []) new (set popped actor count) in
    let Q : List ℕ → Type 0 = λ l. AreGathered ids (keys ++ key ∷ []) (keys ++ key ∷ []) new l in
    let R : List InboxPass → Type 0 = λ l. TookWays old l mid in
    subst Q (sym is) (subst P same (λ e. more_poppers ids (keys ++ key_of actor ways inbox ∷ []) keys (key_of actor ways inbox) mid new popped inbox count
    (more_pushers ids keys keys (key_of actor ways inbox) old ways mid popped gathered (subst R moved joins) h.ways refl)
    adds e h.pops refl (h.made ∙ sym (length-map ways id_of)) h.count) place)

pub there_is : {A : Type 0} (xs : List A) (i : ℕ) → i < length xs → (x : A) × (slice_get xs i ≡ Some x)
there_is [] i lt = absurd (omega (arith, lt))
there_is (x ∷ xs) zero lt = (x, refl)
there_is (x ∷ xs) (suc i) lt = there_is xs i (omega (arith, lt))

pub at_seam : {A : Type 0} (front : List A) (x : A) (rest : List A) → slice_get (front ++ (x ∷ rest)) (length front) ≡ Some x
at_seam [] x rest = refl
at_seam (y ∷ ys) x rest = at_seam ys x rest

-- the key behind those that were taken in
pub next_key : (post : PostId) (all done left left' : List KeyOf) (key : KeyOf) → AreAllKeys post all → all ≡ done ++ left → left ≡ key ∷ left' → (key.post ≡ post) × (key.actor ≡ length done)
next_key post all done left left' key are split next =
    own_key post all (length done) key are (ap (λ (l : List KeyOf). slice_get l (length done)) (split ∙ ap (λ (l : List KeyOf). done ++ l) next) ∙ at_seam done key left')

pub next_split : (all done left left' : List KeyOf) (key : KeyOf) → all ≡ done ++ left → left ≡ key ∷ left' → all ≡ (done ++ key ∷ []) ++ left'
next_split all done left left' key split next = split ∙ ap (λ (l : List KeyOf). done ++ l) next ∙ sym (append_assoc done (key ∷ []) left')

pub none_after : (all done left : List KeyOf) → all ≡ done ++ left → length done ≡ length all → all ≡ done
none_after all done [] split size = split ∙ append-nil done
none_after all done (k ∷ ks) split size = absurd (omega (arith, size, ap (λ (l : List KeyOf). length l) split, length-append done (k ∷ ks)))
