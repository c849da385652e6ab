-- A ring and the worker for which it stands, place by place, and what was passed over between two moments.
use Rattle.std.proofs.Common.{◌≡◌, ◌⊎◌, inl, inr, ℕ, zero, suc, ◌+◌, ◌≤◌, List, [], ◌∷◌, ◌++◌, map, length, Option, Some, slice_get}
use Rattle.std.proofs.Common.{refl, sym, ap, subst, ◌∙◌, arith}
use Rattle.slab.specs.Slab.{Slab}
use Rattle.mq_machine.specs.State.{Offer, Held, Worker}
use Rattle.mq_machine.specs.Turn.{Seat, Offers, Inbox, Of, most_live}
use Rattle.mq_machine.specs.Acting.{Outside, Binder}
use Rattle.mq_held.specs.declared.held.Held.{Held as HeldBy}
use Rattle.mq_step.specs.Holds.{IsHeld}
use Rattle.mq_step.specs.Sights.{Found}
use Rattle.mq_actor.specs.declared.offer.Offer.{Offer as OfferBy}
use Rattle.mq_actor.specs.declared.ring.Ring.{Ring}
use Rattle.mq_actor.specs.Holds.{AreHeld, AreOffered, IsWorker}
use Rattle.mq_actor.specs.Passing.{Tried, TellsSame, PassedOver, PassedAt, Passed}
use Rattle.mq_actor.specs.Seats.{OffersWait}
use Rattle.mq_actor.specs.Seen.{Words, Moment, SeesConn, SeesRing}
use Rattle.mq_actor.proofs.Cores.{AreApart}
use Rattle.mq_actor.proofs.Helds.{at_held, held_length}
use Rattle.mq_actor.proofs.InRing.{Precedes, at_all}
use Rattle.mq_actor.proofs.Lists.{get_map}
use Rattle.mq_actor.proofs.Refilled.{found_for, refilled, held_filled}
use Rattle.mq_actor.proofs.SoFar.{Vain, SoFar, Covers}

-- ---- lists

-- what stands in a list stands there with more behind it
pub get_append : {A : Type 0} (xs ys : List A) (i : ℕ) (x : A) → slice_get xs i ≡ Some x → slice_get (xs ++ ys) i ≡ Some x
get_append [] ys i x at = absurd cc
get_append (y ∷ xs) ys zero x at = at
get_append (y ∷ xs) ys (suc i) x at = get_append xs ys i x at

-- the last of a list with one more at its end
pub get_last : {A : Type 0} (xs : List A) (y : A) → slice_get (xs ++ y ∷ []) (length xs) ≡ Some y
get_last [] y = refl
get_last (x ∷ xs) y = get_last xs y

-- ---- what stands at one place

-- whatever links and ports hold
pub held_refilled : {L Q : Type 0} (most : Q → ℕ) (table : Slab Q) (o : Outside) (number : ℕ) (found : Found) (hs : List (HeldBy L)) (ss : List Held)
    → AreHeld most table hs ss → AreHeld most table hs (map (refilled o number found) ss)
held_refilled most table o number found [] [] are = tt
held_refilled most table o number found [] (s ∷ ss) are = absurd are
held_refilled most table o number found (h ∷ hs) [] are = absurd are
held_refilled most table o number found (h ∷ hs) (s ∷ ss) are =
    (held_filled most table h o (found_for number found s.conn.number) s are.0, held_refilled most table o number found hs ss are.1)

-- which link is offered at a place
pub offered_at : {L : Type 0} (fs : List (OfferBy L)) (xs : List Offer) (i : ℕ) (x : Offer) → AreOffered fs xs → slice_get xs i ≡ Some x
    → (f : OfferBy L) × (slice_get fs i ≡ Some f) × (x.number ≡ f.number)
offered_at fs [] i x are at = absurd cc
offered_at [] (y ∷ xs) i x are at = absurd are
offered_at (f ∷ fs) (y ∷ xs) zero x are at = let e : y ≡ x = cc in (f, refl, ap (λ (z : Offer). z.number) (sym e) ∙ are.0)
offered_at (f ∷ fs) (y ∷ xs) (suc i) x are at = offered_at fs xs i x are.1 at

-- where none is offered, the worker has none
pub none_offered : {L : Type 0} (fs : List (OfferBy L)) (xs : List Offer) → AreOffered fs xs → fs ≡ [] → xs ≡ []
none_offered fs [] are is = refl
none_offered [] (x ∷ xs) are is = absurd are
none_offered (f ∷ fs) (x ∷ xs) are is = absurd cc

-- and the other way round
pub offered_none : {L : Type 0} (fs : List (OfferBy L)) (xs : List Offer) → AreOffered fs xs → xs ≡ [] → fs ≡ []
offered_none [] xs are is = refl
offered_none (f ∷ fs) [] are is = absurd are
offered_none (f ∷ fs) (x ∷ xs) are is = absurd cc

-- what is told of the connection at a place
pub sees_at : {L Q : Type 0} (words : Words L Q) (table : Slab Q) (binds : Binder) (r : Ring L) (o : Outside) (i : ℕ) (h : HeldBy L)
    → SeesRing words table binds r o → slice_get r.conns.items i ≡ Some h → SeesConn words table h o
sees_at {L} words table binds r o i h sees at =
    let P : HeldBy L → Type 0 = λ x. SeesConn words table x o in at_all P r.conns.items sees.conns i h at

-- ---- numbers

-- the worker's connections have numbers of their own
pub apart_of : {L Q : Type 0} (most : Q → ℕ) (table : Slab Q) (r : Ring L) (x : Worker) → IsWorker most table r x → AreApart x.conns
apart_of {L} most table r x is = λ i j a b at_a at_b same. by_places i j a b same
    (at_held most table r.conns.items x.conns i a is.conns at_a) (at_held most table r.conns.items x.conns j b is.conns at_b) where
      At : ℕ → Held → Type 0
      At i a = (h : HeldBy L) × (slice_get r.conns.items i ≡ Some h) × IsHeld most table h a

      number_at : (i : ℕ) (h : HeldBy L) → slice_get r.conns.items i ≡ Some h
          → slice_get (map (λ (h : HeldBy L). h.number) r.conns.items ++ map (λ (f : OfferBy L). f.number) r.offered.items) i ≡ Some h.number
      number_at i h at =
          get_append (map (λ (h : HeldBy L). h.number) r.conns.items) (map (λ (f : OfferBy L). f.number) r.offered.items) i h.number
          (get_map (λ (h : HeldBy L). h.number) r.conns.items i h at)

      by_places : (i j : ℕ) (a b : Held) → a.conn.number ≡ b.conn.number → At i a → At j b → i ≡ j
      by_places i j a b same (g, at_g, of_g) (h, at_h, of_h) =
          let e : h.number ≡ g.number = sym of_h.number ∙ sym same ∙ of_g.number in
          is.numbers i j g.number (number_at i g at_g) (number_at j h at_h ∙ ap {B = Option ℕ} (λ (k : ℕ). Some k) e)

-- two lists that have the same numbers at each place
pub numbers_same : {L : Type 0} (old new : List (HeldBy L)) → length new ≡ length old
    → ((i : ℕ) (h : HeldBy L) → slice_get old i ≡ Some h → (g : HeldBy L) × (slice_get new i ≡ Some g) × (g.number ≡ h.number))
    → map (λ (h : HeldBy L). h.number) new ≡ map (λ (h : HeldBy L). h.number) old
numbers_same [] [] size each = refl
numbers_same [] (g ∷ new) size each = absurd (omega (arith, size))
numbers_same (h ∷ old) [] size each = absurd (omega (arith, size))
numbers_same {L} (h ∷ old) (g ∷ new) size each =
    let less : length new ≡ length old = omega (arith, size) in
    let first = each 0 h refl in
    let e : g ≡ first.0 = let at : Some g ≡ Some first.0 = first.1 in cc in
    ap (λ (k : ℕ). k ∷ map (λ (x : HeldBy L). x.number) new) (ap (λ (x : HeldBy L). x.number) e ∙ first.2)
    ∙ ap (λ (ks : List ℕ). h.number ∷ ks) (numbers_same old new less (λ i x at. each (suc i) x at))

-- ---- what was passed over

-- the connections keep their numbers
pub numbers_passed : {L Q : Type 0} (words : Words L Q) (old mid : Moment L Q) (tried : Tried) → Passed words old mid tried
    → map (λ (h : HeldBy L). h.number) mid.conns ≡ map (λ (h : HeldBy L). h.number) old.conns
numbers_passed words old mid tried passed =
    numbers_same old.conns mid.conns passed.size (λ i h at. let p = passed.at i h at in (p.now, p.at, p.number))

-- ---- what went before

-- It was asked of what came so far.
module _ {L Q : Type 0} (words : Words L Q) (r m : Ring L) (old mid : Moment L Q) (count : ℕ)
    (tried : Tried) (offers_tried inbox_tried : Type 0) (so : SoFar words r m old mid count tried offers_tried inbox_tried)
    (o n : Outside) (sees : SeesRing words old.table old.binds r o) (x : Worker) (is : IsWorker words.most old.table r x) where
  -- the connection at a place, and what it was passed as
  pub record At (i : ℕ) (s : Held) : Type 0 where
    pub h : HeldBy L
    pub stands : IsHeld words.most old.table h s
    pub seen : SeesConn words old.table h o
    pub passed : PassedAt words old mid tried i h

  pub place : (i : ℕ) (s : Held) → slice_get x.conns i ≡ Some s → At i s
  place i s at =
      let found = at_held words.most old.table r.conns.items x.conns i s is.conns at in
      let P : List (HeldBy L) → Type 0 = λ hs. slice_get hs i ≡ Some found.0 in
      record {
        h = found.0;
        stands = found.2;
        seen = sees_at words old.table old.binds r o i found.0 sees found.1;
        passed = so.passed.at i found.0 (subst P (sym so.starts) found.1);
      }

  -- what is told of the connection at a place stays, where what is told then is seen
  pub told_so_far : (i : ℕ) (s : Held) → slice_get x.conns i ≡ Some s
      → ((g : HeldBy L) → slice_get mid.conns i ≡ Some g → SeesConn words mid.table g n) → TellsSame o n s
  told_so_far i s at sees_now =
      let p = place i s at in p.passed.told o n p.seen (sees_now p.passed.now p.passed.at) s p.stands

  -- the connection at a place was passed over, where it was tried
  pub over_so_far : (i : ℕ) (s : Held) → slice_get x.conns i ≡ Some s → tried i s.conn.number
      → ((j : ℕ) (g : HeldBy L) → slice_get mid.conns j ≡ Some g → tried j g.number → SeesConn words mid.table g n) → PassedOver o n s
  over_so_far i s at was_tried sees_now =
      let p = place i s at in
      let P : ℕ → Type 0 = λ k. tried i k in
      let here : tried i p.h.number = subst P p.stands.number was_tried in
      let now : tried i p.passed.now.number = subst P (sym p.passed.number) here in
      p.passed.over here o n p.seen (sees_now i p.passed.now p.passed.at now) s p.stands

  -- the offered links waited
  pub offers_so_far : OffersWait r → (x.offered ≡ []) ⊎ (most_live ≤ length x.conns)
  offers_so_far (inl none) = inl (none_offered r.offered.items x.offered is.offered none)
  offers_so_far (inr full) =
      let same = held_length words.most old.table r.conns.items x.conns is.conns in
      inr (omega (arith, full, same))

  -- each seat that comes before this one was tried in vain, where what is told of those connections is seen
  pub vain_so_far : (k : ℕ) (seat : Seat) → Covers r.next_seat tried offers_tried inbox_tried k seat
      → ((i : ℕ) (g : HeldBy L) → slice_get mid.conns i ≡ Some g → tried i g.number → SeesConn words mid.table g n) → Vain o n x so.box k seat
  vain_so_far k seat covers sees_now =
      let P : ℕ → Type 0 = λ from. Precedes from 0 Offers k seat in
      let Q : ℕ → Type 0 = λ from. Precedes from 1 Inbox k seat in
      record {
        offers = λ before. offers_so_far (so.offers (covers.offers (subst P is.next before)));
        inbox = λ before. so.inbox (covers.inbox (subst Q is.next before));
        conns = λ i s at before.
            let R : ℕ → Type 0 = λ from. Precedes from (i + 2) (Of s.conn.number) k seat in
            let was_tried : tried i s.conn.number = covers.conns i s.conn.number (subst R is.next before) in
            over_so_far i s at was_tried sees_now;
      }
