-- What leaves the ring at each turn.
use Rattle.std.proofs.Common.{◌≡◌, inl, inr, ℕ, zero, suc, Bool, List, [], ◌∷◌, ◌++◌, map, remove, slice_get, slice_set, Option, Some, None, MatchOption, Result, Ok, Err, sym, ap, subst, ◌∙◌}
use Rattle.mq_wire.specs.declared.NoMemory.{NoMemory}
use Rattle.mq_talk.specs.declared.note.Note.{Note}
use Rattle.mq_talk.specs.declared.place.Place.{Place}
use Rattle.mq_talk.specs.declared.place.Place.TheVariants as place
use Rattle.mq_talk.specs.Mails.{Inboxes}
use Rattle.mq_held.specs.declared.held.Held.{Held as HeldBy}
use Rattle.mq_step.specs.Notes.{SteppedWith, Quiet, Did, Ended, Noteless}
use Rattle.mq_actor.specs.declared.ring.Ring.{Ring}
use Rattle.mq_actor.specs.Ended.{conn_numbers, offer_numbers, numbers_in, LeftAlone, AreLeft}
use Rattle.mq_actor.specs.declared.offer.Offer.{Offer as OfferBy}
use Rattle.mq_actor.specs.Holds.{numbers_of}
use Rattle.mq_actor.specs.Passing.{Stopped, PassGives, LeavesRing}
use Rattle.mq_actor.specs.Seats.{AcceptGives, ComesTo, InboxGives}
use Rattle.mq_actor.specs.Seen.{Words, Moment}
use Rattle.mq_actor.proofs.Between.{numbers_passed}
use Rattle.mq_actor.proofs.Lists.{get_map, map_remove}
use Rattle.mq_actor.proofs.Others.{numbers_moved}

abbrev numbers_of_all : {L : Type 0} → List (HeldBy L) → List ℕ
numbers_of_all {L} hs = map (λ (h : HeldBy L). h.number) hs

-- ---- of lists

set_same : {L : Type 0} (hs : List (HeldBy L)) (i : ℕ) (h g : HeldBy L) → slice_get hs i ≡ Some h → g.number ≡ h.number
    → numbers_of_all (slice_set hs i g) ≡ numbers_of_all hs
set_same [] i h g at same = absurd cc
set_same {L} (x ∷ hs) zero h g at same =
    let e : x ≡ h = cc in
    ap (λ (k : ℕ). k ∷ numbers_of_all hs) (same ∙ ap (λ (z : HeldBy L). z.number) (sym e))
set_same (x ∷ hs) (suc i) h g at same = ap (λ (ks : List ℕ). x.number ∷ ks) (set_same hs i h g at same)

-- ---- what is left

-- none left yet, of these
pub record AllLeft {L : Type 0} (conns offers : List ℕ) (r : Ring L) : Type 0 where
  pub none : r.ended ≡ None
  pub numbers : conn_numbers r ≡ conns
  pub offered : offer_numbers r ≡ offers

left_none : {L : Type 0} (conns offers : List ℕ) (s : Ring L) → s.ended ≡ None → numbers_in s ≡ conns ++ offers → AreLeft conns offers s
left_none {L} conns offers s none is =
    let M : Option (HeldBy L) → Type 0 = λ z. MatchOption z (numbers_in s ≡ conns ++ offers) (λ (held : HeldBy L). LeftAlone conns offers held s) in
    subst M (sym none) is

left_one : {L : Type 0} (conns offers : List ℕ) (s : Ring L) (held : HeldBy L) → s.ended ≡ Some held → LeftAlone conns offers held s → AreLeft conns offers s
left_one {L} conns offers s held kept alone =
    let M : Option (HeldBy L) → Type 0 = λ z. MatchOption z (numbers_in s ≡ conns ++ offers) (λ (h : HeldBy L). LeftAlone conns offers h s) in
    subst M (sym kept) alone

-- both lists are these
both : (a b c d : List ℕ) → a ≡ c → b ≡ d → a ++ b ≡ c ++ d
both a b c d first second = ap (λ (ks : List ℕ). ks ++ b) first ∙ ap (λ (ks : List ℕ). c ++ ks) second

pub all_left : {L : Type 0} (conns offers : List ℕ) (s : Ring L) → AllLeft conns offers s → AreLeft conns offers s
all_left conns offers s all = left_none conns offers s all.none (both (conn_numbers s) (offer_numbers s) conns offers all.numbers all.offered)

-- ---- the offered links

pub idle_left : {L : Type 0} (conns offers : List ℕ) (r s : Ring L) → s ≡ r → AllLeft conns offers r → AllLeft conns offers s
idle_left {L} conns offers r s same all = let A : Ring L → Type 0 = λ z. AllLeft conns offers z in subst A (sym same) all

pub accept_left : {L : Type 0} (conns offers : List ℕ) (upper : Bool) (r s : Ring L) (said : Note) → AcceptGives upper r s (Ok (Some said)) → AllLeft conns offers r
    → AreLeft conns offers s
accept_left {L} conns offers upper r s said gives all =
    let acc = gives.1 in
    left_none conns offers s (ap (λ (z : Ring L). z.ended) acc.rest ∙ all.none)
    (ap (λ (hs : List (HeldBy L)). numbers_of hs s.offered.items) acc.conns
    ∙ ap (λ (fs : List (OfferBy L)). numbers_of (r.conns.items ++ acc.held ∷ []) fs) acc.left
    ∙ numbers_moved r.conns.items acc.held acc.first acc.others acc.number
    ∙ ap (λ (fs : List (OfferBy L)). numbers_of r.conns.items fs) (sym acc.offered)
    ∙ both (conn_numbers r) (offer_numbers r) conns offers all.numbers all.offered)

pub refused_left : {L : Type 0} (conns offers : List ℕ) (upper : Bool) (r s : Ring L) (refused : NoMemory) → AcceptGives upper r s (Err refused) → AllLeft conns offers r
    → AreLeft conns offers s
refused_left {L} conns offers upper r s refused gives all =
    all_left conns offers s (record {
      none = ap (λ (z : Ring L). z.ended) gives.3 ∙ all.none;
      numbers = ap (λ (hs : List (HeldBy L)). numbers_of_all hs) gives.2 ∙ all.numbers;
      offered = ap (λ (z : Ring L). offer_numbers z) gives.3 ∙ all.offered;
    })

-- ---- the inbox

pub pop_left : {L : Type 0} (conns offers : List ℕ) (count : ℕ) (old new : Inboxes) (id : ℕ) (upper : Bool) (r s : Ring L) (said : Note)
    → InboxGives count old id upper r s (Some said) new → AllLeft conns offers r → AreLeft conns offers s
pop_left {L} conns offers count old new id upper r s said gives all =
    let t = gives.1 in
    all_left conns offers s (record {
      none = ap (λ (z : Ring L). z.ended) t.rest ∙ all.none;
      numbers = by_place t.parcel.to t.comes ∙ all.numbers;
      offered = ap (λ (z : Ring L). offer_numbers z) t.rest ∙ all.offered;
    }) where
      by_place : (to : Place) → ComesTo to gives.1.parcel r.conns.items s.conns.items said → conn_numbers s ≡ conn_numbers r
      by_place place.Net misses = ap (λ (hs : List (HeldBy L)). numbers_of_all hs) misses.conns
      by_place (place.Tunnel tunnel actor) (inl (none, misses)) = ap (λ (hs : List (HeldBy L)). numbers_of_all hs) misses.conns
      by_place (place.Tunnel tunnel actor) (inr c) =
          ap (λ (hs : List (HeldBy L)). numbers_of_all hs) c.conns
          ∙ set_same r.conns.items c.place c.was c.now c.first.at (ap (λ (z : HeldBy L). z.number) c.rest)

-- ---- the connections

module _ {L Q : Type 0} (words : Words L Q) (conns offers : List ℕ) (upper : Bool) (r s : Ring L) (old new : Moment L Q)
    (starts : old.conns ≡ r.conns.items) (all : AllLeft conns offers r) where
  pub passed_left : new.conns ≡ s.conns.items → PassGives words upper r s old new (Ok None) → AllLeft conns offers s
  passed_left now gives =
      record {
        none = ap (λ (z : Ring L). z.ended) gives.1 ∙ all.none;
        numbers = ap (λ (hs : List (HeldBy L)). numbers_of_all hs) (sym now) ∙ numbers_passed words old new _ gives.0
            ∙ ap (λ (hs : List (HeldBy L)). numbers_of_all hs) starts ∙ all.numbers;
        offered = ap (λ (z : Ring L). offer_numbers z) gives.1 ∙ all.offered;
      }

  acted_left : (mid : Moment L Q) (place : ℕ) (was held : HeldBy L) (stepped : Result SteppedWith NoMemory) (result : Result (Option Note) NoMemory)
      → numbers_of_all mid.conns ≡ conns → slice_get mid.conns place ≡ Some was → held.number ≡ was.number
      → LeavesRing place was held mid.conns r s stepped result → AreLeft conns offers s
  acted_left mid place was held (Ok Quiet) result numbers at same leaves = absurd leaves
  acted_left mid place was held (Ok Noteless) result numbers at same leaves = absurd leaves
  acted_left mid place was held (Ok (Did said)) result numbers at same leaves =
      all_left conns offers s (record {
        none = ap (λ (z : Ring L). z.ended) leaves.2 ∙ all.none;
        numbers = ap (λ (hs : List (HeldBy L)). numbers_of_all hs) leaves.1 ∙ set_same mid.conns place was held at same ∙ numbers;
        offered = ap (λ (z : Ring L). offer_numbers z) leaves.2 ∙ all.offered;
      })
  acted_left mid place was held (Err refused) result numbers at same leaves =
      all_left conns offers s (record {
        none = ap (λ (z : Ring L). z.ended) leaves.2 ∙ all.none;
        numbers = ap (λ (hs : List (HeldBy L)). numbers_of_all hs) leaves.1 ∙ set_same mid.conns place was held at same ∙ numbers;
        offered = ap (λ (z : Ring L). offer_numbers z) leaves.2 ∙ all.offered;
      })
  acted_left mid place was held (Ok (Ended said)) result numbers at same leaves =
      let P : List ℕ → Type 0 = λ ks. slice_get ks place ≡ Some was.number in
      left_one conns offers s held (ap (λ (z : Ring L). z.ended) leaves.2) (record {
        place = place;
        was = subst P numbers (get_map (λ (h : HeldBy L). h.number) mid.conns place was at) ∙ ap {B = Option ℕ} (λ (k : ℕ). Some k) (sym same);
        others = both (conn_numbers s) (offer_numbers s) (remove conns place) offers
            (ap (λ (hs : List (HeldBy L)). numbers_of_all hs) leaves.1 ∙ map_remove (λ (h : HeldBy L). h.number) mid.conns place
            ∙ ap (λ (ks : List ℕ). remove ks place) numbers)
            (ap (λ (z : Ring L). offer_numbers z) leaves.2 ∙ all.offered);
      })

  stopped_left : (result : Result (Option Note) NoMemory) → Stopped words upper r s old new result → AreLeft conns offers s
  stopped_left result stopped =
      let a = stopped.acted in
      acted_left stopped.mid stopped.place a.was a.now a.stepped result
      (numbers_passed words old stopped.mid _ stopped.passed ∙ ap (λ (hs : List (HeldBy L)). numbers_of_all hs) starts ∙ all.numbers)
      a.at a.acts.number a.leaves

  pub did_left : (said : Note) → PassGives words upper r s old new (Ok (Some said)) → AreLeft conns offers s
  did_left said gives = stopped_left (Ok (Some said)) gives

  pub starved_left : (refused : NoMemory) → PassGives words upper r s old new (Err refused) → AreLeft conns offers s
  starved_left refused gives = stopped_left (Err refused) gives

  pub pass_left : new.conns ≡ s.conns.items → (result : Result (Option Note) NoMemory) → PassGives words upper r s old new result → AreLeft conns offers s
  pass_left now (Ok None) gives = all_left conns offers s (passed_left now gives)
  pass_left now (Ok (Some said)) gives = did_left said gives
  pass_left now (Err refused) gives = starved_left refused gives
