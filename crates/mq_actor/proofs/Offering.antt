-- A worker to which a link more is offered.
use Rattle.std.proofs.Common.{◌≡◌, ◌≢◌, inl, inr, ◌⊎◌, ℕ, List, [], ◌∷◌, ◌++◌, length, map, All, slice_get, Some, refl, sym, ap, subst, ◌∙◌}
use Rattle.std.proofs.lemmas.List.{map-append, append_assoc}
use Rattle.slab.specs.Slab.{Slab}
use Rattle.mq_machine.specs.State.{Link, Offer, Worker, with_offer}
use Rattle.mq_held.specs.declared.held.Held.{Held as HeldBy}
use Rattle.mq_step.specs.declared.rooms.Rooms.{Rooms}
use Rattle.mq_step.specs.Rooms.{HasRooms}
use Rattle.mq_actor.specs.declared.offer.Offer.{Offer as OfferBy}
use Rattle.mq_actor.specs.declared.ring.Ring.{Ring}
use Rattle.mq_actor.specs.Holds.{IsWorker, AreHeld, AreOffered, AreDistinct, HaveOwnPorts, numbers_of}
use Rattle.mq_actor.proofs.InRing.{at_all}
use Rattle.mq_actor.proofs.Lists.{get_pushed}

offered_more : {L : Type 0} (fs : List (OfferBy L)) (xs : List Offer) (f : OfferBy L) (x : Offer) → x.number ≡ f.number → AreOffered fs xs → AreOffered (fs ++ f ∷ []) (xs ++ x ∷ [])
offered_more [] [] f x same are = (same, tt)
offered_more [] (y ∷ xs) f x same are = absurd are
offered_more (g ∷ fs) [] f x same are = absurd are
offered_more (g ∷ fs) (y ∷ xs) f x same are = (are.0, offered_more fs xs f x same are.1)

distinct_more : (ns : List ℕ) (n : ℕ) → All (λ other. other ≢ n) ns → AreDistinct ns → AreDistinct (ns ++ n ∷ [])
distinct_more ns n free apart = λ i j k at_i at_j. by_cases i j k (get_pushed ns n i k at_i) (get_pushed ns n j k at_j) where
  Side : ℕ → ℕ → Type 0
  Side i k = (slice_get ns i ≡ Some k) ⊎ ((i ≡ length ns) × (k ≡ n))

  by_cases : (i j k : ℕ) → Side i k → Side j k → i ≡ j
  by_cases i j k (inl at_i) (inl at_j) = apart i j k at_i at_j
  by_cases i j k (inl at_i) (inr (last, is)) = absurd (at_all (λ (other : ℕ). other ≢ n) ns free i k at_i is)
  by_cases i j k (inr (last, is)) (inl at_j) = absurd (at_all (λ (other : ℕ). other ≢ n) ns free j k at_j is)
  by_cases i j k (inr (last, is)) (inr (last_j, is_j)) = last ∙ sym last_j

-- a worker whose link of this number is offered last
pub offered_stands : {L Q : Type 0} (most : Q → ℕ) (table : Slab Q) (r s : Ring L) (number : ℕ) (link : L) (w : Worker) (held : Link)
    → All (λ other. other ≢ number) (numbers_of r.conns.items r.offered.items) → s.offered.items ≡ r.offered.items ++ record { number = number; link = link } ∷ []
    → s ≡ record r { offered = s.offered } → IsWorker most table r w → IsWorker most table s (with_offer number held w)
offered_stands {L} {Q} most table r s number link w held free more rest is =
    let one : OfferBy L = record { number = number; link = link } in
    let hs : List ℕ = map (λ (h : HeldBy L). h.number) r.conns.items in
    let numbers : numbers_of r.conns.items r.offered.items ++ number ∷ [] ≡ numbers_of s.conns.items s.offered.items =
    append_assoc hs (map (λ (f : OfferBy L). f.number) r.offered.items) (number ∷ [])
    ∙ ap (λ (ns : List ℕ). hs ++ ns) (sym (map-append (λ (f : OfferBy L). f.number) r.offered.items (one ∷ [])))
    ∙ ap (λ (fs : List (OfferBy L)). hs ++ map (λ (f : OfferBy L). f.number) fs) (sym more)
    ∙ ap (λ (gs : List (HeldBy L)). map (λ (h : HeldBy L). h.number) gs ++ map (λ (f : OfferBy L). f.number) s.offered.items) (sym (ap (λ (z : Ring L). z.conns.items) rest)) in
    let O : List (OfferBy L) → Type 0 = λ fs. AreOffered fs (with_offer number held w).offered in
    let H : List (HeldBy L) → Type 0 = λ gs. AreHeld most table gs w.conns in
    let P : List (HeldBy L) → Type 0 = λ gs. HaveOwnPorts gs in
    let R : Rooms → Type 0 = λ z. HasRooms z in
    record {
      id = is.id ∙ sym (ap (λ (z : Ring L). z.id) rest);
      setup = is.setup ∙ sym (ap (λ (z : Ring L). z.setup) rest);
      offered = subst O (sym more) (offered_more r.offered.items w.offered one (record { number = number; link = held }) refl is.offered);
      conns = subst H (sym (ap (λ (z : Ring L). z.conns.items) rest)) is.conns;
      next = is.next ∙ sym (ap (λ (z : Ring L). z.next_seat) rest);
      actors = is.actors;
      rooms = subst R (sym (ap (λ (z : Ring L). z.rooms) rest)) is.rooms;
      ports = subst P (sym (ap (λ (z : Ring L). z.conns.items) rest)) is.ports;
      numbers = subst AreDistinct numbers (distinct_more (numbers_of r.conns.items r.offered.items) number free is.numbers);
    }
