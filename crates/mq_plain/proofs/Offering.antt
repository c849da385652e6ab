-- A worker of a world to which the next link is offered.
use Rattle.std.proofs.Common.{◌≡◌, ℕ, false, List, [], ◌∷◌, ◌++◌, length, map, All, slice_get, Option, Some, refl, sym, ap, subst, ◌∙◌}
use Rattle.std.proofs.lemmas.List.{map-append, append_assoc}
use Rattle.std.proofs.lemmas.List.Elements.{All-append, All-cons, All-nil, All-weaker}
use Rattle.mq_talk.specs.Mails.{Boxes}
use Rattle.mq_talk.specs.Offices.{Seen}
use Rattle.mq_machine.specs.State.{Link, new_link, Offer, Told, Worker, with_offer}
use Rattle.mq_mem.specs.Links.{Link as LinkOf}
use Rattle.mq_held.specs.declared.held.Held.{Held as HeldBy}
use Rattle.mq_actor.specs.declared.offer.Offer.{Offer as OfferBy}
use Rattle.mq_actor.specs.Ended.{numbers_in}
use Rattle.mq_step.specs.Rooms.{HasRooms}
use Rattle.mq_actor.specs.Holds.{IsWorker, AreHeld, AreOffered, AreDistinct, HaveOwnPorts}
use Rattle.mq_actor.specs.Seen.{Words}
use Rattle.mq_actor.specs.Told.{TellConns, TellOffers}
use Rattle.mq_actor.proofs.Between.{get_append}
use Rattle.mq_plain.specs.Served.{words, Plain, IsOf, Serves}
use Rattle.mq_plain.proofs.Serving.{known_with}

tell_more : {L Q : Type 0} (told_by : Words L Q) (fs : List (OfferBy L)) (os : List Offer) (f : OfferBy L) (o : Offer) → told_by.link f.link ≡ Some o.link → TellOffers told_by fs os → TellOffers told_by (fs ++ f ∷ []) (os ++ o ∷ [])
tell_more told_by [] [] f o told tells = (told, tt)
tell_more told_by [] (p ∷ os) f o told tells = absurd tells
tell_more told_by (g ∷ fs) [] f o told tells = absurd tells
tell_more told_by (g ∷ fs) (p ∷ os) f o told tells = (tells.0, tell_more told_by fs os f o told tells.1)

-- a link is of the same worker where one more is said
pub is_of_more : (links : List Told) (t : Told) (worker number : ℕ) → IsOf links worker number → IsOf (links ++ t ∷ []) worker number
is_of_more links t worker number is = record { said = is.said; at = get_append links (t ∷ []) number is.said is.at; to = is.to }

get_last : (links : List Told) (t : Told) → slice_get (links ++ t ∷ []) (length links) ≡ Some t
get_last [] t = refl
get_last (x ∷ links) t = get_last links t

pub serves_more : (links : List Told) (t : Told) (seen : Seen) (boxes : Boxes) (number : ℕ) (a : Plain) (w : Worker) → Serves links seen boxes number a w → Serves (links ++ t ∷ []) seen boxes number a w
serves_more links t seen boxes number a w x = record {
  stands = x.stands;
  tells = x.tells;
  known = x.known;
  id = x.id;
  own = All-weaker (IsOf links number) (IsOf (links ++ t ∷ []) number) (λ m is. is_of_more links t number m is) (numbers_in a.ring) x.own;
  ready = x.ready;
}

module _ (links : List Told) (seen : Seen) (boxes : Boxes) (actor number : ℕ) (a b : Plain) (w : Worker) (link : LinkOf) (next : number ≡ length links)
    (x : Serves links seen boxes actor a w) (rest : b ≡ record a { ring = record a.ring { offered = b.ring.offered } })
    (more : b.ring.offered.items ≡ a.ring.offered.items ++ record { number = number; link = link } ∷ []) (empty : link.holds ≡ new_link) where
  said : Told
  said = record { worker = actor; is_ended = false }

  one : OfferBy LinkOf
  one = record { number = number; link = link }

  conns_same : b.ring.conns.items ≡ a.ring.conns.items
  conns_same = ap (λ (z : Plain). z.ring.conns.items) rest

  numbers_more : numbers_in b.ring ≡ numbers_in a.ring ++ number ∷ []
  numbers_more =
      let hs : List ℕ = map (λ (h : HeldBy LinkOf). h.number) a.ring.conns.items in
      ap (λ (gs : List (HeldBy LinkOf)). map (λ (h : HeldBy LinkOf). h.number) gs ++ map (λ (f : OfferBy LinkOf). f.number) b.ring.offered.items) conns_same
      ∙ ap (λ (fs : List (OfferBy LinkOf)). hs ++ map (λ (f : OfferBy LinkOf). f.number) fs) more
      ∙ ap (λ (ns : List ℕ). hs ++ ns) (map-append (λ (f : OfferBy LinkOf). f.number) a.ring.offered.items (record { number = number; link = link } ∷ []))
      ∙ sym (append_assoc hs (map (λ (f : OfferBy LinkOf). f.number) a.ring.offered.items) (number ∷ []))

  pub serves_offered : IsWorker words.most b.table.table b.ring (with_offer number new_link w)
      → Serves (links ++ record { worker = actor; is_ended = false } ∷ []) seen boxes actor b (with_offer number new_link w)
  serves_offered stands =
      let t : Told = record { worker = actor; is_ended = false } in
      let N : List ℕ → Type 0 = λ ns. All (IsOf (links ++ t ∷ []) actor) ns in
      let C : Plain → Type 0 = λ z. TellConns words z.table.table z.ring.conns.items w.conns in
      let O : List (OfferBy LinkOf) → Type 0 = λ fs. TellOffers words fs (with_offer number new_link w).offered in
      let last : IsOf (links ++ t ∷ []) actor number = record { said = t; at = subst (λ (n : ℕ). slice_get (links ++ t ∷ []) n ≡ Some t) (sym next) (get_last links t); to = refl } in
      record {
        stands = stands;
        tells = record {
          conns = subst C (sym rest) x.tells.conns;
          offered = subst O (sym more) (tell_more words a.ring.offered.items w.offered (record { number = number; link = link }) (record { number = number; link = new_link }) (ap {B = Option Link} (λ (l : Link). Some l) empty) x.tells.offered);
        };
        known = λ o. known_with o seen boxes w (with_offer number new_link w) (x.known o) refl refl refl;
        id = ap (λ (z : Plain). z.ring.id) rest ∙ x.id;
        own = subst N (sym numbers_more)
            (All-append (IsOf (links ++ t ∷ []) actor) (numbers_in a.ring) (number ∷ []) (serves_more links t seen boxes actor a w x).own
            (All-cons (IsOf (links ++ t ∷ []) actor) number [] last (All-nil (IsOf (links ++ t ∷ []) actor))));
        ready = ap (λ (z : Plain). z.table.ports.bind_fails) rest ∙ x.ready;
      }

-- where memory is refused, it stands for the same
pub serves_still : (links : List Told) (seen : Seen) (boxes : Boxes) (actor : ℕ) (a b : Plain) (w : Worker) → Serves links seen boxes actor a w
    → b ≡ record a { ring = record a.ring { offered = b.ring.offered } } → b.ring.offered.items ≡ a.ring.offered.items → Serves links seen boxes actor b w
serves_still links seen boxes actor a b w x rest same =
    let hs : List ℕ = map (λ (h : HeldBy LinkOf). h.number) a.ring.conns.items in
    let numbers : numbers_in b.ring ≡ numbers_in a.ring =
    ap (λ (gs : List (HeldBy LinkOf)). map (λ (h : HeldBy LinkOf). h.number) gs ++ map (λ (f : OfferBy LinkOf). f.number) b.ring.offered.items) (ap (λ (z : Plain). z.ring.conns.items) rest)
    ∙ ap (λ (fs : List (OfferBy LinkOf)). hs ++ map (λ (f : OfferBy LinkOf). f.number) fs) same in
    record {
      stands = record {
        id = x.stands.id ∙ sym (ap (λ (z : Plain). z.ring.id) rest);
        setup = x.stands.setup ∙ sym (ap (λ (z : Plain). z.ring.setup) rest);
        offered = subst (λ (fs : List (OfferBy LinkOf)). AreOffered fs w.offered) (sym same) x.stands.offered;
        conns = subst (λ (z : Plain). AreHeld words.most z.table.table z.ring.conns.items w.conns) (sym rest) x.stands.conns;
        next = x.stands.next ∙ sym (ap (λ (z : Plain). z.ring.next_seat) rest);
        actors = x.stands.actors;
        rooms = subst (λ (z : Plain). HasRooms z.ring.rooms) (sym rest) x.stands.rooms;
        ports = subst (λ (z : Plain). HaveOwnPorts z.ring.conns.items) (sym rest) x.stands.ports;
        numbers = subst (λ (ns : List ℕ). AreDistinct ns) (sym numbers) x.stands.numbers;
      };
      tells = record {
        conns = subst (λ (z : Plain). TellConns words z.table.table z.ring.conns.items w.conns) (sym rest) x.tells.conns;
        offered = subst (λ (fs : List (OfferBy LinkOf)). TellOffers words fs w.offered) (sym same) x.tells.offered;
      };
      known = x.known;
      id = ap (λ (z : Plain). z.ring.id) rest ∙ x.id;
      own = subst (λ (ns : List ℕ). All (IsOf links actor) ns) (sym numbers) x.own;
      ready = ap (λ (z : Plain). z.table.ports.bind_fails) rest ∙ x.ready;
    }
