-- That all links and ports of a ring tell what they hold, which is what the worker has of them.
use Rattle.std.specs.Prelude.{◌≡◌, ⊤, List, [], ◌∷◌, Some}
use Rattle.slab.specs.Slab.{Slab, get}
use Rattle.mq_machine.specs.State.{Offer, Port, Held, Worker}
use Rattle.mq_machine.specs.Acting.{holds_of}
use Rattle.mq_held.specs.declared.held.Held.{Held as HeldBy}
use Rattle.mq_held.specs.declared.held.PortSeat.{PortSeat}
use Rattle.mq_actor.specs.declared.offer.Offer.{Offer as OfferBy}
use Rattle.mq_actor.specs.declared.ring.Ring.{Ring}
use Rattle.mq_actor.specs.Seen.{Words}

-- the port under the seat's key tells what this one holds
abbrev pub TellsPort : {L Q : Type 0} → Words L Q → Slab Q → PortSeat → Port → Type 0
TellsPort {L} {Q} words table seat p =
    (port : Q) → get table seat.key ≡ Some port → words.port port ≡ Some (holds_of p)

abbrev pub TellPorts : {L Q : Type 0} → Words L Q → Slab Q → List PortSeat → List Port → Type 0
TellPorts words table [] [] = ⊤
TellPorts words table [] (p ∷ ports) = ⊥
TellPorts words table (seat ∷ seats) [] = ⊥
TellPorts words table (seat ∷ seats) (p ∷ ports) = TellsPort words table seat p × TellPorts words table seats ports

-- the link and the ports of a connection tell what this one has of them
pub record TellsConn {L Q : Type 0} (words : Words L Q) (table : Slab Q) (h : HeldBy L) (s : Held) : Type 0 where
  pub link : words.link h.link ≡ Some s.link
  pub ports : TellPorts words table h.ports.items s.ports

abbrev pub TellConns : {L Q : Type 0} → Words L Q → Slab Q → List (HeldBy L) → List Held → Type 0
TellConns words table [] [] = ⊤
TellConns words table [] (s ∷ ss) = ⊥
TellConns words table (h ∷ hs) [] = ⊥
TellConns words table (h ∷ hs) (s ∷ ss) = TellsConn words table h s × TellConns words table hs ss

abbrev pub TellOffers : {L Q : Type 0} → Words L Q → List (OfferBy L) → List Offer → Type 0
TellOffers words [] [] = ⊤
TellOffers words [] (o ∷ os) = ⊥
TellOffers words (f ∷ fs) [] = ⊥
TellOffers words (f ∷ fs) (o ∷ os) = (words.link f.link ≡ Some o.link) × TellOffers words fs os

-- all links and ports of the ring tell what the worker has of them
pub record TellsRing {L Q : Type 0} (words : Words L Q) (table : Slab Q) (r : Ring L) (w : Worker) : Type 0 where
  pub conns : TellConns words table r.conns.items w.conns
  pub offered : TellOffers words r.offered.items w.offered
