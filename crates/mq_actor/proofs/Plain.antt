-- Where all links and ports tell what they hold, a step of a worker is the machine's.
use Rattle.std.proofs.Common.{◌≡◌, ℕ, ◌+◌, true, List, [], ◌∷◌, All, Option, Some, None, Result, sym, ap, subst, ◌∙◌}
use Rattle.std.specs.Prelude.{IsSome}
use Rattle.std.proofs.lemmas.List.Elements.{All-head, All-tail}
use Rattle.slab.specs.Slab.{Slab}
use Rattle.mq_wire.specs.declared.NoMemory.{NoMemory}
use Rattle.mq_talk.specs.declared.note.Note.{Note}
use Rattle.mq_talk.specs.Mails.{Boxes, IsTold}
use Rattle.mq_machine.specs.State.{Offer, Port, Held, Orders, Worker}
use Rattle.mq_machine.specs.Acting.{Outside, Binder, ConnsTold, OffersTold, PortsTold, HasTold, ConnsTell, OffersTell, PortsTell, TellsAll, Known, holds_of}
use Rattle.mq_machine.proofs.Told.{told}
use Rattle.mq_held.specs.declared.held.Held.{Held as HeldBy}
use Rattle.mq_held.specs.declared.held.PortSeat.{PortSeat}
use Rattle.mq_step.specs.Holds.{ArePorts}
use Rattle.mq_step.specs.Sights.{SeesPort, SeesPorts}
use Rattle.mq_actor.specs.declared.offer.Offer.{Offer as OfferBy}
use Rattle.mq_actor.specs.declared.ring.Ring.{Ring}
use Rattle.mq_actor.specs.Holds.{IsWorker, AreHeld, AreOffered}
use Rattle.mq_actor.specs.Plain.{AlwaysTells, Place, PlainStep}
use Rattle.mq_actor.specs.Seen.{Words, Moment, SeesConn, SeesOffer, SeesRing}
use Rattle.mq_actor.specs.Steps.{sight}
use Rattle.mq_actor.specs.Told.{TellPorts, TellConns, TellOffers, TellsRing}
use Rattle.mq_actor.proofs.Returning.{Promise, Seen, begins, begun, known_any}

module _ {L Q : Type 0} (words : Words L Q) (table : Slab Q) (o : Outside) where
  -- ---- who sees the ring is told all

  ports_tell : (seats : List PortSeat) (ports : List Port) → ArePorts words.most table seats ports → SeesPorts words.port words.port_counts table o seats → TellPorts words table seats ports
      → PortsTell o ports
  ports_tell [] [] are sees tell = tt
  ports_tell [] (p ∷ ports) are sees tell = absurd are
  ports_tell (seat ∷ seats) [] are sees tell = absurd are
  ports_tell (seat ∷ seats) (p ∷ ports) are sees tell =
      let here = All-head (SeesPort words.port words.port_counts table o) seat seats sees are.0.port are.0.at in (
        ap o.port are.0.tunnel ∙ here.0 ∙ tell.0 are.0.port are.0.at,
        ports_tell seats ports are.1 (All-tail (SeesPort words.port words.port_counts table o) seat seats sees) tell.1,
      )

  conns_tell : (hs : List (HeldBy L)) (ss : List Held) → AreHeld words.most table hs ss → All (λ h. SeesConn words table h o) hs → TellConns words table hs ss → ConnsTell o ss
  conns_tell [] [] are sees tell = tt
  conns_tell [] (s ∷ ss) are sees tell = absurd are
  conns_tell (h ∷ hs) [] are sees tell = absurd are
  conns_tell (h ∷ hs) (s ∷ ss) are sees tell =
      let S : HeldBy L → Type 0 = λ g. SeesConn words table g o in
      let here = All-head S h hs sees in (
        ap o.link are.0.number ∙ here.of_link.link_is ∙ tell.0.link,
        ports_tell h.ports.items s.ports are.0.ports here.of_ports tell.0.ports,
        conns_tell hs ss are.1 (All-tail S h hs sees) tell.1,
      )

  offers_tell : (fs : List (OfferBy L)) (os : List Offer) → AreOffered fs os → All (SeesOffer words o) fs → TellOffers words fs os → OffersTell o os
  offers_tell [] [] are sees tell = tt
  offers_tell [] (f ∷ os) are sees tell = absurd are
  offers_tell (f ∷ fs) [] are sees tell = absurd are
  offers_tell (f ∷ fs) (g ∷ os) are sees tell =
      let here = All-head (SeesOffer words o) f fs sees in
      (ap o.link are.0 ∙ here ∙ tell.0, offers_tell fs os are.1 (All-tail (SeesOffer words o) f fs sees) tell.1)

  pub tells_all : (binds : Binder) (r : Ring L) (w : Worker) → SeesRing words table binds r o → IsWorker words.most table r w → TellsRing words table r w → TellsAll o w
  tells_all binds r w sees is tell =
      (conns_tell r.conns.items w.conns is.conns sees.conns tell.conns, offers_tell r.offered.items w.offered is.offered sees.offers tell.offered)

  -- ---- and what is told is held, where all tell

  some_told : {A : Type 0} (t : Option A) (a : A) → IsSome t → IsTold t a → t ≡ Some a
  some_told None a some is = absurd cc
  some_told {A} (Some b) a some is = ap {B = Option A} (λ (x : A). Some x) (sym is)

  ports_then : AlwaysTells words.port → (seats : List PortSeat) (ports : List Port) → ArePorts words.most table seats ports → SeesPorts words.port words.port_counts table o seats → PortsTold o ports
      → TellPorts words table seats ports
  ports_then always [] [] are sees is = tt
  ports_then always [] (p ∷ ports) are sees is = absurd are
  ports_then always (seat ∷ seats) [] are sees is = absurd are
  ports_then always (seat ∷ seats) (p ∷ ports) are sees is = (
    λ port at.
        let here = All-head (SeesPort words.port words.port_counts table o) seat seats sees port at in
        let same : o.port p.tunnel ≡ words.port port = ap o.port are.0.tunnel ∙ here.0 in
        let T : Option _ → Type 0 = λ t. IsTold t (holds_of p) in
        some_told (words.port port) (holds_of p) (always port) (subst T same is.0),
    ports_then always seats ports are.1 (All-tail (SeesPort words.port words.port_counts table o) seat seats sees) is.1,
  )

  conns_then : AlwaysTells words.link → AlwaysTells words.port → (hs : List (HeldBy L)) (ss : List Held) → AreHeld words.most table hs ss → All (λ h. SeesConn words table h o) hs
      → ConnsTold o ss → TellConns words table hs ss
  conns_then links ports [] [] are sees is = tt
  conns_then links ports [] (s ∷ ss) are sees is = absurd are
  conns_then links ports (h ∷ hs) [] are sees is = absurd are
  conns_then links ports (h ∷ hs) (s ∷ ss) are sees is =
      let S : HeldBy L → Type 0 = λ g. SeesConn words table g o in
      let here = All-head S h hs sees in
      let same : o.link s.conn.number ≡ words.link h.link = ap o.link are.0.number ∙ here.of_link.link_is in
      let T : Option _ → Type 0 = λ t. IsTold t s.link in (
        record {
          link = some_told (words.link h.link) s.link (links h.link) (subst T same is.0);
          ports = ports_then ports h.ports.items s.ports are.0.ports here.of_ports is.1;
        },
        conns_then links ports hs ss are.1 (All-tail S h hs sees) is.2,
      )

  offers_then : AlwaysTells words.link → (fs : List (OfferBy L)) (os : List Offer) → AreOffered fs os → All (SeesOffer words o) fs → OffersTold o os → TellOffers words fs os
  offers_then links [] [] are sees is = tt
  offers_then links [] (f ∷ os) are sees is = absurd are
  offers_then links (f ∷ fs) [] are sees is = absurd are
  offers_then links (f ∷ fs) (g ∷ os) are sees is =
      let here = All-head (SeesOffer words o) f fs sees in
      let same : o.link g.number ≡ words.link f.link = ap o.link are.0 ∙ here in
      let T : Option _ → Type 0 = λ t. IsTold t g.link in
      (some_told (words.link f.link) g.link (links f.link) (subst T same is.0), offers_then links fs os are.1 (All-tail (SeesOffer words o) f fs sees) is.1)

  pub tells_then : AlwaysTells words.link → AlwaysTells words.port → (binds : Binder) (r : Ring L) (w : Worker) → SeesRing words table binds r o → IsWorker words.most table r w → HasTold o w
      → TellsRing words table r w
  tells_then links ports binds r w sees is has = record {
    conns = conns_then links ports r.conns.items w.conns is.conns sees.conns has.0;
    offered = offers_then links r.offered.items w.offered is.offered sees.offers has.1;
  }

-- ---- the step

module _ {L Q : Type 0} (words : Words L Q) (self : Ring L) (old : Moment L Q) (starts : old.conns ≡ self.conns.items) (count : ℕ)
    (office : old.seen.actor ≡ self.id) (inboxes : count ≡ old.seen.config.workers + 1) where
  -- the ring and what its office and mail tell
  abbrev pub place : Ring L → Moment L Q → Place L Q
  place r m = record { ring = r; table = m.table; binds = m.binds; seen = m.seen; boxes = m.boxes }

  pub plain_by : (s : Ring L) (new : Moment L Q) (result : Result (Option Note) NoMemory)
      → Promise words self old starts count office inboxes s new result → Seen words self old starts count office inboxes s new
      → AlwaysTells words.link → AlwaysTells words.port → (o : Outside) (x : Worker) (bs : Boxes) (orders : Orders) → IsWorker words.most old.table self x → TellsRing words old.table self x
      → Known (sight o old.seen old.boxes) x → old.seen.is_whole ≡ true → old.boxes.told ≡ Some bs
      → PlainStep words orders bs (place self old) (place s new) x result
  plain_by s new result promise seen links ports o x bs orders is tell known whole mail =
      let b = begins words self old starts count office inboxes o x is known in
      let n = seen o x is known in
      let g = promise b.0 n.0 b.1 n.1 orders x is (known_any words self old starts count office inboxes o b.0 old.seen old.boxes x known) in
      let all = tells_all words old.table b.0 old.binds (begun self) x b.1 (record { id = is.id; setup = is.setup; offered = is.offered; conns = is.conns; next = is.next; actors = is.actors; rooms = is.rooms; ports = is.ports; numbers = is.numbers }) (record { conns = tell.conns; offered = tell.offered }) in
      record {
        t = g.0;
        stands = g.1;
        tells = tells_then words new.table n.0 links ports new.binds s g.0 n.1 g.1 g.2;
        before = b.0;
        behind = n.0;
        binds = b.1.binds_are;
        binds_behind = n.1.binds_are;
        known = g.3;
        writes = g.4;
        gives = told orders (sight b.0 old.seen old.boxes) (sight n.0 new.seen new.boxes) bs x g.0 result all g.2 whole mail g.5;
      }
