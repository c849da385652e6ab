-- What an outside tells of a ring's connections and offered links.
use Rattle.std.specs.Prelude.{◌≡◌, ⊤, ℕ, List, All, Option, MatchOption}
use Rattle.slab.specs.Slab.{Slab}
use Rattle.mq_outside.specs.Counts.{LinkCounts, PortCounts}
use Rattle.mq_outside.specs.Ports.{PortHolds}
use Rattle.mq_talk.specs.Mails.{Inboxes}
use Rattle.mq_talk.specs.Offices.{Seen}
use Rattle.mq_machine.specs.State.{Link}
use Rattle.mq_machine.specs.Acting.{Outside, Binder}
use Rattle.mq_held.specs.declared.held.Held.{Held as HeldBy}
use Rattle.mq_step.specs.Sights.{SeesPorts}
use Rattle.mq_step.specs.Whole.{SeesLink}
use Rattle.mq_actor.specs.declared.offer.Offer.{Offer as OfferBy}
use Rattle.mq_actor.specs.declared.ring.Ring.{Ring}

-- the words of links and ports: what they take, hold and count
pub record Words (L Q : Type 0) : Type 0 where
  pub most : Q → ℕ
  pub link : L → Option Link
  pub link_counts : L → LinkCounts
  pub port : Q → Option PortHolds
  pub port_counts : Q → PortCounts

-- connections and their ports at one moment, what binds those, what the office has seen, and what the mail tells
pub record Moment (L Q : Type 0) : Type 0 where
  pub conns : List (HeldBy L)
  pub table : Slab Q
  pub binds : Binder
  pub seen : Seen
  pub boxes : Inboxes

-- the outside tells what a connection's link and ports tell
pub record SeesConn {L Q : Type 0} (words : Words L Q) (table : Slab Q) (h : HeldBy L) (o : Outside) : Type 0 where
  pub of_link : SeesLink words.link words.link_counts h o
  pub of_ports : SeesPorts words.port words.port_counts table o h.ports.items

abbrev pub SeesOffer : {L Q : Type 0} → Words L Q → Outside → OfferBy L → Type 0
SeesOffer words o f = o.link f.number ≡ words.link f.link

-- and that of all connections and offered links, and of the connection that the last step ended
pub record SeesRing {L Q : Type 0} (words : Words L Q) (table : Slab Q) (binds : Binder) (r : Ring L) (o : Outside)
    : Type 0 where
  pub conns : All (λ h. SeesConn words table h o) r.conns.items
  pub offers : All (SeesOffer words o) r.offered.items
  pub ended : MatchOption r.ended ⊤ (λ h. SeesConn words table h o)
  pub binds_are : o.binds ≡ binds
