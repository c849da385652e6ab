-- The turns of the offered links and of the inbox.
use Rattle.std.specs.Prelude.{◌≡◌, ◌⊎◌, ℕ, ◌+◌, ◌<◌, ◌≤◌, Bool, true, false, List, [], ◌∷◌, ◌++◌, length, slice_get, slice_set, Option, Some, None, is_some, MatchOption, Result, Ok, Err}
use Rattle.mq_wire.specs.declared.NoMemory.{NoMemory}
use Rattle.mq_talk.specs.declared.note.Note.{Note}
use Rattle.mq_talk.specs.declared.note.Note.TheVariants as note
use Rattle.mq_talk.specs.declared.place.Cause.TheVariants as cause
use Rattle.mq_talk.specs.declared.place.Parcel.{Parcel}
use Rattle.mq_talk.specs.declared.place.Place.{Place}
use Rattle.mq_talk.specs.declared.place.Place.TheVariants as place
use Rattle.mq_talk.specs.Mails.{Boxes, PopGives, Inboxes, missed_by}
use Rattle.mq_machine.specs.State.{Conn, new_conn, tunnel_of}
use Rattle.mq_machine.specs.Turn.{most_live, source_of}
use Rattle.mq_conn.specs.declared.conn.Conn.{Conn as Core}
use Rattle.mq_conn.specs.Conns.{IsConn}
use Rattle.mq_conn.specs.Frames.{Delivers}
use Rattle.mq_held.specs.declared.held.Held.{Held as HeldBy}
use Rattle.mq_actor.specs.declared.offer.Offer.{Offer as OfferBy}
use Rattle.mq_actor.specs.declared.ring.Ring.{Ring}
use Rattle.mq_actor.specs.Passing.{is_in_part}

-- ---- offered links

-- no link is offered, or as many connections are live as may be
abbrev pub OffersWait : {L : Type 0} → Ring L → Type 0
OffersWait r = (r.offered.items ≡ []) ⊎ (most_live ≤ length r.conns.items)

-- The link that was offered first is a connection now, of which nothing was read: it is the last of the connections,
-- and the next search begins behind the seat of the offered links.
pub record Accepts {L : Type 0} (r s : Ring L) (said : Note) : Type 0 where
  pub first : OfferBy L
  pub others : List (OfferBy L)
  pub held : HeldBy L
  pub live : length r.conns.items + 1 ≤ most_live
  pub offered : r.offered.items ≡ first ∷ others
  pub left : s.offered.items ≡ others
  pub said_is : said ≡ note.Accepted first.number r.id
  pub number : held.number ≡ first.number
  pub link : held.link ≡ first.link
  pub conn : IsConn held.conn (new_conn first.number r.id)
  pub ports : held.ports.items ≡ []
  pub bound : held.bound ≡ None
  pub conns : s.conns.items ≡ r.conns.items ++ held ∷ []
  pub rest : s ≡ record r { offered = s.offered; conns = s.conns; next_seat = 1 }

-- the number of the link that may be accepted now
abbrev pub NextOffer : {L : Type 0} → Bool → Ring L → Option ℕ → Type 0
NextOffer upper r None = is_in_part upper r.next_seat 0 ≡ true → OffersWait r
NextOffer {L} upper r (Some number) =
    (is_in_part upper r.next_seat 0 ≡ true) × (length r.conns.items + 1 ≤ most_live)
    × (first : OfferBy L) × (others : List (OfferBy L)) × (r.offered.items ≡ first ∷ others)
    × (first.number ≡ number)

-- the first offered link is a connection now, with this core
pub record TakesIn {L : Type 0} (conn : Core) (r s : Ring L) : Type 0 where
  pub first : OfferBy L
  pub held : HeldBy L
  pub offered : r.offered.items ≡ first ∷ s.offered.items
  pub number : held.number ≡ first.number
  pub link : held.link ≡ first.link
  pub conn_is : held.conn ≡ conn
  pub ports : held.ports.items ≡ []
  pub bound : held.bound ≡ None
  pub conns : s.conns.items ≡ r.conns.items ++ held ∷ []
  pub rest : s ≡ record r { offered = s.offered; conns = s.conns; next_seat = 1 }

-- What the turn of the offered links gives, where their seat is in this part of the ring. Where memory is refused, the
-- link stays offered.
abbrev pub AcceptGives : {L : Type 0} → Bool → Ring L → Ring L → Result (Option Note) NoMemory → Type 0
AcceptGives upper r s (Ok None) = (s ≡ r) × (is_in_part upper r.next_seat 0 ≡ true → OffersWait r)
AcceptGives upper r s (Ok (Some said)) = (is_in_part upper r.next_seat 0 ≡ true) × Accepts r s said
AcceptGives upper r s (Err refused) =
    (is_in_part upper r.next_seat 0 ≡ true) × (OffersWait r → ⊥) × (s.conns.items ≡ r.conns.items)
    × (s ≡ record r { conns = s.conns })

-- ---- the inbox

-- whether the connection has a live tunnel of this number
abbrev pub IsLive : Core → ℕ → Bool → Type 0
IsLive conn tunnel live = (c : Conn) → IsConn conn c → live ≡ is_some (tunnel_of c tunnel)

-- none of these connections has one
abbrev pub NoneHas : {L : Type 0} → List (HeldBy L) → ℕ → Type 0
NoneHas {L} hs tunnel = (i : ℕ) (h : HeldBy L) → slice_get hs i ≡ Some h → IsLive h.conn tunnel false

-- this connection, at this place, is the first that has one
pub record HasFirst {L : Type 0} (hs : List (HeldBy L)) (tunnel place : ℕ) (held : HeldBy L) : Type 0 where
  pub at : slice_get hs place ≡ Some held
  pub has : IsLive held.conn tunnel true
  pub first : (i : ℕ) → i < place → (h : HeldBy L) → slice_get hs i ≡ Some h → IsLive h.conn tunnel false

-- the place of the first that has one
abbrev pub IsPlaceWith : {L : Type 0} → List (HeldBy L) → ℕ → Option ℕ → Type 0
IsPlaceWith {L} hs tunnel place = MatchOption place (NoneHas hs tunnel) (λ i. (held : HeldBy L) × HasFirst hs tunnel i held)

-- The packet came to this tunnel of the connection at this place, whose core alone changed.
abbrev pub ComesAt : {L : Type 0} → ℕ → ℕ → Parcel → List (HeldBy L) → List (HeldBy L) → Note → Type 0
ComesAt {L} place tunnel parcel hs gs said = (was : HeldBy L) → slice_get hs place ≡ Some was
    → (now : HeldBy L) × Delivers was.conn now.conn (source_of parcel.from) parcel.n tunnel parcel.packet said
    × (now ≡ record was { conn = now.conn }) × (gs ≡ slice_set hs place now)

-- It came to the first connection that has it.
pub record Comes {L : Type 0} (tunnel : ℕ) (parcel : Parcel) (hs gs : List (HeldBy L)) (said : Note) : Type 0 where
  pub place : ℕ
  pub was : HeldBy L
  pub now : HeldBy L
  pub first : HasFirst hs tunnel place was
  pub delivers : Delivers was.conn now.conn (source_of parcel.from) parcel.n tunnel parcel.packet said
  pub rest : now ≡ record was { conn = now.conn }
  pub conns : gs ≡ slice_set hs place now

-- or it was dropped, since none has it
pub record Misses {L : Type 0} (parcel : Parcel) (hs gs : List (HeldBy L)) (said : Note) : Type 0 where
  pub said_is : said ≡ note.Dropped (source_of parcel.from) parcel.n cause.Gone
  pub conns : gs ≡ hs

-- what became of a packet on its way there: one for the network has no tunnel
abbrev pub ComesTo : {L : Type 0} → Place → Parcel → List (HeldBy L) → List (HeldBy L) → Note → Type 0
ComesTo place.Net parcel hs gs said = Misses parcel hs gs said
ComesTo (place.Tunnel tunnel actor) parcel hs gs said =
    (NoneHas hs tunnel × Misses parcel hs gs said) ⊎ Comes tunnel parcel hs gs said

-- The parcel at the front of the inbox was taken, and came to its tunnel.
pub record Takes {L : Type 0} (count : ℕ) (old : Inboxes) (id : ℕ) (r s : Ring L) (said : Note)
    (new : Inboxes) : Type 0 where
  pub parcel : Parcel
  pub pops : PopGives count old id (Some parcel) new
  pub comes : ComesTo parcel.to parcel r.conns.items s.conns.items said
  pub rest : s ≡ record r { conns = s.conns; next_seat = 2 }

-- what its turn gives, where its seat is in this part of the ring
abbrev pub InboxGives : {L : Type 0} → ℕ → Inboxes → ℕ → Bool → Ring L → Ring L → Option Note → Inboxes
    → Type 0
InboxGives count old id upper r s None new =
    (s ≡ r) × (is_in_part upper r.next_seat 1 ≡ true → PopGives count old id None new)
    × (is_in_part upper r.next_seat 1 ≡ false → new ≡ old)
InboxGives count old id upper r s (Some said) new =
    (is_in_part upper r.next_seat 1 ≡ true) × Takes count old id r s said new

-- what was missed behind it
abbrev pub missed_at : {A : Type 0} → Bool → Option A → Option Boxes → ℕ → ℕ
missed_at true answer told missed = missed_by answer told missed
missed_at false answer told missed = missed
