-- What a worker lends by a number, and what it ends as once that has come back.
use Rattle.std.specs.Prelude.{ℕ, ◌==◌, Option, find, flat_map, position, slice_get, option_map, option_and_then}
use Rattle.std.specs.Option.{option_or, option_map_or}
use Rattle.std.specs.Vec.{with_item}
use Rattle.std.specs.VecDeque.{deque_with_item}
use Rattle.slab.specs.Slab.{Slab, get, with_value}
use Rattle.mq_conn.specs.declared.conn.Conn.{Conn as Core}
use Rattle.mq_held.specs.declared.held.Held.{Held as HeldBy}
use Rattle.mq_held.specs.declared.held.PortSeat.{PortSeat}
use Rattle.mq_actor.specs.declared.offer.Offer.{Offer as OfferBy}
use Rattle.mq_actor.specs.declared.ring.Ring.{Ring}

-- ---- links

-- the link of the connection with this number, or of the offer with it
abbrev pub link_at : {L : Type 0} → ℕ → Ring L → Option L
link_at {L} number r =
    option_or
    (option_map (λ (h : HeldBy L). h.link) (find (λ (h : HeldBy L). h.number == number) r.conns.items))
    (option_map (λ (f : OfferBy L). f.link) (find (λ (f : OfferBy L). f.number == number) r.offered.items))

-- the ring with this link of the connection at a place
abbrev pub with_conn_link : {L : Type 0} → Ring L → ℕ → L → Ring L
with_conn_link {L} r place link =
    option_map_or (λ (h : HeldBy L). record r { conns = with_item r.conns place (record h { link = link }) })
    (slice_get r.conns.items place) r

-- the ring with this link of the offer at a place
abbrev pub with_offer_link : {L : Type 0} → Ring L → ℕ → L → Ring L
with_offer_link {L} r place link =
    option_map_or (λ (f : OfferBy L). record r { offered = deque_with_item r.offered place (record f { link = link }) })
    (slice_get r.offered.items place) r

-- the ring with this link of the connection with the number, or of the offer with it
abbrev pub with_link : {L : Type 0} → ℕ → Ring L → L → Ring L
with_link {L} number r link =
    option_map_or (λ place. with_conn_link r place link) (position (λ (h : HeldBy L). h.number == number) r.conns.items)
    (option_map_or (λ place. with_offer_link r place link) (position (λ (f : OfferBy L). f.number == number) r.offered.items) r)

-- ---- connections

-- the core of the connection with this number
abbrev pub conn_at : {L : Type 0} → ℕ → Ring L → Option Core
conn_at {L} number r =
    option_map (λ (h : HeldBy L). h.conn) (find (λ (h : HeldBy L). h.number == number) r.conns.items)

-- ---- ports

-- the seat of the port of this live tunnel
abbrev pub seat_at : {L : Type 0} → ℕ → Ring L → Option PortSeat
seat_at {L} tunnel r =
    find (λ (seat : PortSeat). seat.tunnel == tunnel) (flat_map (λ (h : HeldBy L). h.ports.items) r.conns.items)

-- its port
abbrev pub port_at : {L Q : Type 0} → ℕ → Ring L → Slab Q → Option Q
port_at tunnel r table = option_and_then (λ (seat : PortSeat). get table seat.key) (seat_at tunnel r)

-- the table with this port under the key of that seat
abbrev pub with_port : {L Q : Type 0} → ℕ → Ring L → Slab Q → Q → Slab Q
with_port tunnel r table port = option_map_or (λ (seat : PortSeat). with_value table seat.key port) (seat_at tunnel r) table
