-- Which notes say that a packet waits in a tunnel, or was delivered, and what was so then.
use Rattle.std.proofs.Common.{◌≡◌, ◌⊎◌, ℕ, Bool, true, false, List, [], ◌∷◌, length, slice_set, nat_lt, Option, Some, None, option_map, refl, sym, subst, ap, inl, inr}
use Rattle.std.specs.Prelude.{find, ◌==◌}
use Rattle.std.specs.Bool.{MatchBool}
use Rattle.std.specs.Option.{unwrap_or}
use Rattle.mq_addr.specs.declared.kind.Kind.{Kind}
use Rattle.mq_addr.specs.declared.kind.Kind.TheVariants as kind
use Rattle.mq_addr.specs.declared.range.Flow.{Flow}
use Rattle.mq_outside.specs.Nets.{Arrival}
use Rattle.mq_talk.specs.declared.note.From.{From}
use Rattle.mq_talk.specs.declared.note.From.TheVariants as source
use Rattle.mq_talk.specs.declared.note.Note.{Note}
use Rattle.mq_talk.specs.declared.note.Note.TheVariants as note
use Rattle.mq_talk.specs.declared.place.Origin.TheVariants as origin
use Rattle.mq_talk.specs.declared.place.Parcel.{Parcel}
use Rattle.mq_talk.specs.declared.place.Place.{Place}
use Rattle.mq_talk.specs.declared.place.Place.TheVariants as place
use Rattle.mq_talk.specs.declared.place.Verdict.{Verdict}
use Rattle.mq_talk.specs.declared.place.Verdict.TheVariants as verdict
use Rattle.mq_talk.specs.Judging.{IsJudged}
use Rattle.mq_talk.specs.Mails.{box_at, has_room}
use Rattle.mq_talk.specs.Packets.{flow_of}
use Rattle.mq_machine.specs.declared.setup.Setup.{Setup}
use Rattle.mq_machine.specs.Shared.{inbox_of}
use Rattle.mq_machine.specs.State.{Conn, Tunnel, Waiting, What, Packet, Value, Port, Offer, Held, Worker, Pump, Shared, tunnel_of, kind_of}
use Rattle.mq_machine.specs.Steps.{failed, port_failed, passed_on, queued, settled_note, whole_note}
use Rattle.mq_machine.specs.Turn.{source_of, accepted, has_tunnel, tunnel_in, popped, SeatNext, Seat, Offers, Inbox, Of, PumpTry, PushHeld, SendHeld, SendNext, Receives, PumpNext, parcel_pushed, net_sent, net_popped, net_judged, IsMet, IsReceived, with_arrivals, last_of}
use Rattle.mq_machine.specs.Want.{Answer, want_of}
use Rattle.mq_machine.specs.Words.{onward}
use Rattle.mq_machine.proofs.Lawful.Lists.{In}
use Rattle.mq_play.proofs.Lists.{if_both, some_same}
use Rattle.mq_runs.proofs.Facts.{Tells}
use Rattle.mq_runs.proofs.Kept.{cases_of}
use Rattle.mq_runs.proofs.Nexts.{acts_tell}
use Rattle.mq_runs.proofs.Ranks.{Among, found_among}
use Rattle.mq_runs.proofs.Shapes.{Framed, framed_tunnels, Comes, queued_tunnels}
use Rattle.mq_runs.proofs.Walks.{HandlesHeld, try_walk, map_was, found_passes}
use Rattle.std.proofs.lemmas.Bool.{eqb-true}

-- ---- what comes to wait

-- the payload of this note came through the inbox, or is the next of a port
pub record FromBox (w : Worker) (box : List Parcel) (whose : From) (n : ℕ) (id : ℕ) : Type 0 where
  pub parcel : Parcel
  pub rest : List Parcel
  pub actor : ℕ
  pub box_is : box ≡ parcel ∷ rest
  pub from_is : whose ≡ source_of parcel.from
  pub number_is : n ≡ parcel.n
  pub to_is : parcel.to ≡ place.Tunnel id actor

pub record FromPort (w : Worker) (whose : From) (n : ℕ) : Type 0 where
  pub h : Held
  pub p : Port
  pub among : Among h w.conns
  pub there : Among p h.ports
  pub from_is : whose ≡ source.Port p.tunnel
  pub number_is : n ≡ p.received

-- what a note that a packet waits says
abbrev pub QueuesOf : Worker → List Parcel → Note → Type 0
QueuesOf w box (note.Queued whose n id) = FromBox w box whose n id ⊎ FromPort w whose n
QueuesOf w box said = Unit {0}

-- and one that it was delivered: it waited first in a tunnel
pub record Delivers (w : Worker) (whose : From) (n : ℕ) (id : ℕ) : Type 0 where
  pub h : Held
  pub t : Tunnel
  pub first : Waiting
  pub ws : List Waiting
  pub packet : List ℕ
  pub among : Among h w.conns
  pub there : In t h.conn.tunnels
  pub waiting : t.waiting ≡ first ∷ ws
  pub what_is : first.what ≡ Packet whose n packet
  pub id_is : t.id ≡ id

abbrev pub DeliversOf : Worker → Note → Type 0
DeliversOf w (note.Delivered whose n id packet) = Delivers w whose n id
DeliversOf w said = Unit {0}

abbrev pub Says : Worker → List Parcel → Note → Type 0
Says w box said = QueuesOf w box said × DeliversOf w said

tells_says : (w : Worker) (box : List Parcel) (c : Conn) (answer : Answer) (said : Note) → Tells c answer said → Says w box said
tells_says w box c answer (note.Queued whose n id) t = absurd t
tells_says w box c answer (note.Delivered whose n id packet) t = absurd t
tells_says w box c answer said t = (tt, tt)

whole_says : (w : Worker) (box : List Parcel) (h : Held) (t : Tunnel) (x : Waiting) (ws : List Waiting) (what : What) → Among h w.conns → In t h.conn.tunnels → t.waiting ≡ x ∷ ws → x.what ≡ what → Says w box (whole_note t x what)
whole_says w box h t x ws (Packet whose n packet) among there is what_is =
    (tt, record { h = h; t = t; first = x; ws = ws; packet = packet; among = among; there = there; waiting = is; what_is = what_is; id_is = refl })
whole_says w box h t x ws Value among there is what_is = (tt, tt)

framed_says : (w : Worker) (box : List Parcel) (h : Held) (said : Note) (us : List Tunnel) → Among h w.conns → Framed h.conn.tunnels said us → Says w box said
framed_says w box h said us among x = elim x.goes [
  | inl goes ↦ subst (Says w box) (sym goes.0) (whole_says w box h x.t x.w x.ws x.w.what among x.among x.waiting refl)
  | inr goes ↦ subst (Says w box) (sym goes.1) (tt, tt)
]

comes_says : (w : Worker) (box : List Parcel) (ts us : List Tunnel) (t : Tunnel) (from : From) (n : ℕ) (said : Note) → FromBox w box from n t.id ⊎ FromPort w from n → Comes ts t from n said us → Says w box said
comes_says w box ts us t from n said h (inl x) = subst (Says w box) (sym x.said_is) (h, tt)
comes_says w box ts us t from n said h (inr x) = subst (Says w box) (sym x.0) (tt, tt)

received_says : (w : Worker) (box : List Parcel) (h : Held) (p : Port) (datagram : List ℕ) (o : Option Tunnel) (d : Note × Conn) → Among h w.conns → Among p h.ports
    → option_map (λ (t : Tunnel). settled_note (queued h.conn t (source.Port p.tunnel) p.received datagram)) o ≡ Some d → Says w box d.0
received_says w box h p datagram None d among there e = absurd cc
received_says w box h p datagram (Some t) d among there e =
    subst (λ (d : Note × Conn). Says w box d.0) (some_same e)
    (comes_says w box h.conn.tunnels _ t (source.Port p.tunnel) p.received _ (inr (record { h = h; p = p; among = among; there = there; from_is = refl; number_is = refl })) (queued_tunnels h.conn t (source.Port p.tunnel) p.received datagram))

handles_says : (setup : Setup) (w : Worker) (box : List Parcel) (old : Held) (sh : Shared) → Among old w.conns → HandlesHeld setup old sh (λ said new after. Says w box said)
handles_says setup w box old sh among = record {
  acts = λ answer said new after x. tells_says w box old.conn answer said (acts_tell old (want_of old.conn) answer said new x.is);
  link_fails = λ link answer said new after x. tells_says w box (failed old.conn) answer said (acts_tell (record old { conn = failed old.conn; link = link }) (want_of (failed old.conn)) answer said new x.is);
  port_fails = λ p t answer said new after is can x. tells_says w box (port_failed old.conn t) answer said (acts_tell (record old { conn = port_failed old.conn t }) (want_of (port_failed old.conn t)) answer said new x.is);
  frames = λ d is. framed_says w box old d.0 d.1.tunnels among (framed_tunnels old.conn d is);
  writes = (tt, tt);
  reads = λ first c link took. (tt, tt);
  ends = λ inside x can. (tt, tt);
  receives = λ p datagram others d port arrived came. received_says w box old p datagram (tunnel_of old.conn p.tunnel) d among (found_among (λ (q : Port). q.tunnel == p.tunnel) old.ports p port) came;
}

-- ---- through the inbox

-- the tunnel that is found has the number of the place
abbrev pub FoundNumber : Place → Option (Held × Tunnel) → Type 0
FoundNumber to None = Unit {0}
FoundNumber to (Some found) = (actor : ℕ) × (to ≡ place.Tunnel found.1.id actor)

number_for_ip : (to : Place) (h : Held) (t : Tunnel) (k : Kind) → ((actor : ℕ) × (to ≡ place.Tunnel t.id actor)) → (o : Option (Held × Tunnel)) → ((k ≡ kind.Udp) → o ≡ None) → ((k ≡ kind.Ip) → o ≡ Some (h, t)) → FoundNumber to o
number_for_ip to h t kind.Udp p o none some = subst (FoundNumber to) (sym (none refl)) tt
number_for_ip to h t kind.Ip p o none some = subst (FoundNumber to) (sym (some refl)) p

pub found_number : (w : Worker) (to : Place) → FoundNumber to (tunnel_in w to)
found_number w place.Net = tt
found_number w (place.Tunnel tunnel actor) =
    elim (cases_of (find (has_tunnel tunnel) w.conns)) [
      | inl none ↦ rw none tt
      | inr (held, some) ↦
          elim (cases_of (tunnel_of held.conn tunnel)) [
            | inl none ↦ rw (some, none) tt
            | inr (t, is) ↦ (
                let same : t.id ≡ tunnel = eqb-true t.id tunnel (found_passes (λ (t : Tunnel). t.id == tunnel) held.conn.tunnels t is) in
                number_for_ip (place.Tunnel tunnel actor) held t (kind_of t.goal) (actor, ap (λ i. place.Tunnel i actor) (sym same)) (tunnel_in w (place.Tunnel tunnel actor)) (λ e. rw (some, is, e) refl) (λ e. rw (some, is, e) refl))
          ]
    ]

came_says : (w : Worker) (box rest : List Parcel) (parcel : Parcel) (c : Conn) (t : Tunnel) (o : Option (List ℕ)) → box ≡ parcel ∷ rest → (actor : ℕ) → parcel.to ≡ place.Tunnel t.id actor → Says w box (passed_on c t (source_of parcel.from) parcel.n o).0
came_says w box rest parcel c t None is actor to = (tt, tt)
came_says w box rest parcel c t (Some packet) is actor to =
    comes_says w box c.tunnels _ t (source_of parcel.from) parcel.n _ (inl (record { parcel = parcel; rest = rest; actor = actor; box_is = is; from_is = refl; number_is = refl; to_is = to })) (queued_tunnels c t (source_of parcel.from) parcel.n packet)

popped_says : (w : Worker) (box rest : List Parcel) (parcel : Parcel) → box ≡ parcel ∷ rest → Says w box (popped w parcel).0
popped_says w box rest parcel is =
    elim (cases_of (tunnel_in w parcel.to)) [
      | inl none ↦ rw none (tt, tt)
      | inr (found, some) ↦ (
          let number : FoundNumber parcel.to (Some found) = subst (FoundNumber parcel.to) some (found_number w parcel.to) in
          rw some (came_says w box rest parcel found.0.conn found.1 (onward parcel.packet) is number.0 number.1))
    ]

accepted_says : (w : Worker) (box : List Parcel) (offered : List Offer) (said : Note) (new : Worker) → accepted w offered ≡ Some (said, new) → Says w box said
accepted_says w box [] said new e = absurd cc
accepted_says w box (o ∷ offered) said new e = subst (λ (d : Note × Worker). Says w box d.0) (some_same e) (tt, tt)

pub seat_says : (w : Worker) (sh : Shared) (seat : Seat) (answer : Answer) (said : Note) (new : Worker) (after : Shared) → SeatNext w sh seat answer said new after → Says w (box_at sh.boxes w.id) said
seat_says w sh Offers answer said new after x = accepted_says w (box_at sh.boxes w.id) w.offered said new x.1
seat_says w sh Inbox answer said new after x =
    let is : box_at sh.boxes w.id ≡ x.1.parcel ∷ x.1.rest = ap (λ (o : Option (List Parcel)). unwrap_or o []) x.1.box in
    subst (λ (d : Note × Worker). Says w (box_at sh.boxes w.id) d.0) x.1.is (popped_says w (box_at sh.boxes w.id) x.1.rest x.1.parcel is)
seat_says w sh (Of n) answer said new after x =
    let among = found_among (λ (h : Held). h.conn.number == n) w.conns x.held x.has in
    try_walk w.setup x.held sh (λ said new after. Says w (box_at sh.boxes w.id) said) (handles_says w.setup w (box_at sh.boxes w.id) x.held sh among) x.try answer said x.became after x.tries x.next

-- ---- the pump says neither

abbrev pub IsOther : Note → Type 0
IsOther (note.Queued whose n id) = ⊥
IsOther (note.Delivered whose n id packet) = ⊥
IsOther said = Unit {0}

abbrev OtherOf : Note × Pump × Shared → Type 0
OtherOf d = IsOther d.0

other_pushed : (p : Pump) (sh : Shared) (parcel : Parcel) (b : Bool) → OtherOf (parcel_pushed p sh parcel b)
other_pushed p sh parcel true = tt
other_pushed p sh parcel false = tt

other_sent : (p : Pump) (sh : Shared) (parcel : Parcel) → OtherOf (net_sent p sh parcel)
other_sent p sh parcel = if_both OtherOf p.net.holds.send_fails _ _ tt (if_both OtherOf p.net.holds.send_waits _ _ tt tt)

other_next : (p : Pump) (sh : Shared) (i : ℕ) (box : List Parcel) (d : Note × Pump × Shared) → net_popped p sh i box ≡ Some d → OtherOf d
other_next p sh i [] d e = absurd cc
other_next p sh i (parcel ∷ rest) d e = subst OtherOf (some_same e) (other_sent p (record sh { boxes = slice_set sh.boxes i rest }) parcel)

other_judged : (p : Pump) (sh : Shared) (n : ℕ) (packet : List ℕ) (said : Verdict) → OtherOf (net_judged p sh n packet said)
other_judged p sh n packet (verdict.Pass to) = tt
other_judged p sh n packet verdict.Source = tt
other_judged p sh n packet verdict.NoRoute = tt

other_fits : (b : Bool) (p : Pump) (sh : Shared) (n : ℕ) (packet : List ℕ) (flow : Flow) (first d : Note × Pump × Shared) → OtherOf first
    → MatchBool b (d ≡ first) ((said : Verdict) × IsJudged sh.config sh.book origin.Net flow said × (d ≡ net_judged p sh n packet said)) → OtherOf d
other_fits true p sh n packet flow first d f x = subst OtherOf (sym x) f
other_fits false p sh n packet flow first d f x = subst OtherOf (sym x.2) (other_judged p sh n packet x.0)

other_met : (p : Pump) (sh : Shared) (n : ℕ) (packet : List ℕ) (o : Option Flow) (d : Note × Pump × Shared) → IsMet p sh n packet o d → OtherOf d
other_met p sh n packet None d x = subst OtherOf (sym x) tt
other_met p sh n packet (Some flow) d x = other_fits (nat_lt p.mtu (length packet)) p sh n packet flow _ d tt x

other_received : (p : Pump) (sh : Shared) (arrived : List Arrival) (d : Note × Pump × Shared) → IsReceived p sh arrived d → OtherOf d
other_received p sh [] d x = absurd x
other_received p sh (first ∷ others) d x = other_met (record p { net = with_arrivals others p.net }) sh p.net.received first.packet (flow_of first.packet) d x

pub other_pump : (p : Pump) (sh : Shared) (try : PumpTry) (d : Note × Pump × Shared) → PumpNext p sh try d → OtherOf d
other_pump p sh PushHeld d x =
    let was = map_was (λ (parcel : Parcel). parcel_pushed p sh parcel (has_room sh.boxes (inbox_of sh.boxes parcel.to))) p.to_push d x in
    subst OtherOf was.2 (other_pushed p sh was.0 (has_room sh.boxes (inbox_of sh.boxes was.0.to)))
other_pump p sh SendHeld d x = let was = map_was (net_sent p sh) p.to_send d x in subst OtherOf was.2 (other_sent p sh was.0)
other_pump p sh SendNext d x = other_next p sh (last_of sh.boxes) (box_at sh.boxes (last_of sh.boxes)) d x
other_pump p sh Receives d x = other_received p sh p.net.holds.arrived d x
