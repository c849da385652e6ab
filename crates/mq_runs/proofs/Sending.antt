-- Which notes say that a payload was sent, and what was so then.
use Rattle.std.proofs.Common.{◌≡◌, ◌⊎◌, ℕ, Bool, true, false, List, [], ◌∷◌, length, slice_get, slice_set, nat_lt, Option, Some, None, option_map, refl, sym, subst, inl, inr}
use Rattle.std.specs.Prelude.{◌==◌}
use Rattle.std.specs.Bool.{MatchBool}
use Rattle.mq_addr.specs.declared.range.Flow.{Flow}
use Rattle.mq_outside.specs.Nets.{Arrival}
use Rattle.mq_talk.specs.declared.note.From.{From}
use Rattle.mq_talk.specs.declared.note.From.TheVariants as source
use Rattle.mq_talk.specs.declared.note.Note.{Note}
use Rattle.mq_talk.specs.declared.note.Note.TheVariants as note
use Rattle.mq_talk.specs.declared.place.Origin.TheVariants as origin
use Rattle.mq_talk.specs.declared.place.Parcel.{Parcel}
use Rattle.mq_talk.specs.declared.place.Verdict.{Verdict}
use Rattle.mq_talk.specs.declared.place.Verdict.TheVariants as verdict
use Rattle.mq_talk.specs.Judging.{IsJudged}
use Rattle.mq_talk.specs.Mails.{box_at, has_room}
use Rattle.mq_talk.specs.Packets.{flow_of}
use Rattle.mq_machine.specs.declared.act.StreamAct.TheVariants as stream
use Rattle.mq_machine.specs.declared.setup.Setup.{Setup}
use Rattle.mq_machine.specs.Shared.{inbox_of}
use Rattle.mq_machine.specs.State.{Conn, Tunnel, Waiting, What, Packet, Value, Port, Offer, Held, Worker, Pump, Shared, tunnel_of, held_of}
use Rattle.mq_machine.specs.Steps.{failed, port_failed, passed_on, queued, settled_note, whole_note}
use Rattle.mq_machine.specs.Turn.{source_of, accepted, tunnel_in, popped, SeatNext, Seat, Offers, Inbox, Of, PumpTry, PushHeld, SendHeld, SendNext, Receives, PumpNext, parcel_pushed, net_sent, net_popped, net_judged, IsMet, IsReceived, with_arrivals, last_of}
use Rattle.mq_machine.specs.Want.{Answer, want_of}
use Rattle.mq_machine.specs.Words.{onward}
use Rattle.mq_play.proofs.Lists.{if_both, some_same}
use Rattle.mq_runs.proofs.Boxes.{PushesIn, box_was}
use Rattle.mq_runs.proofs.Facts.{InFront, Tells, OnlyCloses, failed_closes, port_failed_closes}
use Rattle.mq_runs.proofs.Kept.{cases_of}
use Rattle.mq_runs.proofs.Nexts.{acts_tell}
use Rattle.mq_runs.proofs.Ranks.{Among, found_among}
use Rattle.mq_runs.proofs.Shapes.{Framed, framed_tunnels, Comes, queued_tunnels}
use Rattle.mq_runs.proofs.Walks.{HandlesHeld, try_walk, map_was}

-- ---- a worker sends what is in front to its port

pub record Puts (w : Worker) (whose : From) (n : ℕ) (packet : List ℕ) : Type 0 where
  pub h : Held
  pub conn : ℕ
  pub has : held_of w conn ≡ Some h
  pub front : InFront h.conn (stream.Payload n packet)
  pub from_is : whose ≡ source.Tunnel front.t.id

pub puts_among : (w : Worker) (whose : From) (n : ℕ) (packet : List ℕ) (p : Puts w whose n packet) → Among p.h w.conns
puts_among w whose n packet p = found_among (λ (h : Held). h.conn.number == p.conn) w.conns p.h p.has

abbrev pub PutsOf : Worker → Note → Type 0
PutsOf w (note.Sent whose n packet) = Puts w whose n packet
PutsOf w said = Unit {0}

tells_puts : (w : Worker) (conn : ℕ) (h : Held) (answer : Answer) (said : Note) → held_of w conn ≡ Some h → Tells h.conn answer said → PutsOf w said
tells_puts w conn h answer (note.Sent whose n packet) has t = record { h = h; conn = conn; has = has; front = t.0; from_is = t.1 }
tells_puts w conn h answer said has t = tt

closes_puts : (w : Worker) (c : Conn) (answer : Answer) (said : Note) → OnlyCloses c → Tells c answer said → PutsOf w said
closes_puts w c answer (note.Sent whose n packet) only t = absurd (only (stream.Payload n packet) t.0)
closes_puts w c answer said only t = tt

whole_puts : (w : Worker) (t : Tunnel) (x : Waiting) (what : What) → PutsOf w (whole_note t x what)
whole_puts w t x (Packet whose n packet) = tt
whole_puts w t x Value = tt

framed_puts : (w : Worker) (ts us : List Tunnel) (said : Note) → Framed ts said us → PutsOf w said
framed_puts w ts us said x = elim x.goes [
  | inl goes ↦ subst (PutsOf w) (sym goes.0) (whole_puts w x.t x.w x.w.what)
  | inr goes ↦ subst (PutsOf w) (sym goes.1) tt
]

comes_puts : (w : Worker) (ts us : List Tunnel) (t : Tunnel) (from : From) (n : ℕ) (said : Note) → Comes ts t from n said us → PutsOf w said
comes_puts w ts us t from n said (inl x) = subst (PutsOf w) (sym x.said_is) tt
comes_puts w ts us t from n said (inr x) = subst (PutsOf w) (sym x.0) tt

received_puts : (w : Worker) (c : Conn) (p : Port) (datagram : List ℕ) (o : Option Tunnel) (d : Note × Conn) → option_map (λ (t : Tunnel). settled_note (queued c t (source.Port p.tunnel) p.received datagram)) o ≡ Some d → PutsOf w d.0
received_puts w c p datagram None d e = absurd cc
received_puts w c p datagram (Some t) d e = subst (λ (d : Note × Conn). PutsOf w d.0) (some_same e) (comes_puts w c.tunnels _ t (source.Port p.tunnel) p.received _ (queued_tunnels c t (source.Port p.tunnel) p.received datagram))

handles_puts : (setup : Setup) (w : Worker) (conn : ℕ) (old : Held) (sh : Shared) → held_of w conn ≡ Some old → HandlesHeld setup old sh (λ said new after. PutsOf w said)
handles_puts setup w conn old sh has = record {
  acts = λ answer said new after x. tells_puts w conn old answer said has (acts_tell old (want_of old.conn) answer said new x.is);
  link_fails = λ link answer said new after x. closes_puts w (failed old.conn) answer said (failed_closes old.conn) (acts_tell (record old { conn = failed old.conn; link = link }) (want_of (failed old.conn)) answer said new x.is);
  port_fails = λ p t answer said new after is can x. closes_puts w (port_failed old.conn t) answer said (port_failed_closes old.conn t) (acts_tell (record old { conn = port_failed old.conn t }) (want_of (port_failed old.conn t)) answer said new x.is);
  frames = λ d is. framed_puts w old.conn.tunnels d.1.tunnels d.0 (framed_tunnels old.conn d is);
  writes = tt;
  reads = λ first c link took. tt;
  ends = λ inside x can. tt;
  receives = λ p datagram others d port arrived came. received_puts w old.conn p datagram (tunnel_of old.conn p.tunnel) d came;
}

came_puts : (w : Worker) (c : Conn) (t : Tunnel) (from : From) (n : ℕ) (o : Option (List ℕ)) → PutsOf w (passed_on c t from n o).0
came_puts w c t from n None = tt
came_puts w c t from n (Some packet) = comes_puts w c.tunnels _ t from n _ (queued_tunnels c t from n packet)

popped_puts : (w : Worker) (parcel : Parcel) → PutsOf w (popped w parcel).0
popped_puts w parcel =
    elim (cases_of (tunnel_in w parcel.to)) [
      | inl none ↦ rw none tt
      | inr (found, some) ↦ rw some (came_puts w found.0.conn found.1 (source_of parcel.from) parcel.n (onward parcel.packet))
    ]

accepted_puts : (w : Worker) (offered : List Offer) (said : Note) (new : Worker) → accepted w offered ≡ Some (said, new) → PutsOf w said
accepted_puts w [] said new e = absurd cc
accepted_puts w (o ∷ offered) said new e = subst (λ (d : Note × Worker). PutsOf w d.0) (some_same e) tt

pub seat_puts : (w : Worker) (sh : Shared) (seat : Seat) (answer : Answer) (said : Note) (new : Worker) (after : Shared) → SeatNext w sh seat answer said new after → PutsOf w said
seat_puts w sh Offers answer said new after x = accepted_puts w w.offered said new x.1
seat_puts w sh Inbox answer said new after x = subst (λ (d : Note × Worker). PutsOf w d.0) x.1.is (popped_puts w x.1.parcel)
seat_puts w sh (Of n) answer said new after x =
    try_walk w.setup x.held sh (λ said new after. PutsOf w said) (handles_puts w.setup w n x.held sh x.has) x.try answer said x.became after x.tries x.next

-- ---- the pump sends a parcel that it held, or the first of its inbox

abbrev pub IsUnsent : Note → Type 0
IsUnsent (note.Sent whose n packet) = ⊥
IsUnsent said = Unit {0}

abbrev pub SentOf : Parcel → Note → Type 0
SentOf parcel (note.Sent whose n packet) = (whose ≡ source_of parcel.from) × (n ≡ parcel.n)
SentOf parcel said = Unit {0}

-- it sends nothing
pub record Keeps (p : Pump) (sh : Shared) (d : Note × Pump × Shared) : Type 0 where
  pub unsent : IsUnsent d.0
  pub hand : d.1.to_send ≡ p.to_send
  pub boxes : (d.2.boxes ≡ sh.boxes) ⊎ ((parcel : Parcel) × (p.to_push ≡ Some parcel) × PushesIn sh parcel d.2)

-- it tries to send this one
pub record Tries (p : Pump) (sh : Shared) (d : Note × Pump × Shared) : Type 0 where
  pub parcel : Parcel
  pub was : ((p.to_send ≡ Some parcel) × (d.2.boxes ≡ sh.boxes)) ⊎ ((rest : List Parcel) × (slice_get sh.boxes (last_of sh.boxes) ≡ Some (parcel ∷ rest)) × (d.2.boxes ≡ slice_set sh.boxes (last_of sh.boxes) rest))
  pub hand : (d.1.to_send ≡ None) ⊎ ((d.1.to_send ≡ Some parcel) × IsUnsent d.0)
  pub said : SentOf parcel d.0

abbrev pub PumpPuts : Pump → Shared → Note × Pump × Shared → Type 0
PumpPuts p sh d = Keeps p sh d ⊎ Tries p sh d

pushed_puts : (p : Pump) (sh : Shared) (parcel : Parcel) (b : Bool) → p.to_push ≡ Some parcel → PumpPuts p sh (parcel_pushed p sh parcel b)
pushed_puts p sh parcel true is = inl (record { unsent = tt; hand = refl; boxes = inr (parcel, is, record { is = refl }) })
pushed_puts p sh parcel false is = inl (record { unsent = tt; hand = refl; boxes = inl refl })

sent_puts : (p : Pump) (sh : Shared) (parcel : Parcel) → p.to_send ≡ Some parcel → PumpPuts p sh (net_sent p sh parcel)
sent_puts p sh parcel is =
    if_both (PumpPuts p sh) p.net.holds.send_fails _ _ (inr (record { parcel = parcel; was = inl (is, refl); hand = inl refl; said = tt }))
    (if_both (PumpPuts p sh) p.net.holds.send_waits _ _ (inr (record { parcel = parcel; was = inl (is, refl); hand = inr (refl, tt); said = tt })) (inr (record { parcel = parcel; was = inl (is, refl); hand = inl refl; said = (refl, refl) })))

next_sent_puts : (p : Pump) (sh : Shared) (parcel : Parcel) (rest : List Parcel) → slice_get sh.boxes (last_of sh.boxes) ≡ Some (parcel ∷ rest) → PumpPuts p sh (net_sent p (record sh { boxes = slice_set sh.boxes (last_of sh.boxes) rest }) parcel)
next_sent_puts p sh parcel rest is =
    if_both (PumpPuts p sh) p.net.holds.send_fails _ _ (inr (record { parcel = parcel; was = inr (rest, is, refl); hand = inl refl; said = tt }))
    (if_both (PumpPuts p sh) p.net.holds.send_waits _ _ (inr (record { parcel = parcel; was = inr (rest, is, refl); hand = inr (refl, tt); said = tt })) (inr (record { parcel = parcel; was = inr (rest, is, refl); hand = inl refl; said = (refl, refl) })))

next_puts : (p : Pump) (sh : Shared) (box : List Parcel) (d : Note × Pump × Shared) → box_at sh.boxes (last_of sh.boxes) ≡ box → net_popped p sh (last_of sh.boxes) box ≡ Some d → PumpPuts p sh d
next_puts p sh [] d is e = absurd cc
next_puts p sh (parcel ∷ rest) d is e = subst (PumpPuts p sh) (some_same e) (next_sent_puts p sh parcel rest (box_was (slice_get sh.boxes (last_of sh.boxes)) parcel rest is))

judged_puts : (p q : Pump) (sh : Shared) (n : ℕ) (packet : List ℕ) (said : Verdict) → q.to_send ≡ p.to_send → PumpPuts p sh (net_judged q sh n packet said)
judged_puts p q sh n packet (verdict.Pass to) same = inl (record { unsent = tt; hand = same; boxes = inl refl })
judged_puts p q sh n packet verdict.Source same = inl (record { unsent = tt; hand = same; boxes = inl refl })
judged_puts p q sh n packet verdict.NoRoute same = inl (record { unsent = tt; hand = same; boxes = inl refl })

fits_puts : (b : Bool) (p q : Pump) (sh : Shared) (n : ℕ) (packet : List ℕ) (flow : Flow) (first d : Note × Pump × Shared) → q.to_send ≡ p.to_send → PumpPuts p sh first
    → MatchBool b (d ≡ first) ((said : Verdict) × IsJudged sh.config sh.book origin.Net flow said × (d ≡ net_judged q sh n packet said)) → PumpPuts p sh d
fits_puts true p q sh n packet flow first d same f x = subst (PumpPuts p sh) (sym x) f
fits_puts false p q sh n packet flow first d same f x = subst (PumpPuts p sh) (sym x.2) (judged_puts p q sh n packet x.0 same)

met_puts : (p q : Pump) (sh : Shared) (n : ℕ) (packet : List ℕ) (o : Option Flow) (d : Note × Pump × Shared) → q.to_send ≡ p.to_send → IsMet q sh n packet o d → PumpPuts p sh d
met_puts p q sh n packet None d same x = subst (PumpPuts p sh) (sym x) (inl (record { unsent = tt; hand = same; boxes = inl refl }))
met_puts p q sh n packet (Some flow) d same x = fits_puts (nat_lt q.mtu (length packet)) p q sh n packet flow _ d same (inl (record { unsent = tt; hand = same; boxes = inl refl })) x

received_sends : (p : Pump) (sh : Shared) (arrived : List Arrival) (d : Note × Pump × Shared) → IsReceived p sh arrived d → PumpPuts p sh d
received_sends p sh [] d x = absurd x
received_sends p sh (first ∷ others) d x = met_puts p (record p { net = with_arrivals others p.net }) sh p.net.received first.packet (flow_of first.packet) d refl x

pub pump_puts : (p : Pump) (sh : Shared) (try : PumpTry) (d : Note × Pump × Shared) → PumpNext p sh try d → PumpPuts p sh d
pump_puts p sh PushHeld d x =
    let was = map_was (λ (parcel : Parcel). parcel_pushed p sh parcel (has_room sh.boxes (inbox_of sh.boxes parcel.to))) p.to_push d x in
    subst (PumpPuts p sh) was.2 (pushed_puts p sh was.0 (has_room sh.boxes (inbox_of sh.boxes was.0.to)) was.1)
pump_puts p sh SendHeld d x = let was = map_was (net_sent p sh) p.to_send d x in subst (PumpPuts p sh) was.2 (sent_puts p sh was.0 was.1)
pump_puts p sh SendNext d x = next_puts p sh (box_at sh.boxes (last_of sh.boxes)) d refl x
pump_puts p sh Receives d x = received_sends p sh p.net.holds.arrived d x
