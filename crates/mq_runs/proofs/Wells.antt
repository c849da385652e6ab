-- What waits in tunnels stays so, in any sense of it that holds of what comes to wait.
use Rattle.std.proofs.Common.{◌≡◌, ℕ, Bool, true, false, cond, not, List, [], ◌∷◌, ◌++◌, ◌+◌, length, slice_get, nat_le, nat_lt, ◌||◌, Option, Some, None, option_map, refl, sym, subst, ap, ◌∙◌, inl, inr}
use Rattle.std.specs.Prelude.{◌==◌}
use Rattle.std.specs.List.{AllByRecursion}
use Rattle.std.proofs.lemmas.Bool.{eqb-true}
use Rattle.mq_addr.specs.declared.kind.Kind.{Kind}
use Rattle.mq_addr.specs.declared.kind.Kind.TheVariants as kind
use Rattle.mq_addr.specs.declared.range.Range.{Range}
use Rattle.mq_capsule.specs.Writing.{capsule_text, datagram}
use Rattle.mq_talk.specs.declared.book.Call.TheVariants as call
use Rattle.mq_talk.specs.declared.book.Reply.TheVariants as reply
use Rattle.mq_talk.specs.declared.note.From.{From}
use Rattle.mq_talk.specs.declared.note.From.TheVariants as source
use Rattle.mq_talk.specs.declared.note.Note.{Note}
use Rattle.mq_talk.specs.declared.note.Note.TheVariants as note
use Rattle.mq_talk.specs.declared.place.Parcel.{Parcel}
use Rattle.mq_talk.specs.declared.place.Place.TheVariants as place
use Rattle.mq_machine.specs.declared.setup.Setup.{Setup}
use Rattle.mq_machine.specs.Done.{done, value, waits, first_waiting}
use Rattle.mq_machine.specs.Lawful.{Alone, has_on}
use Rattle.mq_machine.specs.Shared.{port_of}
use Rattle.mq_machine.specs.Silent.{Reached, Heard, SeatStarves, tunnels_after}
use Rattle.mq_machine.specs.State.{kind_of, Conn, new_conn, Tunnel, Waiting, What, Packet, Value, Port, Offer, Held, Worker, Shared, packets, waiting_bytes, tunnel_of, held_of}
use Rattle.mq_machine.specs.Steps.{failed, port_failed, most_packets, most_waiting, queued, settled_note, passed_on, set_waiting, starved, whole_note}
use Rattle.mq_machine.specs.Turn.{over_or, ActNext, write_count, Seat, Offers, Inbox, Of, accepted, came_to, tunnel_in, popped, source_of, SeatNext, Try}
use Rattle.mq_machine.specs.Want.{Want, Ask, Over, Answer, Replied, want_of}
use Rattle.mq_machine.specs.Words.{onward}
use Rattle.mq_machine.proofs.Lawful.Lists.{In, in_has, itself}
use Rattle.mq_play.proofs.Lists.{if_both, some_same, each_append, each_filter, each_found}
use Rattle.mq_runs.proofs.Conns.{any_setup, replaced_have}
use Rattle.mq_runs.proofs.Facts.{Tells}
use Rattle.mq_runs.proofs.Kept.{cases_of}
use Rattle.mq_runs.proofs.Nexts.{acts_tell}
use Rattle.mq_runs.proofs.Queueing.{FoundNumber, found_number}
use Rattle.mq_runs.proofs.Ranks.{Among, found_among}
use Rattle.mq_runs.proofs.Shapes.{Answered, done_tunnels, Framed, framed_tunnels, settle_tunnels, wrote_tunnels, finished_tunnels, took_tunnels}
use Rattle.mq_runs.proofs.Shifting.{all_among}
use Rattle.mq_runs.proofs.Walks.{HandlesHeld, try_walk, map_was}
use Rattle.mq_runs.proofs.Workers.{FoundAmong, among_in}

-- the note tells of no delivery
abbrev pub IsNoDelivery : Note → Type 0
IsNoDelivery (note.Delivered from n id packet) = ⊥
IsNoDelivery said = Unit {0}

-- by the number of the tunnel: what is so of a packet with its origin and number that waits there
module _ (Q : ℕ → From → ℕ → List ℕ → Type 0) where
  abbrev pub WellWhat : ℕ → What → Type 0
  WellWhat id (Packet from n packet) = Q id from n packet
  WellWhat id Value = Unit {0}

  abbrev pub AreWell : ℕ → List Waiting → Type 0
  AreWell id ws = AllByRecursion (λ (w : Waiting). WellWhat id w.what) ws

  abbrev pub WellIn : Tunnel → Type 0
  WellIn t = AreWell t.id t.waiting

  abbrev pub AllWell : List Tunnel → Type 0
  AllWell ts = AllByRecursion WellIn ts

  -- and of a note that it was delivered
  abbrev pub SaysWell : Note → Type 0
  SaysWell (note.Delivered from n id packet) = Q id from n packet
  SaysWell said = Unit {0}

  -- ---- one tunnel changes

  set_by : (b : Bool) (t u : Tunnel) (ws : List Waiting) (ts : List Tunnel) → (u.stream == t.stream) ≡ b → Alone (u ∷ ts) → In t (u ∷ ts) → AreWell t.id ws → AllWell (u ∷ ts)
      → (In t ts → AllWell (set_waiting t.stream ws ts)) → AllWell (cond b (record u { waiting = ws } ∷ ts) (u ∷ set_waiting t.stream ws ts))
  set_by true t u ws ts is alone (inl same) ok h rest = (subst (λ (v : Tunnel). AreWell v.id ws) (sym same) ok, h.1)
  set_by true t u ws ts is alone (inr more) ok h rest =
      let there : has_on ts t.stream ≡ true = in_has ts t more in
      let here : has_on ts u.stream ≡ false = alone.0 in
      let same : u.stream ≡ t.stream = eqb-true u.stream t.stream is in
      let both : has_on ts u.stream ≡ true = ap (has_on ts) same ∙ there in
      absurd cc
  set_by false t u ws ts is alone (inl same) ok h rest =
      let one : (u.stream == t.stream) ≡ true = ap (λ (x : Tunnel). x.stream == t.stream) same ∙ itself t.stream in
      absurd cc
  set_by false t u ws ts is alone (inr more) ok h rest = (h.0, rest more)

  set_well : (t : Tunnel) (ws : List Waiting) (ts : List Tunnel) → Alone ts → In t ts → AreWell t.id ws → AllWell ts → AllWell (set_waiting t.stream ws ts)
  set_well t ws [] alone i ok h = absurd i
  set_well t ws (u ∷ ts) alone i ok h = set_by (u.stream == t.stream) t u ws ts refl alone i ok h (λ more. set_well t ws ts alone.1 more ok h.1)

  waits_by : (b : Bool) (id : ℕ) (w : Waiting) (t : Tunnel) (ts us : List Tunnel) → (t.id == id) ≡ b → WellWhat id w.what → WellIn t → AllWell ts → AllWell us
      → AllWell (cond b (record t { waiting = t.waiting ++ w ∷ [] } ∷ ts) (t ∷ us))
  waits_by true id w t ts us is ok own h rest =
      let here : WellWhat t.id w.what = subst (λ i. WellWhat i w.what) (sym (eqb-true t.id id is)) ok in
      (each_append (λ (w : Waiting). WellWhat t.id w.what) t.waiting (w ∷ []) own (here, tt), h)
  waits_by false id w t ts us is ok own h rest = (own, rest)

  waits_well : (id : ℕ) (w : Waiting) (ts : List Tunnel) → WellWhat id w.what → AllWell ts → AllWell (waits id w ts)
  waits_well id w [] ok h = tt
  waits_well id w (t ∷ ts) ok h = waits_by (t.id == id) id w t ts (waits id w ts) refl ok h.0 h.1 (waits_well id w ts ok h.1)

  in_well : (t : Tunnel) (ts : List Tunnel) → In t ts → AllWell ts → WellIn t
  in_well t [] i h = absurd i
  in_well t (u ∷ ts) (inl same) h = subst WellIn same h.0
  in_well t (u ∷ ts) (inr more) h = in_well t ts more h.1

  -- ---- what becomes of a connection

  first_well : (id : ℕ) (k : Kind) (routes : List Range) → AreWell id (first_waiting k routes)
  first_well id kind.Udp routes = tt
  first_well id kind.Ip routes = (tt, tt)

  answered_well : (ts us : List Tunnel) (answer : Answer) → Answered ts answer us → AllWell ts → AllWell us
  answered_well ts us answer (inl same) h = subst AllWell (sym same) h
  answered_well ts us answer (inr (inl x)) h = subst AllWell (sym x.is) (each_filter WellIn (λ (t : Tunnel). not (t.id == x.id)) ts h)
  answered_well ts us answer (inr (inr (inl x))) h = subst AllWell (sym x.is) (waits_well x.id (value x.kind x.bytes) ts tt h)
  answered_well ts us answer (inr (inr (inr x))) h =
      let t : Tunnel = record { id = x.id; stream = x.on; goal = x.goal; waiting = first_waiting (kind_of x.goal) x.routes } in
      subst AllWell (sym x.is) (each_append WellIn ts (t ∷ []) h (first_well x.id (kind_of x.goal) x.routes, tt))

  abbrev pub HeldsWell : List Held → Type 0
  HeldsWell hs = AllByRecursion (λ (h : Held). AllWell h.conn.tunnels) hs

  abbrev pub WorkerWell : Worker → Type 0
  WorkerWell w = HeldsWell w.conns

  -- so it is of what a port of a tunnel gives, where the note says that it waits
  abbrev pub Gets : Held → Note → Type 0
  Gets h said = (p : Port) (datagram : List ℕ) (others : List (List ℕ)) (t : Tunnel) → port_of h.ports p.tunnel ≡ Some p → p.arrived ≡ datagram ∷ others → tunnel_of h.conn p.tunnel ≡ Some t
      → said ≡ note.Queued (source.Port p.tunnel) p.received t.id → Q t.id (source.Port p.tunnel) p.received datagram

  -- so it is of what goes on of the first parcel of the inbox, where the note says that it waits
  abbrev pub Pops : Worker → Shared → Note → Type 0
  Pops w sh said = (parcel : Parcel) (rest : List Parcel) (id actor : ℕ) (packet : List ℕ) → slice_get sh.boxes w.id ≡ Some (parcel ∷ rest) → parcel.to ≡ place.Tunnel id actor → onward parcel.packet ≡ Some packet
      → said ≡ note.Queued (source_of parcel.from) parcel.n id → Q id (source_of parcel.from) parcel.n packet

  none_well : (said : Note) → IsNoDelivery said → SaysWell said
  none_well (note.Delivered from n id packet) h = absurd h
  none_well said h = tt

  whole_well : (t : Tunnel) (w : Waiting) (what : What) → WellWhat t.id what → SaysWell (whole_note t w what)
  whole_well t w (Packet from n packet) h = h
  whole_well t w Value h = tt

  queued_well : (c : Conn) (t : Tunnel) (from : From) (n : ℕ) (packet : List ℕ) → ((queued c t from n packet).0 ≡ note.Queued from n t.id → Q t.id from n packet) → AllWell c.tunnels
      → AllWell (settled_note (queued c t from n packet)).1.tunnels × IsNoDelivery (settled_note (queued c t from n packet)).0
  queued_well c t from n packet ok h =
      let P : Note × Conn → Type 0 = λ d. (d.0 ≡ note.Queued from n t.id → Q t.id from n packet) → AllWell d.1.tunnels × IsNoDelivery d.0 in
      let w : Waiting = record { what = Packet from n packet; capsule = capsule_text (datagram packet); framed = 0 } in
      let first : P (queued c t from n packet) =
      if_both P (nat_le most_packets (packets t) || nat_lt most_waiting (waiting_bytes c + length (capsule_text (datagram packet)))) _ _ (λ ok. (h, tt)) (λ ok. (waits_well t.id w c.tunnels (ok refl) h, tt)) in
      let did = first ok in
      (subst AllWell (sym (settle_tunnels (queued c t from n packet).1)) did.0, did.1)

-- what was so before the step, and what is so behind it
module _ (O Q : ℕ → From → ℕ → List ℕ → Type 0) (into : (id : ℕ) (from : From) (n : ℕ) (packet : List ℕ) → O id from n packet → Q id from n packet) where
  what_more : (id : ℕ) (w : What) → WellWhat O id w → WellWhat Q id w
  what_more id (Packet from n packet) h = into id from n packet h
  what_more id Value h = tt

  are_more : (id : ℕ) (ws : List Waiting) → AreWell O id ws → AreWell Q id ws
  are_more id [] h = tt
  are_more id (w ∷ ws) h = (what_more id w.what h.0, are_more id ws h.1)

  all_more : (ts : List Tunnel) → AllWell O ts → AllWell Q ts
  all_more [] h = tt
  all_more (t ∷ ts) h = (are_more t.id t.waiting h.0, all_more ts h.1)

  framed_well : (ts us : List Tunnel) (said : Note) → Alone ts → Framed ts said us → AllWell O ts → AllWell Q us × SaysWell O said
  framed_well ts us said alone x h =
      let was : AreWell O x.t.id (x.w ∷ x.ws) = subst (AreWell O x.t.id) x.waiting (in_well O x.t ts x.among h) in
      let own : AreWell Q x.t.id (x.w ∷ x.ws) = are_more x.t.id (x.w ∷ x.ws) was in
      let now = all_more ts h in
      elim x.goes [
        | inl goes ↦ (subst (AllWell Q) (sym goes.1) (set_well Q x.t x.ws ts alone x.among own.1 now), subst (SaysWell O) (sym goes.0) (whole_well O x.t x.w x.w.what was.0))
        | inr goes ↦ (subst (AllWell Q) (sym goes.2) (set_well Q x.t (record x.w { framed = x.w.framed + goes.0 } ∷ x.ws) ts alone x.among own now), subst (SaysWell O) (sym goes.1) tt)
      ]

  -- ---- a connection's step

  abbrev NewWell : Option Held → Type 0
  NewWell None = Unit {0}
  NewWell (Some h) = AllWell Q h.conn.tunnels

  abbrev pub HeldWell : Note → Option Held → Type 0
  HeldWell said new = NewWell new × SaysWell O said

  tells_well : (c : Conn) (answer : Answer) (said : Note) → Tells c answer said → SaysWell O said
  tells_well c answer (note.Delivered from n id packet) t = absurd t
  tells_well c answer said t = tt

  acted_well : (h : Held) (want : Want) (answer : Answer) (said : Note) (new : Option Held) → AllWell O h.conn.tunnels → over_or h want answer ≡ Some (said, new) → NewWell new
  acted_well h (Over reason) answer said new ok e = subst (λ (d : Note × Option Held). NewWell d.1) (some_same e) tt
  acted_well h want answer said new ok e =
      let was = map_was _ (done h.conn answer) (said, new) e in
      let now = answered_well Q h.conn.tunnels was.0.1.tunnels answer (done_tunnels h.conn was.0.1 answer was.0.0 was.1) (all_more h.conn.tunnels ok) in
      subst (λ (d : Note × Option Held). NewWell d.1) was.2 now

  act_well : (h : Held) (sh : Shared) (answer : Answer) (said : Note) (new : Option Held) (after : Shared) → AllWell O h.conn.tunnels → ActNext h sh answer said new after → HeldWell said new
  act_well h sh answer said new after ok x = (acted_well h (want_of h.conn) answer said new ok x.is, tells_well h.conn answer said (acts_tell h (want_of h.conn) answer said new x.is))

  received_well : (c : Conn) (p : Port) (datagram : List ℕ) (o : Option Tunnel) (d : Note × Conn)
      → ((t : Tunnel) → o ≡ Some t → d.0 ≡ note.Queued (source.Port p.tunnel) p.received t.id → Q t.id (source.Port p.tunnel) p.received datagram) → AllWell O c.tunnels
      → option_map (λ (t : Tunnel). settled_note (queued c t (source.Port p.tunnel) p.received datagram)) o ≡ Some d → AllWell Q d.1.tunnels × SaysWell O d.0
  received_well c p datagram None d gets h e = absurd cc
  received_well c p datagram (Some t) d gets h e =
      let P : Note × Conn → Type 0 = λ d. (d.0 ≡ note.Queued (source.Port p.tunnel) p.received t.id → Q t.id (source.Port p.tunnel) p.received datagram) → AllWell Q d.1.tunnels × IsNoDelivery d.0 in
      let made : P (settled_note (queued c t (source.Port p.tunnel) p.received datagram)) = λ ok. queued_well Q c t (source.Port p.tunnel) p.received datagram ok (all_more c.tunnels h) in
      let did = subst P (some_same e) made (gets t refl) in
      (did.0, none_well O d.0 did.1)

  handles_well : (setup : Setup) (old : Held) (sh : Shared) → Alone old.conn.tunnels → AllWell O old.conn.tunnels → HandlesHeld setup old sh (λ said new after. Gets Q old said → HeldWell said new)
  handles_well setup old sh alone h = record {
    acts = λ answer said new after x gets. act_well old sh answer said new after h x;
    link_fails = λ link answer said new after x gets. act_well (record old { conn = failed old.conn; link = link }) sh answer said new after h x;
    port_fails = λ p t answer said new after is can x gets. act_well (record old { conn = port_failed old.conn t }) sh answer said new after h x;
    frames = λ d is gets. framed_well old.conn.tunnels d.1.tunnels d.0 alone (framed_tunnels old.conn d is) h;
    writes = λ gets. (subst (AllWell Q) (sym (wrote_tunnels old.conn (write_count old))) (all_more old.conn.tunnels h), tt);
    reads = λ first c link took gets. (subst (AllWell Q) (sym (took_tunnels setup old.conn c _ took)) (all_more old.conn.tunnels h), tt);
    ends = λ inside x can gets. (subst (AllWell Q) (sym (finished_tunnels old.conn inside)) (all_more old.conn.tunnels h), tt);
    receives = λ p datagram others d port arrived came gets. received_well old.conn p datagram (tunnel_of old.conn p.tunnel) d (λ t is told. gets p datagram others t port arrived is told) h came;
  }

  -- ---- a worker's turn

  helds_more : (hs : List Held) → HeldsWell O hs → HeldsWell Q hs
  helds_more [] h = tt
  helds_more (g ∷ hs) h = (all_more g.conn.tunnels h.0, helds_more hs h.1)

  pub workers_more : (ws : List Worker) → AllByRecursion (WorkerWell O) ws → AllByRecursion (WorkerWell Q) ws
  workers_more [] h = tt
  workers_more (w ∷ ws) h = (helds_more w.conns h.0, workers_more ws h.1)

  came_well : (c : Conn) (t : Tunnel) (from : From) (n : ℕ) (o : Option (List ℕ)) → ((packet : List ℕ) → o ≡ Some packet → (passed_on c t from n o).0 ≡ note.Queued from n t.id → Q t.id from n packet)
      → AllWell Q c.tunnels → AllWell Q (passed_on c t from n o).1.tunnels × IsNoDelivery (passed_on c t from n o).0
  came_well c t from n None ok h = (h, tt)
  came_well c t from n (Some packet) ok h = queued_well Q c t from n packet (λ told. ok packet refl told) h

  -- the worker behind a pop, with its note
  abbrev PoppedWell : Worker → Shared → Note × Worker → Type 0
  PoppedWell w sh d = Pops Q w sh d.0 → WorkerWell Q d.1 × IsNoDelivery d.0

  popped_well : (w : Worker) (sh : Shared) (parcel : Parcel) (rest : List Parcel) → slice_get sh.boxes w.id ≡ Some (parcel ∷ rest) → WorkerWell Q w → PoppedWell w sh (popped w parcel)
  popped_well w sh parcel rest at h =
      elim (cases_of (tunnel_in w parcel.to)) [
        | inl none ↦ rw none (λ pops. (h, tt))
        | inr (found, some) ↦ (
            let among : Among found.0 w.conns = subst (FoundAmong w.conns) some (among_in w parcel.to) in
            let number : FoundNumber parcel.to (Some found) = subst (FoundNumber parcel.to) some (found_number w parcel.to) in
            let own = all_among (λ (h : Held). AllWell Q h.conn.tunnels) w.conns found.0 h among in
            let came = λ (pops : Pops Q w sh (came_to found.0 found.1 parcel).0).
            came_well found.0.conn found.1 (source_of parcel.from) parcel.n (onward parcel.packet) (λ packet is told. pops parcel rest found.1.id number.0 packet at number.1 is told) own in
            rw some (λ pops. let did = came pops in (replaced_have (any_setup (λ (c : Conn). AllWell Q c.tunnels)) w.setup found.0.conn.number (Some (came_to found.0 found.1 parcel).1) w.conns did.0 h, did.1)))
      ]

  abbrev AcceptWell : Option (Note × Worker) → Type 0
  AcceptWell None = Unit {0}
  AcceptWell (Some d) = WorkerWell Q d.1 × IsNoDelivery d.0

  accepted_well : (w : Worker) (offered : List Offer) → WorkerWell Q w → AcceptWell (accepted w offered)
  accepted_well w [] h = tt
  accepted_well w (o ∷ offered) h = (each_append (λ (h : Held). AllWell Q h.conn.tunnels) w.conns (record { conn = new_conn o.number w.id; link = o.link; ports = [] } ∷ []) h (tt, tt), tt)

  pub seat_well : (old : Worker) (sh : Shared) (seat : Seat) (answer : Answer) (said : Note) (new : Worker) (after : Shared) → ((h : Held) → Among h old.conns → Alone h.conn.tunnels)
      → ((conn : ℕ) (h : Held) → held_of old conn ≡ Some h → Gets Q h said) → Pops Q old sh said → WorkerWell O old → SeatNext old sh seat answer said new after → WorkerWell Q new × SaysWell O said
  seat_well old sh Offers answer said new after alone gets pops h x =
      let did = subst AcceptWell x.1 (accepted_well old old.offered (helds_more old.conns h)) in
      (did.0, none_well O said did.1)
  seat_well old sh Inbox answer said new after alone gets pops h x =
      let did = subst (PoppedWell old sh) x.1.is (popped_well old sh x.1.parcel x.1.rest x.1.box (helds_more old.conns h)) pops in
      (did.0, none_well O said did.1)
  seat_well old sh (Of n) answer said new after alone gets pops h x =
      let among = found_among (λ (h : Held). h.conn.number == n) old.conns x.held x.has in
      let own = all_among (λ (h : Held). AllWell O h.conn.tunnels) old.conns x.held h among in
      let did = try_walk old.setup x.held sh (λ said new after. Gets Q x.held said → HeldWell said new) (handles_well old.setup x.held sh (alone x.held among) own) x.try answer said x.became after x.tries x.next (gets n x.held x.has) in
      (subst (HeldsWell Q) (sym (ap (λ (w : Worker). w.conns) x.new_is)) (replaced_have (any_setup (λ (c : Conn). AllWell Q c.tunnels)) old.setup n x.became old.conns did.0 (helds_more old.conns h)), did.1)

  -- ---- where it was refused memory

  after_well : (want : Want) (answer : Answer) (ts : List Tunnel) → AllWell Q ts → AllWell Q (tunnels_after want answer ts)
  after_well (Ask (call.Open conn on actor goal)) (Replied (reply.Opened tunnel routes)) ts h = each_append (WellIn Q) ts (record { id = tunnel; stream = on; goal = goal; waiting = [] } ∷ []) h (tt, tt)
  after_well want answer ts h = h

  heard_well : (asked : Bool) (old : Held) (sh : Shared) (try : Try) (answer : Answer) (tunnels : List Tunnel) (after : Shared) → Heard asked old sh try answer tunnels after → AllWell Q old.conn.tunnels → AllWell Q tunnels
  heard_well false old sh try answer tunnels after x h = subst (AllWell Q) (sym x.1) h
  heard_well true old sh try answer tunnels after x h = subst (AllWell Q) (sym x.tunnels_are) (after_well (want_of old.conn) answer old.conn.tunnels h)

  pub starves_well : (old : Worker) (sh : Shared) (seat : Seat) (reached : Reached) (answer : Answer) (new : Worker) (after : Shared) → WorkerWell Q old → SeatStarves old sh seat reached answer new after → WorkerWell Q new
  starves_well old sh Offers reached answer new after h x = subst (WorkerWell Q) (sym x.2) h
  starves_well old sh Inbox reached answer new after h x = absurd x
  starves_well old sh (Of n) reached answer new after h x =
      let own = each_found (λ (h : Held). AllWell Q h.conn.tunnels) (λ (g : Held). g.conn.number == n) old.conns x.held h x.has in
      let heard = heard_well reached.asked x.held sh x.try answer x.tunnels after x.heard own in
      let now : Held = record x.held { link = record x.held.link { pieces = x.pieces }; conn = record (starved x.held.conn) { tunnels = x.tunnels } } in
      subst (HeldsWell Q) (sym (ap (λ (w : Worker). w.conns) x.new_is)) (replaced_have (any_setup (λ (c : Conn). AllWell Q c.tunnels)) old.setup n (Some now) old.conns heard h)
