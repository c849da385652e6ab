-- What the cause of a drop says is so.
use Rattle.std.proofs.Common.{◌≡◌, ◌<◌, ◌≤◌, ◌⊎◌, ◌+◌, ℕ, Bool, true, false, cond, ◌||◌, List, [], ◌∷◌, length, drop, nat_le, nat_lt, slice_get, slice_set, Option, Some, None, option_map, refl, sym, subst, ap, ◌∙◌, inl, inr}
use Rattle.std.specs.Prelude.{◌==◌, option_and_then}
use Rattle.std.specs.Bool.{MatchBool}
use Rattle.std.specs.List.{AllByRecursion}
use Rattle.std.proofs.lemmas.Bool.{leb-true, ltb-true}
use Rattle.mq_addr.specs.declared.range.Flow.{Flow}
use Rattle.mq_capsule.specs.Laws.{IsWithinLimits}
use Rattle.mq_capsule.specs.declared.item.Item.{Item}
use Rattle.mq_capsule.specs.declared.item.Item.TheVariants as item
use Rattle.mq_capsule.specs.Writing.{capsule_text, datagram}
use Rattle.mq_outside.specs.declared.PortPut.{PortPut}
use Rattle.mq_outside.specs.declared.PortPut.TheVariants as put
use Rattle.mq_outside.specs.Nets.{Arrival}
use Rattle.mq_talk.specs.declared.note.From.{From}
use Rattle.mq_talk.specs.declared.note.From.TheVariants as source
use Rattle.mq_talk.specs.declared.note.Note.{Note}
use Rattle.mq_talk.specs.declared.note.Note.TheVariants as note
use Rattle.mq_talk.specs.declared.place.Cause.{Cause}
use Rattle.mq_talk.specs.declared.place.Cause.TheVariants as cause
use Rattle.mq_talk.specs.declared.place.Origin.TheVariants as origin
use Rattle.mq_talk.specs.declared.place.Parcel.{Parcel}
use Rattle.mq_talk.specs.declared.place.Verdict.{Verdict}
use Rattle.mq_talk.specs.declared.place.Verdict.TheVariants as verdict
use Rattle.mq_talk.specs.Judging.{IsJudged}
use Rattle.mq_talk.specs.Mails.{box_at, has_room}
use Rattle.mq_talk.specs.Packets.{flow_of}
use Rattle.mq_machine.specs.declared.act.StreamAct.{StreamAct}
use Rattle.mq_machine.specs.declared.act.StreamAct.TheVariants as stream
use Rattle.mq_machine.specs.declared.setup.Setup.{Setup}
use Rattle.mq_machine.specs.Words.{onward}
use Rattle.mq_machine.specs.State.{Conn, Tunnel, Waiting, What, Packet, Value, Port, Offer, Held, Worker, Pump, Shared, State, held_of, tunnel_of, packets, waiting_bytes}
use Rattle.mq_machine.specs.Want.{Answer, Judged, Pushed, Put, want_of, stream_want}
use Rattle.mq_machine.specs.Shared.{Answers, PortsAnswer, put_of, port_answer, port_of, inbox_of}
use Rattle.mq_machine.specs.Steps.{failed, port_failed, framed, framed_front, next_framed, frame_size, most_packets, most_waiting, queued, settled_note, passed_on, whole_note}
use Rattle.mq_machine.specs.Turn.{PumpTry, PushHeld, SendHeld, SendNext, Receives, PumpNext, parcel_pushed, net_sent, net_popped, net_judged, IsMet, IsReceived, with_arrivals, last_of, Actor, WorkerOf, ThePump, Turn, SeatNext, Seat, Offers, Inbox, Of, popped, accepted, tunnel_in, source_of}
use Rattle.mq_play.specs.declared.plan.Plan.{Plan}
use Rattle.mq_play.specs.Events.{state_of}
use Rattle.mq_play.proofs.Lists.{if_both, each_at, each_found, some_same}
use Rattle.mq_runs.specs.Runs.{Moment, Run}
use Rattle.mq_runs.specs.Payloads.{IsWrong}
use Rattle.mq_runs.specs.Causes.{ComesFromNet, IsPopped, PassesOn, ComesToPort, SendsNext, Holds}
use Rattle.mq_runs.proofs.Asked.{Asked, keeps_asked}
use Rattle.mq_runs.proofs.Facts.{InFront, PutSo, Drops, IsClose, Tells, OnlyCloses, failed_closes, port_failed_closes, front_wants}
use Rattle.mq_runs.proofs.Kept.{cases_of, on_run, first_has}
use Rattle.mq_runs.proofs.Nexts.{acts_tell, next_is}
use Rattle.mq_runs.proofs.Walks.{HandlesHeld, try_walk, map_was}

-- what is wrong with a payload as it is read is one of three things
abbrev IsReadCause : Cause → Type 0
IsReadCause cause.UnknownContext = Unit {0}
IsReadCause cause.BadHeader = Unit {0}
IsReadCause cause.TooLong = Unit {0}
IsReadCause why = ⊥

read_cause : (mtu : ℕ) (i : Item) (why : Cause) → IsWrong mtu i why → IsReadCause why
read_cause mtu i cause.UnknownContext x = tt
read_cause mtu i cause.BadHeader x = tt
read_cause mtu i cause.TooLong x = tt
read_cause mtu (item.Datagram context payload) why x = absurd x
read_cause mtu (item.TooLongDatagram context size) why x = absurd x
read_cause mtu (item.Control type value) why x = absurd x
read_cause mtu (item.Bad fault) why x = absurd x

put_fails : (b w : Bool) → cond b put.Failed (cond w put.NotNow put.Sent) ≡ put.Failed → b ≡ true
put_fails true w e = refl
put_fails false true e = absurd cc
put_fails false false e = absurd cc

module _ (here : State) where
  -- what is held of a note
  abbrev HeldOf : Note → Type 0
  HeldOf (note.Dropped from n why) = Holds here from n why
  HeldOf said = Unit {0}

  -- ---- a connection's act

  module _ (number conn : ℕ) (worker : Worker) (held : Held) (works : slice_get here.workers number ≡ Some worker) (has : held_of worker conn ≡ Some held) (asked : Asked worker.setup.mtu held.conn) where
    read_so : (n : ℕ) (why : Cause) (f : InFront held.conn (stream.Drop n why)) → IsReadCause why → Holds here (source.Tunnel f.t.id) n why
    read_so n cause.UnknownContext f x = record { tunnel = f.t.id; from_is = refl; asked = next_is here number conn worker held works has asked (stream.Drop n cause.UnknownContext) f }
    read_so n cause.BadHeader f x = inl (record { tunnel = f.t.id; from_is = refl; asked = next_is here number conn worker held works has asked (stream.Drop n cause.BadHeader) f })
    read_so n cause.TooLong f x = inl (record { tunnel = f.t.id; from_is = refl; asked = next_is here number conn worker held works has asked (stream.Drop n cause.TooLong) f })
    read_so n why f x = absurd x

    put_so : (n : ℕ) (payload : List ℕ) (did : PortPut) (limit : ℕ) (why : Cause) (f : InFront held.conn (stream.Payload n payload)) → option_map port_answer (port_of held.ports f.t.id) ≡ Some (Put did limit)
        → PutSo limit did (length payload) why → Holds here (source.Tunnel f.t.id) n why
    put_so n payload did limit cause.TooLong f e x =
        let was = map_was port_answer (port_of held.ports f.t.id) (Put did limit) e in
        let same : was.0.limit ≡ limit = let k = was.2 in cc in
        inr (inl (was.0, payload, record { tunnel = f.t.id; from_is = refl; asked = next_is here number conn worker held works has asked (stream.Payload n payload) f; port = was.1 }, subst (λ l. l < length payload) (sym same) x))
    put_so n payload did limit cause.Port f e x =
        let was = map_was port_answer (port_of held.ports f.t.id) (Put did limit) e in
        let same : put_of was.0 ≡ did = let k = was.2 in cc in
        inl (was.0, payload, record { tunnel = f.t.id; from_is = refl; asked = next_is here number conn worker held works has asked (stream.Payload n payload) f; port = was.1 }, put_fails was.0.send_fails was.0.send_waits (same ∙ x))
    put_so n payload did limit why f e x = absurd x

    judged_so : (n : ℕ) (packet : List ℕ) (flow : Flow) (said : Verdict) (why : Cause) (f : InFront held.conn (stream.Packet n packet flow)) → IsJudged here.shared.config here.shared.book (origin.Tunnel f.t.id) flow said
        → ((said ≡ verdict.Source) × (why ≡ cause.Source)) ⊎ ((said ≡ verdict.NoRoute) × (why ≡ cause.NoRoute)) → Holds here (source.Tunnel f.t.id) n why
    judged_so n packet flow said why f x (inl e) =
        subst (Holds here (source.Tunnel f.t.id) n) (sym e.1)
        (inl (record { tunnel = f.t.id; packet = packet; flow = flow; from_is = refl; asked = next_is here number conn worker held works has asked (stream.Packet n packet flow) f; judged = subst (IsJudged here.shared.config here.shared.book (origin.Tunnel f.t.id) flow) e.0 x }))
    judged_so n packet flow said why f x (inr e) =
        subst (Holds here (source.Tunnel f.t.id) n) (sym e.1)
        (inl (record { tunnel = f.t.id; packet = packet; flow = flow; from_is = refl; asked = next_is here number conn worker held works has asked (stream.Packet n packet flow) f; judged = subst (IsJudged here.shared.config here.shared.book (origin.Tunnel f.t.id) flow) e.0 x }))

    drop_so : (a : StreamAct) (answer : Answer) (after : Shared) (n : ℕ) (why : Cause) (f : InFront held.conn a) → Answers held.conn.actor here.shared (stream_want f.t a) answer after
        → PortsAnswer held.ports (stream_want f.t a) answer → Drops a answer n why → Holds here (source.Tunnel f.t.id) n why
    drop_so (stream.Payload m payload) (Put did limit) after n why f x y d =
        subst (λ k. Holds here (source.Tunnel f.t.id) k why) d.0 (put_so m payload did limit why f y d.1)
    drop_so (stream.Packet m packet flow) (Judged said at) after n why f x y d =
        subst (λ k. Holds here (source.Tunnel f.t.id) k why) d.0 (judged_so m packet flow said why f x.1 d.1)
    drop_so (stream.Push m to packet) (Pushed did) after n why f x y d =
        subst (λ k. Holds here (source.Tunnel f.t.id) k why) d.0 (subst (Holds here (source.Tunnel f.t.id) m) (sym d.2)
        (inl (to, packet, record { tunnel = f.t.id; from_is = refl; asked = next_is here number conn worker held works has asked (stream.Push m to packet) f }, sym x.0 ∙ d.1)))
    drop_so (stream.Drop m said) answer after n why f x y d =
        let next = next_is here number conn worker held works has asked (stream.Drop m said) f in
        let wrong = next.is in
        subst (λ k. Holds here (source.Tunnel f.t.id) k why) d.0 (subst (Holds here (source.Tunnel f.t.id) m) d.1 (read_so m said f (read_cause worker.setup.mtu wrong.0 said wrong.2)))
    drop_so a answer after n why f x y d = absurd d

    act_held : (answer : Answer) (after : Shared) (said : Note) → Answers held.conn.actor here.shared (want_of held.conn) answer after → PortsAnswer held.ports (want_of held.conn) answer → Tells held.conn answer said → HeldOf said
    act_held answer after (note.Dropped from n why) x y (a, f, from_is, d) =
        let wants = front_wants held.conn a f in
        let now = subst (λ w. Answers held.conn.actor here.shared w answer after) wants x in
        let ports = subst (λ w. PortsAnswer held.ports w answer) wants y in
        subst (λ who. Holds here who n why) (sym from_is) (drop_so a answer after n why f now ports d)
    act_held answer after said x y t = tt

  -- where its link or its port failed, it drops nothing
  closes_drop : (a : StreamAct) (answer : Answer) (n : ℕ) (why : Cause) → IsClose a → Drops a answer n why → ⊥
  closes_drop (stream.Close reason) answer n why c d = d
  closes_drop a answer n why c d = c

  none_held : (c : Conn) (answer : Answer) (said : Note) → OnlyCloses c → Tells c answer said → HeldOf said
  none_held c answer (note.Dropped from n why) only (a, f, from_is, d) = absurd (closes_drop a answer n why (only a f) d)
  none_held c answer said only t = tt

  -- ---- what is framed

  abbrev HeldIn : Option (Note × Conn) → Type 0
  HeldIn None = Unit {0}
  HeldIn (Some d) = HeldOf d.0

  held_whole : (t : Tunnel) (w : Waiting) (what : What) → HeldOf (whole_note t w what)
  held_whole t w (Packet from n packet) = tt
  held_whole t w Value = tt

  held_front : (c : Conn) (t : Tunnel) (ws : List Waiting) → HeldIn (framed_front c t ws)
  held_front c t [] = tt
  held_front c t (w ∷ ws) =
      let size = frame_size c.front t.stream (length (drop w.framed w.capsule)) in
      if_both (λ (d : Note × Conn). HeldOf d.0) (nat_le (length w.capsule) (w.framed + size)) _ _ (held_whole t w w.what) tt

  held_settled : (o : Option (Note × Conn)) → HeldIn o → HeldIn (option_map settled_note o)
  held_settled None h = tt
  held_settled (Some d) h = h

  held_next : (c : Conn) (o : Option Tunnel) → HeldIn (option_and_then (λ (t : Tunnel). framed_front c t t.waiting) o)
  held_next c None = tt
  held_next c (Some t) = held_front c t t.waiting

  held_framed : (c : Conn) (d : Note × Conn) → framed c ≡ Some d → HeldOf d.0
  held_framed c d e = subst HeldIn e (held_settled (option_and_then (λ (t : Tunnel). framed_front c t t.waiting) (next_framed c)) (held_next c (next_framed c)))

  -- ---- what comes to a tunnel

  full_by : (a b : Bool) (m n k l : ℕ) → nat_le m n ≡ a → nat_lt k l ≡ b → a || b ≡ true → (m ≤ n) ⊎ (k < l)
  full_by true b m n k l x y h = inl (leb-true m n x)
  full_by false true m n k l x y h = inr (ltb-true k l y)
  full_by false false m n k l x y h = absurd cc

  queue_by : (b : Bool) (c : Conn) (t : Tunnel) (from : From) (n : ℕ) (packet : List ℕ) (x y : Note × Conn) → x.0 ≡ note.Dropped from n cause.QueueFull → y.0 ≡ note.Queued from n t.id
      → (b ≡ true → Holds here from n cause.QueueFull) → HeldOf (cond b x y).0
  queue_by true c t from n packet x y e k h = rw e (h refl)
  queue_by false c t from n packet x y e k h = rw k tt

  held_queued : (c : Conn) (t : Tunnel) (from : From) (n : ℕ) (packet : List ℕ) → PassesOn here from n c t packet ⊎ ComesToPort here from n c t packet → HeldOf (queued c t from n packet).0
  held_queued c t from n packet comes =
      let size = waiting_bytes c + length (capsule_text (datagram packet)) in
      queue_by (nat_le most_packets (packets t) || nat_lt most_waiting size) c t from n packet _ _ refl refl
      (λ full. (c, t, packet, comes, full_by (nat_le most_packets (packets t)) (nat_lt most_waiting size) most_packets (packets t) most_waiting size refl refl full))

  held_came : (worker : Worker) (parcel : Parcel) (h : Held) (t : Tunnel) (o : Option (List ℕ)) → IsPopped here (source_of parcel.from) parcel.n worker parcel → tunnel_in worker parcel.to ≡ Some (h, t)
      → onward parcel.packet ≡ o → HeldOf (passed_on h.conn t (source_of parcel.from) parcel.n o).0
  held_came worker parcel h t None pops to is = (worker, parcel, (h, t), pops, to, is)
  held_came worker parcel h t (Some packet) pops to is =
      held_queued h.conn t (source_of parcel.from) parcel.n packet (inl (record { worker = worker; parcel = parcel; held = h; popped = pops; to = to; conn_is = refl; packet_is = is }))

  held_popped : (worker : Worker) (parcel : Parcel) → IsPopped here (source_of parcel.from) parcel.n worker parcel → HeldOf (popped worker parcel).0
  held_popped worker parcel pops =
      elim (cases_of (tunnel_in worker parcel.to)) [
        | inl none ↦ rw none (worker, parcel, pops, none)
        | inr (found, some) ↦ rw some (held_came worker parcel found.0 found.1 (onward parcel.packet) pops some refl)
      ]

  held_received : (number conn : ℕ) (worker : Worker) (held : Held) (p : Port) (datagram : List ℕ) (others : List (List ℕ)) (o : Option Tunnel) → slice_get here.workers number ≡ Some worker → held_of worker conn ≡ Some held
      → port_of held.ports p.tunnel ≡ Some p → p.arrived ≡ datagram ∷ others → tunnel_of held.conn p.tunnel ≡ o
      → HeldIn (option_map (λ (t : Tunnel). settled_note (queued held.conn t (source.Port p.tunnel) p.received datagram)) o)
  held_received number conn worker held p datagram others None works has port arrived is = tt
  held_received number conn worker held p datagram others (Some t) works has port arrived is =
      held_queued held.conn t (source.Port p.tunnel) p.received datagram
      (inr (record { number = number; conn = conn; worker = worker; held = held; p = p; others = others; works = works; has = has; port = port; to = is; arrived = arrived; conn_is = refl; from_is = refl; number_is = refl }))

  -- ---- a worker's turn

  handles : (number conn : ℕ) (worker : Worker) (held : Held) → slice_get here.workers number ≡ Some worker → held_of worker conn ≡ Some held → Asked worker.setup.mtu held.conn
      → HandlesHeld worker.setup held here.shared (λ said new after. HeldOf said)
  handles number conn worker held works has asked = record {
    acts = λ answer said new after x. act_held number conn worker held works has asked answer after said x.answers x.ports (acts_tell held (want_of held.conn) answer said new x.is);
    link_fails = λ link answer said new after x. none_held (failed held.conn) answer said (failed_closes held.conn) (acts_tell (record held { conn = failed held.conn; link = link }) (want_of (failed held.conn)) answer said new x.is);
    port_fails = λ p t answer said new after is can x. none_held (port_failed held.conn t) answer said (port_failed_closes held.conn t) (acts_tell (record held { conn = port_failed held.conn t }) (want_of (port_failed held.conn t)) answer said new x.is);
    frames = λ d is. held_framed held.conn d is;
    writes = tt;
    reads = λ first c link took. tt;
    ends = λ inside x can. tt;
    receives = λ p datagram others d port arrived came. subst HeldIn came (held_received number conn worker held p datagram others (tunnel_of held.conn p.tunnel) works has port arrived refl);
  }

  held_accepted : (w : Worker) (offered : List Offer) (said : Note) (new : Worker) → accepted w offered ≡ Some (said, new) → HeldOf said
  held_accepted w [] said new e = absurd cc
  held_accepted w (o ∷ offered) said new e = subst (λ (d : Note × Worker). HeldOf d.0) (some_same e) tt

  held_seat : (number : ℕ) (worker : Worker) (seat : Seat) (answer : Answer) (said : Note) (new : Worker) (after : Shared) → slice_get here.workers number ≡ Some worker
      → AllByRecursion (λ (h : Held). Asked worker.setup.mtu h.conn) worker.conns → SeatNext worker here.shared seat answer said new after → HeldOf said
  held_seat number worker Offers answer said new after works asked x = held_accepted worker worker.offered said new x.1
  held_seat number worker Inbox answer said new after works asked x =
      subst (λ (d : Note × Worker). HeldOf d.0) x.1.is
      (held_popped worker x.1.parcel (record { number = number; others = x.1.rest; works = works; box = x.1.box; of = (refl, refl) }))
  held_seat number worker (Of conn) answer said new after works asked x =
      let held = each_found (λ (h : Held). Asked worker.setup.mtu h.conn) (λ (g : Held). g.conn.number == conn) worker.conns x.held asked x.has in
      try_walk worker.setup x.held here.shared (λ said new after. HeldOf said) (handles number conn worker x.held works x.has held) x.try answer said x.became after x.tries x.next

  -- ---- the pump's turn

  abbrev HeldBy : Note × Pump × Shared → Type 0
  HeldBy d = HeldOf d.0

  held_pushed : (parcel : Parcel) (b : Bool) → here.pump.to_push ≡ Some parcel → has_room here.shared.boxes (inbox_of here.shared.boxes parcel.to) ≡ b → HeldBy (parcel_pushed here.pump here.shared parcel b)
  held_pushed parcel true is room = tt
  held_pushed parcel false is room = inr (parcel, record { in_hand = is; of = (refl, refl) }, room)

  held_fails : (b : Bool) (x y : Note × Pump × Shared) (parcel : Parcel) → here.pump.net.holds.send_fails ≡ b → SendsNext here (source_of parcel.from) parcel.n parcel
      → x.0 ≡ note.Dropped (source_of parcel.from) parcel.n cause.Port → HeldBy y → HeldBy (cond b x y)
  held_fails true x y parcel is next e h = rw e (inr (parcel, next, is))
  held_fails false x y parcel is next e h = h

  held_sent : (sh : Shared) (parcel : Parcel) → SendsNext here (source_of parcel.from) parcel.n parcel → HeldBy (net_sent here.pump sh parcel)
  held_sent sh parcel next = held_fails here.pump.net.holds.send_fails _ _ parcel refl next refl (if_both HeldBy here.pump.net.holds.send_waits _ _ tt tt)

  held_next_sent : (box : List Parcel) (d : Note × Pump × Shared) → box_at here.shared.boxes (last_of here.shared.boxes) ≡ box → net_popped here.pump here.shared (last_of here.shared.boxes) box ≡ Some d → HeldBy d
  held_next_sent [] d is e = absurd cc
  held_next_sent (parcel ∷ rest) d is e =
      subst HeldBy (some_same e) (held_sent (record here.shared { boxes = slice_set here.shared.boxes (last_of here.shared.boxes) rest }) parcel (record { is = inr (rest, is); of = (refl, refl) }))

  held_judged : (p : Pump) (n : ℕ) (packet : List ℕ) (flow : Flow) (said : Verdict) (next : ComesFromNet here source.Net n) → next.packet ≡ packet → flow_of packet ≡ Some flow
      → IsJudged here.shared.config here.shared.book origin.Net flow said → HeldBy (net_judged p here.shared n packet said)
  held_judged p n packet flow (verdict.Pass to) next same is x = tt
  held_judged p n packet flow verdict.Source next same is x = inr (record { comes = next; flow = flow; flow_is = ap (λ b. flow_of b) same ∙ is; judged = x })
  held_judged p n packet flow verdict.NoRoute next same is x = inr (record { comes = next; flow = flow; flow_is = ap (λ b. flow_of b) same ∙ is; judged = x })

  held_fits : (b : Bool) (p : Pump) (n : ℕ) (packet : List ℕ) (flow : Flow) (d : Note × Pump × Shared) (next : ComesFromNet here source.Net n) → next.packet ≡ packet → flow_of packet ≡ Some flow
      → p.mtu ≡ here.pump.mtu → nat_lt p.mtu (length packet) ≡ b
      → MatchBool b (d ≡ (note.Dropped source.Net n cause.TooLong, p, here.shared)) ((said : Verdict) × IsJudged here.shared.config here.shared.book origin.Net flow said × (d ≡ net_judged p here.shared n packet said)) → HeldBy d
  held_fits true p n packet flow d next same is mtu long x =
      let past : here.pump.mtu < length next.packet = rw same (rw (← mtu) (ltb-true p.mtu (length packet) long)) in
      subst HeldBy (sym x) (inr (inr (next, past)))
  held_fits false p n packet flow d next same is mtu long x = subst HeldBy (sym x.2) (held_judged p n packet flow x.0 next same is x.1)

  held_met : (p : Pump) (n : ℕ) (packet : List ℕ) (o : Option Flow) (d : Note × Pump × Shared) (next : ComesFromNet here source.Net n) → next.packet ≡ packet → flow_of packet ≡ o → p.mtu ≡ here.pump.mtu
      → IsMet p here.shared n packet o d → HeldBy d
  held_met p n packet None d next same is mtu x = subst HeldBy (sym x) (inr (next, ap (λ b. flow_of b) same ∙ is))
  held_met p n packet (Some flow) d next same is mtu x = held_fits (nat_lt p.mtu (length packet)) p n packet flow d next same is mtu refl x

  held_arrives : (arrived : List Arrival) (d : Note × Pump × Shared) → here.pump.net.holds.arrived ≡ arrived → IsReceived here.pump here.shared arrived d → HeldBy d
  held_arrives [] d is x = absurd x
  held_arrives (first ∷ others) d is x =
      held_met (record here.pump { net = with_arrivals others here.pump.net }) here.pump.net.received first.packet (flow_of first.packet) d
      (record { packet = first.packet; from_is = refl; arrives = record { first = first; others = others; arrived = is; packet_is = refl; number = refl } }) refl refl refl x

  held_pump : (try : PumpTry) (d : Note × Pump × Shared) → PumpNext here.pump here.shared try d → HeldBy d
  held_pump PushHeld d x =
      let was = map_was (λ (parcel : Parcel). parcel_pushed here.pump here.shared parcel (has_room here.shared.boxes (inbox_of here.shared.boxes parcel.to))) here.pump.to_push d x in
      subst HeldBy was.2 (held_pushed was.0 (has_room here.shared.boxes (inbox_of here.shared.boxes was.0.to)) was.1 refl)
  held_pump SendHeld d x =
      let was = map_was (net_sent here.pump here.shared) here.pump.to_send d x in
      subst HeldBy was.2 (held_sent here.shared was.0 (record { is = inl was.1; of = (refl, refl) }))
  held_pump SendNext d x = held_next_sent (box_at here.shared.boxes (last_of here.shared.boxes)) d refl x
  held_pump Receives d x = held_arrives here.pump.net.holds.arrived d refl x

  -- ---- all actors

  held_turn : (actor : Actor) (said : Note) (next : State) → AllByRecursion (λ (w : Worker). AllByRecursion (λ (h : Held). Asked w.setup.mtu h.conn) w.conns) here.workers → Turn here actor said next → HeldOf said
  held_turn (WorkerOf number) said next asked x =
      let w = each_at (λ (w : Worker). AllByRecursion (λ (h : Held). Asked w.setup.mtu h.conn) w.conns) here.workers number x.worker asked x.at in
      held_seat number x.worker x.turn.seat x.answer said x.next x.shared x.at w x.turn.next
  held_turn ThePump said next asked x = held_pump x.turn.try (said, x.pump, x.shared) x.turn.is

pub causes_hold : IsWithinLimits → (plan : Plan) (before : List Moment) (here next : State) (actor : Actor) (from : From) (n : ℕ) (why : Cause) → Run (state_of plan) before here
    → Turn here actor (note.Dropped from n why) next → Holds here from n why
causes_hold limits plan before here next actor from n why run x =
    let K = λ (setup : Setup) (n : ℕ) (c : Conn). Asked setup.mtu c in
    let keeps = keeps_asked limits in
    held_turn here actor (note.Dropped from n why) next (on_run K keeps before (state_of plan) here (first_has K keeps plan) run).have x
