-- What waits and what is sent passed, and was pushed then, in every run.
use Rattle.std.proofs.Common.{◌≡◌, ◌⊎◌, ℕ, zero, suc, List, [], ◌∷◌, ◌++◌, ◌+◌, replicate, slice_get, slice_set, Option, Some, None, refl, sym, subst, ap, ◌∙◌, inl, inr, append_assoc, append-nil}
use Rattle.std.specs.Prelude.{◌==◌}
use Rattle.std.specs.List.{AllByRecursion}
use Rattle.std.proofs.lemmas.Bool.{eqb-true}
use Rattle.mq_capsule.specs.Laws.{IsWithinLimits}
use Rattle.mq_talk.specs.declared.note.From.{From}
use Rattle.mq_talk.specs.declared.note.From.TheVariants as source
use Rattle.mq_talk.specs.declared.note.Note.{Note}
use Rattle.mq_talk.specs.declared.note.Note.TheVariants as note
use Rattle.mq_talk.specs.declared.place.Origin.{Origin}
use Rattle.mq_talk.specs.declared.place.Origin.TheVariants as origin
use Rattle.mq_talk.specs.declared.place.Parcel.{Parcel}
use Rattle.mq_talk.specs.declared.place.Place.{Place}
use Rattle.mq_talk.specs.declared.place.Place.TheVariants as place
use Rattle.mq_talk.specs.Mails.{box_at, with_parcel}
use Rattle.mq_machine.specs.declared.act.StreamAct.TheVariants as stream
use Rattle.mq_machine.specs.declared.event.Event.{Event}
use Rattle.mq_machine.specs.declared.event.Event.TheVariants as event
use Rattle.mq_machine.specs.declared.setup.Setup.{Setup}
use Rattle.mq_machine.specs.Lawful.{Alone, StaysLawful}
use Rattle.mq_machine.specs.Shared.{inbox_of, port_of}
use Rattle.mq_machine.specs.Silent.{Reached, SilentTurn}
use Rattle.mq_machine.specs.State.{Conn, Tunnel, Link, Port, Held, Worker, Pump, Shared, State, tunnel_of, held_of}
use Rattle.mq_machine.specs.Turn.{Actor, WorkerOf, ThePump, Turn, source_of}
use Rattle.mq_play.specs.declared.plan.Plan.{Plan}
use Rattle.mq_play.specs.Events.{new_workers, state_of, happen}
use Rattle.mq_play.proofs.Lists.{each_append, each_at, each_found, each_set}
use Rattle.mq_runs.specs.Payloads.{IsNext}
use Rattle.mq_runs.specs.Pushed.{IsToPush, NetPassed, TunnelPassed, HasPassed, WentOn, WasQueued, PortGave, CameAs}
use Rattle.mq_runs.specs.Runs.{Moment, Happened, Noted, Refused, Goes, Run}
use Rattle.mq_runs.proofs.Asked.{Asked}
use Rattle.mq_runs.proofs.Behind.{AllAsked, AllAlone, taken_more, taken_now, all_may, asked_at, alone_at}
use Rattle.mq_runs.proofs.Boxes.{starves_boxes, pushed_box, popped_box, happen_boxes}
use Rattle.mq_runs.proofs.Bridge.{run_append}
use Rattle.mq_runs.proofs.Conns.{any_setup, happen_have}
use Rattle.mq_runs.proofs.Filling.{Filled, filled_at, front_place}
use Rattle.mq_runs.proofs.Flight.{Key}
use Rattle.mq_runs.proofs.Nexts.{next_is}
use Rattle.mq_runs.proofs.Passing.{pushed_passed}
use Rattle.mq_runs.proofs.Pushes.{pushed_note, SeatPush, SeatPushes, seat_pushes, Holds, HasParcel, PumpInboxes, pump_does}
use Rattle.mq_runs.proofs.Shifting.{all_among}
use Rattle.mq_runs.proofs.Walks.{found_passes}
use Rattle.mq_runs.proofs.Wells.{WorkerWell, AllWell, Pops, seat_well, starves_well, workers_more}

-- ---- inboxes

abbrev pub BoxesHave : (Parcel → Type 0) → List (List Parcel) → Type 0
BoxesHave R boxes = (j : ℕ) → AllByRecursion R (box_at boxes j)

each_more : (R S : Parcel → Type 0) → ((p : Parcel) → R p → S p) → (ps : List Parcel) → AllByRecursion R ps → AllByRecursion S ps
each_more R S into [] h = tt
each_more R S into (p ∷ ps) h = (into p h.0, each_more R S into ps h.1)

pushed_have : (R : Parcel → Type 0) (boxes : List (List Parcel)) (i : ℕ) (parcel : Parcel) → BoxesHave R boxes → R parcel → BoxesHave R (with_parcel boxes i parcel)
pushed_have R boxes i parcel h ok j =
    elim (pushed_box boxes i j parcel) [
      | inl same ↦ subst (AllByRecursion R) (sym same) (h j)
      | inr more ↦ subst (AllByRecursion R) (sym more) (each_append R (box_at boxes j) (parcel ∷ []) (h j) (ok, tt))
    ]

popped_have : (R : Parcel → Type 0) (boxes : List (List Parcel)) (i : ℕ) (parcel : Parcel) (rest : List Parcel) → slice_get boxes i ≡ Some (parcel ∷ rest) → BoxesHave R boxes → BoxesHave R (slice_set boxes i rest)
popped_have R boxes i parcel rest at h j =
    elim (popped_box boxes i j parcel rest at) [
      | inl same ↦ subst (AllByRecursion R) (sym same) (h j)
      | inr less ↦ (let was : AllByRecursion R (parcel ∷ rest) = subst (AllByRecursion R) less.1 (h j) in subst (AllByRecursion R) (sym less.2) was.1)
    ]

first_has_it : (R : Parcel → Type 0) (boxes : List (List Parcel)) (i : ℕ) (parcel : Parcel) (rest : List Parcel) → slice_get boxes i ≡ Some (parcel ∷ rest) → BoxesHave R boxes → R parcel
first_has_it R boxes i parcel rest at h =
    let is : box_at boxes i ≡ parcel ∷ rest = ap (λ (o : Option (List Parcel)). Rattle.std.specs.Option.unwrap_or o []) at in
    let was : AllByRecursion R (parcel ∷ rest) = subst (AllByRecursion R) is (h i) in
    was.0

none_boxed : (R : Parcel → Type 0) (n j : ℕ) → AllByRecursion R (box_at (replicate n []) j)
none_boxed R zero zero = tt
none_boxed R zero (suc j) = tt
none_boxed R (suc n) zero = tt
none_boxed R (suc n) (suc j) = none_boxed R n j

-- ---- what came before stays so

module _ (plan : Plan) where
  went_more : (ms : List Moment) (m : Moment) (from : Origin) (n : ℕ) (to : Place) (packet : List ℕ) → WentOn plan ms from n to packet → WentOn plan (ms ++ m ∷ []) from n to packet
  went_more ms m from n to packet x = record {
    pushed = record { here = x.pushed.here; actor = x.pushed.actor; taken = taken_more plan ms m x.pushed.here x.pushed.actor _ x.pushed.taken; is = x.pushed.is };
    passed = x.passed;
  }

  queued_more : (ms : List Moment) (m : Moment) (from : Origin) (n tunnel : ℕ) (packet : List ℕ) → WasQueued plan ms from n tunnel packet → WasQueued plan (ms ++ m ∷ []) from n tunnel packet
  queued_more ms m from n tunnel packet x = record {
    here = x.here;
    number = x.number;
    pushed = x.pushed;
    taken = taken_more plan ms m x.here (WorkerOf x.number) _ x.taken;
    was = x.was;
    goes_on = x.goes_on;
  }

  gave_more : (ms : List Moment) (m : Moment) (tunnel n : ℕ) (datagram : List ℕ) → PortGave plan ms tunnel n datagram → PortGave plan (ms ++ m ∷ []) tunnel n datagram
  gave_more ms m tunnel n datagram x = record {
    here = x.here;
    number = x.number;
    taken = taken_more plan ms m x.here (WorkerOf x.number) _ x.taken;
    conn = x.conn;
    worker = x.worker;
    held = x.held;
    port = x.port;
    others = x.others;
    works = x.works;
    has = x.has;
    port_is = x.port_is;
    arrived = x.arrived;
    n_is = x.n_is;
  }

  came_more : (ms : List Moment) (m : Moment) (id : ℕ) (from : From) (n : ℕ) (packet : List ℕ) → CameAs plan ms id from n packet → CameAs plan (ms ++ m ∷ []) id from n packet
  came_more ms m id (source.Tunnel t) n packet x = queued_more ms m (origin.Tunnel t) n id packet x
  came_more ms m id source.Net n packet x = queued_more ms m origin.Net n id packet x
  came_more ms m id (source.Port p) n packet x = (x.0, gave_more ms m id n packet x.1)

  abbrev pub Boxed : List Moment → Parcel → Type 0
  Boxed ms parcel = WentOn plan ms parcel.from parcel.n parcel.to parcel.packet

  boxed_more : (ms : List Moment) (m : Moment) (parcel : Parcel) → Boxed ms parcel → Boxed (ms ++ m ∷ []) parcel
  boxed_more ms m parcel x = went_more ms m parcel.from parcel.n parcel.to parcel.packet x

  abbrev pub HeldPassed : List Moment → Option Parcel → Type 0
  HeldPassed ms None = Unit {0}
  HeldPassed ms (Some parcel) = (parcel.from ≡ origin.Net) × NetPassed plan ms parcel.n parcel.to parcel.packet

  passed_more : (ms : List Moment) (m : Moment) (o : Option Parcel) → HeldPassed ms o → HeldPassed (ms ++ m ∷ []) o
  passed_more ms m None h = tt
  passed_more ms m (Some parcel) h = let x = h.1 in (h.0, record { here = x.here; at = x.at; taken = taken_more plan ms m x.here ThePump _ x.taken; is = x.is; at_is = x.at_is; may_go = x.may_go })

  abbrev pub HeldBoxed : List Moment → Option Parcel → Type 0
  HeldBoxed ms None = Unit {0}
  HeldBoxed ms (Some parcel) = Boxed ms parcel

  held_more : (ms : List Moment) (m : Moment) (o : Option Parcel) → HeldBoxed ms o → HeldBoxed (ms ++ m ∷ []) o
  held_more ms m None h = tt
  held_more ms m (Some parcel) h = boxed_more ms m parcel h

  -- all that waits or is held was pushed, or passed
  pub record Traced (ms : List Moment) (s : State) : Type 0 where
    pub boxes : BoxesHave (Boxed ms) s.shared.boxes
    pub push : HeldPassed ms s.pump.to_push
    pub send : HeldBoxed ms s.pump.to_send
    pub waits : AllByRecursion (WorkerWell (CameAs plan ms)) s.workers

  boxes_more : (ms : List Moment) (m : Moment) (boxes : List (List Parcel)) → BoxesHave (Boxed ms) boxes → BoxesHave (Boxed (ms ++ m ∷ [])) boxes
  boxes_more ms m boxes h j = each_more (Boxed ms) (Boxed (ms ++ m ∷ [])) (boxed_more ms m) (box_at boxes j) (h j)

  traced_more : (ms : List Moment) (m : Moment) (s : State) → Traced ms s → Traced (ms ++ m ∷ []) s
  traced_more ms m s h = record {
    boxes = boxes_more ms m s.shared.boxes h.boxes;
    push = passed_more ms m s.pump.to_push h.push;
    send = held_more ms m s.pump.to_send h.send;
    waits = workers_more (CameAs plan ms) (CameAs plan (ms ++ m ∷ [])) (came_more ms m) s.workers h.waits;
  }

  -- ---- a worker's turn

  came_of : (ms : List Moment) (from : Origin) (n id : ℕ) (packet : List ℕ) → WasQueued plan ms from n id packet → CameAs plan ms id (source_of from) n packet
  came_of ms (origin.Tunnel t) n id packet x = x
  came_of ms origin.Net n id packet x = x

  -- what a tunnel has to push passed
  abbrev pub Passes : List Moment → State → Type 0
  Passes ms s = (tunnel n : ℕ) (to : Place) (packet : List ℕ) → IsNext s tunnel (stream.Push n to packet) → TunnelPassed plan ms tunnel n to packet

  module _ (ms : List Moment) (s : State) (run : Run (state_of plan) ms s) (filled : Filled plan.workers ms s) (passes : Passes ms s) (h : Traced ms s) where
    gets_of : (number : ℕ) (said : Note) (worker : Worker) → slice_get s.workers number ≡ Some worker → (conn : ℕ) (held : Held) → held_of worker conn ≡ Some held
        → (p : Port) (datagram : List ℕ) (others : List (List ℕ)) (t : Tunnel) → port_of held.ports p.tunnel ≡ Some p → p.arrived ≡ datagram ∷ others → tunnel_of held.conn p.tunnel ≡ Some t
        → said ≡ note.Queued (source.Port p.tunnel) p.received t.id → CameAs plan (ms ++ Noted (WorkerOf number) said ∷ []) t.id (source.Port p.tunnel) p.received datagram
    gets_of number said worker works conn held has p datagram others t port arrived found told =
        let same : t.id ≡ p.tunnel = eqb-true t.id p.tunnel (found_passes (λ (u : Tunnel). u.id == p.tunnel) held.conn.tunnels t found) in (
          sym same,
          record {
            here = s;
            number = number;
            taken = taken_now plan ms s (WorkerOf number) said (note.Queued (source.Port t.id) p.received t.id) (told ∙ ap (λ (q : ℕ). note.Queued (source.Port q) p.received t.id) (sym same)) run;
            conn = conn;
            worker = worker;
            held = held;
            port = p;
            others = others;
            works = works;
            has = has;
            port_is = subst (λ i. port_of held.ports i ≡ Some p) (sym same) port;
            arrived = arrived;
            n_is = refl;
          },
        )

    pops_of : (number : ℕ) (said : Note) (worker : Worker) → slice_get s.workers number ≡ Some worker → Pops (CameAs plan (ms ++ Noted (WorkerOf number) said ∷ [])) worker s.shared said
    pops_of number said worker works parcel rest id actor packet at to on told =
        let was = first_has_it (Boxed ms) s.shared.boxes worker.id parcel rest at h.boxes in
        came_of (ms ++ Noted (WorkerOf number) said ∷ []) parcel.from parcel.n id packet
        (record {
          here = s;
          number = number;
          pushed = parcel.packet;
          taken = taken_now plan ms s (WorkerOf number) said (note.Queued (source_of parcel.from) parcel.n id) told run;
          was = subst (λ (p : Place). WentOn plan ms parcel.from parcel.n p parcel.packet) (to ∙ ap (place.Tunnel id) (front_place plan.workers ms s number worker parcel rest id actor filled works at to)) was;
          goes_on = on;
        })

    -- what a worker pushes
    seat_boxed : (number : ℕ) (said : Note) (worker : Worker) (after : Shared) → slice_get s.workers number ≡ Some worker → AllByRecursion (λ (g : Held). Asked worker.setup.mtu g.conn) worker.conns
        → (x : SeatPush worker s.shared said after) → Boxed (ms ++ Noted (WorkerOf number) said ∷ []) x.parcel
    seat_boxed number said worker after works asked x =
        let m = Noted (WorkerOf number) said in
        let f = x.front in
        let id = f.front.t.id in
        let own : Parcel = record { from = origin.Tunnel id; n = f.n; to = f.to; packet = f.packet } in
        let asked_here = each_found (λ (g : Held). Asked worker.setup.mtu g.conn) (λ (g : Held). g.conn.number == x.conn) worker.conns x.held asked x.has in
        let next : IsNext s id (stream.Push f.n f.to f.packet) = next_is s number x.conn worker x.held works x.has asked_here (stream.Push f.n f.to f.packet) f.front in
        let made : Boxed (ms ++ m ∷ []) own = record {
          pushed = record { here = s; actor = WorkerOf number; taken = taken_now plan ms s (WorkerOf number) said (pushed_note own) (x.says ∙ ap pushed_note f.is) run; is = next };
          passed = passes id f.n f.to f.packet next;
        } in
        subst (Boxed (ms ++ m ∷ [])) (sym f.is) made

    seat_have : (number : ℕ) (said : Note) (worker : Worker) (after : Shared) → slice_get s.workers number ≡ Some worker → AllByRecursion (λ (g : Held). Asked worker.setup.mtu g.conn) worker.conns
        → SeatPushes worker s.shared said after → BoxesHave (Boxed (ms ++ Noted (WorkerOf number) said ∷ [])) after.boxes
    seat_have number said worker after works asked x =
        let m = Noted (WorkerOf number) said in
        let R = Boxed (ms ++ m ∷ []) in
        let now = boxes_more ms m s.shared.boxes h.boxes in
        elim x [
          | inl same ↦ subst (BoxesHave R) (sym same) now
          | inr (inl push) ↦ subst (BoxesHave R) (sym push.pushes.is) (pushed_have R s.shared.boxes (inbox_of s.shared.boxes push.parcel.to) push.parcel now (seat_boxed number said worker after works asked push))
          | inr (inr (parcel, rest, at, is)) ↦ subst (BoxesHave R) (sym is) (popped_have R s.shared.boxes worker.id parcel rest at now)
        ]

    -- ---- the pump's

    to_push_of : (parcel : Parcel) → s.pump.to_push ≡ Some parcel → parcel.from ≡ origin.Net → IsToPush s parcel.from parcel.n parcel.to parcel.packet
    to_push_of parcel is net =
        let here : IsToPush s origin.Net parcel.n parcel.to parcel.packet = subst (λ (f : Origin). s.pump.to_push ≡ Some (record { from = f; n = parcel.n; to = parcel.to; packet = parcel.packet })) net is in
        subst (λ (f : Origin). IsToPush s f parcel.n parcel.to parcel.packet) (sym net) here

    pump_boxed : (said : Note) (parcel : Parcel) → s.pump.to_push ≡ Some parcel → said ≡ pushed_note parcel → Boxed (ms ++ Noted ThePump said ∷ []) parcel
    pump_boxed said parcel is says =
        let net : HeldPassed ms (Some parcel) = subst (HeldPassed ms) is h.push in
        record {
          pushed = record { here = s; actor = ThePump; taken = taken_now plan ms s ThePump said (pushed_note parcel) says run; is = to_push_of parcel is net.0 };
          passed = subst (λ (f : Origin). HasPassed plan ms f parcel.n parcel.to parcel.packet) (sym net.0) net.1;
        }

    pump_have : (said : Note) (p : Pump) (after : Shared) → PumpInboxes s.pump s.shared (said, p, after) → BoxesHave (Boxed (ms ++ Noted ThePump said ∷ [])) after.boxes
    pump_have said p after x =
        let m = Noted ThePump said in
        let R = Boxed (ms ++ m ∷ []) in
        let now = boxes_more ms m s.shared.boxes h.boxes in
        elim x [
          | inl same ↦ subst (BoxesHave R) (sym same) now
          | inr (inl (parcel, is, pushes, says)) ↦ subst (BoxesHave R) (sym pushes.is) (pushed_have R s.shared.boxes (inbox_of s.shared.boxes parcel.to) parcel now (pump_boxed said parcel is says))
          | inr (inr (i, parcel, rest, at, is)) ↦ subst (BoxesHave R) (sym is) (popped_have R s.shared.boxes i parcel rest at now)
        ]

    has_boxed : (parcel : Parcel) → HasParcel s.pump s.shared parcel → Boxed ms parcel
    has_boxed parcel (inl is) = let held : HeldBoxed ms (Some parcel) = subst (HeldBoxed ms) is h.send in held
    has_boxed parcel (inr (i, rest, at)) = first_has_it (Boxed ms) s.shared.boxes i parcel rest at h.boxes

    pump_push : (said : Note) (p : Pump) (after : Shared) → (p.to_push ≡ None) ⊎ ((p.to_push ≡ s.pump.to_push) ⊎ Holds s.pump s.shared (said, p, after)) → HeldPassed (ms ++ Noted ThePump said ∷ []) p.to_push
    pump_push said p after x =
        let m = Noted ThePump said in
        let P = HeldPassed (ms ++ m ∷ []) in
        elim x [
          | inl none ↦ subst P (sym none) tt
          | inr (inl same) ↦ subst P (sym same) (passed_more ms m s.pump.to_push h.push)
          | inr (inr y) ↦ subst P (sym y.hand) (
            refl,
            record {
              here = s;
              at = y.at;
              taken = taken_now plan ms s ThePump said _ y.says run;
              is = record { first = y.first; others = y.others; arrived = y.arrived; packet_is = refl; number = refl };
              at_is = y.at_is;
              may_go = all_may y.at y.at_is y.flow_is y.judged;
            },
          )
        ]

    pump_send : (said : Note) (p : Pump) → (p.to_send ≡ None) ⊎ ((p.to_send ≡ s.pump.to_send) ⊎ ((parcel : Parcel) × HasParcel s.pump s.shared parcel × (p.to_send ≡ Some parcel))) → HeldBoxed (ms ++ Noted ThePump said ∷ []) p.to_send
    pump_send said p x =
        let m = Noted ThePump said in
        let P = HeldBoxed (ms ++ m ∷ []) in
        elim x [
          | inl none ↦ subst P (sym none) tt
          | inr (inl same) ↦ subst P (sym same) (held_more ms m s.pump.to_send h.send)
          | inr (inr (parcel, has, is)) ↦ subst P (sym is) (boxed_more ms m parcel (has_boxed parcel has))
        ]

  -- ---- a step

  turn_traced : (ms : List Moment) (s t : State) (actor : Actor) (said : Note) → Run (state_of plan) ms s → Filled plan.workers ms s → Passes ms s → AllAsked s → AllAlone s → Traced ms s → Turn s actor said t → Traced (ms ++ Noted actor said ∷ []) t
  turn_traced ms s t (WorkerOf number) said run filled passes asked alone h x =
      let m = Noted (WorkerOf number) said in
      let w = x.worker in
      let asked_w = each_at (λ (w : Worker). AllByRecursion (λ (g : Held). Asked w.setup.mtu g.conn) w.conns) s.workers number w asked x.at in
      let alone_w = each_at (λ (w : Worker). AllByRecursion (λ (g : Held). Alone g.conn.tunnels) w.conns) s.workers number w alone x.at in
      let well_w = each_at (WorkerWell (CameAs plan ms)) s.workers number w h.waits x.at in
      let boxes = seat_have ms s run filled passes h number said w x.shared x.at asked_w (seat_pushes w s.shared x.turn.seat x.answer said x.next x.shared x.turn.next) in
      let did = seat_well (CameAs plan ms) (CameAs plan (ms ++ m ∷ [])) (came_more ms m) w s.shared x.turn.seat x.answer said x.next x.shared (λ g among. all_among (λ (g : Held). Alone g.conn.tunnels) w.conns g alone_w among)
      (gets_of ms s run filled passes h number said w x.at) (pops_of ms s run filled passes h number said w x.at) well_w x.turn.next in
      let more = traced_more ms m s h in
      let P : Shared → Type 0 = λ sh. Traced (ms ++ m ∷ []) (record s { workers = slice_set s.workers number x.next; shared = sh }) in
      let made : P (record x.shared { orders = x.after.orders }) = record {
        boxes = boxes;
        push = more.push;
        send = more.send;
        waits = each_set (WorkerWell (CameAs plan (ms ++ m ∷ []))) s.workers number x.next more.waits did.0;
      } in
      subst (Traced (ms ++ m ∷ [])) (sym x.new_is) (subst P (sym x.after_is) made)
  turn_traced ms s t ThePump said run filled passes asked alone h x =
      let m = Noted ThePump said in
      let did = pump_does s.pump s.shared x.turn.try (said, x.pump, x.shared) x.turn.is in
      let more = traced_more ms m s h in
      let made : Traced (ms ++ m ∷ []) (record s { pump = x.pump; shared = x.shared }) = record {
        boxes = pump_have ms s run filled passes h said x.pump x.shared did.boxes;
        push = pump_push ms s run filled passes h said x.pump x.shared did.push;
        send = pump_send ms s run filled passes h said x.pump did.send;
        waits = more.waits;
      } in
      subst (Traced (ms ++ m ∷ [])) (sym x.new_is) made

  silent_traced : (ms : List Moment) (s t : State) (actor : Actor) (reached : Reached) → Traced ms s → SilentTurn s actor reached t → Traced (ms ++ Refused actor reached ∷ []) t
  silent_traced ms s t (WorkerOf number) reached h x =
      let m = Refused (WorkerOf number) reached in
      let w = x.worker in
      let more = traced_more ms m s h in
      let well_w = each_at (WorkerWell (CameAs plan (ms ++ m ∷ []))) s.workers number w more.waits x.at in
      let same = starves_boxes w s.shared x.starves.seat reached x.answer x.next x.shared x.starves.starves in
      let now = starves_well (CameAs plan (ms ++ m ∷ [])) (CameAs plan (ms ++ m ∷ [])) (λ id from n packet k. k) w s.shared x.starves.seat reached x.answer x.next x.shared well_w x.starves.starves in
      let P : Shared → Type 0 = λ sh. Traced (ms ++ m ∷ []) (record s { workers = slice_set s.workers number x.next; shared = sh }) in
      let made : P (record x.shared { orders = x.after.orders }) = record {
        boxes = subst (BoxesHave (Boxed (ms ++ m ∷ []))) (sym same) more.boxes;
        push = more.push;
        send = more.send;
        waits = each_set (WorkerWell (CameAs plan (ms ++ m ∷ []))) s.workers number x.next more.waits now;
      } in
      subst (Traced (ms ++ m ∷ [])) (sym x.new_is) (subst P (sym x.after_is) made)
  silent_traced ms s t ThePump reached h x = subst (Traced (ms ++ Refused ThePump reached ∷ [])) (sym x.2) (traced_more ms (Refused ThePump reached) s h)

  -- ---- what happens

  abbrev Wells : List Moment → List Worker → Type 0
  Wells ms ws = AllByRecursion (WorkerWell (CameAs plan ms)) ws

  happen_hands : (s : State) (e : Event) → ((happen s e).pump.to_push ≡ s.pump.to_push) × ((happen s e).pump.to_send ≡ s.pump.to_send)
  happen_hands s (event.Conn actor) = (refl, refl)
  happen_hands s (event.Piece conn bytes) = (refl, refl)
  happen_hands s (event.End conn) = (refl, refl)
  happen_hands s (event.Room conn room) = (refl, refl)
  happen_hands s (event.FailRead conn) = (refl, refl)
  happen_hands s (event.FailWrite conn) = (refl, refl)
  happen_hands s (event.Datagram tunnel bytes) = (refl, refl)
  happen_hands s (event.FailPort tunnel) = (refl, refl)
  happen_hands s event.FailBind = (refl, refl)
  happen_hands s event.FailNet = (refl, refl)
  happen_hands s (event.Packet count bytes) = (refl, refl)
  happen_hands s (event.Step actor) = (refl, refl)

  happen_traced : (ms : List Moment) (s : State) (e : Event) → Traced ms s → Traced ms (happen s e)
  happen_traced ms s e h =
      let hands = happen_hands s e in
      record {
        boxes = subst (BoxesHave (Boxed ms)) (sym (happen_boxes s e)) h.boxes;
        push = subst (HeldPassed ms) (sym hands.0) h.push;
        send = subst (HeldBoxed ms) (sym hands.1) h.send;
        waits = happen_have (any_setup (λ (c : Conn). AllWell (CameAs plan ms) c.tunnels)) s e h.waits;
      }

  goes_traced : (ms : List Moment) (s t : State) (m : Moment) → Run (state_of plan) ms s → Filled plan.workers ms s → Passes ms s → AllAsked s → AllAlone s → Traced ms s → Goes s m t → Traced (ms ++ m ∷ []) t
  goes_traced ms s t (Happened e) run filled passes asked alone h x = subst (Traced (ms ++ Happened e ∷ [])) (sym x.1) (happen_traced (ms ++ Happened e ∷ []) s e (traced_more ms (Happened e) s h))
  goes_traced ms s t (Noted actor said) run filled passes asked alone h x = turn_traced ms s t actor said run filled passes asked alone h x
  goes_traced ms s t (Refused actor reached) run filled passes asked alone h x = silent_traced ms s t actor reached h x

  -- ---- runs

  new_wells : (setup : Setup) (n : ℕ) → Wells [] (new_workers setup n)
  new_wells setup zero = tt
  new_wells setup (suc n) = each_append (WorkerWell (CameAs plan [])) (new_workers setup n) (Rattle.mq_machine.specs.State.new_worker n setup ∷ []) (new_wells setup n) (tt, tt)

  first_traced : Traced [] (state_of plan)
  first_traced = record { boxes = none_boxed (Boxed []) (plan.workers + 1); push = tt; send = tt; waits = new_wells plan.setup plan.workers }

module _ (limits : IsWithinLimits) (stays : StaysLawful) (k : Key) (plan : Plan) where
  passes_at : (ms : List Moment) (s : State) → Run (state_of plan) ms s → Passes plan ms s
  passes_at ms s run tunnel n to packet next = pushed_passed limits stays k plan ms s tunnel n to packet run next

  run_traced : (before ms : List Moment) (s t : State) → Run (state_of plan) before s → Traced plan before s → Run s ms t → Traced plan (before ++ ms) t
  run_traced before [] s t run h x = rw append-nil (subst (Traced plan before) (sym x) h)
  run_traced before (m ∷ ms) s t run h x =
      let here = goes_traced plan before s x.0 m run (filled_at limits stays k plan before s run) (passes_at before s run) (asked_at limits stays k plan before s run) (alone_at limits stays k plan before s run) h x.1 in
      let on = run_append before (m ∷ []) (state_of plan) s x.0 run (x.0, x.1, refl) in
      let later = run_traced (before ++ m ∷ []) ms x.0 t on here x.2 in
      subst (λ (l : List Moment). Traced plan l t) (append_assoc before (m ∷ []) ms) later

  pub traced_at : (ms : List Moment) (s : State) → Run (state_of plan) ms s → Traced plan ms s
  traced_at ms s run = run_traced [] ms (state_of plan) s refl (first_traced plan) run

  -- ---- the laws

  pub delivered_came : (before : List Moment) (here next : State) (number : ℕ) (from : From) (n tunnel : ℕ) (packet : List ℕ) → Run (state_of plan) before here → Turn here (WorkerOf number) (note.Delivered from n tunnel packet) next
      → CameAs plan before tunnel from n packet
  delivered_came before here next number from n tunnel packet run x =
      let said = note.Delivered from n tunnel packet in
      let m = Noted (WorkerOf number) said in
      let h = traced_at before here run in
      let w = x.worker in
      let alone_w = each_at (λ (w : Worker). AllByRecursion (λ (g : Held). Alone g.conn.tunnels) w.conns) here.workers number w (alone_at limits stays k plan before here run) x.at in
      let well_w = each_at (WorkerWell (CameAs plan before)) here.workers number w h.waits x.at in
      (seat_well (CameAs plan before) (CameAs plan (before ++ m ∷ [])) (came_more plan before m) w here.shared x.turn.seat x.answer said x.next x.shared (λ g among. all_among (λ (g : Held). Alone g.conn.tunnels) w.conns g alone_w among)
      (gets_of plan before here run (filled_at limits stays k plan before here run) (passes_at before here run) h number said w x.at) (pops_of plan before here run (filled_at limits stays k plan before here run) (passes_at before here run) h number said w x.at) well_w x.turn.next).1

  pub sent_came : (before : List Moment) (here next : State) (from : From) (n : ℕ) (packet : List ℕ) → Run (state_of plan) before here → Turn here ThePump (note.Sent from n packet) next
      → (first : Origin) × (to : Place) × (from ≡ source_of first) × WentOn plan before first n to packet
  sent_came before here next from n packet run x =
      let h = traced_at before here run in
      let did = (pump_does here.pump here.shared x.turn.try (note.Sent from n packet, x.pump, x.shared) x.turn.is).sends in
      let parcel = did.0 in
      let was = has_boxed plan before here run (filled_at limits stays k plan before here run) (passes_at before here run) h parcel did.1 in
      let P : ℕ → List ℕ → Type 0 = λ i bytes. WentOn plan before parcel.from i parcel.to bytes in
      (parcel.from, parcel.to, did.2, subst (λ bytes. P n bytes) (sym did.4) (subst (λ i. P i parcel.packet) (sym did.3) was))

  pub held_passed : (before : List Moment) (here : State) (parcel : Parcel) → Run (state_of plan) before here → here.pump.to_push ≡ Some parcel → (parcel.from ≡ origin.Net) × NetPassed plan before parcel.n parcel.to parcel.packet
  held_passed before here parcel run is =
      let P : Option Parcel → Type 0 = λ o. HeldPassed plan before o in
      let h : P (Some parcel) = subst P is (traced_at before here run).push in
      h
