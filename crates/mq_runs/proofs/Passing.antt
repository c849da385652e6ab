-- What a tunnel has to push passed before, in every run.
use Rattle.std.proofs.Common.{length, ◌≡◌, ℕ, zero, suc, List, [], ◌∷◌, ◌++◌, ◌+◌, take, Option, Some, None, option_map, refl, sym, subst, ap, ◌∙◌, inl, inr, append_assoc, append-nil}
use Rattle.std.specs.Prelude.{◌==◌}
use Rattle.std.specs.List.{AllByRecursion}
use Rattle.mq_addr.specs.declared.range.Flow.{Flow}
use Rattle.mq_capsule.specs.Laws.{IsWithinLimits}
use Rattle.mq_talk.specs.declared.note.From.TheVariants as source
use Rattle.mq_talk.specs.declared.place.Origin.TheVariants as origin
use Rattle.mq_talk.specs.Judging.{IsJudged}
use Rattle.mq_talk.specs.Packets.{flow_of}
use Rattle.mq_machine.specs.Shared.{Answers}
use Rattle.mq_talk.specs.declared.note.Note.{Note}
use Rattle.mq_talk.specs.declared.note.Note.TheVariants as note
use Rattle.mq_talk.specs.declared.place.Parcel.{Parcel}
use Rattle.mq_talk.specs.declared.place.Place.{Place}
use Rattle.mq_talk.specs.declared.place.Verdict.TheVariants as verdict
use Rattle.mq_machine.specs.declared.act.Act.TheVariants as act
use Rattle.mq_machine.specs.declared.act.StreamAct.{StreamAct}
use Rattle.mq_machine.specs.declared.act.StreamAct.TheVariants as stream
use Rattle.mq_machine.specs.declared.act.Due.{Due}
use Rattle.mq_machine.specs.declared.act.Due.TheVariants as due
use Rattle.mq_machine.specs.declared.setup.Setup.{Setup}
use Rattle.mq_machine.specs.Done.{Done, tunnel_done, due_done, done_by, done, before}
use Rattle.mq_machine.specs.Lawful.{IsLawful, IsOver, StaysLawful}
use Rattle.mq_machine.specs.Settle.{settle}
use Rattle.mq_machine.specs.Silent.{Reached, SeatStarves, SilentTurn}
use Rattle.mq_machine.specs.State.{Conn, new_conn, Tunnel, Port, Offer, Held, Worker, new_worker, Shared, State, tunnel_of, tunnel_on, held_of}
use Rattle.mq_machine.specs.Steps.{failed, port_failed, queued, settled_note, starved}
use Rattle.mq_machine.specs.Turn.{over_or, ActNext, write_count, Seat, Offers, Inbox, Of, accepted, came_to, tunnel_in, popped, source_of, SeatNext, Actor, WorkerOf, ThePump, Turn}
use Rattle.mq_machine.specs.Want.{Want, Judge, Over, Answer, Judged, want_of, want_by, due_want, tunnel_want}
use Rattle.mq_machine.specs.Words.{onward}
use Rattle.mq_play.specs.declared.plan.Plan.{Plan}
use Rattle.mq_play.specs.Events.{new_workers, state_of}
use Rattle.mq_play.proofs.Lists.{some_same, each_append, each_at, each_found, each_set}
use Rattle.mq_runs.specs.Payloads.{IsNext}
use Rattle.mq_runs.specs.Pushed.{TunnelPassed}
use Rattle.mq_runs.specs.Runs.{Moment, Happened, Noted, Refused, Goes, Run}
use Rattle.mq_runs.proofs.Asked.{Asked, DuesOf}
use Rattle.mq_runs.proofs.Bridge.{run_append}
use Rattle.mq_runs.proofs.Behind.{all_may, taken_more, taken_now, asked_at, lawful_at}
use Rattle.mq_runs.proofs.Conns.{any_setup, HeldsHave, WorkersHave, replaced_have, happen_have, have_more}
use Rattle.mq_runs.proofs.Facts.{InFront, OnlyCloses, failed_closes, port_failed_closes}
use Rattle.mq_runs.proofs.Flight.{Key}
use Rattle.mq_runs.proofs.Kept.{cases_of}
use Rattle.mq_runs.proofs.Nexts.{next_is}
use Rattle.mq_runs.proofs.Passes.{ConnWell, DuesWell, AskPasses, Passes, settle_well, done_is_well, framed_well, queued_well, came_well, finished_well, took_well, waits_none, conn_more}
use Rattle.mq_runs.proofs.Ranks.{Among}
use Rattle.mq_runs.proofs.Shifting.{all_among}
use Rattle.mq_runs.proofs.Walks.{HandlesHeld, try_walk, map_was}
use Rattle.mq_runs.proofs.Workers.{FoundAmong, among_in}

-- ---- a packet that passes

done_pass : (c : Conn) (n : ℕ) (packet : List ℕ) (flow : Flow) (to : Place) (at : ℕ) (f : InFront c (stream.Packet n packet flow)) (d : Note × Conn) → done c (Judged (verdict.Pass to) at) ≡ Some d
    → d.0 ≡ note.Passed (source.Tunnel f.t.id) n at to
done_pass c n packet flow to at f d e =
    let now : Conn = record c { due = f.others } in
    let answer = Judged (verdict.Pass to) at in
    let by : done_by c c.ending answer ≡ Some (note.Passed (source.Tunnel f.t.id) n at to, before (act.OfStream f.t.stream (stream.Push n to packet)) now) =
    ap (λ o. done_by c o answer) f.goes_on ∙ (ap (λ ds. due_done c ds answer) f.due_is ∙ ap (λ o. tunnel_done now o (stream.Packet n packet flow) answer) f.serves) in
    let all = sym (ap (λ (o : Done). option_map (λ (d : Note × Conn). (d.0, settle d.1)) o) by) ∙ e in
    sym (ap (λ (d : Note × Conn). d.0) (some_same all))

module _ (limits : IsWithinLimits) (stays : StaysLawful) (Q : ℕ → ℕ → Place → List ℕ → Type 0) (said : Note) (sh : Shared) where
  -- so it is of what the note says that passed
  abbrev pub NotePasses : Conn → Type 0
  NotePasses c = (n : ℕ) (packet : List ℕ) (flow : Flow) (to : Place) (at : ℕ) (f : InFront c (stream.Packet n packet flow)) → said ≡ note.Passed (source.Tunnel f.t.id) n at to
      → at ≡ length sh.book → IsJudged sh.config sh.book (origin.Tunnel f.t.id) flow (verdict.Pass to) → Q f.t.id n to packet

  module _ (c : Conn) (answer : Answer) (d : Note × Conn) (is : done c answer ≡ Some d) (told : d.0 ≡ said) (over : IsOver c.ending c.due) (passes : NotePasses c) (after : Shared)
      (answers : Answers c.actor sh (want_of c) answer after) where
    going : (o : Option _) → c.ending ≡ o → (a : Due) (ds : List Due) → c.due ≡ a ∷ ds → c.ending ≡ None
    going None e a ds due_is = e
    going (Some why) e a ds due_is = let none : c.due ≡ [] = subst (λ o. IsOver o c.due) e over in absurd (not_both (sym none ∙ due_is)) where
      not_both : [] ≡ a ∷ ds → ⊥
      not_both e = cc

    ask_by : (on : ℕ) (a : StreamAct) (reply : Answer) (rest : List Due) (t : Tunnel) → answer ≡ reply → c.due ≡ due.Do (act.OfStream on a) ∷ rest → tunnel_on c on ≡ Some t → AskPasses Q t a reply
    ask_by on (stream.Packet n packet flow) (Judged ruling at) rest t same due_is serves = λ to passed.
        let f : InFront c (stream.Packet n packet flow) = record { on = on; t = t; others = rest; serves = serves; due_is = due_is; goes_on = going c.ending refl (due.Do (act.OfStream on (stream.Packet n packet flow))) rest due_is } in
        let now : done c (Judged (verdict.Pass to) at) ≡ Some d = ap (λ v. done c (Judged v at)) (sym passed) ∙ (ap (done c) (sym same) ∙ is) in
        let wants : want_of c ≡ Judge t.id n flow = ap (want_by c) f.goes_on ∙ (ap (due_want c) due_is ∙ ap (λ o. tunnel_want o (stream.Packet n packet flow)) serves) in
        let by : Answers c.actor sh (Judge t.id n flow) (Judged (verdict.Pass to) at) after =
        subst (λ w. Answers c.actor sh w (Judged (verdict.Pass to) at) after) wants (subst (λ a. Answers c.actor sh (want_of c) a after) (same ∙ ap (λ v. Judged v at) passed) answers) in
        passes n packet flow to at f (sym told ∙ done_pass c n packet flow to at f d now) by.0 by.1
    ask_by on a reply rest t same due_is serves = tt

    passes_by : (ds : List Due) → c.due ≡ ds → Passes Q c ds answer
    passes_by (due.Do (act.OfStream on a) ∷ rest) due_is = λ t serves. ask_by on a answer rest t refl due_is serves
    passes_by ds due_is = tt

  -- ---- a connection's step

  abbrev NewWell : Option Held → Type 0
  NewWell None = Unit {0}
  NewWell (Some h) = ConnWell Q h.conn

  abbrev Becomes : Note → Option Held → Type 0
  Becomes note new = note ≡ said → NewWell new

  acted_passes : (h : Held) (want : Want) (answer : Answer) (note : Note) (new : Option Held) (after : Shared) → IsOver h.conn.ending h.conn.due → NotePasses h.conn → ConnWell Q h.conn → Answers h.conn.actor sh (want_of h.conn) answer after
      → over_or h want answer ≡ Some (note, new) → Becomes note new
  acted_passes h (Over reason) answer note new after over p ok answers e = λ same. subst (λ (d : Note × Option Held). NewWell d.1) (some_same e) tt
  acted_passes h want answer note new after over p ok answers e = λ same.
      let was = map_was _ (done h.conn answer) (note, new) e in
      let told : was.0.0 ≡ said = ap (λ (d : Note × Option Held). d.0) was.2 ∙ same in
      let now = done_is_well Q h.conn was.0.1 answer was.0.0 over (passes_by h.conn answer was.0 was.1 told over p after answers h.conn.due refl) ok was.1 in
      subst (λ (d : Note × Option Held). NewWell d.1) was.2 now

  act_passes : (h : Held) (answer : Answer) (note : Note) (new : Option Held) (after : Shared) → IsOver h.conn.ending h.conn.due → NotePasses h.conn → ConnWell Q h.conn → ActNext h sh answer note new after → Becomes note new
  act_passes h answer note new after over p ok x = acted_passes h (want_of h.conn) answer note new after over p ok x.answers x.is

  closes_pass : (c : Conn) → OnlyCloses c → NotePasses c
  closes_pass c only n packet flow to at f e at_is judged = absurd (only (stream.Packet n packet flow) f)

  received_passes : (c : Conn) (p : Port) (datagram : List ℕ) (o : Option Tunnel) (d : Note × Conn) → ConnWell Q c
      → option_map (λ (t : Tunnel). settled_note (queued c t (source.Port p.tunnel) p.received datagram)) o ≡ Some d → ConnWell Q d.1
  received_passes c p datagram None d h e = absurd cc
  received_passes c p datagram (Some t) d h e = subst (λ (d : Note × Conn). ConnWell Q d.1) (some_same e) (queued_well Q c t (source.Port p.tunnel) p.received datagram h)

  handles_passes : (setup : Setup) (old : Held) → IsLawful old.conn → NotePasses old.conn → ConnWell Q old.conn → HandlesHeld setup old sh (λ note new after. Becomes note new)
  handles_passes setup old lawful p h = record {
    acts = λ answer note new after x. act_passes old answer note new after lawful.loose.over p h x;
    link_fails = λ link answer note new after x. act_passes (record old { conn = failed old.conn; link = link }) answer note new after refl (closes_pass (failed old.conn) (failed_closes old.conn)) tt x;
    port_fails = λ q t answer note new after is can x.
        act_passes (record old { conn = port_failed old.conn t }) answer note new after (stays.port_fails old.conn q.tunnel t lawful is can).loose.over (closes_pass (port_failed old.conn t) (port_failed_closes old.conn t))
        (tt, waits_none Q old.conn lawful can h) x;
    frames = λ d is same. framed_well Q old.conn d.1 d.0 h is;
    writes = λ same. settle_well Q (record old.conn { given = old.conn.given + write_count old }) h;
    reads = λ first c link took same. took_well Q limits setup old.conn c (take Rattle.mq_machine.specs.Turn.most_read first) took;
    ends = λ inside x can same. finished_well Q old.conn inside lawful can h;
    receives = λ q datagram others d port arrived came same. received_passes old.conn q datagram (tunnel_of old.conn q.tunnel) d h came;
  }

  -- ---- a worker's turn

  abbrev pub WorkerPasses : Worker → Type 0
  WorkerPasses w = HeldsHave (any_setup (ConnWell Q)) w.setup w.conns

  popped_passes : (w : Worker) (parcel : Parcel) → WorkerPasses w → WorkerPasses (popped w parcel).1
  popped_passes w parcel h =
      elim (cases_of (tunnel_in w parcel.to)) [
        | inl none ↦ rw none h
        | inr (found, some) ↦ (
            let among : Among found.0 w.conns = subst (FoundAmong w.conns) some (among_in w parcel.to) in
            let own = all_among (λ (h : Held). ConnWell Q h.conn) w.conns found.0 h among in
            let came = came_well Q found.0.conn found.1 (source_of parcel.from) parcel.n (onward parcel.packet) own in
            rw some (replaced_have (any_setup (ConnWell Q)) w.setup found.0.conn.number (Some (came_to found.0 found.1 parcel).1) w.conns came h))
      ]

  abbrev AcceptPasses : Option (Note × Worker) → Type 0
  AcceptPasses None = Unit {0}
  AcceptPasses (Some d) = WorkerPasses d.1

  accepted_passes : (w : Worker) (offered : List Offer) → WorkerPasses w → AcceptPasses (accepted w offered)
  accepted_passes w [] h = tt
  accepted_passes w (o ∷ offered) h = each_append (λ (h : Held). ConnWell Q h.conn) w.conns (record { conn = new_conn o.number w.id; link = o.link; ports = [] } ∷ []) h (tt, tt)

  pub seat_passes : (old : Worker) (seat : Seat) (answer : Answer) (new : Worker) (after : Shared) → HeldsHave (any_setup IsLawful) old.setup old.conns → ((conn : ℕ) (h : Held) → held_of old conn ≡ Some h → NotePasses h.conn)
      → WorkerPasses old → SeatNext old sh seat answer said new after → WorkerPasses new
  seat_passes old Offers answer new after lawful p h x = subst AcceptPasses x.1 (accepted_passes old old.offered h)
  seat_passes old Inbox answer new after lawful p h x = subst (λ (d : Note × Worker). WorkerPasses d.1) x.1.is (popped_passes old x.1.parcel h)
  seat_passes old (Of n) answer new after lawful p h x =
      let own = each_found (λ (h : Held). ConnWell Q h.conn) (λ (g : Held). g.conn.number == n) old.conns x.held h x.has in
      let lawful_own = each_found (λ (h : Held). IsLawful h.conn) (λ (g : Held). g.conn.number == n) old.conns x.held lawful x.has in
      let did = try_walk old.setup x.held sh (λ note new after. Becomes note new) (handles_passes old.setup x.held lawful_own (p n x.held x.has) own) x.try answer said x.became after x.tries x.next in
      subst (HeldsHave (any_setup (ConnWell Q)) old.setup) (sym (ap (λ (w : Worker). w.conns) x.new_is)) (replaced_have (any_setup (ConnWell Q)) old.setup n x.became old.conns (did refl) h)

  pub starves_passes : (old : Worker) (seat : Seat) (reached : Reached) (answer : Answer) (new : Worker) (after : Shared) → WorkerPasses old → SeatStarves old sh seat reached answer new after → WorkerPasses new
  starves_passes old Offers reached answer new after h x = subst WorkerPasses (sym x.2) h
  starves_passes old Inbox reached answer new after h x = absurd x
  starves_passes old (Of n) reached answer new after h x =
      let now : Held = record x.held { link = record x.held.link { pieces = x.pieces }; conn = record (starved x.held.conn) { tunnels = x.tunnels } } in
      subst (HeldsHave (any_setup (ConnWell Q)) old.setup) (sym (ap (λ (w : Worker). w.conns) x.new_is)) (replaced_have (any_setup (ConnWell Q)) old.setup n (Some now) old.conns tt h)

-- the flow is what the packet's header says
flow_in : (w : Worker) (g : Held) {n : ℕ} {packet : List ℕ} {flow : Flow} (f : InFront g.conn (stream.Packet n packet flow)) → Asked w.setup.mtu g.conn → flow_of packet ≡ Some flow
flow_in w g f asked = (subst (DuesOf w.setup.mtu g.conn.streams) f.due_is asked).0.1

-- ---- runs

module _ (limits : IsWithinLimits) (stays : StaysLawful) (k : Key) (plan : Plan) where
  abbrev Been : List Moment → ℕ → ℕ → Place → List ℕ → Type 0
  Been ms = TunnelPassed plan ms

  been_more : (ms : List Moment) (m : Moment) (tunnel n : ℕ) (to : Place) (packet : List ℕ) → Been ms tunnel n to packet → Been (ms ++ m ∷ []) tunnel n to packet
  been_more ms m tunnel n to packet x = record { here = x.here; actor = x.actor; at = x.at; flow = x.flow; taken = taken_more plan ms m x.here x.actor _ x.taken; is = x.is; at_is = x.at_is; may_go = x.may_go }

  abbrev All : List Moment → List Worker → Type 0
  All ms ws = WorkersHave (any_setup (ConnWell (Been ms))) ws

  all_more : (ms : List Moment) (m : Moment) (ws : List Worker) → All ms ws → All (ms ++ m ∷ []) ws
  all_more ms m ws h = have_more (ConnWell (Been ms)) (ConnWell (Been (ms ++ m ∷ []))) (conn_more (Been ms) (Been (ms ++ m ∷ [])) (been_more ms m)) ws h

  turn_passes : (ms : List Moment) (s t : State) (actor : Actor) (said : Note) → Run (state_of plan) ms s → All ms s.workers → Turn s actor said t → All (ms ++ Noted actor said ∷ []) t.workers
  turn_passes ms s t (WorkerOf number) said run h x =
      let m = Noted (WorkerOf number) said in
      let Q = Been (ms ++ m ∷ []) in
      let w = x.worker in
      let more = all_more ms m s.workers h in
      let own = each_at (λ (w : Worker). HeldsHave (any_setup (ConnWell Q)) w.setup w.conns) s.workers number w more x.at in
      let lawful = each_at (λ (w : Worker). AllByRecursion (λ (g : Held). IsLawful g.conn) w.conns) s.workers number w (lawful_at limits stays k plan ms s run) x.at in
      let asked = each_at (λ (w : Worker). AllByRecursion (λ (g : Held). Asked w.setup.mtu g.conn) w.conns) s.workers number w (asked_at limits stays k plan ms s run) x.at in
      let now = seat_passes limits stays Q said s.shared w x.turn.seat x.answer x.next x.shared lawful
      (λ conn g has n packet flow to at f e at_is judged. record {
        here = s;
        actor = WorkerOf number;
        at = at;
        flow = flow;
        taken = taken_now plan ms s (WorkerOf number) said _ e run;
        is = next_is s number conn w g x.at has (each_found (λ (g : Held). Asked w.setup.mtu g.conn) (λ (g : Held). g.conn.number == conn) w.conns g asked has) (stream.Packet n packet flow) f;
        at_is = at_is;
        may_go = all_may at at_is (flow_in w g f (each_found (λ (g : Held). Asked w.setup.mtu g.conn) (λ (g : Held). g.conn.number == conn) w.conns g asked has)) judged;
      }) own x.turn.next in
      let all = each_set (λ (w : Worker). HeldsHave (any_setup (ConnWell Q)) w.setup w.conns) s.workers number x.next more now in
      subst (λ (u : State). All (ms ++ m ∷ []) u.workers) (sym x.new_is) all
  turn_passes ms s t ThePump said run h x = subst (λ (u : State). All (ms ++ Noted ThePump said ∷ []) u.workers) (sym x.new_is) (all_more ms (Noted ThePump said) s.workers h)

  silent_passes : (ms : List Moment) (s t : State) (actor : Actor) (reached : Reached) → All ms s.workers → SilentTurn s actor reached t → All (ms ++ Refused actor reached ∷ []) t.workers
  silent_passes ms s t (WorkerOf number) reached h x =
      let m = Refused (WorkerOf number) reached in
      let Q = Been (ms ++ m ∷ []) in
      let more = all_more ms m s.workers h in
      let own = each_at (λ (w : Worker). HeldsHave (any_setup (ConnWell Q)) w.setup w.conns) s.workers number x.worker more x.at in
      let now = starves_passes limits stays Q (note.Waits source.Net 0) s.shared x.worker x.starves.seat reached x.answer x.next x.shared own x.starves.starves in
      subst (λ (u : State). All (ms ++ m ∷ []) u.workers) (sym x.new_is) (each_set (λ (w : Worker). HeldsHave (any_setup (ConnWell Q)) w.setup w.conns) s.workers number x.next more now)
  silent_passes ms s t ThePump reached h x = subst (λ (u : State). All (ms ++ Refused ThePump reached ∷ []) u.workers) (sym x.2) (all_more ms (Refused ThePump reached) s.workers h)

  goes_passes : (ms : List Moment) (s t : State) (m : Moment) → Run (state_of plan) ms s → All ms s.workers → Goes s m t → All (ms ++ m ∷ []) t.workers
  goes_passes ms s t (Happened e) run h x =
      subst (λ (u : State). All (ms ++ Happened e ∷ []) u.workers) (sym x.1) (happen_have (any_setup (ConnWell (Been (ms ++ Happened e ∷ [])))) s e (all_more ms (Happened e) s.workers h))
  goes_passes ms s t (Noted actor said) run h x = turn_passes ms s t actor said run h x
  goes_passes ms s t (Refused actor reached) run h x = silent_passes ms s t actor reached h x

  run_passes : (first ms : List Moment) (s t : State) → Run (state_of plan) first s → All first s.workers → Run s ms t → All (first ++ ms) t.workers
  run_passes first [] s t run h x = rw append-nil (subst (λ (u : State). All first u.workers) (sym x) h)
  run_passes first (m ∷ ms) s t run h x =
      let here = goes_passes first s x.0 m run h x.1 in
      let on = run_append first (m ∷ []) (state_of plan) s x.0 run (x.0, x.1, refl) in
      subst (λ (l : List Moment). All l t.workers) (append_assoc first (m ∷ []) ms) (run_passes (first ++ m ∷ []) ms x.0 t on here x.2)

  new_pass : (setup : Setup) (n : ℕ) → All [] (new_workers setup n)
  new_pass setup zero = tt
  new_pass setup (suc n) = each_append (λ (w : Worker). HeldsHave (any_setup (ConnWell (Been []))) w.setup w.conns) (new_workers setup n) (new_worker n setup ∷ []) (new_pass setup n) (tt, tt)

  pub pushed_passed : (ms : List Moment) (here : State) (tunnel n : ℕ) (to : Place) (packet : List ℕ) → Run (state_of plan) ms here → IsNext here tunnel (stream.Push n to packet) → TunnelPassed plan ms tunnel n to packet
  pushed_passed ms here tunnel n to packet run x =
      let Q = Been ms in
      let all = run_passes [] ms (state_of plan) here refl (new_pass plan.setup plan.workers) run in
      let own = each_at (λ (w : Worker). HeldsHave (any_setup (ConnWell Q)) w.setup w.conns) here.workers x.number x.worker all x.works in
      let c = each_found (λ (h : Held). ConnWell Q h.conn) (λ (g : Held). g.conn.number == x.conn) x.worker.conns x.held own x.has in
      let dues : DuesWell Q x.held.conn.tunnels (due.Do (act.OfStream x.on (stream.Push n to packet)) ∷ x.others) = subst (DuesWell Q x.held.conn.tunnels) x.due_is c in
      subst (λ i. Q i n to packet) x.id (dues.0 x.t x.serves)
