-- In a run each payload that was read was acted on, or is due, or a close is due, while its connection goes on.
use Rattle.std.proofs.Common.{◌≡◌, ◌≤◌, ◌<◌, ◌+◌, ◌⊎◌, ℕ, zero, suc, Bool, true, false, cond, ◌&&◌, ◌||◌, List, [], ◌∷◌, ◌++◌, length, nat_le, nat_lt, slice_get, Option, Some, None, option_map, refl, sym, subst, ap, ◌∙◌, arith, inl, inr, append-nil, append_assoc}
use Rattle.std.specs.Prelude.{drop, take, ◌==◌, option_and_then}
use Rattle.std.specs.List.{AllByRecursion, list_any}
use Rattle.std.specs.Option.{is_some}
use Rattle.std.proofs.lemmas.Bool.{eqb-true, eq-eqb, leb-true}
use Rattle.mq_capsule.specs.declared.item.Item.{Item}
use Rattle.mq_capsule.specs.Items.{ItemsOf}
use Rattle.mq_capsule.specs.Laws.{IsWithinLimits}
use Rattle.mq_capsule.specs.Writing.{capsule_text, datagram}
use Rattle.mq_talk.specs.declared.note.From.{From}
use Rattle.mq_talk.specs.declared.note.From.TheVariants as source
use Rattle.mq_talk.specs.declared.note.Note.{Note}
use Rattle.mq_talk.specs.declared.note.Note.TheVariants as note
use Rattle.mq_talk.specs.declared.place.Parcel.{Parcel}
use Rattle.mq_machine.specs.declared.act.Act.TheVariants as act
use Rattle.mq_machine.specs.declared.act.StreamAct.{StreamAct}
use Rattle.mq_machine.specs.declared.act.StreamAct.TheVariants as stream
use Rattle.mq_machine.specs.declared.act.Due.{Due}
use Rattle.mq_machine.specs.declared.act.Due.TheVariants as due
use Rattle.mq_machine.specs.declared.setup.Setup.{Setup}
use Rattle.mq_machine.specs.Done.{before, done}
use Rattle.mq_machine.specs.Lawful.{Alone, Numbered, has_on, IsLawful, AreNumbered, StaysLawful}
use Rattle.mq_machine.specs.Reading.{BytesAsk, is_close, has_values, payload_count, stream_of}
use Rattle.mq_machine.specs.Settle.{settle}
use Rattle.mq_machine.specs.Shared.{ports_after}
use Rattle.mq_machine.specs.Silent.{Reached, SeatStarves}
use Rattle.mq_machine.specs.State.{Conn, new_conn, Front, Head, OverHttp1, OverHttp2, Stream, Tunnel, Waiting, Port, Offer, Held, Worker, new_worker, Shared, State, packets, waiting_bytes, tunnel_of, held_of, kind_of}
use Rattle.mq_machine.specs.Steps.{failed, port_failed, framed, framed_by, framed_front, framing, frame_size, next_framed, finish_by, finished, wrote, queued, passed_on, set_waiting, settled_note, starved, most_packets, most_waiting}
use Rattle.mq_machine.specs.Turn.{source_of, with_conn, over_or, write_count, WorkerOf, ThePump, Seat, Offers, Inbox, Of, SeatNext, accepted, popped, came_to, tunnel_in}
use Rattle.mq_machine.specs.Want.{Want, Over, Answer, want_of}
use Rattle.mq_machine.specs.Words.{onward}
use Rattle.mq_machine.proofs.Lawful.Lists.{In, in_has}
use Rattle.mq_play.specs.declared.plan.Plan.{Plan}
use Rattle.mq_play.specs.Events.{new_workers, state_of}
use Rattle.mq_play.proofs.Lists.{if_both, some_same, each_append, each_at, each_found, each_set}
use Rattle.mq_runs.specs.Asking.{acted_by, is_with, is_due, closes, is_behind_close}
use Rattle.mq_runs.specs.Runs.{Moment, Happened, Noted, Refused, Goes, Run}
use Rattle.mq_runs.proofs.Asked.{Asked}
use Rattle.mq_runs.proofs.Behind.{AllAsked, asked_at, lawful_at}
use Rattle.mq_runs.proofs.Bridge.{run_append}
use Rattle.mq_runs.proofs.Bringing.{closes_all, bytes_many, behind, was_behind, bytes_behind}
use Rattle.mq_runs.proofs.Conns.{any_setup, NewHas, replaced_have, happen_have}
use Rattle.mq_runs.proofs.Flight.{Key, asks, due_asks, asked_on, count_of}
use Rattle.mq_runs.proofs.Kept.{cases_of}
use Rattle.mq_runs.proofs.Ranks.{Among, found_among, zero_or}
use Rattle.mq_runs.proofs.Readings.{took_step}
use Rattle.mq_runs.proofs.Shifting.{all_among}
use Rattle.mq_runs.proofs.Sums.{total, total_append}
use Rattle.mq_runs.proofs.Took.{from_on, asks_all, to_come}
use Rattle.mq_runs.proofs.Ups.{who, waits_who, first_none, closes_on, closing, coming, up, gain, Lifts, lifts_same, lifts_on, settle_lifts, StepAt, lifts_at, lifts_step, done_step}
use Rattle.mq_runs.proofs.Walks.{HandlesHeld, try_walk, map_was, found_passes}
use Rattle.mq_runs.proofs.Workers.{FoundAmong, among_in}

module _ (k : Key) where
  -- what was done with the payload of the tunnel
  abbrev gained : List Moment → Option ℕ → ℕ
  gained ms None = 0
  gained ms (Some id) = total (λ (m : Moment). cond (acted_by id k.number m) 1 0) ms

-- where of each data stream, for the bytes that come, as much is asked as there was
module _ (k : Key) (closers : Bool) (extra : Stream → ℕ) (nothing : (control : Bool) → ItemsOf control [] [])
    (many : (mtu : ℕ) (s : Stream) (bytes : List ℕ) (ends : Bool) (acts : List StreamAct) → BytesAsk mtu s bytes ends acts → to_come k s + extra s ≤ asks_all k acts + closes_all closers acts + (to_come k (record s { bytes = s.bytes ++ bytes }) + extra (record s { bytes = s.bytes ++ bytes })))
  where
    abbrev StepNew : Conn → Note → Option Held → Type 0
    StepNew c said None = Unit {0}
    StepNew c said (Some h) = (on : ℕ) → StepAt k closers extra c h.conn said on

    -- ---- an answer

    over_steps : (mtu : ℕ) (h : Held) (want : Want) (answer : Answer) (said : Note) (new : Option Held) → (h.conn.ending ≡ None → Numbered h.conn.tunnels) → Asked mtu h.conn → over_or h want answer ≡ Some (said, new) → StepNew h.conn said new
    over_steps mtu h (Over reason) answer said new numbered asked e = subst (λ (d : Note × Option Held). StepNew h.conn d.0 d.1) (some_same e) tt
    over_steps mtu h want answer said new numbered asked e =
        let was = map_was (with_conn (record h { ports = ports_after want answer h.ports })) (done h.conn answer) (said, new) e in
        let P : ℕ → Option (Note × Conn) → Type 0 = λ on o. StepSome on o in
        subst (λ (d : Note × Option Held). StepNew h.conn d.0 d.1) was.2 (λ on. subst (P on) was.1 (done_some on (done h.conn answer) (done_step k closers extra h.conn on mtu answer numbered asked)))
      where
        StepSome : ℕ → Option (Note × Conn) → Type 0
        StepSome on None = Unit {0}
        StepSome on (Some d) = StepAt k closers extra h.conn d.1 d.0 on

        done_some : (on : ℕ) (o : Option (Note × Conn)) → StepSome on o → StepSome on o
        done_some on o x = x

    -- a connection that is ending has nothing to lose
    ending_lifts : (c d : Conn) → (d.ending ≡ None → ⊥) → ((on : ℕ) → who d.tunnels on ≡ who c.tunnels on) → Lifts k closers extra c d
    ending_lifts c d over same = record { ends = λ e. absurd (over e); streams = λ e. absurd (over e); same = same; more = λ e on. absurd (over e) }

    failed_lifts : (c : Conn) → Lifts k closers extra c (failed c)
    failed_lifts c = ending_lifts c (failed c) (λ e. cc) (λ on. refl)

    port_failed_lifts : (c : Conn) (t : Tunnel) → Lifts k closers extra c (port_failed c t)
    port_failed_lifts c t = record { ends = λ e. e; streams = λ e. refl; same = λ on. refl; more = λ e on. omega arith }

    lifts_new : (b c : Conn) (said : Note) (new : Option Held) → Lifts k closers extra b c → StepNew c said new → StepNew b said new
    lifts_new b c said None x y = tt
    lifts_new b c said (Some h) x y = λ on. lifts_step k closers extra b c h.conn said on x (y on)

    -- ---- what needs no answer

    set_by : (b : Bool) (on stream : ℕ) (ws : List Waiting) (t : Tunnel) (ts : List Tunnel) → who (set_waiting stream ws ts) on ≡ who ts on → who (cond b (record t { waiting = ws } ∷ ts) (t ∷ set_waiting stream ws ts)) on ≡ who (t ∷ ts) on
    set_by true on stream ws t ts rest = refl
    set_by false on stream ws t ts rest = ap (λ o. cond (t.stream == on) (Some t.id) o) rest

    set_who : (on stream : ℕ) (ws : List Waiting) (ts : List Tunnel) → who (set_waiting stream ws ts) on ≡ who ts on
    set_who on stream ws [] = refl
    set_who on stream ws (t ∷ ts) = set_by (t.stream == stream) on stream ws t ts (set_who on stream ws ts)

    abbrev LiftsIn : Conn → Option (Note × Conn) → Type 0
    LiftsIn c None = Unit {0}
    LiftsIn c (Some d) = Lifts k closers extra c d.1

    settled_in : (c : Conn) (o : Option (Note × Conn)) → LiftsIn c o → LiftsIn c (option_map settled_note o)
    settled_in c None h = tt
    settled_in c (Some d) h = lifts_on k closers extra c d.1 (settle d.1) h (settle_lifts k closers extra d.1)

    framed_by_lifts : (c : Conn) (t : Tunnel) (w : Waiting) (ws : List Waiting) (count : ℕ) → Lifts k closers extra c (framed_by c t w ws count).1
    framed_by_lifts c t w ws count =
        let put = framing c.front t.stream (take count (drop w.framed w.capsule)) in
        if_both (λ (d : Note × Conn). Lifts k closers extra c d.1) (nat_le (length w.capsule) (w.framed + count)) _ _
        (record { ends = first_none c.ending put.ending; streams = λ e. refl; same = λ on. set_who on t.stream ws c.tunnels; more = λ e on. omega arith })
        (record { ends = first_none c.ending put.ending; streams = λ e. refl; same = λ on. set_who on t.stream (record w { framed = w.framed + count } ∷ ws) c.tunnels; more = λ e on. omega arith })

    front_lifts : (c : Conn) (t : Tunnel) (ws : List Waiting) → LiftsIn c (framed_front c t ws)
    front_lifts c t [] = tt
    front_lifts c t (w ∷ ws) = framed_by_lifts c t w ws (frame_size c.front t.stream (length (drop w.framed w.capsule)))

    next_lifts : (c : Conn) (o : Option Tunnel) → LiftsIn c (option_and_then (λ (t : Tunnel). framed_front c t t.waiting) o)
    next_lifts c None = tt
    next_lifts c (Some t) = front_lifts c t t.waiting

    framed_lifts : (c : Conn) → LiftsIn c (framed c)
    framed_lifts c = settled_in c (option_and_then (λ (t : Tunnel). framed_front c t t.waiting) (next_framed c)) (next_lifts c (next_framed c))

    wrote_lifts : (c : Conn) (count : ℕ) → Lifts k closers extra c (wrote c count).1
    wrote_lifts c count =
        let mid : Conn = record c { given = c.given + count } in
        lifts_on k closers extra c mid (settle mid) (record { ends = λ e. e; streams = λ e. refl; same = λ on. refl; more = λ e on. omega arith }) (settle_lifts k closers extra mid)

    finish_lifts : (c : Conn) (f : Front) (inside : Bool) → Lifts k closers extra c (finish_by (record c { is_finished = true }) f inside)
    finish_lifts c (Head []) inside = ending_lifts c (finish_by (record c { is_finished = true }) (Head []) inside) (λ e. cc) (λ on. refl)
    finish_lifts c (Head (b ∷ bytes)) inside = ending_lifts c (finish_by (record c { is_finished = true }) (Head (b ∷ bytes)) inside) (λ e. cc) (λ on. refl)
    finish_lifts c OverHttp1 inside = record { ends = λ e. e; streams = λ e. refl; same = λ on. refl; more = λ e on. omega arith }
    finish_lifts c (OverHttp2 h) inside = ending_lifts c (finish_by (record c { is_finished = true }) (OverHttp2 h) inside) (λ e. cc) (λ on. refl)

    finished_lifts : (c : Conn) (inside : Bool) → Lifts k closers extra c (finished c inside).1
    finished_lifts c inside =
        let mid = finish_by (record c { is_finished = true }) c.front inside in
        lifts_on k closers extra c mid (settle mid) (finish_lifts c c.front inside) (settle_lifts k closers extra mid)

    queued_lifts : (c : Conn) (t : Tunnel) (from : From) (n : ℕ) (packet : List ℕ) → Lifts k closers extra c (queued c t from n packet).1
    queued_lifts c t from n packet =
        if_both (λ (d : Note × Conn). Lifts k closers extra c d.1) (nat_le most_packets (packets t) || nat_lt most_waiting (waiting_bytes c + length (capsule_text (datagram packet)))) _ _ (lifts_same k closers extra c)
        (record { ends = λ e. e; streams = λ e. refl; same = λ on. waits_who on t.id _ c.tunnels; more = λ e on. omega arith })

    came_lifts : (c : Conn) (t : Tunnel) (from : From) (n : ℕ) (packet : List ℕ) → Lifts k closers extra c (settled_note (queued c t from n packet)).1
    came_lifts c t from n packet = lifts_on k closers extra c (queued c t from n packet).1 (settle (queued c t from n packet).1) (queued_lifts c t from n packet) (settle_lifts k closers extra (queued c t from n packet).1)

    passed_lifts : (c : Conn) (t : Tunnel) (from : From) (n : ℕ) (o : Option (List ℕ)) → Lifts k closers extra c (passed_on c t from n o).1
    passed_lifts c t from n None = lifts_same k closers extra c
    passed_lifts c t from n (Some packet) = came_lifts c t from n packet

    received_in : (c : Conn) (p : Port) (datagram : List ℕ) (o : Option Tunnel) → LiftsIn c (option_map (λ (t : Tunnel). settled_note (queued c t (source.Port p.tunnel) p.received datagram)) o)
    received_in c p datagram None = tt
    received_in c p datagram (Some t) = came_lifts c t (source.Port p.tunnel) p.received datagram

    lifts_all : (c d : Conn) (said : Note) → Lifts k closers extra c d → (on : ℕ) → StepAt k closers extra c d said on
    lifts_all c d said x on = lifts_at k closers extra c d said on x

    handles_steps : (setup : Setup) (old : Held) (sh : Shared) → IsLawful old.conn → Asked setup.mtu old.conn → HandlesHeld setup old sh (λ said new after. StepNew old.conn said new)
    handles_steps setup old sh lawful asked =
        let numbered : old.conn.ending ≡ None → Numbered old.conn.tunnels = λ e. subst (λ o. AreNumbered o old.conn.tunnels) e lawful.loose.numbered in
        record {
          acts = λ answer said new after x. over_steps setup.mtu old (want_of old.conn) answer said new numbered asked x.is;
          link_fails = λ link answer said new after x.
              lifts_new old.conn (failed old.conn) said new (failed_lifts old.conn) (over_steps setup.mtu (record old { conn = failed old.conn; link = link }) (want_of (failed old.conn)) answer said new (λ e. absurd cc) tt x.is);
          port_fails = λ p t answer said new after is can x.
              lifts_new old.conn (port_failed old.conn t) said new (port_failed_lifts old.conn t) (over_steps setup.mtu (record old { conn = port_failed old.conn t }) (want_of (port_failed old.conn t)) answer said new numbered (tt, asked) x.is);
          frames = λ d is. lifts_all old.conn d.1 d.0 (subst (LiftsIn old.conn) is (framed_lifts old.conn));
          writes = lifts_all old.conn (wrote old.conn (write_count old)).1 _ (wrote_lifts old.conn (write_count old));
          reads = λ first c link took. λ on. took_step k closers extra nothing many setup old.conn c _ _ on lawful took;
          ends = λ inside x can. lifts_all old.conn (finished old.conn inside).1 _ (finished_lifts old.conn inside);
          receives = λ p datagram others d port arrived came. lifts_all old.conn d.1 d.0 (subst (LiftsIn old.conn) came (received_in old.conn p datagram (tunnel_of old.conn p.tunnel)));
        }

    -- ---- along a run

    abbrev Stands : List Moment → Conn → Type 0
    Stands ms c = c.ending ≡ None → (on : ℕ) → is_some (stream_of c.streams on) ≡ true → 1 ≤ gained k ms (who c.tunnels on) + up k closers extra c on

    gained_more : (ms : List Moment) (m : Moment) (o : Option ℕ) → gained k ms o ≤ gained k (ms ++ m ∷ []) o
    gained_more ms m None = omega arith
    gained_more ms m (Some id) = let sum = total_append (λ (m : Moment). cond (acted_by id k.number m) 1 0) ms (m ∷ []) in omega (arith, sum)

    gained_now : (ms : List Moment) (j : ℕ) (said : Note) (o : Option ℕ) → gained k ms o + gain k o said ≤ gained k (ms ++ Noted (WorkerOf j) said ∷ []) o
    gained_now ms j said None = omega arith
    gained_now ms j said (Some id) = let sum = total_append (λ (m : Moment). cond (acted_by id k.number m) 1 0) ms (Noted (WorkerOf j) said ∷ []) in omega (arith, sum)

    stands_more : (ms : List Moment) (m : Moment) (c : Conn) → Stands ms c → Stands (ms ++ m ∷ []) c
    stands_more ms m c h e on some = let was = h e on some in let more = gained_more ms m (who c.tunnels on) in omega (arith, was, more)

    stands_step : (ms : List Moment) (j : ℕ) (said : Note) (c d : Conn) → Stands ms c → ((on : ℕ) → StepAt k closers extra c d said on) → Stands (ms ++ Noted (WorkerOf j) said ∷ []) d
    stands_step ms j said c d h step e on some = elim (step on e some) [
      | inl one ↦ omega (arith, one)
      | inr kept ↦ (
          let was = h kept.ends on kept.stream in
          let less = kept.more in
          let now = gained_now ms j said (who c.tunnels on) in
          elim kept.same [
            | inl same ↦ (let all = ap (gained k (ms ++ Noted (WorkerOf j) said ∷ [])) same in omega (arith, was, less, now, all))
            | inr empty ↦ (let none = ap (gained k ms) empty in let no_gain = ap (λ o. gain k o said) empty in omega (arith, was, less, none, no_gain))
          ])
    ]

    -- ---- a worker

    abbrev WorkerStands : List Moment → Worker → Type 0
    WorkerStands ms w = AllByRecursion (λ (h : Held). Stands ms h.conn) w.conns

    abbrev AllStand : List Moment → State → Type 0
    AllStand ms s = AllByRecursion (WorkerStands ms) s.workers

    helds_more : (ms : List Moment) (m : Moment) (hs : List Held) → AllByRecursion (λ (h : Held). Stands ms h.conn) hs → AllByRecursion (λ (h : Held). Stands (ms ++ m ∷ []) h.conn) hs
    helds_more ms m [] h = tt
    helds_more ms m (g ∷ hs) h = (stands_more ms m g.conn h.0, helds_more ms m hs h.1)

    all_more : (ms : List Moment) (m : Moment) (ws : List Worker) → AllByRecursion (WorkerStands ms) ws → AllByRecursion (WorkerStands (ms ++ m ∷ [])) ws
    all_more ms m [] h = tt
    all_more ms m (w ∷ ws) h = (helds_more ms m w.conns h.0, all_more ms m ws h.1)

    became_stands : (ms : List Moment) (j : ℕ) (said : Note) (setup : Setup) (c : Conn) (new : Option Held) → Stands ms c → StepNew c said new → NewHas (any_setup (Stands (ms ++ Noted (WorkerOf j) said ∷ []))) setup new
    became_stands ms j said setup c None h step = tt
    became_stands ms j said setup c (Some g) h step = stands_step ms j said c g.conn h step

    popped_stands : (ms : List Moment) (j : ℕ) (w : Worker) (parcel : Parcel) → WorkerStands ms w → WorkerStands (ms ++ Noted (WorkerOf j) (popped w parcel).0 ∷ []) (popped w parcel).1
    popped_stands ms j w parcel h =
        elim (cases_of (tunnel_in w parcel.to)) [
          | inl none ↦ rw none (helds_more ms _ w.conns h)
          | inr (found, some) ↦ (
              let among : Among found.0 w.conns = subst (FoundAmong w.conns) some (among_in w parcel.to) in
              let own = all_among (λ (g : Held). Stands ms g.conn) w.conns found.0 h among in
              let new : Held = (came_to found.0 found.1 parcel).1 in
              let said = (came_to found.0 found.1 parcel).0 in
              let lifts = passed_lifts found.0.conn found.1 (source_of parcel.from) parcel.n (onward parcel.packet) in
              rw some (replaced_have (any_setup (Stands (ms ++ Noted (WorkerOf j) said ∷ []))) w.setup found.0.conn.number (Some new) w.conns
              (stands_step ms j said found.0.conn new.conn own (lifts_all found.0.conn new.conn said lifts)) (helds_more ms (Noted (WorkerOf j) said) w.conns h)))
        ]

    accepted_stands : (ms : List Moment) (j : ℕ) (w : Worker) (offered : List Offer) (said : Note) (new : Worker) → WorkerStands ms w → accepted w offered ≡ Some (said, new) → WorkerStands (ms ++ Noted (WorkerOf j) said ∷ []) new
    accepted_stands ms j w [] said new h e = absurd cc
    accepted_stands ms j w (o ∷ offered) said new h e =
        let g : Held = record { conn = new_conn o.number w.id; link = o.link; ports = [] } in
        subst (λ (d : Note × Worker). WorkerStands (ms ++ Noted (WorkerOf j) d.0 ∷ []) d.1) (some_same e)
        (each_append (λ (h : Held). Stands (ms ++ Noted (WorkerOf j) (note.Accepted o.number w.id) ∷ []) h.conn) w.conns (g ∷ []) (helds_more ms (Noted (WorkerOf j) (note.Accepted o.number w.id)) w.conns h) (λ e on some. absurd cc, tt))

    seat_stands : (ms : List Moment) (j : ℕ) (w : Worker) (sh : Shared) (seat : Seat) (answer : Answer) (said : Note) (new : Worker) (after : Shared) → AllByRecursion (λ (g : Held). IsLawful g.conn) w.conns
        → AllByRecursion (λ (g : Held). Asked w.setup.mtu g.conn) w.conns → WorkerStands ms w → SeatNext w sh seat answer said new after → WorkerStands (ms ++ Noted (WorkerOf j) said ∷ []) new
    seat_stands ms j w sh Offers answer said new after lawful asked h x = accepted_stands ms j w w.offered said new h x.1
    seat_stands ms j w sh Inbox answer said new after lawful asked h x = subst (λ (d : Note × Worker). WorkerStands (ms ++ Noted (WorkerOf j) d.0 ∷ []) d.1) x.1.is (popped_stands ms j w x.1.parcel h)
    seat_stands ms j w sh (Of n) answer said new after lawful asked h x =
        let own = each_found (λ (g : Held). Stands ms g.conn) (λ (g : Held). g.conn.number == n) w.conns x.held h x.has in
        let lawful_own = each_found (λ (g : Held). IsLawful g.conn) (λ (g : Held). g.conn.number == n) w.conns x.held lawful x.has in
        let asked_own = each_found (λ (g : Held). Asked w.setup.mtu g.conn) (λ (g : Held). g.conn.number == n) w.conns x.held asked x.has in
        let did = try_walk w.setup x.held sh (λ said new after. StepNew x.held.conn said new) (handles_steps w.setup x.held sh lawful_own asked_own) x.try answer said x.became after x.tries x.next in
        subst (λ (gs : List Held). AllByRecursion (λ (g : Held). Stands (ms ++ Noted (WorkerOf j) said ∷ []) g.conn) gs) (sym (ap (λ (w : Worker). w.conns) x.new_is))
        (replaced_have (any_setup (Stands (ms ++ Noted (WorkerOf j) said ∷ []))) w.setup n x.became w.conns (became_stands ms j said w.setup x.held.conn x.became own did) (helds_more ms (Noted (WorkerOf j) said) w.conns h))

    starves_stands : (ms : List Moment) (m : Moment) (w : Worker) (sh : Shared) (seat : Seat) (reached : Reached) (answer : Answer) (new : Worker) (after : Shared) → WorkerStands ms w → SeatStarves w sh seat reached answer new after → WorkerStands (ms ++ m ∷ []) new
    starves_stands ms m w sh Offers reached answer new after h x = subst (WorkerStands (ms ++ m ∷ [])) (sym x.2) (helds_more ms m w.conns h)
    starves_stands ms m w sh Inbox reached answer new after h x = absurd x
    starves_stands ms m w sh (Of n) reached answer new after h x =
        let now : Held = record x.held { link = record x.held.link { pieces = x.pieces }; conn = record (starved x.held.conn) { tunnels = x.tunnels } } in
        subst (λ (gs : List Held). AllByRecursion (λ (g : Held). Stands (ms ++ m ∷ []) g.conn) gs) (sym (ap (λ (w : Worker). w.conns) x.new_is))
        (replaced_have (any_setup (Stands (ms ++ m ∷ []))) w.setup n (Some now) w.conns (λ e on some. absurd cc) (helds_more ms m w.conns h))

    -- ---- a step

    abbrev AllLawful : State → Type 0
    AllLawful s = AllByRecursion (λ (w : Worker). AllByRecursion (λ (g : Held). IsLawful g.conn) w.conns) s.workers

    goes_stands : (ms : List Moment) (s t : State) (m : Moment) → AllLawful s → AllAsked s → AllStand ms s → Goes s m t → AllStand (ms ++ m ∷ []) t
    goes_stands ms s t (Happened e) lawful asked h x =
        subst (AllStand (ms ++ Happened e ∷ [])) (sym x.1) (happen_have (any_setup (Stands (ms ++ Happened e ∷ []))) s e (all_more ms (Happened e) s.workers h))
    goes_stands ms s t (Noted (WorkerOf j) said) lawful asked h x =
        let w = x.worker in
        let lawful_w = each_at (λ (w : Worker). AllByRecursion (λ (g : Held). IsLawful g.conn) w.conns) s.workers j w lawful x.at in
        let asked_w = each_at (λ (w : Worker). AllByRecursion (λ (g : Held). Asked w.setup.mtu g.conn) w.conns) s.workers j w asked x.at in
        let own = each_at (WorkerStands ms) s.workers j w h x.at in
        let did = seat_stands ms j w s.shared x.turn.seat x.answer said x.next x.shared lawful_w asked_w own x.turn.next in
        subst (λ (ws : List Worker). AllByRecursion (WorkerStands (ms ++ Noted (WorkerOf j) said ∷ [])) ws) (sym (ap (λ (s : State). s.workers) x.new_is))
        (each_set (WorkerStands (ms ++ Noted (WorkerOf j) said ∷ [])) s.workers j x.next (all_more ms (Noted (WorkerOf j) said) s.workers h) did)
    goes_stands ms s t (Noted ThePump said) lawful asked h x =
        subst (λ (ws : List Worker). AllByRecursion (WorkerStands (ms ++ Noted ThePump said ∷ [])) ws) (sym (ap (λ (s : State). s.workers) x.new_is)) (all_more ms (Noted ThePump said) s.workers h)
    goes_stands ms s t (Refused (WorkerOf j) reached) lawful asked h x =
        let m = Refused (WorkerOf j) reached in
        let own = each_at (WorkerStands ms) s.workers j x.worker h x.at in
        let did = starves_stands ms m x.worker s.shared x.starves.seat reached x.answer x.next x.shared own x.starves.starves in
        subst (λ (ws : List Worker). AllByRecursion (WorkerStands (ms ++ m ∷ [])) ws) (sym (ap (λ (s : State). s.workers) x.new_is)) (each_set (WorkerStands (ms ++ m ∷ [])) s.workers j x.next (all_more ms m s.workers h) did)
    goes_stands ms s t (Refused ThePump reached) lawful asked h x =
        subst (AllStand (ms ++ Refused ThePump reached ∷ [])) (sym x.2) (all_more ms (Refused ThePump reached) s.workers h)

    none_yet : (setup : Setup) (n : ℕ) → AllByRecursion (WorkerStands []) (new_workers setup n)
    none_yet setup zero = tt
    none_yet setup (suc n) = each_append (WorkerStands []) (new_workers setup n) (new_worker n setup ∷ []) (none_yet setup n) (tt, tt)

    module _ (limits : IsWithinLimits) (stays : StaysLawful) (plan : Plan) where
      run_stands : (before ms : List Moment) (s t : State) → Run (state_of plan) before s → AllStand before s → Run s ms t → AllStand (before ++ ms) t
      run_stands before [] s t run h x = rw append-nil (subst (AllStand before) (sym x) h)
      run_stands before (m ∷ ms) s t run h x =
          let here = goes_stands before s x.0 m (lawful_at limits stays k plan before s run) (asked_at limits stays k plan before s run) h x.1 in
          let on = run_append before (m ∷ []) (state_of plan) s x.0 run (x.0, x.1, refl) in
          subst (λ (l : List Moment). AllStand l t) (append_assoc before (m ∷ []) ms) (run_stands (before ++ m ∷ []) ms x.0 t on here x.2)

      stands_at : (ms : List Moment) (s : State) → Run (state_of plan) ms s → AllStand ms s
      stands_at ms s run = run_stands [] ms (state_of plan) s refl (none_yet plan.setup plan.workers) run

      in_list : (t : Tunnel) (ts : List Tunnel) → Among t ts → In t ts
      in_list t [] h = h
      in_list t (u ∷ ts) (inl same) = inl same
      in_list t (u ∷ ts) (inr more) = inr (in_list t ts more)

      alone_by : (b : Bool) (t u : Tunnel) (ts : List Tunnel) → (u.stream == t.stream) ≡ b → Alone (u ∷ ts) → Among t (u ∷ ts) → (Among t ts → who ts t.stream ≡ Some t.id) → cond b (Some u.id) (who ts t.stream) ≡ Some t.id
      alone_by true t u ts is alone (inl same) rest = ap (λ (t : Tunnel). Some t.id) same
      alone_by true t u ts is alone (inr more) rest =
          let there : has_on ts t.stream ≡ true = in_has ts t (in_list t ts more) in
          let here : has_on ts u.stream ≡ false = alone.0 in
          let both : has_on ts u.stream ≡ true = ap (has_on ts) (eqb-true u.stream t.stream is) ∙ there in
          absurd cc
      alone_by false t u ts is alone (inl same) rest = absurd (let yes = eq-eqb u.stream t.stream (ap (λ (t : Tunnel). t.stream) same) in let no = sym is ∙ yes in cc)
      alone_by false t u ts is alone (inr more) rest = rest more

      alone_who : (t : Tunnel) (ts : List Tunnel) → Alone ts → Among t ts → who ts t.stream ≡ Some t.id
      alone_who t [] alone h = absurd h
      alone_who t (u ∷ ts) alone h = alone_by (u.stream == t.stream) t u ts refl alone h (λ more. alone_who t ts alone.1 more)

      pub in_turn : (ms : List Moment) (s : State) (number : ℕ) (w : Worker) (conn : ℕ) (h : Held) (tunnel : ℕ) (t : Tunnel) (r : Stream) (items : List Item) → Run (state_of plan) ms s → slice_get s.workers number ≡ Some w → held_of w conn ≡ Some h
          → tunnel_of h.conn tunnel ≡ Some t → h.conn.ending ≡ None → stream_of h.conn.streams t.stream ≡ Some r → ItemsOf (has_values r.goal) r.bytes items → k.number < payload_count items
          → 1 ≤ gained k ms (Some tunnel) + asked_on k t.stream h.conn.due + closing closers t.stream h.conn.due + extra r
      in_turn ms s number w conn h tunnel t r items run works has_it serves goes_on there says before =
          let stands_w = each_at (WorkerStands ms) s.workers number w (stands_at ms s run) works in
          let stands_h = each_found (λ (g : Held). Stands ms g.conn) (λ (g : Held). g.conn.number == conn) w.conns h stands_w has_it in
          let lawful_w = each_at (λ (w : Worker). AllByRecursion (λ (g : Held). IsLawful g.conn) w.conns) s.workers number w (lawful_at limits stays k plan ms s run) works in
          let lawful = each_found (λ (g : Held). IsLawful g.conn) (λ (g : Held). g.conn.number == conn) w.conns h lawful_w has_it in
          let id : t.id ≡ tunnel = eqb-true t.id tunnel (found_passes (λ (u : Tunnel). u.id == tunnel) h.conn.tunnels t serves) in
          let own = alone_who t h.conn.tunnels lawful.loose.alone (found_among (λ (u : Tunnel). u.id == tunnel) h.conn.tunnels t serves) in
          let all = stands_h goes_on t.stream (ap is_some there) in
          let gains = ap (gained k ms) (own ∙ ap (λ (i : ℕ). Some i) id) in
          let first = k.readable (has_values r.goal) r.bytes in
          let count : count_of k r ≡ payload_count items = ap payload_count (k.once (has_values r.goal) r.bytes first.0 items first.1 says) in
          let comes = ap (coming k closers extra) there in
          let none = came_already (count_of k r) k.number (omega (arith, count, before)) in
          omega (arith, all, gains, comes, none)
        where
          came_already : (m n : ℕ) → n < m → from_on m n ≡ 0
          came_already m n less = by_test (nat_le m n) refl where
            by_test : (b : Bool) → nat_le m n ≡ b → ◌≡◌ {A = ℕ} (cond b 1 0) 0
            by_test true is = let most = leb-true m n is in absurd (omega (arith, most, less))
            by_test false is = refl

-- ---- the law

module _ (k : Key) where
  any_by : {A : Type 0} (b : Bool) (p : A → Bool) (xs : List A) → 1 ≤ cond b 1 0 + total (λ (x : A). cond (p x) 1 0) xs → (1 ≤ total (λ (x : A). cond (p x) 1 0) xs → list_any p xs ≡ true) → (b || list_any p xs) ≡ true
  any_by true p xs h rest = refl
  any_by false p xs h rest = rest (omega (arith, h))

  any_total : {A : Type 0} (p : A → Bool) (xs : List A) → 1 ≤ total (λ (x : A). cond (p x) 1 0) xs → list_any p xs ≡ true
  any_total p [] h = absurd (omega (arith, h))
  any_total p (x ∷ xs) h = any_by (p x) p xs h (λ h. any_total p xs h)

  both_cond : (b c : Bool) → ◌≡◌ {A = ℕ} (cond b (cond c 1 0) 0) (cond (b && c) 1 0)
  both_cond true c = refl
  both_cond false c = refl

  asks_with : (a : StreamAct) → asks k a ≡ cond (is_with k.number a) 1 0
  asks_with (stream.Payload m payload) = refl
  asks_with (stream.Packet m packet flow) = refl
  asks_with (stream.Push m to packet) = refl
  asks_with (stream.Drop m cause) = refl
  asks_with (stream.Assign asked) = refl
  asks_with (stream.Advertise ranges) = refl
  asks_with (stream.Close why) = refl

  due_same : (on : ℕ) (d : Due) → due_asks k on d ≡ cond (is_due on k.number d) 1 0
  due_same on (due.Do (act.OfStream id a)) = ap (λ n. cond (id == on) n 0) (asks_with a) ∙ both_cond (id == on) (is_with k.number a)
  due_same on (due.Do (act.Bind id goal)) = refl
  due_same on (due.Do (act.Open id goal)) = refl
  due_same on (due.Do (act.Refuse id status rule)) = refl
  due_same on (due.Do (act.Reset id code)) = refl
  due_same on (due.Spend id size) = refl
  due_same on (due.Fault code) = refl

  close_same : (on : ℕ) (d : Due) → closes_on true on d ≡ cond (closes on d) 1 0
  close_same on (due.Do (act.OfStream id a)) = both_cond (id == on) (is_close a)
  close_same on (due.Do (act.Bind id goal)) = refl
  close_same on (due.Do (act.Open id goal)) = refl
  close_same on (due.Do (act.Refuse id status rule)) = refl
  close_same on (due.Do (act.Reset id code)) = refl
  close_same on (due.Spend id size) = refl
  close_same on (due.Fault code) = refl

  total_same : (f g : Due → ℕ) (ds : List Due) → ((d : Due) → f d ≡ g d) → total f ds ≡ total g ds
  total_same f g [] h = refl
  total_same f g (d ∷ ds) h = let here = h d in let rest = total_same f g ds h in omega (arith, here, rest)

  module _ (nothing : (control : Bool) → ItemsOf control [] []) (limits : IsWithinLimits) (stays : StaysLawful) (plan : Plan) where
    behind_is : (r : Stream) (items : List Item) → ItemsOf (has_values r.goal) r.bytes items → k.number < payload_count items → was_behind k r ≡ behind k (kind_of r.goal) 0 items
    behind_is r items says before =
        let first = k.readable (has_values r.goal) r.bytes in
        let same : first.0 ≡ items = k.once (has_values r.goal) r.bytes first.0 items first.1 says in
        let count : count_of k r ≡ payload_count items = ap payload_count same in
        was_read (nat_le (count_of k r) k.number) refl (omega (arith, count, before)) ∙ ap (behind k (kind_of r.goal) 0) same
      where
        was_read : (b : Bool) → nat_le (count_of k r) k.number ≡ b → k.number < count_of k r → ◌≡◌ {A = ℕ} (cond b 0 (behind k (kind_of r.goal) 0 (k.readable (has_values r.goal) r.bytes).0)) (behind k (kind_of r.goal) 0 (k.readable (has_values r.goal) r.bytes).0)
        was_read true is less = let most = leb-true (count_of k r) k.number is in absurd (omega (arith, most, less))
        was_read false is less = refl

    is_one : (b : Bool) → 1 ≤ cond b 1 0 → b ≡ true
    is_one true h = refl
    is_one false h = absurd (omega (arith, h))

    pub none_passed : (ms : List Moment) (s : State) (number : ℕ) (w : Worker) (conn : ℕ) (h : Held) (tunnel : ℕ) (t : Tunnel) (r : Stream) (items : List Item) → Run (state_of plan) ms s → slice_get s.workers number ≡ Some w → held_of w conn ≡ Some h
        → tunnel_of h.conn tunnel ≡ Some t → h.conn.ending ≡ None → stream_of h.conn.streams t.stream ≡ Some r → ItemsOf (has_values r.goal) r.bytes items → k.number < payload_count items
        → (list_any (acted_by tunnel k.number) ms ≡ true) ⊎ ((list_any (is_due t.stream k.number) h.conn.due ≡ true) ⊎ ((list_any (closes t.stream) h.conn.due ≡ true) × (is_behind_close (kind_of r.goal) k.number 0 items ≡ true)))
    none_passed ms s number w conn h tunnel t r items run works has_it serves goes_on there says before =
        let closed_or = in_turn k true (λ s. 0) nothing (λ mtu s bytes ends acts x. let less = bytes_many k mtu s bytes ends acts x in omega (arith, less)) limits stays plan ms s number w conn h tunnel t r items run works has_it serves goes_on there says before in
        let behind_or = in_turn k false (was_behind k) nothing (bytes_behind k) limits stays plan ms s number w conn h tunnel t r items run works has_it serves goes_on there says before in
        let none = none_open t.stream h.conn.due in
        let is = behind_is r items says before in
        let asked = total_same (due_asks k t.stream) (λ (d : Due). cond (is_due t.stream k.number d) 1 0) h.conn.due (due_same t.stream) in
        let close = total_same (closes_on true t.stream) (λ (d : Due). cond (closes t.stream d) 1 0) h.conn.due (close_same t.stream) in
        elim (zero_or (gained k ms (Some tunnel))) [
          | inr one ↦ inl (any_total (acted_by tunnel k.number) ms one)
          | inl zero_acted ↦ elim (zero_or (asked_on k t.stream h.conn.due)) [
            | inr one ↦ inr (inl (any_total (is_due t.stream k.number) h.conn.due (omega (arith, one, asked))))
            | inl zero_asked ↦ inr (inr (any_total (closes t.stream) h.conn.due (omega (arith, closed_or, zero_acted, zero_asked, close)), is_one (is_behind_close (kind_of r.goal) k.number 0 items) (omega (arith, behind_or, zero_acted, zero_asked, none, is))))
          ]
        ]
      where
        none_of : (on : ℕ) (d : Due) → closes_on false on d ≡ 0
        none_of on (due.Do (act.OfStream id a)) = twice (id == on) (is_close a) where
          twice : (b c : Bool) → ◌≡◌ {A = ℕ} (cond b (cond c 0 0) 0) 0
          twice true true = refl
          twice true false = refl
          twice false c = refl
        none_of on (due.Do (act.Bind id goal)) = refl
        none_of on (due.Do (act.Open id goal)) = refl
        none_of on (due.Do (act.Refuse id status rule)) = refl
        none_of on (due.Do (act.Reset id code)) = refl
        none_of on (due.Spend id size) = refl
        none_of on (due.Fault code) = refl

        none_open : (on : ℕ) (ds : List Due) → closing false on ds ≡ 0
        none_open on [] = refl
        none_open on (d ∷ ds) = let here = none_of on d in let rest = none_open on ds in omega (arith, here, rest)
