-- What each step of a connection keeps holds of every connection in every run from the first state of a plan.
use Rattle.std.proofs.Common.{◌≡◌, ◌≤◌, ◌⊎◌, ℕ, zero, suc, Bool, true, false, nat_lt, List, [], ◌∷◌, length, Option, Some, None, slice_set, option_map, refl, sym, subst, ap, ◌∙◌, inl, inr, append-nil}
use Rattle.std.specs.Prelude.{find, ◌==◌}
use Rattle.std.specs.Bool.{MatchBool}
use Rattle.std.specs.List.{AllByRecursion}
use Rattle.mq_addr.specs.declared.kind.Kind.{Kind}
use Rattle.mq_addr.specs.declared.kind.Kind.TheVariants as kind
use Rattle.mq_addr.specs.declared.range.Flow.{Flow}
use Rattle.mq_talk.specs.declared.note.End.{End}
use Rattle.mq_talk.specs.declared.note.End.TheVariants as end
use Rattle.mq_talk.specs.declared.note.From.{From}
use Rattle.mq_talk.specs.declared.note.From.TheVariants as source
use Rattle.mq_talk.specs.declared.note.Note.{Note}
use Rattle.mq_talk.specs.declared.place.Parcel.{Parcel}
use Rattle.mq_talk.specs.declared.place.Place.{Place}
use Rattle.mq_talk.specs.declared.place.Place.TheVariants as place
use Rattle.mq_talk.specs.declared.place.Verdict.{Verdict}
use Rattle.mq_talk.specs.declared.place.Verdict.TheVariants as verdict
use Rattle.mq_talk.specs.Mails.{has_room, box_at}
use Rattle.mq_talk.specs.Packets.{flow_of}
use Rattle.mq_outside.specs.Nets.{Arrival}
use Rattle.mq_machine.specs.declared.event.Event.{Event}
use Rattle.mq_machine.specs.declared.event.Event.TheVariants as event
use Rattle.mq_machine.specs.declared.setup.Setup.{Setup}
use Rattle.mq_machine.specs.Words.{onward}
use Rattle.mq_machine.specs.State.{Conn, new_conn, Tunnel, Port, Held, Offer, Worker, new_worker, Pump, Shared, State, tunnel_of, kind_of}
use Rattle.mq_machine.specs.Want.{Want, Over, Answer, want_of, may_wait}
use Rattle.mq_machine.specs.Done.{Done, done}
use Rattle.mq_machine.specs.Reading.{TookNext}
use Rattle.mq_machine.specs.Shared.{ports_after, inbox_of}
use Rattle.mq_machine.specs.Silent.{Reached, Heard, SeatStarves, SilentTurn, tunnels_after}
use Rattle.mq_machine.specs.Steps.{can_read, framed, wrote, finished, failed, given_up, starved, queued, passed_on, settled_note, received, port_failed}
use Rattle.mq_machine.specs.Turn.{HeldDone, with_conn, over_or, ActNext, write_count, Seat, Offers, Inbox, Of, accepted, replace, came_to, tunnel_in, popped, has_tunnel, SeatNext, source_of, PumpTry, PushHeld, SendHeld, SendNext, Receives, PumpNext, parcel_pushed, net_sent, net_popped, net_judged, IsMet, IsReceived, with_arrivals, last_of, Actor, WorkerOf, ThePump, Turn}
use Rattle.mq_play.specs.declared.plan.Plan.{Plan}
use Rattle.mq_play.specs.Events.{new_workers, state_of, happen}
use Rattle.mq_play.proofs.Lists.{if_both, each_append, each_at, each_set, each_found}
use Rattle.mq_runs.specs.Runs.{Moment, Happened, Noted, Refused, Goes, Run}
use Rattle.mq_runs.proofs.Conns.{replaced_have, happen_have}
use Rattle.mq_runs.proofs.Books.{Grows, grows_same, grows_on, grows_long, IsGivenAt, answer_grows}
use Rattle.mq_runs.proofs.Walks.{HandlesHeld, try_walk}

-- what each step of a connection keeps, where the book has so many entries
pub record Keeps (K : Setup → ℕ → Conn → Type 0) : Type 0 where
  pub more : (setup : Setup) (n m : ℕ) (c : Conn) → n ≤ m → K setup n c → K setup m c
  pub begins : (setup : Setup) (n number actor : ℕ) → K setup n (new_conn number actor)
  pub answers : (setup : Setup) (n m : ℕ) (c d : Conn) (answer : Answer) (note : Note) → K setup n c → n ≤ m → IsGivenAt n m answer → done c answer ≡ Some (note, d) → K setup m d
  pub frames : (setup : Setup) (n : ℕ) (c d : Conn) (note : Note) → K setup n c → framed c ≡ Some (note, d) → K setup n d
  pub writes : (setup : Setup) (n : ℕ) (c : Conn) (count : ℕ) → K setup n c → K setup n (wrote c count).1
  pub reads : (setup : Setup) (n : ℕ) (c d : Conn) (bytes : List ℕ) → K setup n c → TookNext setup c bytes d → K setup n d
  pub finishes : (setup : Setup) (n : ℕ) (c : Conn) (inside : Bool) → K setup n c → can_read c ≡ true → K setup n (finished c inside).1
  pub gives_up : (setup : Setup) (n : ℕ) (why : End) (c : Conn) → K setup n c → K setup n (given_up why c)
  pub queues : (setup : Setup) (n : ℕ) (c : Conn) (t : Tunnel) (from : From) (number : ℕ) (packet : List ℕ) → K setup n c → K setup n (settled_note (queued c t from number packet)).1
  pub port_fails : (setup : Setup) (n : ℕ) (c : Conn) (tunnel : ℕ) (t : Tunnel) → K setup n c → tunnel_of c tunnel ≡ Some t → may_wait (want_of c) ≡ true → K setup n (port_failed c t)
  pub hears : (setup : Setup) (n m : ℕ) (c : Conn) (answer : Answer) → K setup n c → n ≤ m → IsGivenAt n m answer
      → K setup m (record (starved c) { tunnels = tunnels_after (want_of c) answer c.tunnels })

-- an option by what it is
pub cases_of : {A : Type 0} (o : Option A) → (o ≡ None) ⊎ ((x : A) × (o ≡ Some x))
cases_of None = inl refl
cases_of (Some x) = inr (x, refl)

module _ (K : Setup → ℕ → Conn → Type 0) (keeps : Keeps K) where
  abbrev HeldHas : Setup → ℕ → Held → Type 0
  HeldHas setup n h = K setup n h.conn

  abbrev pub Have : ℕ → Worker → Type 0
  Have n w = AllByRecursion (HeldHas w.setup n) w.conns

  abbrev pub AllHave : State → Type 0
  AllHave s = AllByRecursion (Have (length s.shared.book)) s.workers

  held_more : (setup : Setup) (n m : ℕ) (hs : List Held) → n ≤ m → AllByRecursion (HeldHas setup n) hs → AllByRecursion (HeldHas setup m) hs
  held_more setup n m [] long h = tt
  held_more setup n m (g ∷ hs) long h = (keeps.more setup n m g.conn long h.0, held_more setup n m hs long h.1)

  workers_more : (n m : ℕ) (ws : List Worker) → n ≤ m → AllByRecursion (Have n) ws → AllByRecursion (Have m) ws
  workers_more n m [] long h = tt
  workers_more n m (w ∷ ws) long h = (held_more w.setup n m w.conns long h.0, workers_more n m ws long h.1)

  -- ---- a connection

  abbrev Became : Setup → ℕ → Option Held → Type 0
  Became setup n None = Unit {0}
  Became setup n (Some h) = HeldHas setup n h

  abbrev HeldDoes : Setup → ℕ → HeldDone → Type 0
  HeldDoes setup n None = Unit {0}
  HeldDoes setup n (Some d) = Became setup n d.1

  record StepSo (setup : Setup) (sh : Shared) (new : Option Held) (after : Shared) : Type 0 where
    held : Became setup (length after.book) new
    grows : Grows sh after

  over_does : (setup : Setup) (n m : ℕ) (h : Held) (want : Want) (answer : Answer) → n ≤ m → K setup n h.conn → IsGivenAt n m answer → HeldDoes setup m (over_or h want answer)
  over_does setup n m h (Over reason) answer long k g = tt
  over_does setup n m h want answer long k g = by_done (done h.conn answer) refl where
    by_done : (o : Done) → done h.conn answer ≡ o → HeldDoes setup m (option_map (with_conn (record h { ports = ports_after want answer h.ports })) o)
    by_done None is = tt
    by_done (Some d) is = keeps.answers setup n m h.conn d.1 answer d.0 k long g is

  step_acted : (setup : Setup) (old : Held) (sh : Shared) (answer : Answer) (note : Note) (new : Option Held) (after : Shared) → K setup (length sh.book) old.conn → ActNext old sh answer note new after → StepSo setup sh new after
  step_acted setup old sh answer note new after h x =
      let so = answer_grows old.conn.actor sh (want_of old.conn) answer after x.answers in
      let long = grows_long sh after so.grows in
      record {
        held = subst (HeldDoes setup (length after.book)) x.is (over_does setup (length sh.book) (length after.book) old (want_of old.conn) answer long h so.gives);
        grows = so.grows;
      }

  step_own : (setup : Setup) (sh : Shared) (new : Option Held) → Became setup (length sh.book) new → StepSo setup sh new sh
  step_own setup sh new h = record { held = h; grows = grows_same sh }

  handles : (setup : Setup) (old : Held) (sh : Shared) → K setup (length sh.book) old.conn → HandlesHeld setup old sh (λ note new after. StepSo setup sh new after)
  handles setup old sh h =
      let n = length sh.book in
      record {
        acts = λ answer note new after x. step_acted setup old sh answer note new after h x;
        link_fails = λ link answer note new after x. step_acted setup (record old { conn = failed old.conn; link = link }) sh answer note new after (keeps.gives_up setup n end.Link old.conn h) x;
        port_fails = λ p t answer note new after is can x. step_acted setup (record old { conn = port_failed old.conn t }) sh answer note new after (keeps.port_fails setup n old.conn p.tunnel t h is can) x;
        frames = λ d is. step_own setup sh (Some (record old { conn = d.1 })) (keeps.frames setup n old.conn d.1 d.0 h is);
        writes = step_own setup sh _ (keeps.writes setup n old.conn (write_count old) h);
        reads = λ first conn link took. step_own setup sh (Some (record old { conn = conn; link = link })) (keeps.reads setup n old.conn conn _ h took);
        ends = λ inside x can. step_own setup sh _ (keeps.finishes setup n old.conn inside h can);
        receives = λ p datagram others d has is came. step_own setup sh _ (received_has setup n old.conn p datagram d h came);
      }
    where
      received_by : (setup : Setup) (n : ℕ) (c : Conn) (p : Port) (datagram : List ℕ) (o : Option Tunnel) (d : Note × Conn) → K setup n c
          → option_map (λ (t : Tunnel). settled_note (queued c t (source.Port p.tunnel) p.received datagram)) o ≡ Some d → K setup n d.1
      received_by setup n c p datagram None d k e = absurd cc
      received_by setup n c p datagram (Some t) d k e =
          let Q : Option (Note × Conn) → Type 0 = λ o. elim o [ None ↦ Unit {0} | Some d ↦ K setup n d.1 ] in
          subst Q e (keeps.queues setup n c t (source.Port p.tunnel) p.received datagram k)

      received_has : (setup : Setup) (n : ℕ) (c : Conn) (p : Port) (datagram : List ℕ) (d : Note × Conn) → K setup n c → received c p datagram ≡ Some d → K setup n d.1
      received_has setup n c p datagram d k e = received_by setup n c p datagram (tunnel_of c p.tunnel) d k e

  -- ---- a worker

  abbrev Found : Setup → ℕ → Option (Held × Tunnel) → Type 0
  Found setup n None = Unit {0}
  Found setup n (Some found) = HeldHas setup n found.0

  found_for_ip : (setup : Setup) (n : ℕ) (h : Held) (t : Tunnel) (k : Kind) → HeldHas setup n h → (o : Option (Held × Tunnel)) → ((k ≡ kind.Udp) → o ≡ None) → ((k ≡ kind.Ip) → o ≡ Some (h, t)) → Found setup n o
  found_for_ip setup n h t kind.Udp p o none some = subst (Found setup n) (sym (none refl)) tt
  found_for_ip setup n h t kind.Ip p o none some = subst (Found setup n) (sym (some refl)) p

  found_in : (setup : Setup) (n : ℕ) (w : Worker) (to : Place) → AllByRecursion (HeldHas setup n) w.conns → Found setup n (tunnel_in w to)
  found_in setup n w place.Net h = tt
  found_in setup n w (place.Tunnel tunnel actor) h =
      elim (cases_of (find (has_tunnel tunnel) w.conns)) [
        | inl none ↦ rw none tt
        | inr (held, some) ↦ (
            let p = each_found (HeldHas setup n) (has_tunnel tunnel) w.conns held h some in
            elim (cases_of (tunnel_of held.conn tunnel)) [
              | inl none ↦ rw (some, none) tt
              | inr (t, is) ↦ found_for_ip setup n held t (kind_of t.goal) p (tunnel_in w (place.Tunnel tunnel actor)) (λ e. rw (some, is, e) refl) (λ e. rw (some, is, e) refl)
            ])
      ]

  passed_has : (setup : Setup) (n : ℕ) (c : Conn) (t : Tunnel) (from : From) (number : ℕ) (o : Option (List ℕ)) → K setup n c → K setup n (passed_on c t from number o).1
  passed_has setup n c t from number None k = k
  passed_has setup n c t from number (Some packet) k = keeps.queues setup n c t from number packet k

  popped_has : (n : ℕ) (w : Worker) (parcel : Parcel) → Have n w → Have n (popped w parcel).1
  popped_has n w parcel h =
      elim (cases_of (tunnel_in w parcel.to)) [
        | inl none ↦ rw none h
        | inr (found, some) ↦ (
            let p : Found w.setup n (Some found) = subst (Found w.setup n) some (found_in w.setup n w parcel.to h) in
            let came = passed_has w.setup n found.0.conn found.1 (source_of parcel.from) parcel.n (onward parcel.packet) p in
            rw some (replaced_have (λ setup c. K setup n c) w.setup found.0.conn.number (Some (came_to found.0 found.1 parcel).1) w.conns came h))
      ]

  abbrev Accepts : ℕ → Option (Note × Worker) → Type 0
  Accepts n None = Unit {0}
  Accepts n (Some d) = Have n d.1

  accepted_has : (n : ℕ) (w : Worker) (offered : List Offer) → Have n w → Accepts n (accepted w offered)
  accepted_has n w [] h = tt
  accepted_has n w (o ∷ offered) h =
      each_append (HeldHas w.setup n) w.conns (record { conn = new_conn o.number w.id; link = o.link; ports = [] } ∷ []) h (keeps.begins w.setup n o.number w.id, tt)

  record TurnSo (sh : Shared) (new : Worker) (after : Shared) : Type 0 where
    worker : Have (length after.book) new
    grows : Grows sh after

  turn_held : (old : Worker) (sh : Shared) (k : ℕ) (new : Option Held) (after : Shared) (next : Worker) → Have (length sh.book) old → StepSo old.setup sh new after
      → next.setup ≡ old.setup → next.conns ≡ replace k new old.conns → TurnSo sh next after
  turn_held old sh k new after next h step setup conns =
      let n = length after.book in
      let all = replaced_have (λ setup c. K setup n c) old.setup k new old.conns step.held (held_more old.setup (length sh.book) n old.conns (grows_long sh after step.grows) h) in
      record {
        worker = subst (λ (s : Setup). AllByRecursion (HeldHas s n) next.conns) (sym setup) (subst (λ (hs : List Held). AllByRecursion (HeldHas old.setup n) hs) (sym conns) all);
        grows = step.grows;
      }

  turn_seat : (old : Worker) (sh : Shared) (seat : Seat) (answer : Answer) (note : Note) (new : Worker) (after : Shared) → Have (length sh.book) old
      → SeatNext old sh seat answer note new after → TurnSo sh new after
  turn_seat old sh Offers answer note new after h x =
      subst (λ (s : Shared). TurnSo sh new s) (sym x.2) (record { worker = subst (Accepts (length sh.book)) x.1 (accepted_has (length sh.book) old old.offered h); grows = grows_same sh })
  turn_seat old sh Inbox answer note new after h x =
      let P : Note × Worker → Type 0 = λ d. Have (length sh.book) d.1 in
      let worker = subst P x.1.is (popped_has (length sh.book) old x.1.parcel h) in
      subst (λ (s : Shared). TurnSo sh new s) (sym x.1.after_is) (record { worker = worker; grows = record { config = refl; more = []; book = sym (append-nil sh.book) } })
  turn_seat old sh (Of k) answer note new after h x =
      let held = each_found (HeldHas old.setup (length sh.book)) (λ (g : Held). g.conn.number == k) old.conns x.held h x.has in
      let step = try_walk old.setup x.held sh (λ note new after. StepSo old.setup sh new after) (handles old.setup x.held sh held) x.try answer note x.became after x.tries x.next in
      turn_held old sh k x.became after new h step (ap (λ (w : Worker). w.setup) x.new_is) (ap (λ (w : Worker). w.conns) x.new_is)

  heard_so : (setup : Setup) (asked : Bool) (old : Held) (sh : Shared) (try : _) (answer : Answer) (tunnels : List Tunnel) (after : Shared) → K setup (length sh.book) old.conn
      → Heard asked old sh try answer tunnels after → K setup (length after.book) (record (starved old.conn) { tunnels = tunnels }) × Grows sh after
  heard_so setup false old sh try answer tunnels after h x =
      let P : Shared → Type 0 = λ s. K setup (length s.book) (record (starved old.conn) { tunnels = tunnels }) × Grows sh s in
      let Q : List Tunnel → Type 0 = λ ts. K setup (length sh.book) (record (starved old.conn) { tunnels = ts }) in
      subst P (sym x.2) (subst Q (sym x.1) (keeps.gives_up setup (length sh.book) end.NoMemory old.conn h), grows_same sh)
  heard_so setup true old sh try answer tunnels after h x =
      let so = answer_grows old.conn.actor sh (want_of old.conn) answer after x.answers in
      let n = length after.book in
      let Q : List Tunnel → Type 0 = λ ts. K setup n (record (starved old.conn) { tunnels = ts }) in
      (subst Q (sym x.tunnels_are) (keeps.hears setup (length sh.book) n old.conn answer h (grows_long sh after so.grows) so.gives), so.grows)

  turn_starves : (old : Worker) (sh : Shared) (seat : Seat) (reached : Reached) (answer : Answer) (new : Worker) (after : Shared) → Have (length sh.book) old
      → SeatStarves old sh seat reached answer new after → TurnSo sh new after
  turn_starves old sh Offers reached answer new after h x =
      subst (λ (s : Shared). TurnSo sh new s) (sym x.3) (record { worker = subst (Have (length sh.book)) (sym x.2) h; grows = grows_same sh })
  turn_starves old sh Inbox reached answer new after h x = absurd x
  turn_starves old sh (Of k) reached answer new after h x =
      let held = each_found (HeldHas old.setup (length sh.book)) (λ (g : Held). g.conn.number == k) old.conns x.held h x.has in
      let heard = heard_so old.setup reached.asked x.held sh x.try answer x.tunnels after held x.heard in
      let starved_so : Held = record x.held { link = record x.held.link { pieces = x.pieces }; conn = record (starved x.held.conn) { tunnels = x.tunnels } } in
      turn_held old sh k (Some starved_so) after new h (record { held = heard.0; grows = heard.1 }) (ap (λ (w : Worker). w.setup) x.new_is) (ap (λ (w : Worker). w.conns) x.new_is)

  -- ---- the pump

  abbrev SameBook : Shared → Note × Pump × Shared → Type 0
  SameBook sh d = (d.2.book ≡ sh.book) × (d.2.config ≡ sh.config)

  abbrev KeepsBook : Shared → Option (Note × Pump × Shared) → Type 0
  KeepsBook sh None = Unit {0}
  KeepsBook sh (Some d) = SameBook sh d

  same_pushed : (p : Pump) (sh : Shared) (parcel : Parcel) (b : Bool) → SameBook sh (parcel_pushed p sh parcel b)
  same_pushed p sh parcel true = (refl, refl)
  same_pushed p sh parcel false = (refl, refl)

  same_sent : (p : Pump) (sh : Shared) (parcel : Parcel) → SameBook sh (net_sent p sh parcel)
  same_sent p sh parcel = if_both (SameBook sh) p.net.holds.send_fails _ _ (refl, refl) (if_both (SameBook sh) p.net.holds.send_waits _ _ (refl, refl) (refl, refl))

  same_judged : (p : Pump) (sh : Shared) (n : ℕ) (packet : List ℕ) (v : Verdict) → SameBook sh (net_judged p sh n packet v)
  same_judged p sh n packet (verdict.Pass to) = (refl, refl)
  same_judged p sh n packet verdict.Source = (refl, refl)
  same_judged p sh n packet verdict.NoRoute = (refl, refl)

  same_option : (sh : Shared) (f : Parcel → Note × Pump × Shared) (o : Option Parcel) → ((parcel : Parcel) → SameBook sh (f parcel)) → KeepsBook sh (option_map f o)
  same_option sh f None h = tt
  same_option sh f (Some parcel) h = h parcel

  same_popped : (p : Pump) (sh : Shared) (i : ℕ) (box : List Parcel) → KeepsBook sh (net_popped p sh i box)
  same_popped p sh i [] = tt
  same_popped p sh i (parcel ∷ rest) = same_sent p (record sh { boxes = slice_set sh.boxes i rest }) parcel

  same_match : (b : Bool) (sh : Shared) (X Y : Type 0) (d : Note × Pump × Shared) → (X → SameBook sh d) → (Y → SameBook sh d) → MatchBool b X Y → SameBook sh d
  same_match true sh X Y d h k x = h x
  same_match false sh X Y d h k x = k x

  same_met : (p : Pump) (sh : Shared) (n : ℕ) (packet : List ℕ) (o : Option Flow) (d : Note × Pump × Shared) → IsMet p sh n packet o d → SameBook sh d
  same_met p sh n packet None d x = subst (SameBook sh) (sym x) (refl, refl)
  same_met p sh n packet (Some flow) d x =
      same_match (nat_lt p.mtu (length packet)) sh _ _ d (λ e. subst (SameBook sh) (sym e) (refl, refl)) (λ y. subst (SameBook sh) (sym y.2) (same_judged p sh n packet y.0)) x

  same_received : (p : Pump) (sh : Shared) (arrived : List Arrival) (d : Note × Pump × Shared) → IsReceived p sh arrived d → SameBook sh d
  same_received p sh [] d x = absurd x
  same_received p sh (first ∷ others) d x =
      same_met (record p { net = with_arrivals others p.net }) sh p.net.received first.packet (flow_of first.packet) d x

  same_pump : (p : Pump) (sh : Shared) (try : PumpTry) (d : Note × Pump × Shared) → PumpNext p sh try d → SameBook sh d
  same_pump p sh PushHeld d x =
      let f : Parcel → Note × Pump × Shared = λ parcel. parcel_pushed p sh parcel (has_room sh.boxes (inbox_of sh.boxes parcel.to)) in
      subst (KeepsBook sh) x (same_option sh f p.to_push (λ parcel. same_pushed p sh parcel (has_room sh.boxes (inbox_of sh.boxes parcel.to))))
  same_pump p sh SendHeld d x = subst (KeepsBook sh) x (same_option sh (net_sent p sh) p.to_send (λ parcel. same_sent p sh parcel))
  same_pump p sh SendNext d x = subst (KeepsBook sh) x (same_popped p sh (last_of sh.boxes) (box_at sh.boxes (last_of sh.boxes)))
  same_pump p sh Receives d x = same_received p sh p.net.holds.arrived d x

  -- ---- all actors

  -- a state that goes on
  pub record On (old new : State) : Type 0 where
    pub have : AllHave new
    pub grows : Grows old.shared new.shared

  on_by : (old : State) (number : ℕ) (next : Worker) (shared after : Shared) (new : State) → AllHave old → TurnSo old.shared next shared → after ≡ record shared { orders = after.orders }
      → new ≡ record old { workers = slice_set old.workers number next; shared = after } → On old new
  on_by old number next shared after new h so same is =
      let n = length shared.book in
      let now : Shared = record shared { orders = after.orders } in
      let workers = each_set (Have n) old.workers number next (workers_more (length old.shared.book) n old.workers (grows_long old.shared shared so.grows) h) so.worker in
      let P : Shared → Type 0 = λ s. On old (record old { workers = slice_set old.workers number next; shared = s }) in
      let grows : Grows old.shared now = record { config = so.grows.config; more = so.grows.more; book = so.grows.book } in
      subst (λ (s : State). On old s) (sym is) (subst P (sym same) (record { have = workers; grows = grows }))

  pub on_turn : (old new : State) (actor : Actor) (note : Note) → AllHave old → Turn old actor note new → On old new
  on_turn old new (WorkerOf number) note h x =
      let w = each_at (Have (length old.shared.book)) old.workers number x.worker h x.at in
      let so = turn_seat x.worker old.shared x.turn.seat x.answer note x.next x.shared w x.turn.next in
      on_by old number x.next x.shared x.after new h so x.after_is x.new_is
  on_turn old new ThePump note h x =
      let same = same_pump old.pump old.shared x.turn.try (note, x.pump, x.shared) x.turn.is in
      let now = subst (λ book. AllByRecursion (Have (length book)) old.workers) (sym same.0) h in
      subst (λ (s : State). On old s) (sym x.new_is) (record { have = now; grows = record { config = same.1; more = []; book = same.0 ∙ sym (append-nil old.shared.book) } })

  pub on_silent : (old new : State) (actor : Actor) (reached : Reached) → AllHave old → SilentTurn old actor reached new → On old new
  on_silent old new (WorkerOf number) reached h x =
      let w = each_at (Have (length old.shared.book)) old.workers number x.worker h x.at in
      let so = turn_starves x.worker old.shared x.starves.seat reached x.answer x.next x.shared w x.starves.starves in
      on_by old number x.next x.shared x.after new h so x.after_is x.new_is
  on_silent old new ThePump reached h x = subst (λ (s : State). On old s) (sym x.2) (record { have = h; grows = grows_same old.shared })

  -- ---- what happens

  pub on_happen : (s : State) (e : Event) → AllHave s → On s (happen s e)
  on_happen s (event.Conn actor) h = record { have = happen_have (λ setup c. K setup (length s.shared.book) c) s (event.Conn actor) h; grows = grows_same s.shared }
  on_happen s (event.Piece conn bytes) h = record { have = happen_have (λ setup c. K setup (length s.shared.book) c) s (event.Piece conn bytes) h; grows = grows_same s.shared }
  on_happen s (event.End conn) h = record { have = happen_have (λ setup c. K setup (length s.shared.book) c) s (event.End conn) h; grows = grows_same s.shared }
  on_happen s (event.Room conn room) h = record { have = happen_have (λ setup c. K setup (length s.shared.book) c) s (event.Room conn room) h; grows = grows_same s.shared }
  on_happen s (event.FailRead conn) h = record { have = happen_have (λ setup c. K setup (length s.shared.book) c) s (event.FailRead conn) h; grows = grows_same s.shared }
  on_happen s (event.FailWrite conn) h = record { have = happen_have (λ setup c. K setup (length s.shared.book) c) s (event.FailWrite conn) h; grows = grows_same s.shared }
  on_happen s (event.Datagram tunnel bytes) h = record { have = happen_have (λ setup c. K setup (length s.shared.book) c) s (event.Datagram tunnel bytes) h; grows = grows_same s.shared }
  on_happen s (event.FailPort tunnel) h = record { have = happen_have (λ setup c. K setup (length s.shared.book) c) s (event.FailPort tunnel) h; grows = grows_same s.shared }
  on_happen s event.FailBind h = record { have = happen_have (λ setup c. K setup (length s.shared.book) c) s event.FailBind h; grows = record { config = refl; more = []; book = sym (append-nil s.shared.book) } }
  on_happen s event.FailNet h = record { have = happen_have (λ setup c. K setup (length s.shared.book) c) s event.FailNet h; grows = grows_same s.shared }
  on_happen s (event.Packet count bytes) h = record { have = happen_have (λ setup c. K setup (length s.shared.book) c) s (event.Packet count bytes) h; grows = grows_same s.shared }
  on_happen s (event.Step actor) h = record { have = happen_have (λ setup c. K setup (length s.shared.book) c) s (event.Step actor) h; grows = grows_same s.shared }

  -- ---- runs

  pub on_goes : (old new : State) (m : Moment) → AllHave old → Goes old m new → On old new
  on_goes old new (Happened e) h x = subst (λ (s : State). On old s) (sym x.1) (on_happen old e h)
  on_goes old new (Noted actor note) h x = on_turn old new actor note h x
  on_goes old new (Refused actor reached) h x = on_silent old new actor reached h x

  pub on_run : (ms : List Moment) (old new : State) → AllHave old → Run old ms new → On old new
  on_run [] old new h x = subst (λ (s : State). On old s) (sym x) (record { have = h; grows = grows_same old.shared })
  on_run (m ∷ ms) old new h x =
      let here = on_goes old x.0 m h x.1 in
      let later = on_run ms x.0 new here.have x.2 in
      record { have = later.have; grows = grows_on old.shared x.0.shared new.shared here.grows later.grows }

  none_yet : (setup : Setup) (n : ℕ) → AllByRecursion (Have 0) (new_workers setup n)
  none_yet setup zero = tt
  none_yet setup (suc n) = each_append (Have 0) (new_workers setup n) (new_worker n setup ∷ []) (none_yet setup n) (tt, tt)

  pub first_has : (plan : Plan) → AllHave (state_of plan)
  first_has plan = none_yet plan.setup plan.workers
