-- What a live tunnel has of what came to wait there, along a run.
use Rattle.std.proofs.Common.{◌≡◌, ◌≤◌, ◌<◌, ℕ, zero, suc, Bool, true, false, cond, List, [], ◌∷◌, ◌++◌, map, length, nat_le, slice_get, slice_set, Some, refl, sym, subst, ap, ◌∙◌, arith, inl, inr, append-nil, append_assoc}
use Rattle.std.specs.Prelude.{◌==◌}
use Rattle.std.specs.List.{AllByRecursion, flat_map}
use Rattle.std.proofs.lemmas.Bool.{leb-true, le-leb, eqb-true, eq-eqb}
use Rattle.std.proofs.lemmas.List.Concat.{flat_map-append}
use Rattle.mq_capsule.specs.Laws.{IsReadable, IsReadOnce, IsWithinLimits}
use Rattle.mq_talk.specs.declared.book.Call.TheVariants as call
use Rattle.mq_talk.specs.declared.book.Reply.TheVariants as reply
use Rattle.mq_talk.specs.declared.note.From.{From}
use Rattle.mq_talk.specs.declared.note.From.TheVariants as source
use Rattle.mq_talk.specs.declared.note.Note.{Note}
use Rattle.mq_talk.specs.declared.note.Note.TheVariants as note
use Rattle.mq_talk.specs.declared.note.Why.{Why}
use Rattle.mq_machine.specs.declared.event.Event.{Event}
use Rattle.mq_machine.specs.declared.event.Event.TheVariants as event
use Rattle.mq_machine.specs.declared.setup.Setup.{Setup}
use Rattle.mq_machine.specs.Lawful.{Alone, StaysLawful}
use Rattle.mq_machine.specs.Silent.{Reached, Heard, SeatStarves, SilentTurn, tunnels_after}
use Rattle.mq_machine.specs.State.{Tunnel, Link, Port, Held, Worker, new_worker, Shared, State, tunnel_of, held_of}
use Rattle.mq_machine.specs.Steps.{starved}
use Rattle.mq_machine.specs.Turn.{Actor, WorkerOf, ThePump, Turn, Try, Seat, Offers, Inbox, Of}
use Rattle.mq_machine.specs.Want.{Want, Ask, Answer, Replied, want_of}
use Rattle.mq_play.specs.declared.plan.Plan.{Plan}
use Rattle.mq_play.specs.Events.{new_workers, state_of, at_held, at_worker, with_ports, with_held_ports, offered_to, happen}
use Rattle.mq_play.proofs.Lists.{if_both, each_at}
use Rattle.mq_runs.specs.Runs.{Moment, Happened, Noted, Refused, Goes, Run, notes_of}
use Rattle.mq_runs.specs.Queues.{waiting_names, queued_in, delivered_in}
use Rattle.mq_runs.proofs.Behind.{AllAlone, alone_at}
use Rattle.mq_runs.proofs.Bridge.{run_append, notes_append}
use Rattle.mq_runs.proofs.Closings.{pump_closes, seat_closes, packets_long}
use Rattle.mq_runs.proofs.Flight.{Key}
use Rattle.mq_runs.proofs.Lasting.{has, in_it, none_in, in_all, Does, DoesAll, calm_does, replaced_does, none_held, has_held, in_held, live_held, in_helds, seat_does}
use Rattle.mq_runs.proofs.Measures.{sum_if}
use Rattle.mq_runs.proofs.Onlys.{among_flat, change_flat, none_flat, set_changed}
use Rattle.mq_runs.proofs.Order.{Good, first_good, good_goes, good_run, long_by, quiet_sum}
use Rattle.mq_runs.proofs.Queueing.{IsOther, other_pump}
use Rattle.mq_runs.proofs.Ranks.{Among, at_among, found_among, among_less, zero_or}
use Rattle.mq_runs.proofs.Shifting.{all_among}
use Rattle.mq_runs.proofs.Sums.{total, total_append}
use Rattle.mq_runs.proofs.Tokens.{id_measure, takes_id}
use Rattle.mq_runs.proofs.Took.{from_on}
use Rattle.mq_runs.proofs.Walks.{found_passes}
use Rattle.mq_runs.proofs.Whole.{NumbersFit, fit_few}

-- ---- numbers that the book didn't give yet

from_yes : (m n : ℕ) → m ≤ n → from_on m n ≡ 1
from_yes m n h = let is = le-leb m n h in rw is refl

from_at : (m n : ℕ) → 1 ≤ from_on m n → m ≤ n
from_at m n h = by_test (nat_le m n) refl where
  by_test : (b : Bool) → nat_le m n ≡ b → m ≤ n
  by_test true is = leb-true m n is
  by_test false is = let none : from_on m n ≡ 0 = rw is refl in absurd (omega (arith, h, none))

-- ---- what is the same in each is the same in all

mapped_flat : {A N : Type 0} (f : A → List N) (g : A → A) (xs : List A) → ((x : A) → f (g x) ≡ f x) → flat_map f (map g xs) ≡ flat_map f xs
mapped_flat f g [] same = refl
mapped_flat f g (x ∷ xs) same = ap (λ l. l ++ flat_map f (map g xs)) (same x) ∙ ap (λ l. f x ++ l) (mapped_flat f g xs same)

module _ (target : ℕ) where
  abbrev has_worker : Worker → ℕ
  has_worker w = live_held target w.conns

  abbrev in_worker : Worker → List (From × ℕ)
  in_worker w = in_helds target w.conns

  none_worker : (w : Worker) → has_worker w ≡ 0 → in_worker w ≡ []
  none_worker w e = none_flat (in_held target) (has_held target) (none_held target) w.conns e

  abbrev live_all : State → ℕ
  live_all s = total has_worker s.workers

  abbrev in_state : State → List (From × ℕ)
  in_state s = flat_map in_worker s.workers

  abbrev queued_by : List Moment → List (From × ℕ)
  queued_by ms = flat_map (queued_in target) (notes_of ms)

  abbrev delivered_by : List Moment → List (From × ℕ)
  delivered_by ms = flat_map (delivered_in target) (notes_of ms)

  -- what a step does to what waits in the tunnel that is meant is what its note says, as long as that is live
  record Steps (s : State) (m : Moment) (t : State) : Type 0 where
    only : live_all s ≡ 0 → (queued_by (m ∷ []) ≡ []) × (delivered_by (m ∷ []) ≡ [])
    goes : live_all s ≤ 1 → 1 ≤ live_all t → in_state s ++ queued_by (m ∷ []) ≡ delivered_by (m ∷ []) ++ in_state t

  quiet_steps : (s t : State) (m : Moment) → queued_by (m ∷ []) ≡ [] → delivered_by (m ∷ []) ≡ [] → in_state t ≡ in_state s → Steps s m t
  quiet_steps s t m none gone same = record {
    only = λ zero_s. (none, gone);
    goes = λ few some. ap (λ (l : List (From × ℕ)). in_state s ++ l) none ∙ (append-nil (in_state s) ∙ (sym same ∙ sym (ap (λ (l : List (From × ℕ)). l ++ in_state t) gone)));
  }

  -- ---- turns

  turned : (s t : State) (k : ℕ) (w next : Worker) (said : Note) (m : Moment) (workers : List Worker) → slice_get s.workers k ≡ Some w → queued_by (m ∷ []) ≡ queued_in target said → delivered_by (m ∷ []) ≡ delivered_in target said
      → t.workers ≡ slice_set s.workers k next → DoesAll target w.conns said next.conns → Steps s m t
  turned s t k w next said m workers at queued delivered is d =
      let among = at_among s.workers k w at in
      let least = among_less has_worker s.workers w among in
      let c = set_changed s.workers k w next at in
      record {
        only = λ none. let calm = d.only (omega (arith, least, none)) in (queued ∙ calm.0, delivered ∙ calm.1);
        goes = λ few some.
            let now = subst (λ (ws : List Worker). 1 ≤ total has_worker ws) is some in
            let step = change_flat in_worker has_worker none_worker w next s.workers (slice_set s.workers k next) (queued_in target said) (delivered_in target said) c few d.only (λ one. d.goes (omega (arith, least, few)) one) now in
            ap (λ (l : List (From × ℕ)). in_state s ++ l) queued ∙ (step ∙ (ap (λ (ws : List Worker). delivered_in target said ++ flat_map in_worker ws) (sym is) ∙ ap (λ (l : List (From × ℕ)). l ++ in_state t) (sym delivered)));
      }

  other_none : (said : Note) → IsOther said → (queued_in target said ≡ []) × (delivered_in target said ≡ [])
  other_none (note.Queued from n to) o = absurd o
  other_none (note.Delivered from n to packet) o = absurd o
  other_none said o = (refl, refl)

  turn_steps : (s t : State) (actor : Actor) (said : Note) → AllAlone s → AllByRecursion (NumbersFit (length s.links)) s.workers → Turn s actor said t → Steps s (Noted actor said) t
  turn_steps s t (WorkerOf k) said alone fit x =
      let w = x.worker in
      let alone_w = each_at (λ (w : Worker). AllByRecursion (λ (g : Held). Alone g.conn.tunnels) w.conns) s.workers k w alone x.at in
      let fit_w = each_at (NumbersFit (length s.links)) s.workers k w fit x.at in
      let did = seat_does target w s.shared x.turn.seat x.answer said x.next x.shared (fit_few (length s.links) w fit_w) (λ g among. all_among (λ (g : Held). Alone g.conn.tunnels) w.conns g alone_w among) x.turn.next in
      turned s t k w x.next said (Noted (WorkerOf k) said) s.workers x.at (append-nil (queued_in target said)) (append-nil (delivered_in target said)) (ap (λ (s : State). s.workers) x.new_is) did
  turn_steps s t ThePump said alone fit x =
      let none = other_none said (other_pump s.pump s.shared x.turn.try (said, x.pump, x.shared) x.turn.is) in
      quiet_steps s t (Noted ThePump said) (append-nil (queued_in target said) ∙ none.0) (append-nil (delivered_in target said) ∙ none.1) (ap (λ (s : State). in_state s) x.new_is)

  -- ---- where it was refused memory

  -- says nothing of a tunnel
  abbrev nothing : Note
  nothing = note.Finished 0

  after_same : (want : Want) (answer : Answer) (ts : List Tunnel) → in_all target ts ≡ in_all target (tunnels_after want answer ts)
  after_same (Ask (call.Open conn on actor goal)) (Replied (reply.Opened tunnel routes)) ts =
      let t : Tunnel = record { id = tunnel; stream = on; goal = goal; waiting = [] } in
      sym (flat_map-append (in_it target) ts (t ∷ []) ∙ (ap (λ (l : List (From × ℕ)). in_all target ts ++ (l ++ [])) (none_both (tunnel == target)) ∙ append-nil (in_all target ts)))
    where
      none_both : (b : Bool) → ◌≡◌ {A = List (From × ℕ)} (cond b [] []) []
      none_both true = refl
      none_both false = refl
  after_same want answer ts = refl

  heard_does : (asked : Bool) (old : Held) (sh : Shared) (try : Try) (answer : Answer) (tunnels : List Tunnel) (after : Shared) → Heard asked old sh try answer tunnels after → Does target old.conn.tunnels nothing tunnels
  heard_does false old sh try answer tunnels after x = calm_does target old.conn.tunnels tunnels nothing (record { queued = refl; delivered = refl }) (λ some. sym (ap (in_all target) x.1))
  heard_does true old sh try answer tunnels after x =
      calm_does target old.conn.tunnels tunnels nothing (record { queued = refl; delivered = refl }) (λ some. after_same (want_of old.conn) answer old.conn.tunnels ∙ sym (ap (in_all target) x.tunnels_are))

  starves_does : (w : Worker) (sh : Shared) (seat : Seat) (reached : Reached) (answer : Answer) (new : Worker) (after : Shared) → SeatStarves w sh seat reached answer new after → DoesAll target w.conns nothing new.conns
  starves_does w sh Offers reached answer new after x =
      subst (λ (v : Worker). DoesAll target w.conns nothing v.conns) (sym x.2) (record { only = λ none. (refl, refl); goes = λ few some. append-nil (in_helds target w.conns) })
  starves_does w sh Inbox reached answer new after x = absurd x
  starves_does w sh (Of n) reached answer new after x =
      let now : Held = record x.held { link = record x.held.link { pieces = x.pieces }; conn = record (starved x.held.conn) { tunnels = x.tunnels } } in
      subst (λ (gs : List Held). DoesAll target w.conns nothing gs) (sym (ap (λ (v : Worker). v.conns) x.new_is)) (replaced_does target n x.held (Some now) w.conns nothing x.has (heard_does reached.asked x.held sh x.try answer x.tunnels after x.heard))

  silent_steps : (s t : State) (actor : Actor) (reached : Reached) → SilentTurn s actor reached t → Steps s (Refused actor reached) t
  silent_steps s t (WorkerOf k) reached x =
      turned s t k x.worker x.next nothing (Refused (WorkerOf k) reached) s.workers x.at refl refl (ap (λ (s : State). s.workers) x.new_is) (starves_does x.worker s.shared x.starves.seat reached x.answer x.next x.shared x.starves.starves)
  silent_steps s t ThePump reached x = quiet_steps s t (Refused ThePump reached) refl refl (ap (λ (s : State). in_state s) x.2)

  -- ---- what happens

  link_same : (n : ℕ) (change : Link → Link) (ws : List Worker) → flat_map in_worker (map (at_worker n change) ws) ≡ flat_map in_worker ws
  link_same n change ws = mapped_flat in_worker (at_worker n change) ws (λ w. mapped_flat (in_held target) (at_held n change) w.conns (λ h.
      if_both (λ (g : Held). in_held target g ≡ in_held target h) (h.conn.number == n) (record h { link = change h.link }) h refl refl))

  port_same : (n : ℕ) (change : Port → Port) (ws : List Worker) → flat_map in_worker (map (with_held_ports n change) ws) ≡ flat_map in_worker ws
  port_same n change ws = mapped_flat in_worker (with_held_ports n change) ws (λ w. mapped_flat (in_held target) (with_ports n change) w.conns (λ h. refl))

  offered_same : (actor number : ℕ) (ws : List Worker) → flat_map in_worker (offered_to actor number ws) ≡ flat_map in_worker ws
  offered_same actor number [] = refl
  offered_same zero number (w ∷ ws) = refl
  offered_same (suc actor) number (w ∷ ws) = ap (λ (l : List (From × ℕ)). in_worker w ++ l) (offered_same actor number ws)

  happen_same : (s : State) (e : Event) → in_state (happen s e) ≡ in_state s
  happen_same s (event.Conn actor) = offered_same actor (length s.links) s.workers
  happen_same s (event.Piece conn bytes) = link_same conn _ s.workers
  happen_same s (event.End conn) = link_same conn _ s.workers
  happen_same s (event.Room conn room) = link_same conn _ s.workers
  happen_same s (event.FailRead conn) = link_same conn _ s.workers
  happen_same s (event.FailWrite conn) = link_same conn _ s.workers
  happen_same s (event.Datagram tunnel bytes) = port_same tunnel _ s.workers
  happen_same s (event.FailPort tunnel) = port_same tunnel _ s.workers
  happen_same s event.FailBind = refl
  happen_same s event.FailNet = refl
  happen_same s (event.Packet count bytes) = refl
  happen_same s (event.Step actor) = refl

  goes_steps : (s t : State) (m : Moment) → AllAlone s → AllByRecursion (NumbersFit (length s.links)) s.workers → Goes s m t → Steps s m t
  goes_steps s t (Happened e) alone fit x = quiet_steps s t (Happened e) refl refl (ap (λ (s : State). in_state s) x.1 ∙ happen_same s e)
  goes_steps s t (Noted actor said) alone fit x = turn_steps s t actor said alone fit x
  goes_steps s t (Refused actor reached) alone fit x = silent_steps s t actor reached x

  -- ---- runs

  more_by : (f : Note → List (From × ℕ)) (ms : List Moment) (m : Moment) → flat_map f (notes_of (ms ++ m ∷ [])) ≡ flat_map f (notes_of ms) ++ flat_map f (notes_of (m ∷ []))
  more_by f ms m = ap (flat_map f) (notes_append ms (m ∷ [])) ∙ flat_map-append f (notes_of ms) (notes_of (m ∷ []))

  none_more : (f : Note → List (From × ℕ)) (ms : List Moment) (m : Moment) → flat_map f (notes_of ms) ≡ [] → flat_map f (notes_of (m ∷ [])) ≡ [] → flat_map f (notes_of (ms ++ m ∷ [])) ≡ []
  none_more f ms m none here = more_by f ms m ∙ (ap (λ (l : List (From × ℕ)). l ++ flat_map f (notes_of (m ∷ []))) none ∙ here)

  stays_so : (came gone there more less new : List (From × ℕ)) → came ≡ gone ++ there → there ++ more ≡ less ++ new → came ++ more ≡ (gone ++ less) ++ new
  stays_so came gone there more less new is step =
      ap (λ (l : List (From × ℕ)). l ++ more) is ∙ (append_assoc gone there more ∙ (ap (λ (l : List (From × ℕ)). gone ++ l) step ∙ sym (append_assoc gone less new)))

  -- before its number is given nothing was said of the tunnel; and where it is live, what came is what went and what waits
  record Lasts (ms : List Moment) (s : State) : Type 0 where
    early : length s.shared.book ≤ target → (queued_by ms ≡ []) × (delivered_by ms ≡ [])
    late : 1 ≤ live_all s → queued_by ms ≡ delivered_by ms ++ in_state s

  none_at_first : (setup : Setup) (n : ℕ) → total has_worker (new_workers setup n) ≡ 0
  none_at_first setup zero = refl
  none_at_first setup (suc n) =
      let rest = none_at_first setup n in
      let both = total_append has_worker (new_workers setup n) (new_worker n setup ∷ []) in
      omega (arith, rest, both)

  first_lasts : (plan : Plan) → Lasts [] (state_of plan)
  first_lasts plan = record { early = λ long. (refl, refl); late = λ some. let none = none_at_first plan.setup plan.workers in absurd (omega (arith, none, some)) }

  module _ (limits : IsWithinLimits) (stays : StaysLawful) (readable : IsReadable) (once : IsReadOnce) (plan : Plan) where
    -- what is counted there doesn't matter
    abbrev key : Key
    key = record { from = source.Tunnel 0; number = 1; readable = readable; once = once; to_the_end = true }

    one_is : 0 < 1
    one_is = omega arith

    abbrev GoodAt : State → Type 0
    GoodAt s = Good stays key refl tt 0 one_is target 0 s

    lasts_on : (ms : List Moment) (s t : State) (m : Moment) → GoodAt s → AllAlone s → Lasts ms s → Goes s m t → Lasts (ms ++ m ∷ []) t
    lasts_on ms s t m g alone h x =
        let step = goes_steps s t m alone g.ready.fit x in
        let few = g.ids in
        let less = quiet_sum stays key refl tt 0 one_is target 0 s t g (id_measure target) (λ id. true) m x (takes_id target) (λ said. refl) in
        let same_s : total (sum_if (id_measure target) (λ id. true)) s.workers ≡ live_all s = refl in
        let same_t : total (sum_if (id_measure target) (λ id. true)) t.workers ≡ live_all t = refl in
        let none_of = λ (long : length s.shared.book ≤ target). (let yes = from_yes (length s.shared.book) target long in let zero_s : live_all s ≡ 0 = omega (arith, few, same_s, yes) in zero_s) in
        record {
          early = λ long.
              let grows = long_by stays key refl tt 0 one_is target 0 s t g m x in
              let before : length s.shared.book ≤ target = omega (arith, grows, long) in
              let calm = step.only (none_of before) in
              let was = h.early before in
              (none_more (queued_in target) ms m was.0 calm.0, none_more (delivered_in target) ms m was.1 calm.1);
          late = λ some.
              let goes = step.goes (omega (arith, few, same_s)) some in
              let now : queued_by ms ≡ delivered_by ms ++ in_state s = elim (zero_or (live_all s)) [
                | inl zero_s ↦ (
                    let given = from_at (length s.shared.book) target (omega (arith, less, same_s, same_t, zero_s, some)) in
                    let was = h.early given in
                    let empty : in_state s ≡ [] = none_flat in_worker has_worker none_worker s.workers zero_s in
                    was.0 ∙ (sym empty ∙ sym (ap (λ (l : List (From × ℕ)). l ++ in_state s) was.1)))
                | inr one ↦ h.late one
              ] in
              more_by (queued_in target) ms m
              ∙ (stays_so (queued_by ms) (delivered_by ms) (in_state s) (queued_by (m ∷ [])) (delivered_by (m ∷ [])) (in_state t) now goes
              ∙ ap (λ (l : List (From × ℕ)). l ++ in_state t) (sym (more_by (delivered_in target) ms m)));
        }

    run_lasts : (before ms : List Moment) (s t : State) → Run (state_of plan) before s → GoodAt s → Lasts before s → Run s ms t → Lasts (before ++ ms) t
    run_lasts before [] s t run g h x = rw append-nil (subst (Lasts before) (sym x) h)
    run_lasts before (m ∷ ms) s t run g h x =
        let here = lasts_on before s x.0 m g (alone_at limits stays key plan before s run) h x.1 in
        let good = good_goes stays key refl tt 0 one_is target 0 s x.0 g m x.1 in
        let on = run_append before (m ∷ []) (state_of plan) s x.0 run (x.0, x.1, refl) in
        let later = run_lasts (before ++ m ∷ []) ms x.0 t on good here x.2 in
        subst (λ (l : List Moment). Lasts l t) (append_assoc before (m ∷ []) ms) later

    good_at : (ms : List Moment) (s : State) → Run (state_of plan) ms s → GoodAt s
    good_at ms s run = good_run stays key refl tt 0 one_is target 0 ms (state_of plan) s (first_good stays key refl tt 0 one_is target 0 plan) run

    lasts_at : (ms : List Moment) (s : State) → Run (state_of plan) ms s → Lasts ms s
    lasts_at ms s run = run_lasts [] ms (state_of plan) s refl (first_good stays key refl tt 0 one_is target 0 plan) (first_lasts plan) run

    -- what waits in the tunnel is what waits there at all
    waits_there : (ms : List Moment) (s : State) (number : ℕ) (w : Worker) (h : Held) (t : Tunnel) → Run (state_of plan) ms s → slice_get s.workers number ≡ Some w → Among h w.conns → Among t h.conn.tunnels → t.id ≡ target
        → queued_by ms ≡ delivered_by ms ++ waiting_names t.waiting
    waits_there ms s number w h t run at among there id =
        let g = good_at ms s run in
        let few = g.ids in
        let same_s : total (sum_if (id_measure target) (λ id. true)) s.workers ≡ live_all s = refl in
        let yes : (t.id == target) ≡ true = eq-eqb t.id target id in
        let one : has target t ≡ 1 = rw yes refl in
        let here : in_it target t ≡ waiting_names t.waiting = ap (λ b. cond b (waiting_names t.waiting) []) yes in
        let in_h = among_less (has target) h.conn.tunnels t there in
        let in_w = among_less (has_held target) w.conns h among in
        let in_s = among_less has_worker s.workers w (at_among s.workers number w at) in
        let workers = among_flat in_worker has_worker none_worker w s.workers (at_among s.workers number w at) (omega (arith, one, in_h, in_w)) (omega (arith, few, same_s)) in
        let helds = among_flat (in_held target) (has_held target) (none_held target) h w.conns among (omega (arith, one, in_h)) (omega (arith, in_s, few, same_s)) in
        let tunnels = among_flat (in_it target) (has target) (none_in target) t h.conn.tunnels there (omega (arith, one)) (omega (arith, in_w, in_s, few, same_s)) in
        let all = (lasts_at ms s run).late (omega (arith, one, in_h, in_w, in_s)) in
        all ∙ ap (λ (l : List (From × ℕ)). delivered_by ms ++ l) (workers ∙ (helds ∙ (tunnels ∙ here)))

    pub tunnel_lasts : (ms : List Moment) (s : State) (number : ℕ) (w : Worker) (conn : ℕ) (h : Held) (t : Tunnel) → Run (state_of plan) ms s → slice_get s.workers number ≡ Some w → held_of w conn ≡ Some h → tunnel_of h.conn target ≡ Some t
        → queued_by ms ≡ delivered_by ms ++ waiting_names t.waiting
    tunnel_lasts ms s number w conn h t run at has_it is =
        waits_there ms s number w h t run at (found_among (λ (g : Held). g.conn.number == conn) w.conns h has_it) (found_among (λ (u : Tunnel). u.id == target) h.conn.tunnels t is)
        (eqb-true t.id target (found_passes (λ (u : Tunnel). u.id == target) h.conn.tunnels t is))

    -- a tunnel that closes says how many wait there
    pub closing_lasts : (ms : List Moment) (s t : State) (actor : Actor) (reason : Why) (left : ℕ) → Run (state_of plan) ms s → Turn s actor (note.Closed target reason left) t
        → (rest : List (From × ℕ)) × (queued_by ms ≡ delivered_by ms ++ rest) × (left ≡ length rest)
    closing_lasts ms s t ThePump reason left run x = absurd (pump_closes s.pump s.shared x.turn.try (note.Closed target reason left, x.pump, x.shared) x.turn.is)
    closing_lasts ms s t (WorkerOf k) reason left run x =
        let c = seat_closes x.worker s.shared x.turn.seat x.answer (note.Closed target reason left) x.next x.shared x.turn.next in
        (waiting_names c.t.waiting, waits_there ms s k x.worker c.h c.t run x.at c.among c.there c.id_is, c.left_is ∙ packets_long c.t.waiting)
