-- A tunnel delivers the payloads of an origin by rising numbers.
use Rattle.std.proofs.Common.{◌≡◌, ◌≤◌, ◌<◌, ◌+◌, ◌⊎◌, ℕ, zero, suc, Bool, true, false, cond, not, ◌&&◌, List, [], ◌∷◌, ◌++◌, length, replicate, slice_get, nat_le, Some, refl, sym, subst, ap, ◌∙◌, arith, inl, inr}
use Rattle.std.specs.Prelude.{◌==◌}
use Rattle.std.specs.List.{AllByRecursion}
use Rattle.std.proofs.lemmas.Bool.{eqb-true, eq-eqb}
use Rattle.mq_capsule.specs.Laws.{IsReadable, IsReadOnce}
use Rattle.mq_talk.specs.declared.note.From.{From}
use Rattle.mq_talk.specs.declared.note.From.TheVariants as source
use Rattle.mq_talk.specs.declared.note.Note.{Note}
use Rattle.mq_talk.specs.declared.note.Note.TheVariants as note
use Rattle.mq_talk.specs.Mails.{box_at}
use Rattle.mq_machine.specs.declared.event.Event.{Event}
use Rattle.mq_machine.specs.declared.event.Event.TheVariants as event
use Rattle.mq_machine.specs.declared.setup.Setup.{Setup}
use Rattle.mq_machine.specs.Lawful.{StaysLawful}
use Rattle.mq_machine.specs.State.{Tunnel, Waiting, Packet, Held, Worker, new_worker, State}
use Rattle.mq_machine.specs.Turn.{Actor, WorkerOf, ThePump, Turn}
use Rattle.mq_machine.proofs.Lawful.Lists.{In, itself}
use Rattle.mq_play.specs.declared.plan.Plan.{Plan}
use Rattle.mq_play.specs.Events.{new_workers, state_of, happen}
use Rattle.mq_runs.specs.Ends.{is_same, IsCounted}
use Rattle.mq_runs.specs.Order.{delivered_of, IsRising}
use Rattle.mq_runs.specs.Runs.{Moment, Happened, Noted, Refused, Goes, Run, notes_of}
use Rattle.mq_runs.proofs.Books.{grows_long}
use Rattle.mq_runs.proofs.Bounds.{hit_parts}
use Rattle.mq_runs.proofs.Boxes.{HoldsNet}
use Rattle.mq_runs.proofs.Pushes.{pump_boxes}
use Rattle.mq_runs.proofs.Bridge.{run_append, notes_append}
use Rattle.mq_runs.proofs.Flight.{Key, past, in_what, waits_in, end_of}
use Rattle.mq_runs.proofs.Keeping.{Sound, keeps_sound}
use Rattle.mq_runs.proofs.Kept.{on_goes, first_has}
use Rattle.mq_runs.proofs.Measures.{Measure, Takes, sum_worker, sum_if, sum_state, happen_sum}
use Rattle.mq_runs.proofs.Queueing.{Delivers, seat_says, other_pump}
use Rattle.mq_runs.proofs.Ranks.{behind_front, Among, at_among, among_less, none_total, only_one, zero_or}
use Rattle.mq_runs.proofs.Shifting.{Ready, happen_shifts, silent_sum, silent_shifts, pump_sum, pump_shifts, turn_sum, worker_shifts}
use Rattle.mq_runs.proofs.Sums.{total, total_append}
use Rattle.mq_runs.proofs.Tidy.{Neat, keeps_neat}
use Rattle.mq_runs.proofs.Took.{from_on}
use Rattle.mq_runs.proofs.Tokens.{counted, count_measure, early, waits_push, ranked, misplaced, rank_measure, id_measure, takes_id, own_book, own_measure, takes_own, here, waiting_of, boxed_of, before_of, Shifts, lined_on}
use Rattle.mq_runs.proofs.Whole.{Sounds, goes_falls, first_few, first_fit, ends_are, one_end}

in_among : (t : Tunnel) (ts : List Tunnel) → In t ts → Among t ts
in_among t [] h = h
in_among t (u ∷ us) (inl same) = inl same
in_among t (u ∷ us) (inr more) = inr (in_among t us more)

-- what is summed of one tunnel is part of the sum
pub part_of : (m : Measure) (v : ℕ → Bool) (s : State) (number : ℕ) (w : Worker) (h : Held) (t : Tunnel) → slice_get s.workers number ≡ Some w → Among h w.conns → Among t h.conn.tunnels → v w.id ≡ true → m.of t ≤ sum_state m v s
part_of m v s number w h t at among there is =
    let one = among_less m.of h.conn.tunnels t there in
    let two = among_less (λ (g : Held). total m.of g.conn.tunnels) w.conns h among in
    let three = among_less (sum_if m v) s.workers w (at_among s.workers number w at) in
    let four : sum_if m v w ≡ sum_worker m w = rw is refl in
    omega (arith, one, two, three, four)

pub same_self : (f : From) → is_same f f ≡ true
same_self (source.Tunnel t) = itself t
same_self source.Net = refl
same_self (source.Port t) = itself t

pub same_from : (f g : From) → is_same f g ≡ true → f ≡ g
same_from (source.Tunnel t) (source.Tunnel u) e = ap source.Tunnel (eqb-true t u e)
same_from (source.Tunnel t) source.Net e = absurd cc
same_from (source.Tunnel t) (source.Port u) e = absurd cc
same_from source.Net (source.Tunnel u) e = absurd cc
same_from source.Net source.Net e = refl
same_from source.Net (source.Port u) e = absurd cc
same_from (source.Port t) (source.Tunnel u) e = absurd cc
same_from (source.Port t) source.Net e = absurd cc
same_from (source.Port t) (source.Port u) e = ap source.Port (eqb-true t u e)

pub counted_less : (f : From) (n m : ℕ) → m < n → IsCounted f n → IsCounted f m
counted_less (source.Tunnel t) n m h c = tt
counted_less source.Net n m h c = omega (arith, h, c)
counted_less (source.Port t) n m h c = omega (arith, h, c)

pub past_self : (k : Key) → k.to_the_end ≡ true → past k k.from k.number ≡ 1
past_self k whole = let one = same_self k.from in let two = itself k.number in rw whole (rw one (rw two refl))

pub both_so : (b c : Bool) → b && c ≡ true → (b ≡ true) × (c ≡ true)
both_so true true h = (refl, refl)
both_so true false h = absurd cc
both_so false c h = absurd cc

pub none_sum : (m : Measure) (v : ℕ → Bool) (setup : Setup) (n : ℕ) → total (sum_if m v) (new_workers setup n) ≡ 0
none_sum m v setup zero = refl
none_sum m v setup (suc n) =
    let rest = none_sum m v setup n in
    let both = total_append (sum_if m v) (new_workers setup n) (new_worker n setup ∷ []) in
    let one = none (v n) in
    omega (arith, rest, both, one)
  where
    none : (b : Bool) → ◌≡◌ {A = ℕ} (cond b 0 0) 0
    none true = refl
    none false = refl

pub empty_box : (n i : ℕ) → box_at (replicate n []) i ≡ []
empty_box zero zero = refl
empty_box zero (suc i) = refl
empty_box (suc n) zero = refl
empty_box (suc n) (suc i) = empty_box n i

pub one_on : (n : ℕ) → from_on 0 n ≤ 1
one_on n = by_test (nat_le 0 n) where
  by_test : (b : Bool) → cond b 1 0 ≤ 1
  by_test true = omega arith
  by_test false = omega arith

pub own_few : (f : From) → own_book f 0 ≤ 1
own_few (source.Tunnel t) = one_on t
own_few source.Net = omega arith
own_few (source.Port t) = omega arith

hand_happen : (s : State) (e : Event) → HoldsNet s.pump.to_push → HoldsNet (happen s e).pump.to_push
hand_happen s (event.Conn actor) h = h
hand_happen s (event.Piece conn bytes) h = h
hand_happen s (event.End conn) h = h
hand_happen s (event.Room conn room) h = h
hand_happen s (event.FailRead conn) h = h
hand_happen s (event.FailWrite conn) h = h
hand_happen s (event.Datagram tunnel bytes) h = h
hand_happen s (event.FailPort tunnel) h = h
hand_happen s event.FailBind h = h
hand_happen s event.FailNet h = h
hand_happen s (event.Packet count bytes) h = h
hand_happen s (event.Step actor) h = h

module _ (stays : StaysLawful) (k : Key) (whole : k.to_the_end ≡ true) (is_counted : IsCounted k.from k.number) (a : ℕ) (earlier_is : a < k.number) (target actor : ℕ) where
  abbrev pub ka : Key
  ka = early k a target

  abbrev pub kp : Key
  kp = waits_push k a target

  pub counted_a : IsCounted k.from a
  counted_a = counted_less k.from k.number a earlier_is is_counted

  pub record Good (s : State) : Type 0 where
    pub ready : Ready k a target actor stays earlier_is s
    pub sound : Sounds stays k is_counted s
    pub sound_early : Sounds stays kp counted_a s
    pub ids : sum_state (id_measure target) (λ id. true) s ≤ 1

  -- ---- a step

  pub first_good : (plan : Plan) → Good (state_of plan)
  first_good plan =
      let n = plan.workers in
      let s = state_of plan in
      let empty = empty_box (n + 1) actor in
      let waits_k = none_sum (count_measure k target) (here k a target actor) plan.setup n in
      let ranks = none_sum (rank_measure k a target 0) (here k a target actor) plan.setup n in
      let own_workers = none_sum (own_measure k) (λ id. true) plan.setup n in
      let own_one = own_few k.from in
      let id_workers = none_sum (id_measure target) (λ id. true) plan.setup n in
      let id_one = one_on target in
      record {
        ready = record {
          neat = first_has (λ setup n c. Neat k a earlier_is stays n c) (keeps_neat k a earlier_is stays) plan;
          fit = first_fit plan.setup n;
          few = first_few k plan;
          hand = tt;
          own = omega (arith, own_workers, own_one);
          lined = record {
            waits = inl (omega (arith, waits_k));
            boxed = inl (rw empty refl);
            waits_tidy = omega (arith, ranks);
            box_tidy = rw empty refl;
          };
        };
        sound = first_has (λ setup n c. Sound stays k n c) (keeps_sound stays k) plan;
        sound_early = first_has (λ setup n c. Sound stays kp n c) (keeps_sound stays kp) plan;
        ids = omega (arith, id_workers, id_one);
      }

  module _ (s t : State) (g : Good s) where
    pub long_by : (m : Moment) → Goes s m t → length s.shared.book ≤ length t.shared.book
    long_by m x = grows_long s.shared t.shared (on_goes (λ setup n c. Neat k a earlier_is stays n c) (keeps_neat k a earlier_is stays) s t m g.ready.neat x).grows

    pub down_by : (m : Moment) → Goes s m t → before_of k a target actor t ≤ before_of k a target actor s
    down_by m x = let f = goes_falls stays kp counted_a s t m g.sound_early g.ready.fit x in let down = f.down in omega (arith, down)

    -- of what no note raises
    pub quiet_sum : (m : Measure) (v : ℕ → Bool) (moment : Moment) → Goes s moment t → ((ts : List Tunnel) → Takes m ts) → ((said : Note) → m.queue said ≡ 0) → sum_state m v t ≤ sum_state m v s
    quiet_sum m v (Happened e) x takes none = subst (λ (u : State). sum_state m v u ≤ sum_state m v s) (sym x.1) (happen_sum m v s e)
    quiet_sum m v (Noted (WorkerOf number) said) x takes none =
        let sum = turn_sum k a target actor stays earlier_is s t g.ready number said x (down_by (Noted (WorkerOf number) said) x) (long_by (Noted (WorkerOf number) said) x) m v (λ h among. takes h.conn.tunnels) in
        let zero_is = none said in
        let same = cond_none (v x.worker.id) (m.queue said) zero_is in
        omega (arith, sum, same)
      where
        cond_none : (b : Bool) (n : ℕ) → n ≡ 0 → cond b n 0 ≡ 0
        cond_none true n e = e
        cond_none false n e = refl
    quiet_sum m v (Noted ThePump said) x takes none = pump_sum k a target actor s t said (long_by (Noted ThePump said) x) x m v
    quiet_sum m v (Refused who reached) x takes none = silent_sum k a target actor s t who reached (long_by (Refused who reached) x) x m v

    shifts_by : (moment : Moment) → Goes s moment t → Shifts k a target actor s t
    shifts_by (Happened e) x =
        let down = down_by (Happened e) x in
        subst (λ (u : State). Shifts k a target actor s u) (sym x.1) (happen_shifts k a target actor s e (subst (λ (u : State). before_of k a target actor u ≤ before_of k a target actor s) x.1 down))
    shifts_by (Noted (WorkerOf number) said) x =
        worker_shifts k a target actor stays earlier_is s t g.ready number said x (down_by (Noted (WorkerOf number) said) x) (long_by (Noted (WorkerOf number) said) x)
    shifts_by (Noted ThePump said) x =
        pump_shifts k a target actor earlier_is s t said (down_by (Noted ThePump said) x) (long_by (Noted ThePump said) x) g.ready.hand g.ready.few x
    shifts_by (Refused who reached) x = silent_shifts k a target actor s t who reached (down_by (Refused who reached) x) (long_by (Refused who reached) x) x

    hand_by : (moment : Moment) → Goes s moment t → HoldsNet t.pump.to_push
    hand_by (Happened e) x = subst (λ (u : State). HoldsNet u.pump.to_push) (sym x.1) (hand_happen s e g.ready.hand)
    hand_by (Noted (WorkerOf number) said) x = subst (λ (u : State). HoldsNet u.pump.to_push) (sym x.new_is) g.ready.hand
    hand_by (Noted ThePump said) x = subst (λ (u : State). HoldsNet u.pump.to_push) (sym x.new_is) (pump_boxes s.pump s.shared x.turn.try (said, x.pump, x.shared) g.ready.hand x.turn.is).hand
    hand_by (Refused (WorkerOf number) reached) x = subst (λ (u : State). HoldsNet u.pump.to_push) (sym x.new_is) g.ready.hand
    hand_by (Refused ThePump reached) x = subst (λ (u : State). HoldsNet u.pump.to_push) (sym x.2) g.ready.hand

    pub good_goes : (moment : Moment) → Goes s moment t → Good t
    good_goes moment x =
        let falls = goes_falls stays k is_counted s t moment g.sound g.ready.fit x in
        let down = falls.down in
        let few = g.ready.few in
        let own = quiet_sum (own_measure k) (λ id. true) moment x (takes_own k) (λ said. refl) in
        let own_was = g.ready.own in
        let ids = quiet_sum (id_measure target) (λ id. true) moment x (takes_id target) (λ said. refl) in
        let ids_was = g.ids in
        record {
          ready = record {
            neat = (on_goes (λ setup n c. Neat k a earlier_is stays n c) (keeps_neat k a earlier_is stays) s t moment g.ready.neat x).have;
            fit = falls.fit;
            few = omega (arith, down, few);
            hand = hand_by moment x;
            own = omega (arith, own, own_was);
            lined = lined_on k a target actor s t (shifts_by moment x) g.ready.lined;
          };
          sound = (on_goes (λ setup n c. Sound stays k n c) (keeps_sound stays k) s t moment g.sound x).have;
          sound_early = (on_goes (λ setup n c. Sound stays kp n c) (keeps_sound stays kp) s t moment g.sound_early x).have;
          ids = omega (arith, ids, ids_was);
        }

  pub good_run : (ms : List Moment) (s t : State) → Good s → Run s ms t → Good t
  good_run [] s t g x = subst Good (sym x) g
  good_run (m ∷ ms) s t g x = good_run ms x.0 t (good_goes s x.0 g m x.1) x.2

  -- ---- the earlier one is nowhere that leads to the tunnel

  record Gone (s : State) : Type 0 where
    waiting : waiting_of k a target actor ka s ≡ 0
    boxed : boxed_of k a target actor ka s ≡ 0
    before : before_of k a target actor s ≡ 0
    elsewhere : sum_state (id_measure target) (λ id. not (id == actor)) s ≡ 0

  gone_goes : (s t : State) (m : Moment) → Good s → Gone s → Goes s m t → Gone t
  gone_goes s t m g h x =
      let shifts = shifts_by s t g m x in
      let down = shifts.before in
      let before = h.before in
      let boxed = h.boxed in
      let waiting = h.waiting in
      let elsewhere = h.elsewhere in
      let less = quiet_sum s t g (id_measure target) (λ id. not (id == actor)) m x (takes_id target) (λ said. refl) in
      record {
        waiting = elim shifts.earlier_waits [ inl fewer ↦ omega (arith, fewer, waiting) | inr some ↦ absurd (omega (arith, some, boxed, before)) ];
        boxed = elim shifts.earlier_boxed [ inl fewer ↦ omega (arith, fewer, boxed) | inr some ↦ absurd (omega (arith, some, before)) ];
        before = omega (arith, down, before);
        elsewhere = omega (arith, less, elsewhere);
      }

  -- it waits first in a tunnel that delivers it
  first_counts : (y : Key) (t : Tunnel) (first : Waiting) (ws : List Waiting) (whose : From) (n : ℕ) (packet : List ℕ) → t.waiting ≡ first ∷ ws → first.what ≡ Packet whose n packet → past y whose n ≡ 1 → t.id ≡ target
      → (1 ≤ in_what y first.what) × (1 ≤ counted y target t)
  first_counts y t first ws whose n packet is what one id =
      let here_is = ap (in_what y) what in
      let all = ap (waits_in y) is in
      let yes = eq-eqb t.id target id in
      (omega (arith, here_is, one), rw yes (omega (arith, all, here_is, one)))

  delivered_gone : (s t : State) (number : ℕ) (packet : List ℕ) (x : Turn s (WorkerOf number) (note.Delivered k.from k.number target packet) t) → Good s → actor ≡ x.worker.id → Gone s
  delivered_gone s t number packet x g at_actor =
      let w = x.worker in
      let d : Delivers w k.from k.number target = (seat_says w s.shared x.turn.seat x.answer (note.Delivered k.from k.number target packet) x.next x.shared x.turn.next).1 in
      let there = in_among d.t d.h.conn.tunnels d.there in
      let here_is : here k a target actor w.id ≡ true = eq-eqb w.id actor (sym at_actor) in
      let counts = first_counts k d.t d.first d.ws k.from k.number d.packet d.waiting d.what_is (past_self k whole) d.id_is in
      let some = counts.1 in
      let part = part_of (count_measure k target) (here k a target actor) s number w d.h d.t x.at d.among there here_is in
      let none : boxed_of k a target actor ka s + before_of k a target actor s ≡ 0 = by_waits g.ready.lined.waits (omega (arith, some, part)) in
      let rank_part = part_of (rank_measure k a target 0) (here k a target actor) s number w d.h d.t x.at d.among there here_is in
      let ranks = g.ready.lined.waits_tidy in
      let id_yes : (d.t.id == target) ≡ true = eq-eqb d.t.id target d.id_is in
      let ranked_none : ranked k a target d.t.waiting ≡ 0 = rank_of d.t id_yes (omega (arith, rank_part, ranks)) in
      let ordered : ranked k a target (d.first ∷ d.ws) ≡ 0 = ap (ranked k a target) (sym d.waiting) ∙ ranked_none in
      let others = behind_front (λ (y : Waiting). in_what ka y.what) (λ (y : Waiting). in_what k y.what) d.first d.ws counts.0 ordered in
      let sooner = ap (in_what ka) d.what_is ∙ other_none in
      let all = ap (waits_in ka) d.waiting in
      let waits_none : waits_in ka d.t.waiting ≡ 0 = omega (arith, all, sooner, others) in
      let ids = g.ids in
      let m = id_measure target in
      let of : Tunnel → ℕ = λ (u : Tunnel). cond (u.id == target) 1 0 in
      let one : of d.t ≡ 1 = rw id_yes refl in
      let in_h = among_less of d.h.conn.tunnels d.t there in
      let in_w = among_less (λ (h : Held). total of h.conn.tunnels) w.conns d.h d.among in
      let in_s = among_less (sum_worker m) s.workers w (at_among s.workers number w x.at) in
      let workers = only_one (sum_if (count_measure ka target) (here k a target actor)) (sum_worker m) s.workers w (at_among s.workers number w x.at) (omega (arith, one, in_h, in_w)) (omega (arith, ids)) worker_none in
      let mine = cond_fewer (here k a target actor w.id) (sum_worker (count_measure ka target) w) in
      let helds = only_one (λ (h : Held). total (counted ka target) h.conn.tunnels) (λ (h : Held). total of h.conn.tunnels) w.conns d.h d.among (omega (arith, one, in_h)) (omega (arith, in_s, ids)) held_none in
      let tunnels = only_one (counted ka target) of d.h.conn.tunnels d.t there (omega (arith, one)) (omega (arith, in_w, in_s, ids)) tunnel_none in
      let last = cond_fewer (d.t.id == target) (waits_in ka d.t.waiting) in
      let away = only_one (sum_if m (λ id. not (id == actor))) (sum_worker m) s.workers w (at_among s.workers number w x.at) (omega (arith, one, in_h, in_w)) (omega (arith, ids)) away_none in
      let not_away : sum_if m (λ id. not (id == actor)) w ≡ 0 = rw here_is refl in
      record {
        waiting = omega (arith, workers, mine, helds, tunnels, last, waits_none);
        boxed = omega (arith, none);
        before = omega (arith, none);
        elsewhere = omega (arith, away, not_away, ids, one, in_h, in_w, in_s);
      }
    where
      by_waits : (waiting_of k a target actor k s ≡ 0) ⊎ (boxed_of k a target actor ka s + before_of k a target actor s ≡ 0) → 1 ≤ waiting_of k a target actor k s → boxed_of k a target actor ka s + before_of k a target actor s ≡ 0
      by_waits (inl none) some = absurd (omega (arith, none, some))
      by_waits (inr none) some = none

      rank_of : (u : Tunnel) → (u.id == target) ≡ true → misplaced k a target u ≡ 0 → ranked k a target u.waiting ≡ 0
      rank_of u is e = subst (λ b. cond b (ranked k a target u.waiting) 0 ≡ 0) is e

      other_none : past ka k.from k.number ≡ 0
      other_none = elim (zero_or (past ka k.from k.number)) [
        | inl none ↦ none
        | inr some ↦ (let same = (hit_parts ka k.from k.number some).1 in absurd (omega (arith, same, earlier_is)))
      ]

      cond_fewer : (b : Bool) (m : ℕ) → cond b m 0 ≤ m
      cond_fewer true m = omega arith
      cond_fewer false m = omega arith

      tunnel_none : (u : Tunnel) → ◌≡◌ {A = ℕ} (cond (u.id == target) 1 0) 0 → counted ka target u ≡ 0
      tunnel_none u e = by_id (u.id == target) e where
        by_id : (b : Bool) → ◌≡◌ {A = ℕ} (cond b 1 0) 0 → cond b (waits_in ka u.waiting) 0 ≡ 0
        by_id true e = absurd (omega (arith, e))
        by_id false e = refl

      held_none : (h : Held) → total (λ (u : Tunnel). cond (u.id == target) 1 0) h.conn.tunnels ≡ 0 → total (counted ka target) h.conn.tunnels ≡ 0
      held_none h e = none_total (counted ka target) (λ (u : Tunnel). cond (u.id == target) 1 0) h.conn.tunnels tunnel_none e

      worker_none : (y : Worker) → sum_worker (id_measure target) y ≡ 0 → sum_if (count_measure ka target) (here k a target actor) y ≡ 0
      worker_none y e =
          let none = none_total (λ (h : Held). total (counted ka target) h.conn.tunnels) (λ (h : Held). total (λ (u : Tunnel). cond (u.id == target) 1 0) h.conn.tunnels) y.conns held_none e in
          let less = cond_fewer (here k a target actor y.id) (sum_worker (count_measure ka target) y) in
          omega (arith, none, less)

      away_none : (y : Worker) → sum_worker (id_measure target) y ≡ 0 → sum_if (id_measure target) (λ id. not (id == actor)) y ≡ 0
      away_none y e = let less = cond_fewer (not (y.id == actor)) (sum_worker (id_measure target) y) in omega (arith, less, e)

  -- so no worker delivers it
  gone_not : (s t : State) (number : ℕ) (packet : List ℕ) → Gone s → Turn s (WorkerOf number) (note.Delivered k.from a target packet) t → ⊥
  gone_not s t number packet h x =
      let w = x.worker in
      let d : Delivers w k.from a target = (seat_says w s.shared x.turn.seat x.answer (note.Delivered k.from a target packet) x.next x.shared x.turn.next).1 in
      let there = in_among d.t d.h.conn.tunnels d.there in
      let counts = first_counts ka d.t d.first d.ws k.from a d.packet d.waiting d.what_is (past_self ka whole) d.id_is in
      let some = counts.1 in
      let waiting = h.waiting in
      let elsewhere = h.elsewhere in
      let one : ◌≡◌ {A = ℕ} (cond (d.t.id == target) 1 0) 1 = (let yes = eq-eqb d.t.id target d.id_is in rw yes refl) in
      by_actor (w.id == actor) refl
      (λ is. let part = part_of (count_measure ka target) (here k a target actor) s number w d.h d.t x.at d.among there is in omega (arith, some, part, waiting))
      (λ is. let part = part_of (id_measure target) (λ id. not (id == actor)) s number w d.h d.t x.at d.among there (rw is refl) in omega (arith, one, part, elsewhere))
    where
      by_actor : (b : Bool) → (x.worker.id == actor) ≡ b → ((x.worker.id == actor) ≡ true → ⊥) → ((x.worker.id == actor) ≡ false → ⊥) → ⊥
      by_actor true is own away = own is
      by_actor false is own away = away is

  -- ---- in what follows

  noted_run : (s t : State) (who : Actor) (whose : From) (n id : ℕ) (packet : List ℕ) (rest : List ℕ) (b : Bool) → (is_same whose k.from && id == target) ≡ b → Gone s → Turn s who (note.Delivered whose n id packet) t
      → (Among a rest → ⊥) → Among a (cond b (n ∷ rest) rest) → ⊥
  noted_run s t who whose n id packet rest true is h x later (inr more) = later more
  noted_run s t who whose n id packet rest false is h x later more = later more
  noted_run s t (WorkerOf number) whose n id packet rest true is h x later (inl same) =
      let parts = both_so (is_same whose k.from) (id == target) is in
      let P : From → Type 0 = λ o. Turn s (WorkerOf number) (note.Delivered o n id packet) t in
      let Q : ℕ → Type 0 = λ m. Turn s (WorkerOf number) (note.Delivered k.from m id packet) t in
      let R : ℕ → Type 0 = λ i. Turn s (WorkerOf number) (note.Delivered k.from a i packet) t in
      gone_not s t number packet h (subst R (eqb-true id target parts.1) (subst Q same (subst P (same_from whose k.from parts.0) x)))
  noted_run s t ThePump whose n id packet rest true is h x later (inl same) = absurd (other_pump s.pump s.shared x.turn.try (note.Delivered whose n id packet, x.pump, x.shared) x.turn.is)

  gone_note : (s t : State) (who : Actor) (said : Note) (notes : List Note) → Gone s → Turn s who said t → (Among a (delivered_of k.from target notes) → ⊥) → Among a (delivered_of k.from target (said ∷ notes)) → ⊥
  gone_note s t who (note.Delivered whose n id packet) notes h x later among =
      noted_run s t who whose n id packet (delivered_of k.from target notes) (is_same whose k.from && id == target) refl h x later among
  gone_note s t who said notes h x later among = later among

  gone_run : (ms : List Moment) (s last : State) → Good s → Gone s → Run s ms last → Among a (delivered_of k.from target (notes_of ms)) → ⊥
  gone_run [] s last g h x among = among
  gone_run (Happened e ∷ ms) s last g h x among = gone_run ms x.0 last (good_goes s x.0 g (Happened e) x.1) (gone_goes s x.0 (Happened e) g h x.1) x.2 among
  gone_run (Refused who reached ∷ ms) s last g h x among = gone_run ms x.0 last (good_goes s x.0 g (Refused who reached) x.1) (gone_goes s x.0 (Refused who reached) g h x.1) x.2 among
  gone_run (Noted who said ∷ ms) s last g h x among =
      gone_note s x.0 who said (notes_of ms) h x.1 (gone_run ms x.0 last (good_goes s x.0 g (Noted who said) x.1) (gone_goes s x.0 (Noted who said) g h x.1) x.2) among

-- ---- the law

pub le_or : (m n : ℕ) → (m ≤ n) ⊎ (n < m)
le_or zero n = inl (omega arith)
le_or (suc m) zero = inr (omega arith)
le_or (suc m) (suc n) = elim (le_or m n) [ inl less ↦ inl (omega (arith, less)) | inr more ↦ inr (omega (arith, more)) ]

pub each_of : (P : ℕ → Type 0) (xs : List ℕ) → ((x : ℕ) → Among x xs → P x) → AllByRecursion P xs
each_of P [] h = tt
each_of P (x ∷ xs) h = (h x (inl refl), each_of P xs (λ y more. h y (inr more)))

module _ (stays : StaysLawful) (readable : IsReadable) (once : IsReadOnce) (from : From) (target : ℕ) where
  abbrev key : ℕ → Key
  key n = record { from = from; number = n; readable = readable; once = once; to_the_end = true }

  -- a payload that was delivered has an end
  end_by : (n m id : ℕ) (whose : From) (packet : List ℕ) (notes : List Note) (b : Bool) → (is_same whose from && id == target) ≡ b → (Among n (delivered_of from target notes) → 1 ≤ total (end_of (key n)) notes)
      → Among n (cond b (m ∷ delivered_of from target notes) (delivered_of from target notes)) → 1 ≤ past (key n) whose m + total (end_of (key n)) notes
  end_by n m id whose packet notes true is later (inl same) =
      let parts = both_so (is_same whose from) (id == target) is in
      let one = past_self (key n) refl in
      let now : past (key n) whose m ≡ past (key n) from n = ap (λ o. past (key n) o m) (same_from whose from parts.0) ∙ ap (λ j. past (key n) from j) same in
      omega (arith, one, now)
  end_by n m id whose packet notes true is later (inr more) = let rest = later more in omega (arith, rest)
  end_by n m id whose packet notes false is later more = let rest = later more in omega (arith, rest)

  ended : (n : ℕ) (notes : List Note) → Among n (delivered_of from target notes) → 1 ≤ total (end_of (key n)) notes
  ended n [] among = absurd among
  ended n (note.Delivered whose m id packet ∷ notes) among = end_by n m id whose packet notes (is_same whose from && id == target) refl (ended n notes) among
  ended n (said ∷ notes) among = let rest = ended n notes among in omega (arith, rest)

  -- what is delivered here has a number below all that are delivered later
  above : (plan : Plan) (before ms : List Moment) (s t last : State) (who : Actor) (n j : ℕ) (packet : List ℕ) → Run (state_of plan) before s → Turn s who (note.Delivered from n target packet) t → Run t ms last
      → IsCounted from n → Among j (delivered_of from target (notes_of ms)) → n < j
  above plan before ms s t last ThePump n j packet reach x later c among = absurd (other_pump s.pump s.shared x.turn.try (note.Delivered from n target packet, x.pump, x.shared) x.turn.is)
  above plan before ms s t last (WorkerOf number) n j packet reach x later c among = elim (le_or j n) [
    | inr less ↦ less
    | inl most ↦ elim (le_or n j) [
      | inl back ↦ (
          let same : j ≡ n = omega (arith, most, back) in
          let m = Noted (WorkerOf number) (note.Delivered from n target packet) in
          let all = before ++ m ∷ ms in
          let run = run_append before (m ∷ ms) (state_of plan) s last reach (t, x, later) in
          let few = one_end stays (key n) refl c plan all last run in
          let counts = ends_are (key n) (notes_of all) refl in
          let split = ap (λ (notes : List Note). total (end_of (key n)) notes) (notes_append before (m ∷ ms)) ∙ total_append (end_of (key n)) (notes_of before) (notes_of (m ∷ ms)) in
          let one = past_self (key n) refl in
          let rest = ended n (notes_of ms) (subst (λ i. Among i (delivered_of from target (notes_of ms))) same among) in
          absurd (omega (arith, few, counts, split, one, rest)))
      | inr less ↦ (
          let actor = x.worker.id in
          let good = good_run stays (key n) refl c j less target actor before (state_of plan) s (first_good stays (key n) refl c j less target actor plan) reach in
          let gone = delivered_gone stays (key n) refl c j less target actor s t number packet x good refl in
          let m = Noted (WorkerOf number) (note.Delivered from n target packet) in
          absurd (gone_run stays (key n) refl c j less target actor ms t last (good_goes stays (key n) refl c j less target actor s t good m x) (gone_goes stays (key n) refl c j less target actor s t m good gone x) later among))
    ]
  ]

  rising_by : (plan : Plan) (before ms : List Moment) (s t last : State) (who : Actor) (whose : From) (n id : ℕ) (packet : List ℕ) (b : Bool) → (is_same whose from && id == target) ≡ b → Run (state_of plan) before s
      → Turn s who (note.Delivered whose n id packet) t → Run t ms last
      → AllByRecursion (IsCounted from) (cond b (n ∷ delivered_of from target (notes_of ms)) (delivered_of from target (notes_of ms)))
      → (AllByRecursion (IsCounted from) (delivered_of from target (notes_of ms)) → IsRising (delivered_of from target (notes_of ms)))
      → IsRising (cond b (n ∷ delivered_of from target (notes_of ms)) (delivered_of from target (notes_of ms)))
  rising_by plan before ms s t last who whose n id packet true is reach x later c rest =
      let parts = both_so (is_same whose from) (id == target) is in
      let P : From → Type 0 = λ o. Turn s who (note.Delivered o n id packet) t in
      let Q : ℕ → Type 0 = λ i. Turn s who (note.Delivered from n i packet) t in
      let now = subst Q (eqb-true id target parts.1) (subst P (same_from whose from parts.0) x) in
      (each_of (λ m. n < m) (delivered_of from target (notes_of ms)) (λ j among. above plan before ms s t last who n j packet reach now later c.0 among), rest c.1)
  rising_by plan before ms s t last who whose n id packet false is reach x later c rest = rest c

  rising_note : (plan : Plan) (before ms : List Moment) (s t last : State) (who : Actor) (said : Note) → Run (state_of plan) before s → Turn s who said t → Run t ms last
      → AllByRecursion (IsCounted from) (delivered_of from target (said ∷ notes_of ms))
      → (AllByRecursion (IsCounted from) (delivered_of from target (notes_of ms)) → IsRising (delivered_of from target (notes_of ms))) → IsRising (delivered_of from target (said ∷ notes_of ms))
  rising_note plan before ms s t last who (note.Delivered whose n id packet) reach x later c rest = rising_by plan before ms s t last who whose n id packet (is_same whose from && id == target) refl reach x later c rest
  rising_note plan before ms s t last who said reach x later c rest = rest c

  rising : (plan : Plan) (before ms : List Moment) (s last : State) → Run (state_of plan) before s → Run s ms last → AllByRecursion (IsCounted from) (delivered_of from target (notes_of ms)) → IsRising (delivered_of from target (notes_of ms))
  rising plan before [] s last reach x c = tt
  rising plan before (Happened e ∷ ms) s last reach x c = rising plan (before ++ Happened e ∷ []) ms x.0 last (run_append before (Happened e ∷ []) (state_of plan) s x.0 reach (x.0, x.1, refl)) x.2 c
  rising plan before (Refused who reached ∷ ms) s last reach x c = rising plan (before ++ Refused who reached ∷ []) ms x.0 last (run_append before (Refused who reached ∷ []) (state_of plan) s x.0 reach (x.0, x.1, refl)) x.2 c
  rising plan before (Noted who said ∷ ms) s last reach x c =
      rising_note plan before ms s x.0 last who said reach x.1 x.2 c
      (λ later. rising plan (before ++ Noted who said ∷ []) ms x.0 last (run_append before (Noted who said ∷ []) (state_of plan) s x.0 reach (x.0, x.1, refl)) x.2 later)

  pub all_rise : (plan : Plan) (ms : List Moment) (last : State) → Run (state_of plan) ms last → AllByRecursion (IsCounted from) (delivered_of from target (notes_of ms)) → IsRising (delivered_of from target (notes_of ms))
  all_rise plan ms last x c = rising plan [] ms (state_of plan) last refl x c
