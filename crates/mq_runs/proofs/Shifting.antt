-- What a step does to two payloads on their way to one tunnel.
use Rattle.std.proofs.Common.{◌≡◌, ◌≤◌, ◌<◌, ◌+◌, ◌⊎◌, ℕ, zero, suc, Bool, true, false, cond, List, [], ◌∷◌, length, slice_get, slice_set, nat_lt, Option, Some, refl, sym, subst, ap, ◌∙◌, arith, inl, inr}
use Rattle.std.specs.Prelude.{◌==◌}
use Rattle.std.specs.List.{AllByRecursion}
use Rattle.std.proofs.lemmas.Bool.{eqb-true}
use Rattle.mq_talk.specs.declared.note.From.{From}
use Rattle.mq_talk.specs.declared.note.From.TheVariants as source
use Rattle.mq_talk.specs.declared.note.Note.{Note}
use Rattle.mq_talk.specs.declared.note.Note.TheVariants as note
use Rattle.mq_talk.specs.declared.place.Origin.TheVariants as origin
use Rattle.mq_talk.specs.declared.place.Parcel.{Parcel}
use Rattle.mq_talk.specs.Mails.{box_at}
use Rattle.mq_machine.specs.declared.event.Event.{Event}
use Rattle.mq_machine.specs.Lawful.{StaysLawful}
use Rattle.mq_machine.specs.Shared.{inbox_of}
use Rattle.mq_machine.specs.Silent.{SilentTurn, Reached}
use Rattle.mq_machine.specs.State.{Tunnel, Held, Worker, Shared, State}
use Rattle.mq_machine.specs.Turn.{source_of, Seat, Offers, Inbox, Of, SeatNext, Actor, WorkerOf, ThePump, Turn}
use Rattle.mq_play.specs.Events.{happen}
use Rattle.mq_play.proofs.Lists.{each_at}
use Rattle.mq_runs.proofs.Bounds.{hit_parts, no_parcel, push_least, hand_least, port_least, push_none_left, hand_none_left, port_none_left}
use Rattle.mq_runs.proofs.Boxes.{PushesIn, HeldBoxes, starves_boxes, BoxPushed, pushed_box, BoxPopped, popped_box, HoldsNet, happen_boxes}
use Rattle.mq_runs.proofs.Pushes.{pump_boxes, try_boxes}
use Rattle.mq_runs.proofs.Flight.{Key, past}
use Rattle.mq_runs.proofs.Measures.{Measure, AllTake, seat_sum, starves_sum, worker_sum, other_sum, sum_worker, sum_if, sum_state, happen_sum}
use Rattle.mq_runs.proofs.Moving.{parcel_hit}
use Rattle.mq_runs.proofs.Queueing.{FromBox, FromPort, QueuesOf, Says, seat_says}
use Rattle.mq_runs.proofs.Ranks.{behind, behind_push, behind_front, zero_or, Among, found_among, at_among, among_less}
use Rattle.mq_runs.proofs.Sums.{total, total_append, total_zero, cond_fewer}
use Rattle.mq_runs.proofs.Tidy.{Neat}
use Rattle.mq_runs.proofs.Tokens.{past_one, counted, count_queue, count_measure, early, rank_queue, rank_measure, takes_rank, takes_count, own_measure, to_target, parceled, here, waiting_of, waiting_ranks, boxed_of, boxed_ranks, before_of, Lined, Shifts}
use Rattle.mq_runs.proofs.Whole.{in_state, NumbersFit, AllFit, fit_few}
use Rattle.mq_runs.proofs.Workers.{numbered}

pub all_among : {A : Type 0} (P : A → Type 0) (xs : List A) (x : A) → AllByRecursion P xs → Among x xs → P x
all_among P [] x h among = absurd among
all_among P (y ∷ ys) x h (inl same) = subst P same h.0
all_among P (y ∷ ys) x h (inr more) = all_among P ys x h.1 more

cond_part : (b : Bool) (m : ℕ) → 1 ≤ cond b m 0 → (b ≡ true) × (1 ≤ m)
cond_part true m h = (refl, h)
cond_part false m h = absurd (omega (arith, h))

positive : (n : ℕ) → nat_lt 0 n ≡ true → 1 ≤ n
positive zero e = absurd cc
positive (suc n) e = omega arith

-- ---- an inbox

module _ (k : Key) (a target actor : ℕ) where
  abbrev ka : Key
  ka = early k a target

  record BoxShifts (s t : State) : Type 0 where
    later : (boxed_of k a target actor k t ≤ boxed_of k a target actor k s) ⊎ (before_of k a target actor t ≡ 0)
    earlier : (boxed_of k a target actor ka t ≤ boxed_of k a target actor ka s) ⊎ (1 ≤ before_of k a target actor s)
    ranks : (boxed_ranks k a target actor t ≤ boxed_ranks k a target actor s) ⊎ ((1 ≤ before_of k a target actor s) × (boxed_ranks k a target actor t ≤ boxed_ranks k a target actor s + boxed_of k a target actor k s))

  -- these are the parcels of the inbox then
  abbrev of_box : Key → List Parcel → ℕ
  of_box x box = total (parceled x target) box

  abbrev ranks_box : List Parcel → ℕ
  ranks_box box = behind (parceled ka target) (parceled k target) box

  box_same : (s t : State) → box_at t.shared.boxes actor ≡ box_at s.shared.boxes actor → BoxShifts s t
  box_same s t e =
      let one = ap (of_box k) e in
      let two = ap (of_box ka) e in
      let three = ap ranks_box e in
      record { later = inl (omega (arith, one)); earlier = inl (omega (arith, two)); ranks = inl (omega (arith, three)) }

  boxes_same : (s t : State) → t.shared.boxes ≡ s.shared.boxes → BoxShifts s t
  boxes_same s t e = box_same s t (ap (λ boxes. box_at boxes actor) e)

  box_popped : (s t : State) (i : ℕ) (parcel : Parcel) (rest : List Parcel) → BoxPopped s.shared.boxes t.shared.boxes i actor parcel rest → BoxShifts s t
  box_popped s t i parcel rest (inl same) = box_same s t same
  box_popped s t i parcel rest (inr (at, was, is)) =
      let one = ap (of_box k) was in
      let two = ap (of_box k) is in
      let three = ap (of_box ka) was in
      let four = ap (of_box ka) is in
      let five = ap ranks_box was in
      let six = ap ranks_box is in
      record { later = inl (omega (arith, one, two)); earlier = inl (omega (arith, three, four)); ranks = inl (omega (arith, five, six)) }

  abbrev Allows : State → Parcel → Type 0
  Allows s parcel = (1 ≤ parcel_hit k parcel → before_of k a target actor s ≡ 0) × (1 ≤ parcel_hit ka parcel → 1 ≤ before_of k a target actor s)

  parceled_one : (x : Key) (parcel : Parcel) → parceled x target parcel ≤ 1
  parceled_one x parcel = let few = past_one x (source_of parcel.from) parcel.n in let less = cond_fewer (to_target target parcel.to) (parcel_hit x parcel) in omega (arith, few, less)

  box_pushed : (s t : State) (parcel : Parcel) → before_of k a target actor t ≤ before_of k a target actor s → Allows s parcel → BoxPushed s.shared.boxes t.shared.boxes actor parcel → BoxShifts s t
  box_pushed s t parcel down allows (inl same) = box_same s t same
  box_pushed s t parcel down allows (inr is) =
      let box = box_at s.shared.boxes actor in
      let one = ap (of_box k) is ∙ total_append (parceled k target) box (parcel ∷ []) in
      let two = ap (of_box ka) is ∙ total_append (parceled ka target) box (parcel ∷ []) in
      let three = ap ranks_box is in
      let pushes = behind_push (parceled ka target) (parceled k target) box parcel (parceled_one ka parcel) in
      let most = cond_fewer (nat_lt 0 (parceled ka target parcel)) (of_box k box) in
      record {
        later = elim (zero_or (parceled k target parcel)) [
          | inl none ↦ inl (omega (arith, one, none))
          | inr some ↦ (let gone = allows.0 (cond_part (to_target target parcel.to) (parcel_hit k parcel) some).1 in inr (omega (arith, gone, down)))
        ];
        earlier = elim (zero_or (parceled ka target parcel)) [
          | inl none ↦ inl (omega (arith, two, none))
          | inr some ↦ inr (allows.1 (cond_part (to_target target parcel.to) (parcel_hit ka parcel) some).1)
        ];
        ranks = elim (zero_or (parceled ka target parcel)) [
          | inl none ↦ (let zero_is = none_less (parceled ka target parcel) (of_box k box) none in inl (omega (arith, three, pushes, zero_is)))
          | inr some ↦ inr (allows.1 (cond_part (to_target target parcel.to) (parcel_hit ka parcel) some).1, omega (arith, three, pushes, most))
        ];
      }
    where
      none_less : (n m : ℕ) → n ≡ 0 → cond (nat_lt 0 n) m 0 ≡ 0
      none_less zero m e = refl
      none_less (suc n) m e = absurd (omega (arith, e))

  -- ---- what waits

  record WaitShifts (s t : State) : Type 0 where
    later : (waiting_of k a target actor k t ≤ waiting_of k a target actor k s) ⊎ (boxed_of k a target actor ka t + before_of k a target actor t ≡ 0)
    ranks : (waiting_ranks k a target actor t ≤ waiting_ranks k a target actor s) ⊎ ((1 ≤ boxed_of k a target actor ka s + before_of k a target actor s) × (waiting_ranks k a target actor t ≤ waiting_ranks k a target actor s + waiting_of k a target actor k s))
    earlier : (waiting_of k a target actor ka t ≤ waiting_of k a target actor ka s) ⊎ (1 ≤ boxed_of k a target actor ka s + before_of k a target actor s)

  shifts_of : (s t : State) → before_of k a target actor t ≤ before_of k a target actor s → BoxShifts s t → WaitShifts s t → Shifts k a target actor s t
  shifts_of s t down b w = record {
    before = down;
    later_waits = w.later;
    waits_ranks = w.ranks;
    earlier_waits = w.earlier;
    later_boxed = b.later;
    earlier_boxed = b.earlier;
    box_ranks = b.ranks;
  }

  -- nothing more waits
  waits_less : (s t : State) → ((m : Measure) (v : ℕ → Bool) → sum_state m v t ≤ sum_state m v s) → WaitShifts s t
  waits_less s t h = record {
    later = inl (h (count_measure k target) (here k a target actor));
    ranks = inl (h (rank_measure k a target 0) (here k a target actor));
    earlier = inl (h (count_measure ka target) (here k a target actor));
  }

  -- ---- what happens

  pub happen_shifts : (s : State) (e : Event) → before_of k a target actor (happen s e) ≤ before_of k a target actor s → Shifts k a target actor s (happen s e)
  happen_shifts s e down = shifts_of s (happen s e) down (boxes_same s (happen s e) (happen_boxes s e)) (waits_less s (happen s e) (λ m v. happen_sum m v s e))

  -- ---- a step that was refused memory

  pub silent_sum : (s t : State) (who : Actor) (reached : Reached) → length s.shared.book ≤ length t.shared.book → SilentTurn s who reached t → (m : Measure) (v : ℕ → Bool) → sum_state m v t ≤ sum_state m v s
  silent_sum s t (WorkerOf number) reached long x m v =
      let now = ap (λ (u : State). u.shared) x.new_is ∙ x.after_is in
      let book = ap (λ (u : Shared). length u.book) now in
      let did = starves_sum m x.worker s.shared x.starves.seat reached x.answer x.next x.shared x.starves.starves in
      let sum = worker_sum m v s number x.worker x.next x.shared x.after t 0 x.at did (omega (arith, long, book)) x.after_is x.new_is in
      let none = cond_fewer (v x.worker.id) 0 in
      omega (arith, sum, none)
  silent_sum s t ThePump reached long x m v = let same = ap (sum_state m v) x.2 in omega (arith, same)

  silent_boxes : (s t : State) (who : Actor) (reached : Reached) → SilentTurn s who reached t → t.shared.boxes ≡ s.shared.boxes
  silent_boxes s t (WorkerOf number) reached x =
      ap (λ (u : State). u.shared.boxes) x.new_is ∙ ap (λ (u : Shared). u.boxes) x.after_is ∙ starves_boxes x.worker s.shared x.starves.seat reached x.answer x.next x.shared x.starves.starves
  silent_boxes s t ThePump reached x = ap (λ (u : State). u.shared.boxes) x.2

  pub silent_shifts : (s t : State) (who : Actor) (reached : Reached) → before_of k a target actor t ≤ before_of k a target actor s → length s.shared.book ≤ length t.shared.book → SilentTurn s who reached t → Shifts k a target actor s t
  silent_shifts s t who reached down long x = shifts_of s t down (boxes_same s t (silent_boxes s t who reached x)) (waits_less s t (silent_sum s t who reached long x))

  -- ---- the pump's turn

  pub pump_sum : (s t : State) (said : Note) → length s.shared.book ≤ length t.shared.book → Turn s ThePump said t → (m : Measure) (v : ℕ → Bool) → sum_state m v t ≤ sum_state m v s
  pump_sum s t said long x m v =
      let same = ap (λ (u : State). total (sum_if m v) u.workers) x.new_is in
      let less = m.less (length s.shared.book) (length t.shared.book) long in
      omega (arith, same, less)

  pub pump_shifts : (earlier_is : a < k.number) (s t : State) (said : Note) → before_of k a target actor t ≤ before_of k a target actor s → length s.shared.book ≤ length t.shared.book → HoldsNet s.pump.to_push → in_state k s ≤ 1
      → Turn s ThePump said t → Shifts k a target actor s t
  pump_shifts earlier_is s t said down long hand few x =
      let did = pump_boxes s.pump s.shared x.turn.try (said, x.pump, x.shared) hand x.turn.is in
      let now = ap (λ (u : State). u.shared.boxes) x.new_is in
      shifts_of s t down (by_boxes did.boxes now) (waits_less s t (pump_sum s t said long x))
    where
      net_of : (o : Option Parcel) (parcel : Parcel) → HoldsNet o → o ≡ Some parcel → parcel.from ≡ origin.Net
      net_of o parcel h e = subst HoldsNet e h

      by_boxes : (x.shared.boxes ≡ s.shared.boxes) ⊎ (((parcel : Parcel) × (s.pump.to_push ≡ Some parcel) × PushesIn s.shared parcel x.shared) ⊎ ((i : ℕ) × (parcel : Parcel) × (rest : List Parcel) × (slice_get s.shared.boxes i ≡ Some (parcel ∷ rest)) × (x.shared.boxes ≡ slice_set s.shared.boxes i rest)))
          → t.shared.boxes ≡ x.shared.boxes → BoxShifts s t
      by_boxes (inl same) now = boxes_same s t (now ∙ same)
      by_boxes (inr (inl (parcel, is, pushes))) now =
          let net = net_of s.pump.to_push parcel hand is in
          let allows : Allows s parcel = (λ some. hand_none_left k a earlier_is s parcel is net few some, λ some. hand_least k a earlier_is s parcel is net some) in
          box_pushed s t parcel down allows (subst (λ boxes. BoxPushed s.shared.boxes boxes actor parcel) (sym (now ∙ pushes.is)) (pushed_box s.shared.boxes (inbox_of s.shared.boxes parcel.to) actor parcel))
      by_boxes (inr (inr (i, parcel, rest, at, is))) now =
          box_popped s t i parcel rest (subst (λ boxes. BoxPopped s.shared.boxes boxes i actor parcel rest) (sym (now ∙ is)) (popped_box s.shared.boxes i actor parcel rest at))

  -- ---- a worker's turn

  rank_part : (most : ℕ) (said : Note) → 1 ≤ rank_queue k a target most said → 1 ≤ count_queue ka target said
  rank_part most (note.Queued whose n id) h =
      let parts = cond_part (id == target) (cond (nat_lt 0 (past ka whose n)) most 0) h in
      let some = positive (past ka whose n) (cond_part (nat_lt 0 (past ka whose n)) most parts.1).0 in
      let is = parts.0 in
      rw is some
  rank_part most (note.Accepted c b) h = absurd (omega (arith, h))
  rank_part most said h = absurd (omega (arith, h))

  rank_few : (most : ℕ) (said : Note) → rank_queue k a target most said ≤ most
  rank_few most (note.Queued whose n id) =
      let one = cond_fewer (id == target) (cond (nat_lt 0 (past ka whose n)) most 0) in
      let two = cond_fewer (nat_lt 0 (past ka whose n)) most in
      omega (arith, one, two)
  rank_few most said = omega arith

  module _ (stays : StaysLawful) (earlier_is : a < k.number) where
    -- what holds of a state in which a step begins
    pub record Ready (s : State) : Type 0 where
      pub neat : AllByRecursion (λ (w : Worker). AllByRecursion (λ (h : Held). Neat k a earlier_is stays (length s.shared.book) h.conn) w.conns) s.workers
      pub fit : AllFit s
      pub few : in_state k s ≤ 1
      pub hand : HoldsNet s.pump.to_push
      pub own : sum_state (own_measure k) (λ id. true) s ≤ 1
      pub lined : Lined k a target actor s

    module _ (s t : State) (r : Ready s) (number : ℕ) (said : Note) (x : Turn s (WorkerOf number) said t) (down : before_of k a target actor t ≤ before_of k a target actor s) (long : length s.shared.book ≤ length t.shared.book) where
      abbrev w : Worker
      w = x.worker

      neat_w : AllByRecursion (λ (h : Held). Neat k a earlier_is stays (length s.shared.book) h.conn) w.conns
      neat_w = each_at (λ (w : Worker). AllByRecursion (λ (h : Held). Neat k a earlier_is stays (length s.shared.book) h.conn) w.conns) s.workers number w r.neat x.at

      neat_h : (h : Held) → Among h w.conns → Neat k a earlier_is stays (length s.shared.book) h.conn
      neat_h h among = all_among (λ (h : Held). Neat k a earlier_is stays (length s.shared.book) h.conn) w.conns h neat_w among

      few_w : (m : ℕ) → numbered m w ≤ 1
      few_w = fit_few (length s.links) w (each_at (NumbersFit (length s.links)) s.workers number w r.fit x.at)

      now : t.shared ≡ record x.shared { orders = x.after.orders }
      now = ap (λ (u : State). u.shared) x.new_is ∙ x.after_is

      long_x : length s.shared.book ≤ length x.shared.book
      long_x = let book = ap (λ (u : Shared). length u.book) now in omega (arith, long, book)

      pub turn_sum : (m : Measure) (v : ℕ → Bool) → AllTake m w → sum_state m v t ≤ sum_state m v s + cond (v w.id) (m.queue said) 0
      turn_sum m v takes =
          let did = seat_sum m w s.shared x.turn.seat x.answer said x.next x.shared few_w (λ h among. (neat_h h among).sound.lawful.loose.alone) takes x.turn.next in
          worker_sum m v s number w x.next x.shared x.after t (m.queue said) x.at did long_x x.after_is x.new_is

      next_id : x.next.id ≡ w.id
      next_id = (seat_sum (count_measure k target) w s.shared x.turn.seat x.answer said x.next x.shared few_w (λ h among. (neat_h h among).sound.lawful.loose.alone) (λ h among. takes_count k target h.conn.tunnels) x.turn.next).id

      -- what waits in one tunnel of this worker is part of what waits
      part_waits : w.id == actor ≡ true → (h : Held) → Among h w.conns → (u : Tunnel) → Among u h.conn.tunnels → counted k target u ≤ waiting_of k a target actor k s
      part_waits is h among u there =
          let m = count_measure k target in
          let one = among_less (counted k target) h.conn.tunnels u there in
          let two = among_less (λ (g : Held). total (counted k target) g.conn.tunnels) w.conns h among in
          let three = among_less (sum_if m (here k a target actor)) s.workers w (at_among s.workers number w x.at) in
          let four : sum_if m (here k a target actor) w ≡ sum_worker m w = rw is refl in
          omega (arith, one, two, three, four)

      rank_sum : waiting_ranks k a target actor t ≤ waiting_ranks k a target actor s + cond (w.id == actor) (rank_queue k a target (waiting_of k a target actor k s) said) 0
      rank_sum = by_here (w.id == actor) refl where
        by_here : (b : Bool) → (w.id == actor) ≡ b → waiting_ranks k a target actor t ≤ waiting_ranks k a target actor s + cond b (rank_queue k a target (waiting_of k a target actor k s) said) 0
        by_here true is =
            let most = waiting_of k a target actor k s in
            let sum = turn_sum (rank_measure k a target most) (here k a target actor) (λ h among. takes_rank k a target most h.conn.tunnels (part_waits is h among)) in
            rw is at sum
        by_here false is =
            let sum = other_sum (rank_measure k a target 0) (here k a target actor) s number w x.next x.shared x.after t x.at next_id is long_x x.after_is x.new_is in
            omega (arith, sum)

      -- ---- what it lets wait was in front, or new

      abbrev Later : Type 0
      Later = boxed_of k a target actor ka t + before_of k a target actor t ≡ 0

      abbrev Earlier : Type 0
      Earlier = 1 ≤ boxed_of k a target actor ka s + before_of k a target actor s

      queue_parts : (y : Key) (whose : From) (n id : ℕ) → 1 ≤ count_queue y target (note.Queued whose n id) → (id == target ≡ true) × (1 ≤ past y whose n)
      queue_parts y whose n id h = cond_part (id == target) (past y whose n) h

      -- the front of its inbox is this one
      front_is : (y : Key) (whose : From) (n id : ℕ) (f : FromBox w (box_at s.shared.boxes w.id) whose n id) → 1 ≤ count_queue y target (note.Queued whose n id) → 1 ≤ parceled y target f.parcel
      front_is y whose n id f h =
          let parts = queue_parts y whose n id h in
          let hit : 1 ≤ parcel_hit y f.parcel = subst (λ m. 1 ≤ past y (source_of f.parcel.from) m) f.number_is (subst (λ o. 1 ≤ past y o n) f.from_is parts.1) in
          let yes = parts.0 in
          rw (f.to_is, yes) hit

      box_here : w.id == actor ≡ true → (whose : From) (n id : ℕ) (f : FromBox w (box_at s.shared.boxes w.id) whose n id) → box_at s.shared.boxes actor ≡ f.parcel ∷ f.rest
      box_here is whose n id f = ap (λ i. box_at s.shared.boxes i) (sym (eqb-true w.id actor is)) ∙ f.box_is

      none_before : (boxed_of k a target actor k s ≡ 0) ⊎ (before_of k a target actor s ≡ 0) → 1 ≤ boxed_of k a target actor k s → before_of k a target actor s ≡ 0
      none_before (inl none) some = absurd (omega (arith, none, some))
      none_before (inr none) some = none

      none_boxed : (boxed_of k a target actor ka t ≤ boxed_of k a target actor ka s) ⊎ (1 ≤ before_of k a target actor s) → boxed_of k a target actor ka s ≡ 0 → before_of k a target actor s ≡ 0 → Later
      none_boxed (inl less) box before = omega (arith, less, box, before, down)
      none_boxed (inr some) box before = absurd (omega (arith, some, before))

      other_one : (parcel : Parcel) → 1 ≤ parceled k target parcel → parceled ka target parcel ≡ 0
      other_one parcel some = elim (zero_or (parceled ka target parcel)) [
        | inl none ↦ none
        | inr both ↦ (
            let one = (hit_parts k (source_of parcel.from) parcel.n (cond_part (to_target target parcel.to) (parcel_hit k parcel) some).1).1 in
            let two = (hit_parts ka (source_of parcel.from) parcel.n (cond_part (to_target target parcel.to) (parcel_hit ka parcel) both).1).1 in
            absurd (omega (arith, one, two, earlier_is)))
      ]

      queue_later : BoxShifts s t → w.id == actor ≡ true → (whose : From) (n id : ℕ) → FromBox w (box_at s.shared.boxes w.id) whose n id ⊎ FromPort w whose n → 1 ≤ count_queue k target (note.Queued whose n id) → Later
      queue_later b is whose n id (inl f) h =
          let some = front_is k whose n id f h in
          let box = box_here is whose n id f in
          let all = ap (of_box k) box in
          let before = none_before r.lined.boxed (omega (arith, all, some)) in
          let ordered : ranks_box (f.parcel ∷ f.rest) ≡ 0 = ap ranks_box (sym box) ∙ r.lined.box_tidy in
          let others = behind_front (parceled ka target) (parceled k target) f.parcel f.rest some ordered in
          let first = other_one f.parcel some in
          let sooner = ap (of_box ka) box in
          none_boxed b.earlier (omega (arith, sooner, others, first)) before
      queue_later b is whose n id (inr f) h =
          let parts = queue_parts k whose n id h in
          let hit : 1 ≤ past k (source.Port f.p.tunnel) f.p.received = subst (λ m. 1 ≤ past k (source.Port f.p.tunnel) m) f.number_is (subst (λ o. 1 ≤ past k o n) f.from_is parts.1) in
          let before = port_none_left k a earlier_is s number w f.h f.p x.at f.among f.there r.few hit in
          let from_port = (hit_parts k (source.Port f.p.tunnel) f.p.received hit).0 in
          let none = total_zero (parceled ka target) (box_at t.shared.boxes actor) (λ parcel.
          let zero_is = no_parcel ka f.p.tunnel parcel.from parcel.n from_port in
          let less = cond_fewer (to_target target parcel.to) (parcel_hit ka parcel) in
          omega (arith, zero_is, less)) in
          omega (arith, before, down, none)

      queue_earlier : w.id == actor ≡ true → (whose : From) (n id : ℕ) → FromBox w (box_at s.shared.boxes w.id) whose n id ⊎ FromPort w whose n → 1 ≤ count_queue ka target (note.Queued whose n id) → Earlier
      queue_earlier is whose n id (inl f) h =
          let some = front_is ka whose n id f h in
          let all = ap (of_box ka) (box_here is whose n id f) in
          omega (arith, some, all)
      queue_earlier is whose n id (inr f) h =
          let parts = queue_parts ka whose n id h in
          let hit : 1 ≤ past ka (source.Port f.p.tunnel) f.p.received = subst (λ m. 1 ≤ past ka (source.Port f.p.tunnel) m) f.number_is (subst (λ o. 1 ≤ past ka o n) f.from_is parts.1) in
          let some = port_least k a earlier_is s number w f.h f.p x.at f.among f.there hit in
          omega (arith, some)

      said_later : BoxShifts s t → w.id == actor ≡ true → (m : Note) → QueuesOf w (box_at s.shared.boxes w.id) m → 1 ≤ count_queue k target m → Later
      said_later b is (note.Queued whose n id) q h = queue_later b is whose n id q h
      said_later b is m q h = absurd (omega (arith, h))

      said_earlier : w.id == actor ≡ true → (m : Note) → QueuesOf w (box_at s.shared.boxes w.id) m → 1 ≤ count_queue ka target m → Earlier
      said_earlier is (note.Queued whose n id) q h = queue_earlier is whose n id q h
      said_earlier is m q h = absurd (omega (arith, h))

      says : Says w (box_at s.shared.boxes w.id) said
      says = seat_says w s.shared x.turn.seat x.answer said x.next x.shared x.turn.next

      waits_shift : BoxShifts s t → WaitShifts s t
      waits_shift b =
          let later_sum = turn_sum (count_measure k target) (here k a target actor) (λ h among. takes_count k target h.conn.tunnels) in
          let sooner_sum = turn_sum (count_measure ka target) (here k a target actor) (λ h among. takes_count ka target h.conn.tunnels) in
          let most = waiting_of k a target actor k s in
          let ranked = rank_sum in
          record {
            later = elim (zero_or (cond (w.id == actor) (count_queue k target said) 0)) [
              | inl none ↦ inl (omega (arith, later_sum, none))
              | inr some ↦ (let parts = cond_part (w.id == actor) (count_queue k target said) some in inr (said_later b parts.0 said says.0 parts.1))
            ];
            ranks = elim (zero_or (cond (w.id == actor) (rank_queue k a target most said) 0)) [
              | inl none ↦ inl (omega (arith, ranked, none))
              | inr some ↦ (
                  let parts = cond_part (w.id == actor) (rank_queue k a target most said) some in
                  let one = cond_fewer (w.id == actor) (rank_queue k a target most said) in
                  let two = rank_few most said in
                  inr (said_earlier parts.0 said says.0 (rank_part most said parts.1), omega (arith, ranked, one, two)))
            ];
            earlier = elim (zero_or (cond (w.id == actor) (count_queue ka target said) 0)) [
              | inl none ↦ inl (omega (arith, sooner_sum, none))
              | inr some ↦ (let parts = cond_part (w.id == actor) (count_queue ka target said) some in inr (said_earlier parts.0 said says.0 parts.1))
            ];
          }

      -- ---- the inboxes

      boxes_now : t.shared.boxes ≡ x.shared.boxes
      boxes_now = ap (λ (u : Shared). u.boxes) now

      held_shift : (h : Held) → Among h w.conns → HeldBoxes h s.shared x.shared → BoxShifts s t
      held_shift h among (inl same) = boxes_same s t (boxes_now ∙ same)
      held_shift h among (inr (parcel, p, pushes)) =
          let good = neat_h h among in
          let allows : Allows s parcel = (λ some. push_none_left k a earlier_is s number w h parcel x.at among p good.tidy_is good.sound.once r.own some, λ some. push_least k a earlier_is s number w h parcel x.at among p some) in
          box_pushed s t parcel down allows (subst (λ boxes. BoxPushed s.shared.boxes boxes actor parcel) (sym (boxes_now ∙ pushes.is)) (pushed_box s.shared.boxes (inbox_of s.shared.boxes parcel.to) actor parcel))

      seat_shift : (seat : Seat) → SeatNext w s.shared seat x.answer said x.next x.shared → BoxShifts s t
      seat_shift Offers y = boxes_same s t (boxes_now ∙ ap (λ (u : Shared). u.boxes) y.2)
      seat_shift Inbox y =
          let is = boxes_now ∙ ap (λ (u : Shared). u.boxes) y.1.after_is in
          box_popped s t w.id y.1.parcel y.1.rest (subst (λ boxes. BoxPopped s.shared.boxes boxes w.id actor y.1.parcel y.1.rest) (sym is) (popped_box s.shared.boxes w.id actor y.1.parcel y.1.rest y.1.box))
      seat_shift (Of n) y =
          let among = found_among (λ (h : Held). h.conn.number == n) w.conns y.held y.has in
          held_shift y.held among (try_boxes w.setup y.held s.shared y.try x.answer said y.became x.shared y.tries y.next)

      pub worker_shifts : Shifts k a target actor s t
      worker_shifts = let b = seat_shift x.turn.seat x.turn.next in shifts_of s t down b (waits_shift b)
