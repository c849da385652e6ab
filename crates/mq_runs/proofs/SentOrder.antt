-- The payloads of an origin are sent by rising numbers.
use Rattle.std.proofs.Common.{◌≡◌, ◌≤◌, ◌<◌, ◌+◌, ◌⊎◌, ℕ, Bool, true, false, cond, List, [], ◌∷◌, ◌++◌, length, slice_get, slice_set, Option, Some, None, refl, sym, subst, ap, ◌∙◌, arith, inl, inr}
use Rattle.std.specs.Prelude.{◌==◌}
use Rattle.std.specs.List.{AllByRecursion}
use Rattle.std.specs.Option.{unwrap_or}
use Rattle.mq_capsule.specs.Laws.{IsReadable, IsReadOnce}
use Rattle.mq_talk.specs.declared.note.From.{From}
use Rattle.mq_talk.specs.declared.note.From.TheVariants as source
use Rattle.mq_talk.specs.declared.note.Note.{Note}
use Rattle.mq_talk.specs.declared.note.Note.TheVariants as note
use Rattle.mq_talk.specs.declared.place.Origin.TheVariants as origin
use Rattle.mq_talk.specs.declared.place.Parcel.{Parcel}
use Rattle.mq_talk.specs.Mails.{box_at}
use Rattle.mq_machine.specs.declared.act.StreamAct.TheVariants as stream
use Rattle.mq_machine.specs.declared.event.Event.{Event}
use Rattle.mq_machine.specs.declared.event.Event.TheVariants as event
use Rattle.mq_machine.specs.Lawful.{StaysLawful}
use Rattle.mq_machine.specs.State.{Tunnel, Held, Worker, Shared, State, kind_of}
use Rattle.mq_machine.specs.Turn.{source_of, last_of, Actor, WorkerOf, ThePump, Turn}
use Rattle.mq_play.specs.declared.plan.Plan.{Plan}
use Rattle.mq_play.specs.Events.{state_of, happen}
use Rattle.mq_play.proofs.Lists.{each_at}
use Rattle.mq_runs.specs.Ends.{is_same, IsCounted}
use Rattle.mq_runs.specs.Order.{sent_of, IsRising}
use Rattle.mq_runs.specs.Runs.{Moment, Happened, Noted, Refused, Goes, Run, notes_of}
use Rattle.mq_runs.proofs.Bounds.{hit_parts, push_least, hand_least, push_none_left, hand_none_left, put_none_left, put_least, own_not_net}
use Rattle.mq_runs.proofs.Boxes.{PushFront, HoldsNet, starves_boxes, happen_boxes}
use Rattle.mq_runs.proofs.Bridge.{run_append, notes_append}
use Rattle.mq_runs.proofs.Flight.{Key, past, is_own, end_of}
use Rattle.mq_runs.proofs.Measures.{sum_worker, sum_if, sum_state}
use Rattle.mq_runs.proofs.Moving.{parcel_hit, in_boxes}
use Rattle.mq_runs.proofs.Order.{Good, first_good, good_goes, quiet_sum, down_by, past_self, part_of, same_self, same_from, le_or, each_of, empty_box}
use Rattle.mq_runs.proofs.Pumps.{in_hand}
use Rattle.mq_runs.proofs.Ranks.{behind, behind_front, zero_or, Among, found_among, at_among, among_less, none_total, only_one}
use Rattle.mq_runs.proofs.Sending.{Puts, puts_among, seat_puts, pump_puts}
use Rattle.mq_runs.proofs.Sends.{udp_of, udp_measure, takes_udp, asked_kind, ip_kind, udp_kind, box_part, SeatBoxes, seat_boxes, sooner, at_last, held_of, unpushed, pushed_of, udp_in, Queue, BoxMoves, HandMoves, boxes_same, Allows, boxes_pushed, boxes_popped, hand_same, queue_on, Unsent, unsent_on}
use Rattle.mq_runs.proofs.Shifting.{all_among}
use Rattle.mq_runs.proofs.Sums.{total, total_append, total_zero}
use Rattle.mq_runs.proofs.Tidy.{Neat}
use Rattle.mq_runs.proofs.Tokens.{own_measure, own_book}
use Rattle.mq_runs.proofs.Whole.{none_boxed, ends_are, one_end}
use Rattle.mq_runs.proofs.Workers.{box_sum}

book_not_net : (f : From) (n : ℕ) → is_same source.Net f ≡ true → own_book f n ≡ 0
book_not_net (source.Tunnel t) n h = absurd cc
book_not_net source.Net n h = refl
book_not_net (source.Port t) n h = absurd cc

happen_hand : (s : State) (e : Event) → (happen s e).pump.to_send ≡ s.pump.to_send
happen_hand s (event.Conn x) = refl
happen_hand s (event.Piece conn bytes) = refl
happen_hand s (event.End conn) = refl
happen_hand s (event.Room conn room) = refl
happen_hand s (event.FailRead conn) = refl
happen_hand s (event.FailWrite conn) = refl
happen_hand s (event.Datagram tunnel bytes) = refl
happen_hand s (event.FailPort tunnel) = refl
happen_hand s event.FailBind = refl
happen_hand s event.FailNet = refl
happen_hand s (event.Packet count bytes) = refl
happen_hand s (event.Step x) = refl

module _ (stays : StaysLawful) (k : Key) (whole : k.to_the_end ≡ true) (is_counted : IsCounted k.from k.number) (a : ℕ) (earlier_is : a < k.number) (last : ℕ) where
  abbrev ka : Key
  ka = sooner k a last

  abbrev G : State → Type 0
  G s = Good stays k whole is_counted a earlier_is 0 0 s

  record Both (s : State) : Type 0 where
    good : G s
    queue : Queue k a last s

  -- a parcel of the later one isn't one of the earlier one
  other_hit : (parcel : Parcel) → 1 ≤ parcel_hit k parcel → parcel_hit ka parcel ≡ 0
  other_hit parcel some = elim (zero_or (parcel_hit ka parcel)) [
    | inl none ↦ none
    | inr both ↦ (
        let one = (hit_parts k (source_of parcel.from) parcel.n some).1 in
        let two = (hit_parts ka (source_of parcel.from) parcel.n both).1 in
        absurd (omega (arith, one, two, earlier_is)))
  ]

  -- ---- no tunnel for UDP has what was pushed

  net_none : (s : State) → is_same source.Net k.from ≡ true → udp_in k a last s ≡ 0
  net_none s is =
      let workers = total_zero (sum_if (udp_measure k) (λ id. true)) s.workers (λ w. total_zero (λ (h : Held). total (λ (t : Tunnel). cond (is_own k t.id) (cond (udp_of (kind_of t.goal)) 1 0) 0) h.conn.tunnels) w.conns
      (λ h. total_zero (λ (t : Tunnel). cond (is_own k t.id) (cond (udp_of (kind_of t.goal)) 1 0) 0) h.conn.tunnels (λ t. let other = own_not_net k.from t.id is in rw other refl))) in
      let book = book_not_net k.from (length s.shared.book) is in
      omega (arith, workers, book)

  ip_none : (s : State) (number : ℕ) (w : Worker) (h : Held) (t : Tunnel) → slice_get s.workers number ≡ Some w → Among h w.conns → Among t h.conn.tunnels → is_own k t.id ≡ true → udp_of (kind_of t.goal) ≡ false
      → sum_state (own_measure k) (λ id. true) s ≤ 1 → udp_in k a last s ≡ 0
  ip_none s number w h t at among there own ip unique =
      let m = own_measure k in
      let of : Tunnel → ℕ = λ (u : Tunnel). cond (is_own k u.id) 1 0 in
      let udp : Tunnel → ℕ = λ (u : Tunnel). cond (is_own k u.id) (cond (udp_of (kind_of u.goal)) 1 0) 0 in
      let one : of t ≡ 1 = rw own refl in
      let none : udp t ≡ 0 = rw own (rw ip refl) in
      let in_h = among_less of h.conn.tunnels t there in
      let in_w = among_less (λ (g : Held). total of g.conn.tunnels) w.conns h among in
      let in_s = among_less (sum_worker m) s.workers w (at_among s.workers number w at) in
      let workers = only_one (sum_worker (udp_measure k)) (sum_worker m) s.workers w (at_among s.workers number w at) (omega (arith, one, in_h, in_w)) (omega (arith, unique)) worker_none in
      let helds = only_one (λ (g : Held). total udp g.conn.tunnels) (λ (g : Held). total of g.conn.tunnels) w.conns h among (omega (arith, one, in_h)) (omega (arith, in_s, unique)) held_none in
      let tunnels = only_one udp of h.conn.tunnels t there (omega (arith, one)) (omega (arith, in_w, in_s, unique)) tunnel_none in
      omega (arith, workers, helds, tunnels, none, unique, one, in_h, in_w, in_s)
    where
      tunnel_none : (u : Tunnel) → ◌≡◌ {A = ℕ} (cond (is_own k u.id) 1 0) 0 → ◌≡◌ {A = ℕ} (cond (is_own k u.id) (cond (udp_of (kind_of u.goal)) 1 0) 0) 0
      tunnel_none u e = by_own (is_own k u.id) e where
        by_own : (b : Bool) → ◌≡◌ {A = ℕ} (cond b 1 0) 0 → ◌≡◌ {A = ℕ} (cond b (cond (udp_of (kind_of u.goal)) 1 0) 0) 0
        by_own true e = absurd (omega (arith, e))
        by_own false e = refl

      held_none : (g : Held) → total (λ (u : Tunnel). cond (is_own k u.id) 1 0) g.conn.tunnels ≡ 0 → total (λ (u : Tunnel). cond (is_own k u.id) (cond (udp_of (kind_of u.goal)) 1 0) 0) g.conn.tunnels ≡ 0
      held_none g e = none_total (λ (u : Tunnel). cond (is_own k u.id) (cond (udp_of (kind_of u.goal)) 1 0) 0) (λ (u : Tunnel). cond (is_own k u.id) 1 0) g.conn.tunnels tunnel_none e

      worker_none : (y : Worker) → sum_worker (own_measure k) y ≡ 0 → sum_worker (udp_measure k) y ≡ 0
      worker_none y e =
          none_total (λ (g : Held). total (λ (u : Tunnel). cond (is_own k u.id) (cond (udp_of (kind_of u.goal)) 1 0) 0) g.conn.tunnels) (λ (g : Held). total (λ (u : Tunnel). cond (is_own k u.id) 1 0) g.conn.tunnels) y.conns held_none e

  -- ---- a step

  neat_at : (s : State) (number : ℕ) (w : Worker) (h : Held) → G s → slice_get s.workers number ≡ Some w → Among h w.conns → Neat k a earlier_is stays (length s.shared.book) h.conn
  neat_at s number w h g at among =
      all_among (λ (h : Held). Neat k a earlier_is stays (length s.shared.book) h.conn) w.conns h
      (each_at (λ (w : Worker). AllByRecursion (λ (h : Held). Neat k a earlier_is stays (length s.shared.book) h.conn) w.conns) s.workers number w g.ready.neat at) among

  push_allows : (s : State) (number : ℕ) (w : Worker) (h : Held) (parcel : Parcel) → G s → slice_get s.workers number ≡ Some w → Among h w.conns → PushFront h.conn parcel → Allows k a last s parcel
  push_allows s number w h parcel g at among p =
      let n = neat_at s number w h g at among in (
        λ some. push_none_left k a earlier_is s number w h parcel at among p n.tidy_is n.sound.once g.ready.own some,
        λ some.
            let f = p.front in
            let now : 1 ≤ past ka (source.Tunnel f.t.id) p.n = subst (λ (q : Parcel). 1 ≤ parcel_hit ka q) p.is some in
            let own = (hit_parts ka (source.Tunnel f.t.id) p.n now).0 in
            let there = found_among (λ (t : Tunnel). t.stream == f.on) h.conn.tunnels f.t f.serves in
            let ip = ip_kind (kind_of f.t.goal) (asked_kind h.conn (stream.Push p.n p.to p.packet) f n.sound.lawful).0 in
            (push_least k a earlier_is s number w h parcel at among p some, ip_none s number w h f.t at among there own ip g.ready.own),
      )

  hand_allows : (s : State) (parcel : Parcel) → G s → s.pump.to_push ≡ Some parcel → Allows k a last s parcel
  hand_allows s parcel g is =
      let net : parcel.from ≡ origin.Net = subst HoldsNet is g.ready.hand in (
        λ some. hand_none_left k a earlier_is s parcel is net g.ready.few some,
        λ some.
            let now : 1 ≤ past ka source.Net parcel.n = subst (λ o. 1 ≤ past ka (source_of o) parcel.n) net some in
            (hand_least k a earlier_is s parcel is net some, net_none s (hit_parts ka source.Net parcel.n now).0),
      )

  seat_moves : (s t : State) (number : ℕ) (w : Worker) (after : Shared) → G s → slice_get s.workers number ≡ Some w → t.shared.boxes ≡ after.boxes → SeatBoxes w s.shared after → BoxMoves k a last s t
  seat_moves s t number w after g at now (inl same) = boxes_same k a last s t (now ∙ same)
  seat_moves s t number w after g at now (inr (inl (h, parcel, among, p, pushes))) = boxes_pushed k a last s t parcel (push_allows s number w h parcel g at among p) (now ∙ pushes.is)
  seat_moves s t number w after g at now (inr (inr (parcel, rest, has, is))) = boxes_popped k a last s t w.id parcel rest has (now ∙ is)

  -- the first of the pump's inbox
  module _ (s t : State) (g : G s) (q : Queue k a last s) (parcel : Parcel) (rest : List Parcel) (at : slice_get s.shared.boxes (last_of s.shared.boxes) ≡ Some (parcel ∷ rest)) where
    box_is : box_at s.shared.boxes last ≡ parcel ∷ rest
    box_is = ap (λ i. box_at s.shared.boxes i) (sym q.last_is) ∙ ap (λ (o : Option (List Parcel)). unwrap_or o []) at

    -- where it is the later one, the earlier one isn't before it
    front_later : 1 ≤ parcel_hit k parcel → (at_last k a last ka s ≡ 0) × (unpushed k a last s ≡ 0)
    front_later some =
        let all = ap (λ box. total (parcel_hit k) box) box_is in
        let before = by_boxed q.boxed (omega (arith, all, some)) in
        let ordered : behind (parcel_hit ka) (parcel_hit k) (parcel ∷ rest) ≡ 0 = ap (λ box. behind (parcel_hit ka) (parcel_hit k) box) (sym box_is) ∙ q.tidy in
        let others = behind_front (parcel_hit ka) (parcel_hit k) parcel rest some ordered in
        let mine = other_hit parcel some in
        let early_all = ap (λ box. total (parcel_hit ka) box) box_is in
        (omega (arith, early_all, others, mine), before)
      where
        by_boxed : (at_last k a last k s ≡ 0) ⊎ (unpushed k a last s ≡ 0) → 1 ≤ at_last k a last k s → unpushed k a last s ≡ 0
        by_boxed (inl none) some = absurd (omega (arith, none, some))
        by_boxed (inr none) some = none

    front_early : 1 ≤ parcel_hit ka parcel → 1 ≤ at_last k a last ka s
    front_early some = let all = ap (λ box. total (parcel_hit ka) box) box_is in omega (arith, all, some)

    taken : (is : t.shared.boxes ≡ slice_set s.shared.boxes (last_of s.shared.boxes) rest) → (down : unpushed k a last t ≤ unpushed k a last s) → (t.pump.to_send ≡ None) ⊎ (t.pump.to_send ≡ Some parcel) → HandMoves k a last s t
    taken is down (inl none) =
        let one = ap (in_hand k) none in
        let two = ap (in_hand ka) none in
        let four = ap (in_boxes ka) is in
        let sum = box_sum ka s.shared.boxes (last_of s.shared.boxes) parcel rest at in
        record { later = inl (omega (arith, one)); earlier = inl (omega (arith, two)); all = inl (omega (arith, two, four, sum)) }
    taken is down (inr some) =
        let one = ap (in_hand k) some in
        let two = ap (in_hand ka) some in
        let four = ap (in_boxes ka) is in
        let sum = box_sum ka s.shared.boxes (last_of s.shared.boxes) parcel rest at in
        let moves = boxes_popped k a last s t (last_of s.shared.boxes) parcel rest at is in
        record {
          later = elim (zero_or (parcel_hit k parcel)) [
            | inl nothing ↦ inl (omega (arith, one, nothing))
            | inr hits ↦ (let f = front_later hits in let box = f.0 in let before = f.1 in inr (gone_by moves.earlier box before))
          ];
          earlier = elim (zero_or (parcel_hit ka parcel)) [
            | inl nothing ↦ inl (omega (arith, two, nothing))
            | inr hits ↦ inr (front_early hits)
          ];
          all = inl (omega (arith, two, four, sum));
        }
      where
        gone_by : (at_last k a last ka t ≤ at_last k a last ka s) ⊎ (1 ≤ unpushed k a last s) → at_last k a last ka s ≡ 0 → unpushed k a last s ≡ 0 → at_last k a last ka t + unpushed k a last t ≡ 0
        gone_by (inl less) box before = omega (arith, less, box, before, down)
        gone_by (inr hits) box before = absurd (omega (arith, hits, before))

  hand_kept : (s t : State) (parcel : Parcel) → s.pump.to_send ≡ Some parcel → (t.pump.to_send ≡ None) ⊎ (t.pump.to_send ≡ Some parcel) → HandMoves k a last s t
  hand_kept s t parcel was (inl none) =
      let one = ap (in_hand k) none in
      let two = ap (in_hand ka) none in
      record { later = inl (omega (arith, one)); earlier = inl (omega (arith, two)); all = inr (omega (arith, two)) }
  hand_kept s t parcel was (inr same) = hand_same k a last s t (same ∙ sym was)

  either_hand : {P : Type 0} (t : State) (o : Option Parcel) (parcel : Parcel) → t.pump.to_send ≡ o → (o ≡ None) ⊎ ((o ≡ Some parcel) × P) → (t.pump.to_send ≡ None) ⊎ (t.pump.to_send ≡ Some parcel)
  either_hand t o parcel now (inl none) = inl (now ∙ none)
  either_hand t o parcel now (inr some) = inr (now ∙ some.0)

  record Moves (s t : State) : Type 0 where
    box : BoxMoves k a last s t
    hand : HandMoves k a last s t

  module _ (s t : State) (b : Both s) where
    down_of : (m : Moment) → Goes s m t → unpushed k a last t ≤ unpushed k a last s
    down_of m x = down_by stays k whole is_counted a earlier_is 0 0 s t b.good m x

    udp_down : (m : Moment) → Goes s m t → udp_in k a last t ≤ udp_in k a last s
    udp_down m x = quiet_sum stays k whole is_counted a earlier_is 0 0 s t b.good (udp_measure k) (λ id. true) m x (takes_udp k) (λ said. refl)

    moves_by : (m : Moment) → Goes s m t → Moves s t
    moves_by (Happened e) x = record {
      box = boxes_same k a last s t (ap (λ (u : State). u.shared.boxes) x.1 ∙ happen_boxes s e);
      hand = hand_same k a last s t (ap (λ (u : State). u.pump.to_send) x.1 ∙ happen_hand s e);
    }
    moves_by (Refused (WorkerOf number) reached) x = record {
      box = boxes_same k a last s t (ap (λ (u : State). u.shared.boxes) x.new_is ∙ ap (λ (u : Shared). u.boxes) x.after_is ∙ starves_boxes x.worker s.shared x.starves.seat reached x.answer x.next x.shared x.starves.starves);
      hand = hand_same k a last s t (ap (λ (u : State). u.pump.to_send) x.new_is);
    }
    moves_by (Refused ThePump reached) x = record {
      box = boxes_same k a last s t (ap (λ (u : State). u.shared.boxes) x.2);
      hand = hand_same k a last s t (ap (λ (u : State). u.pump.to_send) x.2);
    }
    moves_by (Noted (WorkerOf number) said) x = record {
      box = seat_moves s t number x.worker x.shared b.good x.at (ap (λ (u : State). u.shared.boxes) x.new_is ∙ ap (λ (u : Shared). u.boxes) x.after_is)
          (seat_boxes x.worker s.shared x.turn.seat x.answer said x.next x.shared x.turn.next);
      hand = hand_same k a last s t (ap (λ (u : State). u.pump.to_send) x.new_is);
    }
    moves_by (Noted ThePump said) x =
        let did = pump_puts s.pump s.shared x.turn.try (said, x.pump, x.shared) x.turn.is in
        let boxes = ap (λ (u : State). u.shared.boxes) x.new_is in
        let hand = ap (λ (u : State). u.pump.to_send) x.new_is in
        elim did [
          | inl keeps ↦ record {
            box = elim keeps.boxes [
              | inl same ↦ boxes_same k a last s t (boxes ∙ same)
              | inr (parcel, is, pushes) ↦ boxes_pushed k a last s t parcel (hand_allows s parcel b.good is) (boxes ∙ pushes.is)
            ];
            hand = hand_same k a last s t (hand ∙ keeps.hand);
          }
          | inr tries ↦ elim tries.was [
            | inl (was, same) ↦ record {
              box = boxes_same k a last s t (boxes ∙ same);
              hand = hand_kept s t tries.parcel was (either_hand t x.pump.to_send tries.parcel hand tries.hand);
            }
            | inr (rest, at, is) ↦ record {
              box = boxes_popped k a last s t (last_of s.shared.boxes) tries.parcel rest at (boxes ∙ is);
              hand = taken s t b.good b.queue tries.parcel rest at (boxes ∙ is) (down_of (Noted ThePump said) x) (either_hand t x.pump.to_send tries.parcel hand tries.hand);
            }
          ]
        ]

    both_goes : (m : Moment) → Goes s m t → Both t
    both_goes m x =
        let moves = moves_by m x in
        record { good = good_goes stays k whole is_counted a earlier_is 0 0 s t b.good m x; queue = queue_on k a last s t (down_of m x) (udp_down m x) moves.box moves.hand b.queue }

    unsent_goes : (m : Moment) → Goes s m t → Unsent k a last s → Unsent k a last t
    unsent_goes m x u = let moves = moves_by m x in unsent_on k a last s t (down_of m x) moves.box moves.hand u

    -- ---- the later one is sent

    own_is : (f : From) (id : ℕ) → f ≡ source.Tunnel id → is_same (source.Tunnel id) f ≡ true
    own_is f id e = subst (λ g. is_same g f ≡ true) e (same_self f)

    hit_is : (y : Key) (parcel : Parcel) → y.to_the_end ≡ true → y.from ≡ source_of parcel.from → y.number ≡ parcel.n → parcel_hit y parcel ≡ 1
    hit_is y parcel end from_is number_is = ap (λ o. past y o parcel.n) (sym from_is) ∙ ap (λ n. past y y.from n) (sym number_is) ∙ past_self y end

    sent_later : (who : Actor) (packet : List ℕ) → Turn s who (note.Sent k.from k.number packet) t → Unsent k a last t
    sent_later (WorkerOf number) packet x =
        let w = x.worker in
        let p : Puts w k.from k.number packet = seat_puts w s.shared x.turn.seat x.answer (note.Sent k.from k.number packet) x.next x.shared x.turn.next in
        let f = p.front in
        let among = puts_among w k.from k.number packet p in
        let n = neat_at s number w p.h b.good x.at among in
        let own = own_is k.from f.t.id p.from_is in
        let there = found_among (λ (t : Tunnel). t.stream == f.on) p.h.conn.tunnels f.t f.serves in
        let before = put_none_left k a earlier_is s number w p.h k.number packet f x.at among n.tidy_is n.sound.once b.good.ready.own own refl in
        let udp = udp_kind (kind_of f.t.goal) (asked_kind p.h.conn (stream.Payload k.number packet) f n.sound.lawful) in
        let part = part_of (udp_measure k) (λ id. true) s number w p.h f.t x.at among there refl in
        let one : ◌≡◌ {A = ℕ} (cond (is_own k f.t.id) (cond (udp_of (kind_of f.t.goal)) 1 0) 0) 1 = rw own (rw udp refl) in
        let none = by_kind b.queue.kind (omega (arith, part, one)) in
        let box = box_part ka s.shared.boxes last in
        unsent_goes (Noted (WorkerOf number) (note.Sent k.from k.number packet)) x (record { hand = omega (arith, none); boxed = omega (arith, none, box); before = before })
      where
        by_kind : (udp_in k a last s ≡ 0) ⊎ (pushed_of k a last s ≡ 0) → 1 ≤ udp_in k a last s → pushed_of k a last s ≡ 0
        by_kind (inl none) some = absurd (omega (arith, none, some))
        by_kind (inr none) some = none
    sent_later ThePump packet x =
        let did = pump_puts s.pump s.shared x.turn.try (note.Sent k.from k.number packet, x.pump, x.shared) x.turn.is in
        let boxes = ap (λ (u : State). u.shared.boxes) x.new_is in
        let hand = ap (λ (u : State). u.pump.to_send) x.new_is in
        let m = Noted ThePump (note.Sent k.from k.number packet) in
        elim did [
          | inl keeps ↦ absurd keeps.unsent
          | inr tries ↦ (
              let hit = hit_is k tries.parcel whole tries.said.0 tries.said.1 in
              let other = other_hit tries.parcel (omega (arith, hit)) in
              elim tries.was [
                | inl (was, same) ↦ (
                    let held = ap (in_hand k) was in
                    let early_held = ap (in_hand ka) was in
                    let none = by_hand b.queue.hand (omega (arith, held, hit)) in
                    unsent_goes m x (record { hand = omega (arith, early_held, other); boxed = omega (arith, none); before = omega (arith, none) }))
                | inr (rest, at, is) ↦ (
                    let first = front_later s t b.good b.queue tries.parcel rest at (omega (arith, hit)) in
                    let moves = boxes_popped k a last s t (last_of s.shared.boxes) tries.parcel rest at (boxes ∙ is) in
                    let down = down_of m x in
                    let box = first.0 in
                    let before = first.1 in
                    let gone = elim tries.hand as (λ h. in_hand ka x.pump.to_send ≡ 0) [ inl none ↦ ap (in_hand ka) none | inr some ↦ absurd some.1 ] in
                    let now = ap (in_hand ka) hand in
                    record { hand = omega (arith, gone, now); boxed = less_by moves.earlier box before; before = omega (arith, down, before) })
              ])
        ]
      where
        by_hand : (held_of k a last k s ≡ 0) ⊎ (at_last k a last ka s + unpushed k a last s ≡ 0) → 1 ≤ held_of k a last k s → at_last k a last ka s + unpushed k a last s ≡ 0
        by_hand (inl none) some = absurd (omega (arith, none, some))
        by_hand (inr none) some = none

        less_by : (at_last k a last ka t ≤ at_last k a last ka s) ⊎ (1 ≤ unpushed k a last s) → at_last k a last ka s ≡ 0 → unpushed k a last s ≡ 0 → at_last k a last ka t ≡ 0
        less_by (inl less) box before = omega (arith, less, box)
        less_by (inr some) box before = absurd (omega (arith, some, before))

    -- so the earlier one isn't
    sent_not : (who : Actor) (packet : List ℕ) → Unsent k a last s → Turn s who (note.Sent k.from a packet) t → ⊥
    sent_not (WorkerOf number) packet u x =
        let w = x.worker in
        let p : Puts w k.from a packet = seat_puts w s.shared x.turn.seat x.answer (note.Sent k.from a packet) x.next x.shared x.turn.next in
        let own = own_is k.from p.front.t.id p.from_is in
        let some = put_least k a earlier_is s number w p.h packet p.front x.at (puts_among w k.from a packet p) own in
        let before = u.before in
        omega (arith, some, before)
    sent_not ThePump packet u x =
        let did = pump_puts s.pump s.shared x.turn.try (note.Sent k.from a packet, x.pump, x.shared) x.turn.is in
        elim did [
          | inl keeps ↦ keeps.unsent
          | inr tries ↦ (
              let hit = hit_is ka tries.parcel whole tries.said.0 tries.said.1 in
              elim tries.was [
                | inl (was, same) ↦ (let held = ap (in_hand ka) was in let none = u.hand in omega (arith, held, hit, none))
                | inr (rest, at, is) ↦ (let some = front_early s t b.good b.queue tries.parcel rest at (omega (arith, hit)) in let none = u.boxed in omega (arith, some, none))
              ])
        ]

  -- ---- in what follows

  both_run : (ms : List Moment) (s t : State) → Both s → Run s ms t → Both t
  both_run [] s t b x = subst Both (sym x) b
  both_run (m ∷ ms) s t b x = both_run ms x.0 t (both_goes s x.0 b m x.1) x.2

  noted_run : (s t : State) (who : Actor) (whose : From) (n : ℕ) (packet : List ℕ) (rest : List ℕ) (c : Bool) → is_same whose k.from ≡ c → Both s → Unsent k a last s → Turn s who (note.Sent whose n packet) t
      → (Among a rest → ⊥) → Among a (cond c (n ∷ rest) rest) → ⊥
  noted_run s t who whose n packet rest true is b u x later (inr more) = later more
  noted_run s t who whose n packet rest false is b u x later more = later more
  noted_run s t who whose n packet rest true is b u x later (inl same) =
      let P : From → Type 0 = λ o. Turn s who (note.Sent o n packet) t in
      let Q : ℕ → Type 0 = λ m. Turn s who (note.Sent k.from m packet) t in
      sent_not s t b who packet u (subst Q same (subst P (same_from whose k.from is) x))

  unsent_note : (s t : State) (who : Actor) (said : Note) (notes : List Note) → Both s → Unsent k a last s → Turn s who said t → (Among a (sent_of k.from notes) → ⊥) → Among a (sent_of k.from (said ∷ notes)) → ⊥
  unsent_note s t who (note.Sent whose n packet) notes b u x later among = noted_run s t who whose n packet (sent_of k.from notes) (is_same whose k.from) refl b u x later among
  unsent_note s t who said notes b u x later among = later among

  unsent_run : (ms : List Moment) (s end : State) → Both s → Unsent k a last s → Run s ms end → Among a (sent_of k.from (notes_of ms)) → ⊥
  unsent_run [] s end b u x among = among
  unsent_run (Happened e ∷ ms) s end b u x among = unsent_run ms x.0 end (both_goes s x.0 b (Happened e) x.1) (unsent_goes s x.0 b (Happened e) x.1 u) x.2 among
  unsent_run (Refused who reached ∷ ms) s end b u x among = unsent_run ms x.0 end (both_goes s x.0 b (Refused who reached) x.1) (unsent_goes s x.0 b (Refused who reached) x.1 u) x.2 among
  unsent_run (Noted who said ∷ ms) s end b u x among =
      unsent_note s x.0 who said (notes_of ms) b u x.1 (unsent_run ms x.0 end (both_goes s x.0 b (Noted who said) x.1) (unsent_goes s x.0 b (Noted who said) x.1 u) x.2) among

-- ---- the law

module _ (stays : StaysLawful) (readable : IsReadable) (once : IsReadOnce) (from : From) where
  abbrev key : ℕ → Key
  key n = record { from = from; number = n; readable = readable; once = once; to_the_end = true }

  first_both : (plan : Plan) (n j : ℕ) (c : IsCounted from n) (less : j < n) → Both stays (key n) refl c j less (last_of (state_of plan).shared.boxes) (state_of plan)
  first_both plan n j c less =
      let count = plan.workers in
      let empty = empty_box (count + 1) (last_of (state_of plan).shared.boxes) in
      let boxes = none_boxed (record { from = from; number = j; readable = readable; once = once; to_the_end = true }) (count + 1) in
      record {
        good = first_good stays (key n) refl c j less 0 0 plan;
        queue = record {
          hand = inl refl;
          boxed = inl (rw empty refl);
          tidy = rw empty refl;
          kind = inr (omega (arith, boxes));
          last_is = refl;
        };
      }

  end_by : (n m : ℕ) (whose : From) (notes : List Note) (b : Bool) → is_same whose from ≡ b → (Among n (sent_of from notes) → 1 ≤ total (end_of (key n)) notes)
      → Among n (cond b (m ∷ sent_of from notes) (sent_of from notes)) → 1 ≤ past (key n) whose m + total (end_of (key n)) notes
  end_by n m whose notes true is later (inl same) =
      let one = past_self (key n) refl in
      let now : past (key n) whose m ≡ past (key n) from n = ap (λ o. past (key n) o m) (same_from whose from is) ∙ ap (λ j. past (key n) from j) same in
      omega (arith, one, now)
  end_by n m whose notes true is later (inr more) = let rest = later more in omega (arith, rest)
  end_by n m whose notes false is later more = let rest = later more in omega (arith, rest)

  ended : (n : ℕ) (notes : List Note) → Among n (sent_of from notes) → 1 ≤ total (end_of (key n)) notes
  ended n [] among = absurd among
  ended n (note.Sent whose m packet ∷ notes) among = end_by n m whose notes (is_same whose from) refl (ended n notes) among
  ended n (said ∷ notes) among = let rest = ended n notes among in omega (arith, rest)

  above : (plan : Plan) (before ms : List Moment) (s t end : State) (who : Actor) (n j : ℕ) (packet : List ℕ) → Run (state_of plan) before s → Turn s who (note.Sent from n packet) t → Run t ms end
      → IsCounted from n → Among j (sent_of from (notes_of ms)) → n < j
  above plan before ms s t end who n j packet reach x later c among = elim (le_or j n) [
    | inr less ↦ less
    | inl most ↦ elim (le_or n j) [
      | inl back ↦ (
          let same : j ≡ n = omega (arith, most, back) in
          let m = Noted who (note.Sent from n packet) in
          let all = before ++ m ∷ ms in
          let run = run_append before (m ∷ ms) (state_of plan) s end reach (t, x, later) in
          let few = one_end stays (key n) refl c plan all end run in
          let counts = ends_are (key n) (notes_of all) refl in
          let split = ap (λ (notes : List Note). total (end_of (key n)) notes) (notes_append before (m ∷ ms)) ∙ total_append (end_of (key n)) (notes_of before) (notes_of (m ∷ ms)) in
          let one = past_self (key n) refl in
          let rest = ended n (notes_of ms) (subst (λ i. Among i (sent_of from (notes_of ms))) same among) in
          absurd (omega (arith, few, counts, split, one, rest)))
      | inr less ↦ (
          let last = last_of (state_of plan).shared.boxes in
          let both = both_run stays (key n) refl c j less last before (state_of plan) s (first_both plan n j c less) reach in
          let m = Noted who (note.Sent from n packet) in
          let unsent = sent_later stays (key n) refl c j less last s t both who packet x in
          absurd (unsent_run stays (key n) refl c j less last ms t end (both_goes stays (key n) refl c j less last s t both m x) unsent later among))
    ]
  ]

  rising_by : (plan : Plan) (before ms : List Moment) (s t end : State) (who : Actor) (whose : From) (n : ℕ) (packet : List ℕ) (b : Bool) → is_same whose from ≡ b → Run (state_of plan) before s
      → Turn s who (note.Sent whose n packet) t → Run t ms end → AllByRecursion (IsCounted from) (cond b (n ∷ sent_of from (notes_of ms)) (sent_of from (notes_of ms)))
      → (AllByRecursion (IsCounted from) (sent_of from (notes_of ms)) → IsRising (sent_of from (notes_of ms))) → IsRising (cond b (n ∷ sent_of from (notes_of ms)) (sent_of from (notes_of ms)))
  rising_by plan before ms s t end who whose n packet true is reach x later c rest =
      let P : From → Type 0 = λ o. Turn s who (note.Sent o n packet) t in
      let now = subst P (same_from whose from is) x in
      (each_of (λ m. n < m) (sent_of from (notes_of ms)) (λ j among. above plan before ms s t end who n j packet reach now later c.0 among), rest c.1)
  rising_by plan before ms s t end who whose n packet false is reach x later c rest = rest c

  rising_note : (plan : Plan) (before ms : List Moment) (s t end : State) (who : Actor) (said : Note) → Run (state_of plan) before s → Turn s who said t → Run t ms end → AllByRecursion (IsCounted from) (sent_of from (said ∷ notes_of ms))
      → (AllByRecursion (IsCounted from) (sent_of from (notes_of ms)) → IsRising (sent_of from (notes_of ms))) → IsRising (sent_of from (said ∷ notes_of ms))
  rising_note plan before ms s t end who (note.Sent whose n packet) reach x later c rest = rising_by plan before ms s t end who whose n packet (is_same whose from) refl reach x later c rest
  rising_note plan before ms s t end who said reach x later c rest = rest c

  rising : (plan : Plan) (before ms : List Moment) (s end : State) → Run (state_of plan) before s → Run s ms end → AllByRecursion (IsCounted from) (sent_of from (notes_of ms)) → IsRising (sent_of from (notes_of ms))
  rising plan before [] s end reach x c = tt
  rising plan before (Happened e ∷ ms) s end reach x c = rising plan (before ++ Happened e ∷ []) ms x.0 end (run_append before (Happened e ∷ []) (state_of plan) s x.0 reach (x.0, x.1, refl)) x.2 c
  rising plan before (Refused who reached ∷ ms) s end reach x c = rising plan (before ++ Refused who reached ∷ []) ms x.0 end (run_append before (Refused who reached ∷ []) (state_of plan) s x.0 reach (x.0, x.1, refl)) x.2 c
  rising plan before (Noted who said ∷ ms) s end reach x c =
      rising_note plan before ms s x.0 end who said reach x.1 x.2 c
      (λ later. rising plan (before ++ Noted who said ∷ []) ms x.0 end (run_append before (Noted who said ∷ []) (state_of plan) s x.0 reach (x.0, x.1, refl)) x.2 later)

  pub all_sent_rise : (plan : Plan) (ms : List Moment) (end : State) → Run (state_of plan) ms end → AllByRecursion (IsCounted from) (sent_of from (notes_of ms)) → IsRising (sent_of from (notes_of ms))
  all_sent_rise plan ms end x c = rising plan [] ms (state_of plan) end refl x c
