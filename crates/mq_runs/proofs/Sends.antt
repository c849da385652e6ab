-- Payloads of one origin are sent by rising numbers: what a step does to two of them on their way to be sent.
use Rattle.std.proofs.Common.{◌≡◌, ◌≤◌, ◌<◌, ◌+◌, ◌⊎◌, ℕ, zero, suc, Bool, true, false, cond, List, [], ◌∷◌, ◌++◌, length, slice_get, slice_set, nat_lt, Option, Some, option_map, refl, sym, subst, ap, ◌∙◌, arith, inl, inr}
use Rattle.std.specs.Prelude.{◌==◌}
use Rattle.mq_addr.specs.declared.kind.Kind.{Kind}
use Rattle.mq_addr.specs.declared.kind.Kind.TheVariants as kind
use Rattle.mq_talk.specs.declared.note.Note.{Note}
use Rattle.mq_talk.specs.declared.place.Parcel.{Parcel}
use Rattle.mq_talk.specs.Mails.{box_at, with_parcel}
use Rattle.mq_machine.specs.declared.act.Act.TheVariants as act
use Rattle.mq_machine.specs.declared.act.StreamAct.{StreamAct}
use Rattle.mq_machine.specs.declared.act.Due.{Due}
use Rattle.mq_machine.specs.declared.act.Due.TheVariants as due
use Rattle.mq_machine.specs.Lawful.{IsLawful, IsAsked, IsAskedOf, IsOfIp, IsOfUdp, Follows, kind_on}
use Rattle.mq_machine.specs.Shared.{inbox_of}
use Rattle.mq_machine.specs.State.{Conn, Tunnel, Held, Worker, Shared, State, kind_of}
use Rattle.mq_machine.specs.Turn.{source_of, Seat, SeatNext, last_of}
use Rattle.mq_machine.specs.Want.{Answer}
use Rattle.mq_runs.proofs.Boxes.{PushFront, PushesIn, BoxPushed, pushed_box, BoxPopped, popped_box}
use Rattle.mq_runs.proofs.Facts.{InFront}
use Rattle.mq_runs.proofs.Flight.{Key, is_own}
use Rattle.mq_runs.proofs.Measures.{Measure, Takes, sum_state}
use Rattle.mq_runs.proofs.Moving.{parcel_hit, in_boxes}
use Rattle.mq_runs.proofs.Pumps.{in_hand}
use Rattle.mq_runs.proofs.Pushes.{seat_pushes}
use Rattle.mq_runs.proofs.Ranks.{behind, behind_push, zero_or, Among, found_among}
use Rattle.mq_runs.proofs.Sums.{total, total_append, total_push, cond_fewer}
use Rattle.mq_runs.proofs.Tokens.{past_one, early, waits_push, own_book, own_less, own_opens}
use Rattle.mq_runs.proofs.Whole.{in_state}
use Rattle.mq_runs.proofs.Workers.{box_sum}

-- ---- tunnels for UDP

abbrev pub udp_of : Kind → Bool
udp_of kind.Udp = true
udp_of kind.Ip = false

cond_one : (b c : Bool) → cond b (cond c 1 0) 0 ≤ cond b 1 0
cond_one true true = omega arith
cond_one true false = omega arith
cond_one false c = omega arith

-- how many tunnels for UDP are the payload's own, with one where it may still open
pub udp_opens : (k : Key) (n m : ℕ) (t : Tunnel) → n < m → t.id ≡ n → cond (is_own k t.id) (cond (udp_of (kind_of t.goal)) 1 0) 0 + own_book k.from m ≤ own_book k.from n
udp_opens k n m t less same =
    let step = own_opens k.from n m less in
    let is = ap {B = ℕ} (λ i. cond (is_own k i) 1 0) same in
    let few = cond_one (is_own k t.id) (udp_of (kind_of t.goal)) in
    omega (arith, step, is, few)

abbrev pub udp_measure : Key → Measure
udp_measure k = record {
  of = λ (t : Tunnel). cond (is_own k t.id) (cond (udp_of (kind_of t.goal)) 1 0) 0;
  book = own_book k.from;
  queue = λ said. 0;
  less = λ n m long. own_less k.from n m long;
  opens = λ n m t less same none. udp_opens k n m t less same;
  value = λ t kind bytes. omega arith;
  front = λ t w ws is. omega arith;
  part = λ t w ws count is. omega arith;
}

pub takes_udp : (k : Key) (ts : List Tunnel) → Takes (udp_measure k) ts
takes_udp k ts t among from n packet capsule = omega arith

-- what is asked of a tunnel tells its kind
pub asked_kind : (c : Conn) (b : StreamAct) (f : InFront c b) → IsLawful c → IsAsked (kind_of f.t.goal) b
asked_kind c b f h =
    let follows : Follows (kind_on c.tunnels) (due.Do (act.OfStream f.on b) ∷ f.others) = subst (λ (ds : List Due). Follows (kind_on c.tunnels) ds) f.due_is h.loose.follows in
    let live : kind_on c.tunnels f.on ≡ Some (kind_of f.t.goal) = ap (λ (o : Option Tunnel). option_map (λ (t : Tunnel). kind_of t.goal) o) f.serves in
    subst (λ (o : Option Kind). IsAskedOf o b) live follows.0

pub ip_kind : (k : Kind) → IsOfIp k → udp_of k ≡ false
ip_kind kind.Udp h = absurd h
ip_kind kind.Ip h = refl

pub udp_kind : (k : Kind) → IsOfUdp k → udp_of k ≡ true
udp_kind kind.Udp h = refl
udp_kind kind.Ip h = absurd h

-- ---- inboxes

length_set : {A : Type 0} (xs : List A) (i : ℕ) (x : A) → length (slice_set xs i x) ≡ length xs
length_set [] zero x = refl
length_set [] (suc i) x = refl
length_set (y ∷ xs) zero x = refl
length_set (y ∷ xs) (suc i) x = let rest = length_set xs i x in omega (arith, rest)

last_same : (old new : List (List Parcel)) → length new ≡ length old → last_of new ≡ last_of old
last_same [] [] e = refl
last_same [] (b ∷ new) e = absurd (omega (arith, e))
last_same (b ∷ old) [] e = absurd (omega (arith, e))
last_same (b ∷ old) (d ∷ new) e = omega (arith, e)

pub box_part : (x : Key) (boxes : List (List Parcel)) (i : ℕ) → total (parcel_hit x) (box_at boxes i) ≤ in_boxes x boxes
box_part x [] zero = omega arith
box_part x [] (suc i) = omega arith
box_part x (b ∷ boxes) zero = omega arith
box_part x (b ∷ boxes) (suc i) = let rest = box_part x boxes i in omega (arith, rest)

-- what becomes of the inboxes in a worker's turn
abbrev pub SeatBoxes : Worker → Shared → Shared → Type 0
SeatBoxes w sh after =
    (after.boxes ≡ sh.boxes) ⊎ (((h : Held) × (parcel : Parcel) × Among h w.conns × PushFront h.conn parcel × PushesIn sh parcel after)
    ⊎ ((parcel : Parcel) × (rest : List Parcel) × (slice_get sh.boxes w.id ≡ Some (parcel ∷ rest)) × (after.boxes ≡ slice_set sh.boxes w.id rest)))

pub seat_boxes : (w : Worker) (sh : Shared) (seat : Seat) (answer : Answer) (said : Note) (new : Worker) (after : Shared) → SeatNext w sh seat answer said new after → SeatBoxes w sh after
seat_boxes w sh seat answer said new after x =
    elim (seat_pushes w sh seat answer said new after x) [
      | inl same ↦ inl same
      | inr (inl push) ↦ inr (inl (push.held, push.parcel, found_among (λ (h : Held). h.conn.number == push.conn) w.conns push.held push.has, push.front, push.pushes))
      | inr (inr popped) ↦ inr (inr popped)
    ]

module _ (k : Key) (a last : ℕ) where
  abbrev pub sooner : Key
  sooner = early k a 0

  abbrev pub at_last : Key → State → ℕ
  at_last x s = total (parcel_hit x) (box_at s.shared.boxes last)

  abbrev pub last_ranks : State → ℕ
  last_ranks s = behind (parcel_hit sooner) (parcel_hit k) (box_at s.shared.boxes last)

  abbrev pub held_of : Key → State → ℕ
  held_of x s = in_hand x s.pump.to_send

  abbrev pub unpushed : State → ℕ
  unpushed s = in_state (waits_push k a 0) s

  -- pushed, and not at a tunnel
  abbrev pub pushed_of : State → ℕ
  pushed_of s = in_boxes sooner s.shared.boxes + held_of sooner s

  abbrev pub udp_in : State → ℕ
  udp_in s = sum_state (udp_measure k) (λ id. true) s

  -- the earlier one isn't behind the later one
  pub record Queue (s : State) : Type 0 where
    pub hand : (held_of k s ≡ 0) ⊎ (at_last sooner s + unpushed s ≡ 0)
    pub boxed : (at_last k s ≡ 0) ⊎ (unpushed s ≡ 0)
    pub tidy : last_ranks s ≡ 0
    pub kind : (udp_in s ≡ 0) ⊎ (pushed_of s ≡ 0)
    pub last_is : last_of s.shared.boxes ≡ last

  -- what a step does to them
  pub record BoxMoves (s t : State) : Type 0 where
    pub later : (at_last k t ≤ at_last k s) ⊎ (unpushed s ≡ 0)
    pub earlier : (at_last sooner t ≤ at_last sooner s) ⊎ (1 ≤ unpushed s)
    pub ranks : (last_ranks t ≤ last_ranks s) ⊎ ((1 ≤ unpushed s) × (last_ranks t ≤ last_ranks s + at_last k s))
    pub all : (in_boxes sooner t.shared.boxes ≤ in_boxes sooner s.shared.boxes) ⊎ (udp_in s ≡ 0)
    pub long : length t.shared.boxes ≡ length s.shared.boxes

  pub record HandMoves (s t : State) : Type 0 where
    pub later : (held_of k t ≤ held_of k s) ⊎ (at_last sooner t + unpushed t ≡ 0)
    pub earlier : (held_of sooner t ≤ held_of sooner s) ⊎ (1 ≤ at_last sooner s)
    pub all : (in_boxes sooner t.shared.boxes + held_of sooner t ≤ in_boxes sooner s.shared.boxes + held_of sooner s) ⊎ (held_of sooner t ≤ held_of sooner s)

  pub boxes_same : (s t : State) → t.shared.boxes ≡ s.shared.boxes → BoxMoves s t
  boxes_same s t e =
      let one = ap (λ boxes. total (parcel_hit k) (box_at boxes last)) e in
      let two = ap (λ boxes. total (parcel_hit sooner) (box_at boxes last)) e in
      let three = ap (λ boxes. behind (parcel_hit sooner) (parcel_hit k) (box_at boxes last)) e in
      let four = ap (in_boxes sooner) e in
      record { later = inl (omega (arith, one)); earlier = inl (omega (arith, two)); ranks = inl (omega (arith, three)); all = inl (omega (arith, four)); long = ap (λ (boxes : List (List Parcel)). length boxes) e }

  abbrev pub Allows : State → Parcel → Type 0
  Allows s parcel = (1 ≤ parcel_hit k parcel → unpushed s ≡ 0) × (1 ≤ parcel_hit sooner parcel → (1 ≤ unpushed s) × (udp_in s ≡ 0))

  none_less : (n m : ℕ) → n ≡ 0 → cond (nat_lt 0 n) m 0 ≡ 0
  none_less zero m e = refl
  none_less (suc n) m e = absurd (omega (arith, e))

  pushed_by : (s t : State) (parcel : Parcel) → Allows s parcel → t.shared.boxes ≡ with_parcel s.shared.boxes (inbox_of s.shared.boxes parcel.to) parcel → BoxPushed s.shared.boxes t.shared.boxes last parcel → BoxMoves s t
  pushed_by s t parcel allows is (inl same) =
      let one = ap (λ box. total (parcel_hit k) box) same in
      let two = ap (λ box. total (parcel_hit sooner) box) same in
      let three = ap (λ box. behind (parcel_hit sooner) (parcel_hit k) box) same in
      let four = ap (in_boxes sooner) is in
      let most = total_push (parcel_hit sooner) s.shared.boxes (inbox_of s.shared.boxes parcel.to) parcel in
      record {
        later = inl (omega (arith, one));
        earlier = inl (omega (arith, two));
        ranks = inl (omega (arith, three));
        all = elim (zero_or (parcel_hit sooner parcel)) [ inl none ↦ inl (omega (arith, four, most, none)) | inr some ↦ inr (allows.1 some).1 ];
        long = ap (λ (boxes : List (List Parcel)). length boxes) is ∙ length_set s.shared.boxes (inbox_of s.shared.boxes parcel.to) (box_at s.shared.boxes (inbox_of s.shared.boxes parcel.to) ++ parcel ∷ []);
      }
  pushed_by s t parcel allows is (inr more) =
      let box = box_at s.shared.boxes last in
      let one = ap (λ box. total (parcel_hit k) box) more ∙ total_append (parcel_hit k) box (parcel ∷ []) in
      let two = ap (λ box. total (parcel_hit sooner) box) more ∙ total_append (parcel_hit sooner) box (parcel ∷ []) in
      let three = ap (λ box. behind (parcel_hit sooner) (parcel_hit k) box) more in
      let pushes = behind_push (parcel_hit sooner) (parcel_hit k) box parcel (past_one sooner (source_of parcel.from) parcel.n) in
      let few = cond_fewer (nat_lt 0 (parcel_hit sooner parcel)) (total (parcel_hit k) box) in
      let four = ap (in_boxes sooner) is in
      let most = total_push (parcel_hit sooner) s.shared.boxes (inbox_of s.shared.boxes parcel.to) parcel in
      record {
        later = elim (zero_or (parcel_hit k parcel)) [ inl none ↦ inl (omega (arith, one, none)) | inr some ↦ inr (allows.0 some) ];
        earlier = elim (zero_or (parcel_hit sooner parcel)) [ inl none ↦ inl (omega (arith, two, none)) | inr some ↦ inr (allows.1 some).0 ];
        ranks = elim (zero_or (parcel_hit sooner parcel)) [
          | inl none ↦ (let zero_is = none_less (parcel_hit sooner parcel) (total (parcel_hit k) box) none in inl (omega (arith, three, pushes, zero_is)))
          | inr some ↦ inr ((allows.1 some).0, omega (arith, three, pushes, few))
        ];
        all = elim (zero_or (parcel_hit sooner parcel)) [ inl none ↦ inl (omega (arith, four, most, none)) | inr some ↦ inr (allows.1 some).1 ];
        long = ap (λ (boxes : List (List Parcel)). length boxes) is ∙ length_set s.shared.boxes (inbox_of s.shared.boxes parcel.to) (box_at s.shared.boxes (inbox_of s.shared.boxes parcel.to) ++ parcel ∷ []);
      }

  pub boxes_pushed : (s t : State) (parcel : Parcel) → Allows s parcel → t.shared.boxes ≡ with_parcel s.shared.boxes (inbox_of s.shared.boxes parcel.to) parcel → BoxMoves s t
  boxes_pushed s t parcel allows is =
      pushed_by s t parcel allows is (subst (λ boxes. BoxPushed s.shared.boxes boxes last parcel) (sym is) (pushed_box s.shared.boxes (inbox_of s.shared.boxes parcel.to) last parcel))

  popped_by : (s t : State) (i : ℕ) (parcel : Parcel) (rest : List Parcel) → slice_get s.shared.boxes i ≡ Some (parcel ∷ rest) → t.shared.boxes ≡ slice_set s.shared.boxes i rest → BoxPopped s.shared.boxes t.shared.boxes i last parcel rest → BoxMoves s t
  popped_by s t i parcel rest at is (inl same) =
      let one = ap (λ box. total (parcel_hit k) box) same in
      let two = ap (λ box. total (parcel_hit sooner) box) same in
      let three = ap (λ box. behind (parcel_hit sooner) (parcel_hit k) box) same in
      let four = ap (in_boxes sooner) is in
      let sum = box_sum sooner s.shared.boxes i parcel rest at in
      record { later = inl (omega (arith, one)); earlier = inl (omega (arith, two)); ranks = inl (omega (arith, three)); all = inl (omega (arith, four, sum)); long = ap (λ (boxes : List (List Parcel)). length boxes) is ∙ length_set s.shared.boxes i rest }
  popped_by s t i parcel rest at is (inr (here, was, now)) =
      let one = ap (λ box. total (parcel_hit k) box) was in
      let one_now = ap (λ box. total (parcel_hit k) box) now in
      let two = ap (λ box. total (parcel_hit sooner) box) was in
      let two_now = ap (λ box. total (parcel_hit sooner) box) now in
      let three = ap (λ box. behind (parcel_hit sooner) (parcel_hit k) box) was in
      let three_now = ap (λ box. behind (parcel_hit sooner) (parcel_hit k) box) now in
      let four = ap (in_boxes sooner) is in
      let sum = box_sum sooner s.shared.boxes i parcel rest at in
      record {
        later = inl (omega (arith, one, one_now));
        earlier = inl (omega (arith, two, two_now));
        ranks = inl (omega (arith, three, three_now));
        all = inl (omega (arith, four, sum));
        long = ap (λ (boxes : List (List Parcel)). length boxes) is ∙ length_set s.shared.boxes i rest;
      }

  pub boxes_popped : (s t : State) (i : ℕ) (parcel : Parcel) (rest : List Parcel) → slice_get s.shared.boxes i ≡ Some (parcel ∷ rest) → t.shared.boxes ≡ slice_set s.shared.boxes i rest → BoxMoves s t
  boxes_popped s t i parcel rest at is =
      popped_by s t i parcel rest at is (subst (λ boxes. BoxPopped s.shared.boxes boxes i last parcel rest) (sym is) (popped_box s.shared.boxes i last parcel rest at))

  pub hand_same : (s t : State) → t.pump.to_send ≡ s.pump.to_send → HandMoves s t
  hand_same s t e =
      let one = ap (in_hand k) e in
      let two = ap (in_hand sooner) e in
      record { later = inl (omega (arith, one)); earlier = inl (omega (arith, two)); all = inr (omega (arith, two)) }

  -- ---- and so nothing is behind then

  hand_by : (s t : State) → unpushed t ≤ unpushed s → (held_of k t ≤ held_of k s) ⊎ (at_last sooner t + unpushed t ≡ 0) → (held_of k s ≡ 0) ⊎ (at_last sooner s + unpushed s ≡ 0) → (at_last sooner t ≤ at_last sooner s) ⊎ (1 ≤ unpushed s)
      → (held_of k t ≡ 0) ⊎ (at_last sooner t + unpushed t ≡ 0)
  hand_by s t down (inr none) old box = inr none
  hand_by s t down (inl less) (inl none) box = inl (omega (arith, less, none))
  hand_by s t down (inl less) (inr none) (inl fewer) = inr (omega (arith, none, fewer, down))
  hand_by s t down (inl less) (inr none) (inr some) = absurd (omega (arith, none, some))

  boxed_by : (s t : State) → unpushed t ≤ unpushed s → (at_last k t ≤ at_last k s) ⊎ (unpushed s ≡ 0) → (at_last k s ≡ 0) ⊎ (unpushed s ≡ 0) → (at_last k t ≡ 0) ⊎ (unpushed t ≡ 0)
  boxed_by s t down (inr none) old = inr (omega (arith, none, down))
  boxed_by s t down (inl less) (inl none) = inl (omega (arith, less, none))
  boxed_by s t down (inl less) (inr none) = inr (omega (arith, none, down))

  ranks_by : (m n p q : ℕ) → (n ≤ m) ⊎ ((1 ≤ p) × (n ≤ m + q)) → (q ≡ 0) ⊎ (p ≡ 0) → m ≡ 0 → n ≡ 0
  ranks_by m n p q (inl less) old none = omega (arith, less, none)
  ranks_by m n p q (inr x) (inl empty) none = let less = x.1 in omega (arith, less, empty, none)
  ranks_by m n p q (inr x) (inr empty) none = let some = x.0 in absurd (omega (arith, some, empty))

  kind_by : (s t : State) → udp_in t ≤ udp_in s → BoxMoves s t → HandMoves s t → (in_boxes sooner t.shared.boxes ≤ in_boxes sooner s.shared.boxes) ⊎ (udp_in s ≡ 0)
      → (in_boxes sooner t.shared.boxes + held_of sooner t ≤ in_boxes sooner s.shared.boxes + held_of sooner s) ⊎ (held_of sooner t ≤ held_of sooner s)
      → (udp_in s ≡ 0) ⊎ (pushed_of s ≡ 0) → (udp_in t ≡ 0) ⊎ (pushed_of t ≡ 0)
  kind_by s t less b h box hand (inl none) = inl (omega (arith, less, none))
  kind_by s t less b h (inr none) hand (inr empty) = inl (omega (arith, less, none))
  kind_by s t less b h (inl fewer) (inl both) (inr empty) = inr (omega (arith, both, empty))
  kind_by s t less b h (inl fewer) (inr one) (inr empty) = inr (omega (arith, fewer, one, empty))

  pub queue_on : (s t : State) → unpushed t ≤ unpushed s → udp_in t ≤ udp_in s → BoxMoves s t → HandMoves s t → Queue s → Queue t
  queue_on s t down less b h q = record {
    hand = hand_by s t down h.later q.hand b.earlier;
    boxed = boxed_by s t down b.later q.boxed;
    tidy = ranks_by (last_ranks s) (last_ranks t) (unpushed s) (at_last k s) b.ranks q.boxed q.tidy;
    kind = kind_by s t less b h b.all h.all q.kind;
    last_is = last_same s.shared.boxes t.shared.boxes b.long ∙ q.last_is;
  }

  -- the earlier one is nowhere that leads to a send
  pub record Unsent (s : State) : Type 0 where
    pub hand : held_of sooner s ≡ 0
    pub boxed : at_last sooner s ≡ 0
    pub before : unpushed s ≡ 0

  pub unsent_on : (s t : State) → unpushed t ≤ unpushed s → BoxMoves s t → HandMoves s t → Unsent s → Unsent t
  unsent_on s t down b h u =
      let hand = u.hand in
      let boxed = u.boxed in
      let before = u.before in
      record {
        hand = elim h.earlier [ inl less ↦ omega (arith, less, hand) | inr some ↦ absurd (omega (arith, some, boxed)) ];
        boxed = elim b.earlier [ inl less ↦ omega (arith, less, boxed) | inr some ↦ absurd (omega (arith, some, before)) ];
        before = omega (arith, down, before);
      }
