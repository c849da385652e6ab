-- Two payloads of one origin on their way to one tunnel: where each of them is, and that the earlier one isn't behind.
use Rattle.std.proofs.Common.{◌≡◌, ◌≤◌, ◌<◌, ◌+◌, ◌⊎◌, ℕ, Bool, true, false, cond, List, [], ◌∷◌, ◌++◌, nat_lt, refl, ap, arith, inl, inr}
use Rattle.std.specs.Prelude.{◌==◌}
use Rattle.mq_talk.specs.declared.note.From.{From}
use Rattle.mq_talk.specs.declared.note.From.TheVariants as source
use Rattle.mq_talk.specs.declared.note.Note.{Note}
use Rattle.mq_talk.specs.declared.note.Note.TheVariants as note
use Rattle.mq_talk.specs.declared.place.Parcel.{Parcel}
use Rattle.mq_talk.specs.declared.place.Place.{Place}
use Rattle.mq_talk.specs.declared.place.Place.TheVariants as place
use Rattle.mq_talk.specs.Mails.{box_at}
use Rattle.mq_machine.specs.Done.{value}
use Rattle.mq_machine.specs.State.{Tunnel, Waiting, What, Packet, Value, State}
use Rattle.mq_runs.specs.Ends.{is_same}
use Rattle.mq_runs.proofs.Flight.{Key, hit, past, in_what, waits_in, is_own}
use Rattle.mq_runs.proofs.Measures.{Measure, NoPackets, Takes, sum_state}
use Rattle.mq_runs.proofs.Moving.{parcel_hit, from_less}
use Rattle.mq_runs.proofs.Ranks.{behind, behind_push, Among}
use Rattle.mq_runs.proofs.Sums.{total, total_append, cond_less}
use Rattle.mq_runs.proofs.Took.{from_on, step_on}
use Rattle.mq_runs.proofs.Whole.{in_state}

pub cond_zero : (b : Bool) (m : ℕ) → m ≡ 0 → cond b m 0 ≡ 0
cond_zero true m h = h
cond_zero false m h = refl

pub cond_sum : (b : Bool) (m n p : ℕ) → m ≤ n + p → cond b m 0 ≤ cond b n 0 + cond b p 0
cond_sum true m n p h = h
cond_sum false m n p h = omega arith

one_by : (b c : Bool) → cond b (cond c 1 0) 0 ≤ 1
one_by true true = omega arith
one_by true false = omega arith
one_by false c = omega arith

pub past_one : (k : Key) (from : From) (m : ℕ) → past k from m ≤ 1
past_one k from m = by_end k.to_the_end where
  by_end : (b : Bool) → cond b (hit k from m) 0 ≤ 1
  by_end true = one_by (is_same from k.from) (m == k.number)
  by_end false = omega arith

pub what_one : (k : Key) (w : What) → in_what k w ≤ 1
what_one k (Packet from n packet) = past_one k from n
what_one k Value = omega arith

pub no_packets : (k : Key) (ws : List Waiting) → NoPackets ws → waits_in k ws ≡ 0
no_packets k ws (inl e) = ap (waits_in k) e
no_packets k ws (inr (kind, bytes, e)) = ap (waits_in k) e

-- ---- what is summed

-- how often it waits in this tunnel
abbrev pub counted : Key → ℕ → Tunnel → ℕ
counted k target t = cond (t.id == target) (waits_in k t.waiting) 0

abbrev pub count_queue : Key → ℕ → Note → ℕ
count_queue k target (note.Queued from n id) = cond (id == target) (past k from n) 0
count_queue k target said = 0

abbrev pub count_measure : Key → ℕ → Measure
count_measure k target = record {
  of = counted k target;
  book = λ n. 0;
  queue = count_queue k target;
  less = λ n m long. omega arith;
  opens = λ n m t less same none. let zero = cond_zero (t.id == target) (waits_in k t.waiting) (no_packets k t.waiting none) in omega (arith, zero);
  value = λ t kind bytes. let more = total_append (λ (w : Waiting). in_what k w.what) t.waiting (value kind bytes ∷ []) in cond_less (t.id == target) (waits_in k (t.waiting ++ value kind bytes ∷ [])) (waits_in k t.waiting) (omega (arith, more));
  front = λ t w ws is. let same = ap (waits_in k) is in cond_less (t.id == target) (waits_in k ws) (waits_in k t.waiting) (omega (arith, same));
  part = λ t w ws count is. let same = ap (waits_in k) is in cond_less (t.id == target) (waits_in k (record w { framed = count } ∷ ws)) (waits_in k t.waiting) (omega (arith, same));
}

module _ (k : Key) (a : ℕ) (target : ℕ) where
  abbrev pub early : Key
  early = record k { number = a }

  -- the earlier one while it isn't pushed
  abbrev pub waits_push : Key
  waits_push = record k { number = a; to_the_end = false }

  abbrev pub ranked : List Waiting → ℕ
  ranked ws = behind (λ (w : Waiting). in_what early w.what) (λ (w : Waiting). in_what k w.what) ws

  abbrev pub misplaced : Tunnel → ℕ
  misplaced t = cond (t.id == target) (ranked t.waiting) 0

  abbrev pub rank_queue : ℕ → Note → ℕ
  rank_queue most (note.Queued from n id) = cond (id == target) (cond (nat_lt 0 (past early from n)) most 0) 0
  rank_queue most said = 0

  pub none_ranked : (ws : List Waiting) → NoPackets ws → ranked ws ≡ 0
  none_ranked ws (inl e) = ap ranked e
  none_ranked ws (inr (kind, bytes, e)) = ap ranked e

  abbrev pub rank_measure : ℕ → Measure
  rank_measure most = record {
    of = misplaced;
    book = λ n. 0;
    queue = rank_queue most;
    less = λ n m long. omega arith;
    opens = λ n m t less same none. let zero = cond_zero (t.id == target) (ranked t.waiting) (none_ranked t.waiting none) in omega (arith, zero);
    value = λ t kind bytes. cond_less (t.id == target) (ranked (t.waiting ++ value kind bytes ∷ [])) (ranked t.waiting)
        (let more = behind_push (λ (w : Waiting). in_what early w.what) (λ (w : Waiting). in_what k w.what) t.waiting (value kind bytes) (omega arith) in omega (arith, more));
    front = λ t w ws is. let same = ap ranked is in cond_less (t.id == target) (ranked ws) (ranked t.waiting) (omega (arith, same));
    part = λ t w ws count is. let same = ap ranked is in cond_less (t.id == target) (ranked (record w { framed = count } ∷ ws)) (ranked t.waiting) (omega (arith, same));
  }

  -- a packet that comes to wait
  pub takes_rank : (most : ℕ) (ts : List Tunnel) → ((t : Tunnel) → Among t ts → counted k target t ≤ most) → Takes (rank_measure most) ts
  takes_rank most ts few t among from n packet capsule =
      let w : Waiting = record { what = Packet from n packet; capsule = capsule; framed = 0 } in
      let more = behind_push (λ (w : Waiting). in_what early w.what) (λ (w : Waiting). in_what k w.what) t.waiting w (what_one early (Packet from n packet)) in
      by_target (t.id == target) (ranked (t.waiting ++ w ∷ [])) (ranked t.waiting) (waits_in k t.waiting) (nat_lt 0 (past early from n)) (few t among) more
    where
      by_target : (b : Bool) (m n c : ℕ) (d : Bool) → cond b c 0 ≤ most → m ≤ n + cond d c 0 → cond b m 0 ≤ cond b n 0 + cond b (cond d most 0) 0
      by_target true m n c true less h = omega (arith, less, h)
      by_target true m n c false less h = omega (arith, h)
      by_target false m n c d less h = omega arith

pub takes_count : (k : Key) (target : ℕ) (ts : List Tunnel) → Takes (count_measure k target) ts
takes_count k target ts t among from n packet capsule =
    let w : Waiting = record { what = Packet from n packet; capsule = capsule; framed = 0 } in
    let more = total_append (λ (w : Waiting). in_what k w.what) t.waiting (w ∷ []) in
    cond_sum (t.id == target) (waits_in k (t.waiting ++ w ∷ [])) (waits_in k t.waiting) (past k from n) (omega (arith, more))

-- how many tunnels have this number, with one where it may still be given
abbrev pub id_measure : ℕ → Measure
id_measure x = record {
  of = λ (t : Tunnel). cond (t.id == x) 1 0;
  book = λ n. from_on n x;
  queue = λ said. 0;
  less = λ n m long. from_less n m x long;
  opens = λ n m t less same none.
      let step = step_on n x in
      let later = from_less (n + 1) m x (omega (arith, less)) in
      let is = ap {B = ℕ} (λ i. cond (i == x) 1 0) same in
      omega (arith, step, later, is);
  value = λ t kind bytes. omega arith;
  front = λ t w ws is. omega arith;
  part = λ t w ws count is. omega arith;
}

pub takes_id : (x : ℕ) (ts : List Tunnel) → Takes (id_measure x) ts
takes_id x ts t among from n packet capsule = omega arith

-- how many tunnels are the payload's own
abbrev pub own_book : From → ℕ → ℕ
own_book (source.Tunnel t) n = from_on n t
own_book source.Net n = 0
own_book (source.Port t) n = 0

pub own_less : (f : From) (n m : ℕ) → n ≤ m → own_book f m ≤ own_book f n
own_less (source.Tunnel t) n m h = from_less n m t h
own_less source.Net n m h = omega arith
own_less (source.Port t) n m h = omega arith

pub own_opens : (f : From) (n m : ℕ) → n < m → cond (is_same (source.Tunnel n) f) 1 0 + own_book f m ≤ own_book f n
own_opens (source.Tunnel t) n m h = let one = step_on n t in let two = from_less (n + 1) m t (omega (arith, h)) in omega (arith, one, two)
own_opens source.Net n m h = omega arith
own_opens (source.Port t) n m h = omega arith

abbrev pub own_measure : Key → Measure
own_measure k = record {
  of = λ (t : Tunnel). cond (is_own k t.id) 1 0;
  book = own_book k.from;
  queue = λ said. 0;
  less = λ n m long. own_less k.from n m long;
  opens = λ n m t less same none.
      let step = own_opens k.from n m less in
      let is = ap {B = ℕ} (λ i. cond (is_own k i) 1 0) same in
      omega (arith, step, is);
  value = λ t kind bytes. omega arith;
  front = λ t w ws is. omega arith;
  part = λ t w ws count is. omega arith;
}

pub takes_own : (k : Key) (ts : List Tunnel) → Takes (own_measure k) ts
takes_own k ts t among from n packet capsule = omega arith

-- ---- where they are

abbrev pub to_target : ℕ → Place → Bool
to_target target (place.Tunnel tunnel actor) = tunnel == target
to_target target place.Net = false

abbrev pub parceled : Key → ℕ → Parcel → ℕ
parceled k target parcel = cond (to_target target parcel.to) (parcel_hit k parcel) 0

module _ (k : Key) (a : ℕ) (target actor : ℕ) where
  abbrev pub here : ℕ → Bool
  here id = id == actor

  -- in the waiting list of the tunnel, at this worker
  abbrev pub waiting_of : Key → State → ℕ
  waiting_of x s = sum_state (count_measure x target) here s

  abbrev pub waiting_ranks : State → ℕ
  waiting_ranks s = sum_state (rank_measure k a target 0) here s

  -- in the inbox of this worker
  abbrev pub boxed_of : Key → State → ℕ
  boxed_of x s = total (parceled x target) (box_at s.shared.boxes actor)

  abbrev pub boxed_ranks : State → ℕ
  boxed_ranks s = behind (parceled (early k a target) target) (parceled k target) (box_at s.shared.boxes actor)

  -- before that
  abbrev pub before_of : State → ℕ
  before_of s = in_state (waits_push k a target) s

  -- nowhere the earlier one is behind the later one
  pub record Lined (s : State) : Type 0 where
    pub waits : (waiting_of k s ≡ 0) ⊎ (boxed_of (early k a target) s + before_of s ≡ 0)
    pub boxed : (boxed_of k s ≡ 0) ⊎ (before_of s ≡ 0)
    pub waits_tidy : waiting_ranks s ≡ 0
    pub box_tidy : boxed_ranks s ≡ 0

  -- what a step does to them
  pub record Shifts (s t : State) : Type 0 where
    pub before : before_of t ≤ before_of s
    pub later_waits : (waiting_of k t ≤ waiting_of k s) ⊎ (boxed_of (early k a target) t + before_of t ≡ 0)
    pub waits_ranks : (waiting_ranks t ≤ waiting_ranks s) ⊎ ((1 ≤ boxed_of (early k a target) s + before_of s) × (waiting_ranks t ≤ waiting_ranks s + waiting_of k s))
    pub earlier_waits : (waiting_of (early k a target) t ≤ waiting_of (early k a target) s) ⊎ (1 ≤ boxed_of (early k a target) s + before_of s)
    pub later_boxed : (boxed_of k t ≤ boxed_of k s) ⊎ (before_of t ≡ 0)
    pub earlier_boxed : (boxed_of (early k a target) t ≤ boxed_of (early k a target) s) ⊎ (1 ≤ before_of s)
    pub box_ranks : (boxed_ranks t ≤ boxed_ranks s) ⊎ ((1 ≤ before_of s) × (boxed_ranks t ≤ boxed_ranks s + boxed_of k s))

  waits_by : (s t : State) → Shifts s t → Lined s → (waiting_of k t ≤ waiting_of k s) ⊎ (boxed_of (early k a target) t + before_of t ≡ 0) → (waiting_of k s ≡ 0) ⊎ (boxed_of (early k a target) s + before_of s ≡ 0)
      → (boxed_of (early k a target) t ≤ boxed_of (early k a target) s) ⊎ (1 ≤ before_of s) → (waiting_of k t ≡ 0) ⊎ (boxed_of (early k a target) t + before_of t ≡ 0)
  waits_by s t x h (inr none) old box = inr none
  waits_by s t x h (inl less) (inl gone) box = inl (omega (arith, less, gone))
  waits_by s t x h (inl less) (inr gone) (inl fewer) = let down = x.before in inr (omega (arith, gone, fewer, down))
  waits_by s t x h (inl less) (inr gone) (inr some) = absurd (omega (arith, gone, some))

  boxed_by : (s t : State) → before_of t ≤ before_of s → (boxed_of k t ≤ boxed_of k s) ⊎ (before_of t ≡ 0) → (boxed_of k s ≡ 0) ⊎ (before_of s ≡ 0) → (boxed_of k t ≡ 0) ⊎ (before_of t ≡ 0)
  boxed_by s t down (inr none) old = inr none
  boxed_by s t down (inl less) (inl gone) = inl (omega (arith, less, gone))
  boxed_by s t down (inl less) (inr gone) = inr (omega (arith, down, gone))

  ranks_by : (m n p q : ℕ) → (n ≤ m) ⊎ ((1 ≤ p) × (n ≤ m + q)) → (q ≡ 0) ⊎ (p ≡ 0) → m ≡ 0 → n ≡ 0
  ranks_by m n p q (inl less) old gone = omega (arith, less, gone)
  ranks_by m n p q (inr x) (inl none) gone = let less = x.1 in omega (arith, less, none, gone)
  ranks_by m n p q (inr x) (inr none) gone = let some = x.0 in absurd (omega (arith, some, none))

  pub lined_on : (s t : State) → Shifts s t → Lined s → Lined t
  lined_on s t x h = record {
    waits = waits_by s t x h x.later_waits h.waits x.earlier_boxed;
    boxed = boxed_by s t x.before x.later_boxed h.boxed;
    waits_tidy = ranks_by (waiting_ranks s) (waiting_ranks t) (boxed_of (early k a target) s + before_of s) (waiting_of k s) x.waits_ranks h.waits h.waits_tidy;
    box_tidy = ranks_by (boxed_ranks s) (boxed_ranks t) (before_of s) (boxed_of k s) x.box_ranks h.boxed h.box_tidy;
  }
