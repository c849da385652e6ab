-- Whose turn it is in a worker that has what is told of links and ports, or else what was found there.
use Rattle.std.proofs.Common.{◌≡◌, inl, inr, ◌⊎◌, ℕ, ◌+◌, ◌<◌, ◌≤◌, Bool, true, false, not, List, [], ◌∷◌, map, length, All, nat_lt, slice_get, find}
use Rattle.std.proofs.Common.{take_while, Option, Some, None, is_some, refl, sym, ap, subst, ◌∙◌, arith}
use Rattle.std.specs.Prelude.{◌&&◌, option_and_then}
use Rattle.std.proofs.lemmas.Bool.{cases_eq, lt-ltb, le-ltb}
use Rattle.mq_talk.specs.declared.place.Parcel.{Parcel}
use Rattle.mq_machine.specs.State.{Offer, Held, Worker, held_of}
use Rattle.mq_machine.specs.Turn.{Try, try_of, Seat, Offers, Inbox, Of, place_of, seats_of, most_live, can_act, ring_from, turn_of}
use Rattle.mq_machine.specs.Acting.{Outside, ConnWaited, SeatWaited, seats_before}
use Rattle.mq_step.specs.Sights.{Found, idle}
use Rattle.mq_step.specs.Whole.{filled}
use Rattle.mq_actor.specs.Passing.{PassedOver}
use Rattle.mq_actor.proofs.Cores.{AreApart}
use Rattle.mq_actor.proofs.InRing.{Precedes, first_in_ring, none_in_ring, before_in_ring, all_at}
use Rattle.mq_actor.proofs.Lists.{get_map, seat_at, at_seat, found_at, at_found, apart_map}
use Rattle.mq_actor.proofs.Refilled.{found_for, refilled, reoffered, refill, found_here, found_else, waited_filled}
use Rattle.mq_actor.proofs.SoFar.{Vain}

-- the connection with the number of which something was found stands at this place of the seats, or nothing was found
abbrev pub FoundAt : Worker → ℕ → Found → ℕ → Type 0
FoundAt x number found k = (i : ℕ) (h : Held) → slice_get x.conns i ≡ Some h → h.conn.number ≡ number → (i + 2 ≡ k) ⊎ (found ≡ idle)

-- ---- the seats stay

seats_kept : (o : Outside) (number : ℕ) (found : Found) (hs : List Held)
    → map (λ (h : Held). Of h.conn.number) (map (refilled o number found) hs) ≡ map (λ (h : Held). Of h.conn.number) hs
seats_kept o number found [] = refl
seats_kept o number found (h ∷ hs) = ap (λ (seats : List Seat). Of h.conn.number ∷ seats) (seats_kept o number found hs)

seats_same : (o : Outside) (x : Worker) (number : ℕ) (found : Found) → seats_of (refill o number found x) ≡ seats_of x
seats_same o x number found = ap (λ (seats : List Seat). Offers ∷ Inbox ∷ seats) (seats_kept o number found x.conns)

-- a seat that comes before another is the offers', the inbox's or a connection's
before_cases : (P : Seat → Type 0) (x : Worker) (k : ℕ) (seat : Seat)
    → (Precedes x.next_seat 0 Offers k seat → P Offers)
    → (Precedes x.next_seat 1 Inbox k seat → P Inbox)
    → ((i : ℕ) (h : Held) → slice_get x.conns i ≡ Some h → Precedes x.next_seat (i + 2) (Of h.conn.number) k seat → P (Of h.conn.number))
    → (a : ℕ) (z : Seat) → slice_get (seats_of x) a ≡ Some z → Precedes x.next_seat a z k seat → P z
before_cases P x k seat offers inbox conns a z at before = by_case (at_seat x a z at) where
  Before : ℕ → Seat → Type 0
  Before b s = Precedes x.next_seat b s k seat

  moved : (b : ℕ) (s : Seat) → a ≡ b → z ≡ s → Before b s
  moved b s place is = subst (λ (t : Seat). Before b t) is (subst (λ (c : ℕ). Before c z) place before)

  by_case : ((a ≡ 0) × (z ≡ Offers)) ⊎
      (((a ≡ 1) × (z ≡ Inbox)) ⊎
      ((i : ℕ) × (h : Held) × (a ≡ i + 2) × (slice_get x.conns i ≡ Some h) × (z ≡ Of h.conn.number))) → P z
  by_case (inl (place, is)) = subst P (sym is) (offers (moved 0 Offers place is))
  by_case (inr (inl (place, is))) = subst P (sym is) (inbox (moved 1 Inbox place is))
  by_case (inr (inr (i, h, place, at_h, is))) = subst P (sym is) (conns i h at_h (moved (i + 2) (Of h.conn.number) place is))

-- no seat comes before itself
not_itself : (from a : ℕ) (z : Seat) (k : ℕ) (seat : Seat) → a ≡ k → z ≡ seat → Precedes from a z k seat → ⊥
not_itself from a z k seat place is (inl (le, lt)) =
    let same : place_of z ≡ place_of seat = ap {B = ℕ} (λ (s : Seat). place_of s) is in
    omega (arith, le, lt, same)
not_itself from a z k seat place is (inr (inl (le, others, less))) = omega (arith, place, less)
not_itself from a z k seat place is (inr (inr (lt, others, less))) = omega (arith, place, less)

-- ---- what is held of a connection

held_refilled : (o : Outside) (x : Worker) (number : ℕ) (found : Found) (i : ℕ) (h : Held) → AreApart x.conns → slice_get x.conns i ≡ Some h
    → held_of (refill o number found x) h.conn.number ≡ Some (refilled o number found h)
held_refilled o x number found i h apart at =
    found_at (map (refilled o number found) x.conns) i (refilled o number found h)
    (apart_map (refilled o number found) (λ g. refl) x.conns apart)
    (get_map (refilled o number found) x.conns i h at)

can_refilled : (o : Outside) (x : Worker) (box : List Parcel) (number : ℕ) (found : Found) (i : ℕ) (h : Held) → AreApart x.conns
    → slice_get x.conns i ≡ Some h → can_act (refill o number found x) box (Of h.conn.number) ≡ is_some (try_of (refilled o number found h))
can_refilled o x box number found i h apart at =
    ap {B = Bool} (λ (held : Option Held). is_some (option_and_then try_of held)) (held_refilled o x number found i h apart at)

-- that is what is held of the connection of which something was found
pub held_is : (o : Outside) (x : Worker) (found : Found) (i : ℕ) (h : Held) → AreApart x.conns → slice_get x.conns i ≡ Some h
    → held_of (refill o h.conn.number found x) h.conn.number ≡ Some (filled o found h)
held_is o x found i h apart at =
    held_refilled o x h.conn.number found i h apart at
    ∙ ap {B = Option Held} (λ (f : Found). Some (filled o f h)) (found_here h.conn.number found)

-- a connection can act where it can try something
pub conn_can : (o : Outside) (x : Worker) (box : List Parcel) (found : Found) (i : ℕ) (h : Held) (try : Try) → AreApart x.conns
    → slice_get x.conns i ≡ Some h → try_of (filled o found h) ≡ Some try
    → can_act (refill o h.conn.number found x) box (Of h.conn.number) ≡ true
conn_can o x box found i h try apart at tries =
    ap {B = Bool} (λ (held : Option Held). is_some (option_and_then try_of held)) (held_is o x found i h apart at)
    ∙ ap {B = Bool} (λ (t : Option Try). is_some t) tries

-- ---- the offered links

length_kept : {A B : Type 0} (f : A → B) (xs : List A) → length (map f xs) ≡ length xs
length_kept f [] = refl
length_kept f (y ∷ xs) = let e = length_kept f xs in omega (arith, e)

and_false : (b c : Bool) → c ≡ false → b && c ≡ false
and_false true c is = is
and_false false c is = refl

offers_cannot : (o : Outside) (x : Worker) (box : List Parcel) (number : ℕ) (found : Found) → (x.offered ≡ []) ⊎ (most_live ≤ length x.conns)
    → can_act (refill o number found x) box Offers ≡ false
offers_cannot o x box number found (inl none) =
    ap {B = Bool} (λ (fs : List Offer). nat_lt 0 (length (map (reoffered o) fs)) && nat_lt (length (map (refilled o number found) x.conns)) most_live) none
offers_cannot o x box number found (inr many) =
    let same = length_kept (refilled o number found) x.conns in
    let still : most_live ≤ length (map (refilled o number found) x.conns) = omega (arith, same, many) in
    and_false (nat_lt 0 (length (map (reoffered o) x.offered))) (nat_lt (length (map (refilled o number found) x.conns)) most_live)
    (le-ltb (length (map (refilled o number found) x.conns)) most_live still)

offers_waited : (o : Outside) (x : Worker) (number : ℕ) (found : Found) → (x.offered ≡ []) ⊎ (most_live ≤ length x.conns)
    → (map (reoffered o) x.offered ≡ []) ⊎ (most_live ≤ length (map (refilled o number found) x.conns))
offers_waited o x number found (inl none) = inl (ap (λ (fs : List Offer). map (reoffered o) fs) none)
offers_waited o x number found (inr many) = let same = length_kept (refilled o number found) x.conns in inr (omega (arith, same, many))

some_offered : (o : Outside) (fs : List Offer) → (fs ≡ [] → ⊥) → nat_lt 0 (length (map (reoffered o) fs)) ≡ true
some_offered o [] some = absurd (some refl)
some_offered o (f ∷ fs) some = let less : 0 < length (map (reoffered o) (f ∷ fs)) = omega arith in lt-ltb 0 (length (map (reoffered o) (f ∷ fs))) less

-- the offered links can be accepted where one is there and there is room
pub offers_can : (o : Outside) (x : Worker) (box : List Parcel) (number : ℕ) (found : Found) → (x.offered ≡ [] → ⊥)
    → length x.conns < most_live → can_act (refill o number found x) box Offers ≡ true
offers_can o x box number found some room =
    let same = length_kept (refilled o number found) x.conns in
    let still : length (map (refilled o number found) x.conns) < most_live = omega (arith, same, room) in
    ap {B = Bool} (λ (b : Bool). b && nat_lt (length (map (refilled o number found) x.conns)) most_live) (some_offered o x.offered some)
    ∙ lt-ltb (length (map (refilled o number found) x.conns)) most_live still

-- ---- the turn

nothing_found : (number other : ℕ) (found : Found) → (other ≡ number → found ≡ idle) → found_for number found other ≡ idle
nothing_found number other found if_same = by_case (cases_eq other number) where
  by_case : (other ≡ number) ⊎ (other ≡ number → ⊥) → found_for number found other ≡ idle
  by_case (inl same) = subst (λ (k : ℕ). found_for number found k ≡ idle) (sym same) (found_here number found ∙ if_same same)
  by_case (inr ne) = found_else number other found ne

cannot_before : (o n : Outside) (x : Worker) (box : List Parcel) (number : ℕ) (found : Found) (k : ℕ) (seat : Seat) → AreApart x.conns
    → slice_get (seats_of x) k ≡ Some seat → FoundAt x number found k → Vain o n x box k seat
    → (a : ℕ) (z : Seat) → slice_get (seats_of x) a ≡ Some z → Precedes x.next_seat a z k seat → can_act (refill o number found x) box z ≡ false
cannot_before o n x box number found k seat apart at_k found_there vain =
    before_cases (λ (z : Seat). can_act (refill o number found x) box z ≡ false) x k seat
    (λ before. offers_cannot o x box number found (vain.offers before))
    (λ before. ap {B = Bool} (λ (parcels : List Parcel). nat_lt 0 (length parcels)) (vain.inbox before))
    conn_cannot where
      at_place : (i : ℕ) (h : Held) → slice_get x.conns i ≡ Some h → i + 2 ≡ k → Of h.conn.number ≡ seat
      at_place i h at place =
          let both : Some (Of h.conn.number) ≡ Some seat = sym (seat_at x i h at) ∙ ap (λ (j : ℕ). slice_get (seats_of x) j) place ∙ at_k in
          let e : Of h.conn.number ≡ seat = cc in
          e

      not_found : (i : ℕ) (h : Held) → slice_get x.conns i ≡ Some h → Precedes x.next_seat (i + 2) (Of h.conn.number) k seat
          → (i + 2 ≡ k) ⊎ (found ≡ idle) → found ≡ idle
      not_found i h at before (inl place) = absurd (not_itself x.next_seat (i + 2) (Of h.conn.number) k seat place (at_place i h at place) before)
      not_found i h at before (inr none) = none

      conn_cannot : (i : ℕ) (h : Held) → slice_get x.conns i ≡ Some h → Precedes x.next_seat (i + 2) (Of h.conn.number) k seat
          → can_act (refill o number found x) box (Of h.conn.number) ≡ false
      conn_cannot i h at before =
          can_refilled o x box number found i h apart at
          ∙ ap {B = Bool} (λ (f : Found). is_some (try_of (filled o f h)))
          (nothing_found number h.conn.number found (λ same. not_found i h at before (found_there i h at same)))
          ∙ ap {B = Bool} (λ (t : Option Try). is_some t) (vain.conns i h at before).none

-- the seat whose turn it is
pub turn_is : (o n : Outside) (x : Worker) (box : List Parcel) (number : ℕ) (found : Found) (k : ℕ) (seat : Seat) → AreApart x.conns
    → slice_get (seats_of x) k ≡ Some seat → FoundAt x number found k → can_act (refill o number found x) box seat ≡ true → Vain o n x box k seat
    → turn_of (refill o number found x) box ≡ Some seat
turn_is o n x box number found k seat apart at found_there can vain =
    let Turns : List Seat → Type 0 = λ seats. find (can_act (refill o number found x) box) (ring_from x.next_seat seats) ≡ Some seat in
    subst Turns (sym (seats_same o x number found))
    (first_in_ring (can_act (refill o number found x) box) x.next_seat (seats_of x) k seat at can
    (cannot_before o n x box number found k seat apart at found_there vain))

-- no seat has a turn where each was passed over
pub no_turn : (o n : Outside) (x : Worker) (box : List Parcel) → AreApart x.conns → (x.offered ≡ []) ⊎ (most_live ≤ length x.conns) → box ≡ []
    → ((i : ℕ) (h : Held) → slice_get x.conns i ≡ Some h → PassedOver o n h) → turn_of (refill o 0 idle x) box ≡ None
no_turn o n x box apart offers empty over =
    let Quiet : List Seat → Type 0 = λ seats. find (can_act (refill o 0 idle x) box) (ring_from x.next_seat seats) ≡ None in
    subst Quiet (sym (seats_same o x 0 idle)) (none_in_ring (can_act (refill o 0 idle x) box) x.next_seat (seats_of x) (λ a z at. by_case a z (at_seat x a z at))) where
      Cannot : Seat → Type 0
      Cannot z = can_act (refill o 0 idle x) box z ≡ false

      conn_cannot : (i : ℕ) (h : Held) → slice_get x.conns i ≡ Some h → Cannot (Of h.conn.number)
      conn_cannot i h at =
          can_refilled o x box 0 idle i h apart at
          ∙ ap {B = Bool} (λ (f : Found). is_some (try_of (filled o f h))) (nothing_found 0 h.conn.number idle (λ same. refl))
          ∙ ap {B = Bool} (λ (t : Option Try). is_some t) (over i h at).none

      by_case : (a : ℕ) (z : Seat)
          → ((a ≡ 0) × (z ≡ Offers)) ⊎
          (((a ≡ 1) × (z ≡ Inbox)) ⊎
          ((i : ℕ) × (h : Held) × (a ≡ i + 2) × (slice_get x.conns i ≡ Some h) × (z ≡ Of h.conn.number))) → Cannot z
      by_case a z (inl (place, is)) = subst Cannot (sym is) (offers_cannot o x box 0 idle offers)
      by_case a z (inr (inl (place, is))) = subst Cannot (sym is) (ap {B = Bool} (λ (parcels : List Parcel). nat_lt 0 (length parcels)) empty)
      by_case a z (inr (inr (i, h, place, at, is))) = subst Cannot (sym is) (conn_cannot i h at)

-- those before it were passed over
pub before_waited : (o n : Outside) (x : Worker) (box : List Parcel) (number : ℕ) (found : Found) (k : ℕ) (seat : Seat) → AreApart x.conns
    → slice_get (seats_of x) k ≡ Some seat → FoundAt x number found k → can_act (refill o number found x) box seat ≡ true → Vain o n x box k seat
    → All (SeatWaited o n (refill o number found x) box) (seats_before (refill o number found x) box)
before_waited o n x box number found k seat apart at found_there can vain =
    let Waited : List Seat → Type 0 = λ seats. All (SeatWaited o n (refill o number found x) box)
    (take_while (λ s. not (can_act (refill o number found x) box s)) (ring_from x.next_seat seats)) in
    subst Waited (sym (seats_same o x number found))
    (before_in_ring (can_act (refill o number found x) box) (SeatWaited o n (refill o number found x) box) x.next_seat (seats_of x) k seat at can
    (before_cases (SeatWaited o n (refill o number found x) box) x k seat
    (λ before. offers_waited o x number found (vain.offers before)) vain.inbox conn_waited)) where
      conn_waited : (i : ℕ) (h : Held) → slice_get x.conns i ≡ Some h → Precedes x.next_seat (i + 2) (Of h.conn.number) k seat
          → (g : Held) → held_of (refill o number found x) h.conn.number ≡ Some g → ConnWaited o n g
      conn_waited i h at_h before g is =
          let both : Some (refilled o number found h) ≡ Some g = sym (held_refilled o x number found i h apart at_h) ∙ is in
          let e : refilled o number found h ≡ g = cc in
          subst (λ (s : Held). ConnWaited o n s) e
          (waited_filled o n (found_for number found h.conn.number) h (vain.conns i h at_h before).waited)

-- all seats were passed over
pub all_waited : (o n : Outside) (x : Worker) (box : List Parcel) → AreApart x.conns → (x.offered ≡ []) ⊎ (most_live ≤ length x.conns) → box ≡ []
    → ((i : ℕ) (h : Held) → slice_get x.conns i ≡ Some h → ConnWaited o n h) → All (SeatWaited o n x box) (seats_of x)
all_waited o n x box apart offers none waited = all_at (SeatWaited o n x box) (seats_of x) each where
  conn_waited : (number : ℕ) (g : Held) → held_of x number ≡ Some g → ConnWaited o n g
  conn_waited number g is = let found = at_found x.conns number g is in waited found.0 g found.1

  by_case : (a : ℕ) (z : Seat)
      → ((a ≡ 0) × (z ≡ Offers)) ⊎
      (((a ≡ 1) × (z ≡ Inbox)) ⊎
      ((i : ℕ) × (h : Held) × (a ≡ i + 2) × (slice_get x.conns i ≡ Some h) × (z ≡ Of h.conn.number))) → SeatWaited o n x box z
  by_case a z (inl (place, is)) = subst (λ (s : Seat). SeatWaited o n x box s) (sym is) offers
  by_case a z (inr (inl (place, is))) = subst (λ (s : Seat). SeatWaited o n x box s) (sym is) none
  by_case a z (inr (inr (i, h, place, at_h, is))) = subst (λ (s : Seat). SeatWaited o n x box s) (sym is) (conn_waited h.conn.number)

  each : (a : ℕ) (z : Seat) → slice_get (seats_of x) a ≡ Some z → SeatWaited o n x box z
  each a z at = by_case a z (at_seat x a z at)
