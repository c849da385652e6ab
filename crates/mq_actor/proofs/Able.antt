-- What can be found in a list, whether anything can; and what a port and a connection of the code could do.
use Rattle.std.proofs.Common.{◌≡◌, inl, inr, ◌⊎◌, ℕ, zero, suc, ◌+◌, ◌<◌, ◌≤◌, cond, Bool, true, false, not, ◌||◌, ◌&&◌}
use Rattle.std.proofs.Common.{List, [], ◌∷◌, map, drop, length, filter, find, nat_lt, nat_le, slice_get, Option, Some, None, is_some, refl, sym, ap, subst, ◌∙◌, arith}
use Rattle.std.specs.Option.{option_and_then, option_or}
use Rattle.std.proofs.lemmas.List.Folds.{find-append}
use Rattle.std.proofs.lemmas.Bool.{cases_lt, le-leb, lt-ltb, ltb-false}
use Rattle.std.proofs.lemmas.List.{map-id}
use Rattle.slab.specs.Slab.{Slab, get}
use Rattle.mq_outside.specs.Ports.{PortHolds}
use Rattle.mq_talk.specs.declared.place.Parcel.{Parcel}
use Rattle.mq_machine.specs.State.{Port, Offer, Held, Worker}
use Rattle.mq_machine.specs.Acting.{holds_of}
use Rattle.mq_machine.specs.Shared.{port_of}
use Rattle.mq_machine.specs.Turn.{Act, Frame, Write, Read, Receive, can_try, try_of, Seat, Offers, Inbox, Of, place_of, seats_of, can_act, ring_from, turn_of, send_waits, most_live}
use Rattle.mq_machine.specs.Want.{want_of, Send}
use Rattle.mq_held.specs.declared.held.Held.{Held as HeldBy}
use Rattle.mq_held.specs.declared.held.PortSeat.{PortSeat}
use Rattle.mq_held.specs.Ready.{may_give, WouldReceive}
use Rattle.mq_step.specs.Holds.{ArePorts, IsHeld}
use Rattle.mq_step.proofs.Passing.{port_seat}
use Rattle.mq_step.proofs.Places.{served_live, mine_seat, port_first}
use Rattle.mq_step.proofs.Sending.{the_mine}
use Rattle.mq_actor.specs.declared.offer.Offer.{Offer as OfferBy}
use Rattle.mq_actor.specs.declared.ring.Ring.{Ring}
use Rattle.mq_actor.specs.Holds.{AreHeld, AreOffered, IsWorker}
use Rattle.mq_actor.specs.Ready.{may_send}
use Rattle.mq_actor.specs.Seen.{Words}
use Rattle.mq_actor.specs.Told.{TellPorts, TellConns, TellsConn}
use Rattle.mq_actor.proofs.Cores.{AreApart}
use Rattle.mq_actor.proofs.Helds.{held_length}
use Rattle.mq_actor.proofs.InRing.{none_in_ring}
use Rattle.mq_actor.proofs.Lists.{found_at, at_seat, seat_at}

-- ---- whether anything passes a test

module _ {A : Type 0} (p : A → Bool) where
  pub some_cons : (x : A) (xs : List A) → is_some (find p (x ∷ xs)) ≡ p x || is_some (find p xs)
  some_cons x xs = by_case (p x) where
    by_case : (b : Bool) → is_some (cond b (Some x) (find p xs)) ≡ b || is_some (find p xs)
    by_case true = refl
    by_case false = refl

  dropped : (xs : List A) (i : ℕ) (x : A) → slice_get xs i ≡ Some x → drop i xs ≡ x ∷ drop (suc i) xs
  dropped [] i x at = absurd cc
  dropped (y ∷ xs) zero x at = let e : y ≡ x = cc in ap {B = List A} (λ (z : A). z ∷ xs) e
  dropped (y ∷ xs) (suc i) x at = dropped xs i x at

  from_here : (xs : List A) (i : ℕ) (x : A) → slice_get xs i ≡ Some x
      → is_some (find p (drop i xs)) ≡ p x || is_some (find p (drop (i + 1) xs))
  from_here xs i x at =
      let next : suc i ≡ i + 1 = omega arith in
      ap {B = Bool} (λ (ys : List A). is_some (find p ys)) (dropped xs i x at)
      ∙ some_cons x (drop (suc i) xs)
      ∙ ap {B = Bool} (λ (k : ℕ). p x || is_some (find p (drop k xs))) next

  -- the one here passes
  pub some_here : (xs : List A) (i : ℕ) (x : A) → slice_get xs i ≡ Some x → p x ≡ true → is_some (find p (drop i xs)) ≡ true
  some_here xs i x at can = from_here xs i x at ∙ ap {B = Bool} (λ (b : Bool). b || is_some (find p (drop (i + 1) xs))) can

  -- it doesn't
  pub some_behind : (xs : List A) (i : ℕ) (x : A) → slice_get xs i ≡ Some x → p x ≡ false
      → is_some (find p (drop i xs)) ≡ is_some (find p (drop (i + 1) xs))
  some_behind xs i x at cannot = from_here xs i x at ∙ ap {B = Bool} (λ (b : Bool). b || is_some (find p (drop (i + 1) xs))) cannot

  nothing_left : (xs : List A) (i : ℕ) → length xs ≤ i → drop i xs ≡ []
  nothing_left [] zero past = refl
  nothing_left [] (suc i) past = refl
  nothing_left (x ∷ xs) zero past = absurd (omega (arith, past))
  nothing_left (x ∷ xs) (suc i) past = nothing_left xs i (omega (arith, past))

  -- nothing is left
  pub none_left : (xs : List A) (i : ℕ) → length xs ≤ i → is_some (find p (drop i xs)) ≡ false
  none_left xs i past = ap {B = Bool} (λ (ys : List A). is_some (find p ys)) (nothing_left xs i past)

  none_some : (xs : List A) → is_some (find p xs) ≡ false → (i : ℕ) (x : A) → slice_get xs i ≡ Some x → p x ≡ false
  none_some [] none i x at = absurd cc
  none_some (y ∷ xs) none i x at = by_case (p y) refl (sym (some_cons y xs) ∙ none) i at (λ rest j at_j. none_some xs rest j x at_j) where
    by_case : (b : Bool) → p y ≡ b → b || is_some (find p xs) ≡ false → (i : ℕ) → slice_get (y ∷ xs) i ≡ Some x
        → (is_some (find p xs) ≡ false → (j : ℕ) → slice_get xs j ≡ Some x → p x ≡ false) → p x ≡ false
    by_case true is none i at later = absurd cc
    by_case false is none zero at later = let e : y ≡ x = cc in ap p (sym e) ∙ is
    by_case false is none (suc i) at later = later none i at

  -- none passes
  pub some_none : (xs : List A) → ((i : ℕ) (x : A) → slice_get xs i ≡ Some x → p x ≡ false) → is_some (find p xs) ≡ false
  some_none [] each = refl
  some_none (y ∷ xs) each =
      some_cons y xs
      ∙ ap {B = Bool} (λ (b : Bool). b || is_some (find p xs)) (each 0 y refl)
      ∙ some_none xs (λ i x at. each (suc i) x at)

-- ---- ports

abbrev pub gives : Port → Bool
gives p = may_give (holds_of p)

-- the port of a seat, and whether it gives something
pub record Found {L Q : Type 0} (words : Words L Q) (table : Slab Q) (ports : List Port) (i : ℕ) (seat : PortSeat) : Type 0 where
  pub p : Port
  pub at : slice_get ports i ≡ Some p
  pub port : Q
  pub stands : get table seat.key ≡ Some port
  pub limit : p.limit ≡ words.most port
  pub tells : words.port port ≡ Some (holds_of p)

pub port_found : {L Q : Type 0} (words : Words L Q) (table : Slab Q) (seats : List PortSeat) (ports : List Port) (i : ℕ) (seat : PortSeat)
    → ArePorts words.most table seats ports → TellPorts words table seats ports → slice_get seats i ≡ Some seat → Found words table ports i seat
port_found words table [] ports i seat are tell at = absurd cc
port_found words table (x ∷ seats) [] i seat are tell at = absurd are
port_found {L} {Q} words table (x ∷ seats) (p ∷ ports) zero seat are tell at =
    let e : x ≡ seat = cc in
    let G : PortSeat → Type 0 = λ y. Found words table (p ∷ ports) 0 y in
    subst G e (record { p = p; at = refl; port = are.0.port; stands = are.0.at; limit = are.0.limit; tells = tell.0 are.0.port are.0.at })
port_found {L} {Q} words table (x ∷ seats) (p ∷ ports) (suc i) seat are tell at =
    let f = port_found words table seats ports i seat are.1 tell.1 at in
    record { p = f.p; at = f.at; port = f.port; stands = f.stands; limit = f.limit; tells = f.tells }

pub ports_size : {Q : Type 0} (most : Q → ℕ) (table : Slab Q) (seats : List PortSeat) (ports : List Port) → ArePorts most table seats ports
    → length ports ≡ length seats
ports_size most table [] [] are = refl
ports_size most table [] (p ∷ ports) are = absurd are
ports_size most table (x ∷ seats) [] are = absurd are
ports_size most table (x ∷ seats) (p ∷ ports) are = ap {B = ℕ} (λ (k : ℕ). suc k) (ports_size most table seats ports are.1)

-- what the port says of a receive is whether it gives something
pub gives_is : (told : Option PortHolds) (p : Port) (would : Bool) → told ≡ Some (holds_of p) → WouldReceive told would → would ≡ gives p
gives_is None p would tells is = absurd cc
gives_is (Some holds) p would tells is = let e : holds ≡ holds_of p = cc in is ∙ ap {B = Bool} (λ (h : PortHolds). may_give h) e

-- ---- the tries of a connection

-- a connection could receive exactly where a port of it gives something
pub receives_is : {L Q : Type 0} (most : Q → ℕ) (table : Slab Q) (h : HeldBy L) (s : Held) → IsHeld most table h s
    → is_some (find (can_try s) (map (λ (p : Port). Receive p.tunnel) s.ports)) ≡ is_some (find gives s.ports)
receives_is {L} {Q} most table h s held = same_tries s.ports each where
  -- the port is found by its tunnel, which is live
  each : (i : ℕ) (p : Port) → slice_get s.ports i ≡ Some p → can_try s (Receive p.tunnel) ≡ gives p
  each i p at =
      let x = port_seat most table h.ports.items s.ports held.ports i p at in
      let P : List Port → Type 0 = λ ps. port_of ps p.tunnel ≡ Some p in
      let port_is : port_of s.ports p.tunnel ≡ Some p = subst P (map-id s.ports) (port_first most table (λ q. q) h.ports.items s.ports i x.0 p (λ q. refl) held.apart held.ports x.1 at) in
      let tunnel_is = (served_live s.conn.ending s.conn.tunnels s.ports i p held.served at).1 in
      rw (port_is, tunnel_is) refl

  same_tries : (ports : List Port) → ((i : ℕ) (p : Port) → slice_get ports i ≡ Some p → can_try s (Receive p.tunnel) ≡ gives p)
      → is_some (find (can_try s) (map (λ (p : Port). Receive p.tunnel) ports)) ≡ is_some (find gives ports)
  same_tries [] each = refl
  same_tries (p ∷ ports) each =
      let rest = map (λ (q : Port). Receive q.tunnel) ports in
      some_cons (can_try s) (Receive p.tunnel) rest
      ∙ ap {B = Bool} (λ (b : Bool). b || is_some (find (can_try s) rest)) (each 0 p refl)
      ∙ ap {B = Bool} (λ (b : Bool). gives p || b) (same_tries ports (λ i q at. each (suc i) q at))
      ∙ sym (some_cons gives p ports)

-- a payload waits where it isn't too long, the port doesn't fail and takes nothing now
goes_is : (long fails waits : Bool) → (long || (fails || not waits)) ≡ not ((waits && not fails) && not long)
goes_is true true true = refl
goes_is true true false = refl
goes_is true false true = refl
goes_is true false false = refl
goes_is false true true = refl
goes_is false true false = refl
goes_is false false true = refl
goes_is false false false = refl

-- the port of the payload that a connection wants to send, and whether that goes
pub record Sending {L Q : Type 0} (words : Words L Q) (table : Slab Q) (h : HeldBy L) (s : Held) (tunnel : ℕ) (payload : List ℕ) : Type 0 where
  pub place : ℕ
  pub seat : PortSeat
  pub here : slice_get h.ports.items place ≡ Some seat
  pub of : seat.tunnel ≡ tunnel
  pub only : (other : ℕ) (x : PortSeat) → slice_get h.ports.items other ≡ Some x → x.tunnel ≡ tunnel → x ≡ seat
  pub port : Q
  pub stands : get table seat.key ≡ Some port
  pub p : Port
  pub tells : words.port port ≡ Some (holds_of p)
  pub goes : nat_lt (words.most port) (length payload) || may_send (holds_of p) ≡ not (send_waits (port_of s.ports tunnel) payload)

pub sending : {L Q : Type 0} (words : Words L Q) (table : Slab Q) (h : HeldBy L) (s : Held) (tunnel n : ℕ) (payload : List ℕ)
    → IsHeld words.most table h s → TellsConn words table h s → want_of s.conn ≡ Send tunnel n payload → Sending words table h s tunnel payload
sending {L} {Q} words table h s tunnel n payload held tells want =
    let x = the_mine words.most table h s tunnel n payload held want in
    let f = port_found words table h.ports.items s.ports x.place x.seat held.ports tells.ports x.at_seat in
    let P : List Port → Type 0 = λ ps. port_of ps f.p.tunnel ≡ Some f.p in
    let both : Some x.p ≡ Some f.p = sym x.at_port ∙ f.at in
    let e : x.p ≡ f.p = cc in
    let port_is : port_of s.ports tunnel ≡ Some f.p =
    ap {B = Option Port} (λ (i : ℕ). port_of s.ports i) (sym x.of_port ∙ ap (λ (y : Port). y.tunnel) e)
    ∙ subst P (map-id s.ports) (port_first words.most table (λ q. q) h.ports.items s.ports x.place x.seat f.p (λ q. refl) held.apart held.ports x.at_seat f.at) in
    record {
      place = x.place;
      seat = x.seat;
      here = x.at_seat;
      of = x.of_seat;
      only = λ other y at same. mine_seat words.most table h.ports.items s.ports tunnel x held.apart other y at same;
      port = f.port;
      stands = f.stands;
      p = f.p;
      tells = f.tells;
      goes = ap {B = Bool} (λ (limit : ℕ). nat_lt limit (length payload) || may_send (holds_of f.p)) (sym f.limit)
          ∙ goes_is (nat_lt f.p.limit (length payload)) f.p.send_fails f.p.send_waits
          ∙ ap {B = Bool} (λ (o : Option Port). not (send_waits o payload)) (sym port_is);
    }

-- the tries, one by one
pub tries_are : (s : Held) (receives : Bool) → is_some (find (can_try s) (map (λ (p : Port). Receive p.tunnel) s.ports)) ≡ receives
    → is_some (try_of s) ≡ can_try s Act || (can_try s Frame || (can_try s Write || (can_try s Read || receives)))
tries_are s receives is =
    let c = can_try s in
    let rs = map (λ (p : Port). Receive p.tunnel) s.ports in
    some_cons c Act (Frame ∷ Write ∷ Read ∷ rs)
    ∙ ap {B = Bool} (λ (b : Bool). c Act || b)
    (some_cons c Frame (Write ∷ Read ∷ rs)
    ∙ ap {B = Bool} (λ (b : Bool). c Frame || b)
    (some_cons c Write (Read ∷ rs)
    ∙ ap {B = Bool} (λ (b : Bool). c Write || b)
    (some_cons c Read rs
    ∙ ap {B = Bool} (λ (b : Bool). c Read || b) is)))

-- ---- connections

pub conn_found : {L Q : Type 0} (words : Words L Q) (table : Slab Q) (hs : List (HeldBy L)) (ss : List Held) (i : ℕ) (h : HeldBy L)
    → AreHeld words.most table hs ss → TellConns words table hs ss → slice_get hs i ≡ Some h
    → (s : Held) × (slice_get ss i ≡ Some s) × IsHeld words.most table h s × TellsConn words table h s
conn_found words table [] ss i h are tell at = absurd cc
conn_found words table (g ∷ hs) [] i h are tell at = absurd are
conn_found {L} {Q} words table (g ∷ hs) (s ∷ ss) zero h are tell at =
    let e : g ≡ h = cc in
    let P : HeldBy L → Type 0 = λ k. IsHeld words.most table k s × TellsConn words table k s in
    let both = subst P e (are.0, tell.0) in
    (s, refl, both.0, both.1)
conn_found words table (g ∷ hs) (s ∷ ss) (suc i) h are tell at = conn_found words table hs ss i h are.1 tell.1 at

-- ---- seats

module _ {A : Type 0} (can passes : A → Bool) where
  -- none that passes can
  passing_none : (xs : List A) → find can (filter passes xs) ≡ None → (i : ℕ) (x : A) → slice_get xs i ≡ Some x → passes x ≡ true → can x ≡ false
  passing_none [] none i x at is = absurd cc
  passing_none (y ∷ xs) none i x at is = by_pass (passes y) refl none i at (λ rest j at_j. passing_none xs rest j x at_j is) where
    Later : Type 0
    Later = find can (filter passes xs) ≡ None → (j : ℕ) → slice_get xs j ≡ Some x → can x ≡ false

    by_can : (b : Bool) → can y ≡ b → cond b (Some y) (find can (filter passes xs)) ≡ None → (i : ℕ) → slice_get (y ∷ xs) i ≡ Some x → Later → can x ≡ false
    by_can true so none i at later = absurd cc
    by_can false so none zero at later = let e : y ≡ x = cc in ap can (sym e) ∙ so
    by_can false so none (suc i) at later = later none i at

    by_pass : (b : Bool) → passes y ≡ b → find can (cond b (y ∷ filter passes xs) (filter passes xs)) ≡ None → (i : ℕ) → slice_get (y ∷ xs) i ≡ Some x → Later → can x ≡ false
    by_pass true so none i at later = by_can (can y) refl none i at later
    by_pass false so none zero at later =
        let e : y ≡ x = cc in
        let both : true ≡ false = sym is ∙ ap passes (sym e) ∙ so in
        absurd cc
    by_pass false so none (suc i) at later = later none i at

-- of no seat is the turn
seat_none : (can : Seat → Bool) (from : ℕ) (seats : List Seat) → find can (ring_from from seats) ≡ None → (i : ℕ) (x : Seat) → slice_get seats i ≡ Some x → can x ≡ false
seat_none can from seats none i x at = by_case (cases_lt (place_of x) from) where
  late : Seat → Bool
  late s = nat_le from (place_of s)

  early : Seat → Bool
  early s = nat_lt (place_of s) from

  parts : option_or (find can (filter late seats)) (find can (filter early seats)) ≡ None
  parts = sym (find-append can (filter late seats) (filter early seats)) ∙ none

  first : (o u : Option Seat) → option_or o u ≡ None → (o ≡ None) × (u ≡ None)
  first None u is = (refl, is)
  first (Some s) u is = absurd cc

  both : (find can (filter late seats) ≡ None) × (find can (filter early seats) ≡ None)
  both = first (find can (filter late seats)) (find can (filter early seats)) parts

  by_case : (place_of x < from) ⊎ (from ≤ place_of x) → can x ≡ false
  by_case (inl lt) = passing_none can early seats both.1 i x at (lt-ltb (place_of x) from lt)
  by_case (inr le) = passing_none can late seats both.0 i x at (le-leb from (place_of x) le)

abbrev pub could : Held → Bool
could s = is_some (try_of s)

-- none of the seats can act
pub quiet_turn : (w : Worker) (box : List Parcel) → AreApart w.conns → can_act w box Offers ≡ false → can_act w box Inbox ≡ false
    → is_some (find could w.conns) ≡ false → turn_of w box ≡ None
quiet_turn w box apart offers inbox conns =
    none_in_ring (can_act w box) w.next_seat (seats_of w) (λ k x at. by_seat x (at_seat w k x at)) where
      Cannot : Seat → Type 0
      Cannot x = can_act w box x ≡ false

      by_seat : (x : Seat) {k : ℕ} → ((k ≡ 0) × (x ≡ Offers)) ⊎ (((k ≡ 1) × (x ≡ Inbox)) ⊎ ((i : ℕ) × (h : Held) × (k ≡ i + 2) × (slice_get w.conns i ≡ Some h) × (x ≡ Of h.conn.number))) → Cannot x
      by_seat x (inl (k, is)) = subst Cannot (sym is) offers
      by_seat x (inr (inl (k, is))) = subst Cannot (sym is) inbox
      by_seat x (inr (inr (i, h, k, at, is))) =
          subst Cannot (sym is)
          (ap {B = Bool} (λ (o : Option Held). is_some (option_and_then try_of o)) (found_at w.conns i h apart at)
          ∙ none_some could w.conns conns i h at)

-- and the other way round
pub turn_quiet : (w : Worker) (box : List Parcel) → AreApart w.conns → turn_of w box ≡ None
    → (can_act w box Offers ≡ false) × (can_act w box Inbox ≡ false) × (is_some (find could w.conns) ≡ false)
turn_quiet w box apart none = (cannot 0 Offers refl, cannot 1 Inbox refl, some_none could w.conns (λ i h at. conn i h at)) where
  cannot : (k : ℕ) (x : Seat) → slice_get (seats_of w) k ≡ Some x → can_act w box x ≡ false
  cannot k x at = seat_none (can_act w box) w.next_seat (seats_of w) none k x at

  conn : (i : ℕ) (h : Held) → slice_get w.conns i ≡ Some h → could h ≡ false
  conn i h at =
      ap {B = Bool} (λ (o : Option Held). is_some (option_and_then try_of o)) (sym (found_at w.conns i h apart at))
      ∙ cannot (i + 2) (Of h.conn.number) (seat_at w i h at)

-- ---- the other seats

offered_size : {L : Type 0} (fs : List (OfferBy L)) (xs : List Offer) → AreOffered fs xs → length fs ≡ length xs
offered_size [] [] are = refl
offered_size [] (x ∷ xs) are = absurd are
offered_size (f ∷ fs) [] are = absurd are
offered_size (f ∷ fs) (x ∷ xs) are = ap {B = ℕ} (λ (k : ℕ). suc k) (offered_size fs xs are.1)

-- a link can be accepted where the ring has one and few connections are live
pub accepts_is : {L Q : Type 0} (most : Q → ℕ) (table : Slab Q) (r : Ring L) (w : Worker) (box : List Parcel) → IsWorker most table r w
    → nat_lt 0 (length r.offered.items) && nat_lt (length r.conns.items) most_live ≡ can_act w box Offers
accepts_is most table r w box x =
    ap {B = Bool} (λ (k : ℕ). nat_lt 0 k && nat_lt (length r.conns.items) most_live) (offered_size r.offered.items w.offered x.offered)
    ∙ ap {B = Bool} (λ (k : ℕ). nat_lt 0 (length w.offered) && nat_lt k most_live) (held_length most table r.conns.items w.conns x.conns)

-- the inbox has nothing where its seat can't act
pub box_empty : (box : List Parcel) → nat_lt 0 (length box) ≡ false → box ≡ []
box_empty [] none = refl
box_empty (x ∷ box) none = let past = ltb-false 0 (length (x ∷ box)) none in absurd (omega (arith, past))
