-- The seats of a connection and its ports, place by place.
use Rattle.std.proofs.Common.{◌≡◌, ◌≢◌, ◌⊎◌, inl, inr, ℕ, zero, suc, ◌<◌, ◌==◌, Bool, true, false, not, List, [], ◌∷◌, ◌++◌, map, remove, All, slice_get, slice_set, Option, Some, None, refl, sym, ap, subst, ◌∙◌, arith}
use Rattle.std.specs.Prelude.{filter, find, if◌then◌else◌}
use Rattle.std.proofs.lemmas.Bool.{cases_eq, eq-eqb, ne_eqb}
use Rattle.std.proofs.lemmas.List.{append-nil}
use Rattle.std.proofs.lemmas.List.Elements.{All-cons, All-head, All-tail, All-nil}
use Rattle.slab.specs.Slab.{Slab}
use Rattle.mq_talk.specs.declared.note.End.{End}
use Rattle.mq_talk.specs.Mails.{IsTold}
use Rattle.mq_talk.specs.declared.goal.Goal.{Goal}
use Rattle.mq_talk.specs.declared.goal.Goal.TheVariants as goal
use Rattle.mq_machine.specs.State.{Tunnel, Port}
use Rattle.mq_machine.specs.Shared.{port_of, at_port, without_port}
use Rattle.mq_machine.specs.Acting.{Outside, PortsTold, holds_of}
use Rattle.mq_held.specs.declared.held.PortSeat.{PortSeat}
use Rattle.mq_held.specs.Seats.{IsSeatOf}
use Rattle.mq_step.specs.Holds.{IsPort, ArePorts, AreServed, IsApartFrom, SeatsApart, port_number, tunnels_of, numbers_of}

-- ---- lists

pub at_all : {A : Type 0} (P : A → Type 0) (xs : List A) → All P xs → (i : ℕ) (x : A) → slice_get xs i ≡ Some x → P x
at_all P [] all i x at = absurd cc
at_all P (y ∷ xs) all zero x at = let e : y ≡ x = cc in subst P e (All-head P y xs all)
at_all P (y ∷ xs) all (suc i) x at = at_all P xs (All-tail P y xs all) i x at

pub found_all : {A : Type 0} (P : A → Type 0) (test : A → Bool) (xs : List A) (x : A) → All P xs → find test xs ≡ Some x → P x
found_all P test [] x all at = absurd cc
found_all {A} P test (y ∷ xs) x all at = by_case (test y) at (λ is. found_all P test xs x (All-tail P y xs all) is) where
  by_case : (b : Bool) → (if b then Some y else find test xs) ≡ Some x → (find test xs ≡ Some x → P x) → P x
  by_case true is rest = let e : y ≡ x = cc in subst P e (All-head P y xs all)
  by_case false is rest = rest is

pub all_by : {A : Type 0} (P : A → Type 0) (xs : List A) → ((i : ℕ) (x : A) → slice_get xs i ≡ Some x → P x) → All P xs
all_by P [] each = All-nil P
all_by P (x ∷ xs) each = All-cons P x xs (each 0 x refl) (all_by P xs (λ i y at. each (suc i) y at))

pub all_before : {A : Type 0} (P : A → Type 0) (xs ys : List A) → All P (xs ++ ys) → All P xs
all_before P [] ys all = All-nil P
all_before P (x ∷ xs) ys all = All-cons P x xs (All-head P x (xs ++ ys) all) (all_before P xs ys (All-tail P x (xs ++ ys) all))

-- one that isn't removed is left
pub kept_in : {A : Type 0} (P : A → Type 0) (xs : List A) (place i : ℕ) (x : A) → All P (remove xs place) → slice_get xs i ≡ Some x → i ≢ place → P x
kept_in P [] place i x all at ne = absurd cc
kept_in P (y ∷ xs) zero zero x all at ne = absurd (ne refl)
kept_in P (y ∷ xs) zero (suc i) x all at ne = at_all P xs all i x at
kept_in P (y ∷ xs) (suc place) zero x all at ne = let e : y ≡ x = cc in subst P e (All-head P y (remove xs place) all)
kept_in P (y ∷ xs) (suc place) (suc i) x all at ne =
    kept_in P xs place i x (All-tail P y (remove xs place) all) at (λ same. ne (ap (λ (k : ℕ). suc k) same))

-- ---- seats that are apart

pub apart_at : (seats : List PortSeat) → SeatsApart seats → (i j : ℕ) (a b : PortSeat) → slice_get seats i ≡ Some a → slice_get seats j ≡ Some b
    → ((i ≡ j) × (a ≡ b)) ⊎ IsApartFrom a b
apart_at [] apart i j a b at_a at_b = absurd cc
apart_at (x ∷ seats) apart zero zero a b at_a at_b = let e : a ≡ b = cc in inl (refl, e)
apart_at (x ∷ seats) apart zero (suc j) a b at_a at_b =
    let e : x ≡ a = cc in
    let P : PortSeat → Type 0 = λ y. IsApartFrom y b in
    inr (subst P e (at_all (IsApartFrom x) seats apart.0 j b at_b))
apart_at (x ∷ seats) apart (suc i) zero a b at_a at_b =
    let e : x ≡ b = cc in
    let P : PortSeat → Type 0 = λ y. IsApartFrom y a in
    let r = subst P e (at_all (IsApartFrom x) seats apart.0 i a at_a) in
    inr (λ same. r.0 (sym same), λ same. r.1 (sym same))
apart_at (x ∷ seats) apart (suc i) (suc j) a b at_a at_b = by_case (apart_at seats apart.1 i j a b at_a at_b) where
  by_case : ((i ≡ j) × (a ≡ b)) ⊎ IsApartFrom a b → ((suc i ≡ suc j) × (a ≡ b)) ⊎ IsApartFrom a b
  by_case (inl (same, is)) = inl (ap (λ (k : ℕ). suc k) same, is)
  by_case (inr ne) = inr ne

all_removed : (P : PortSeat → Type 0) (seats : List PortSeat) (place : ℕ) → All P seats → All P (remove seats place)
all_removed P [] zero all = all
all_removed P [] (suc place) all = all
all_removed P (x ∷ seats) zero all = All-tail P x seats all
all_removed P (x ∷ seats) (suc place) all = All-cons P x (remove seats place) (All-head P x seats all) (all_removed P seats place (All-tail P x seats all))

-- one is gone
pub apart_removed : (seats : List PortSeat) (place : ℕ) → SeatsApart seats → SeatsApart (remove seats place)
apart_removed [] zero apart = apart
apart_removed [] (suc place) apart = apart
apart_removed (x ∷ seats) zero apart = apart.1
apart_removed (x ∷ seats) (suc place) apart = (all_removed (IsApartFrom x) seats place apart.0, apart_removed seats place apart.1)

pub set_all : (P : PortSeat → Type 0) (seats : List PortSeat) (place : ℕ) (new : PortSeat) → P new → All P seats → All P (slice_set seats place new)
set_all P [] zero new is all = all
set_all P [] (suc place) new is all = all
set_all P (y ∷ seats) zero new is all = All-cons P new seats is (All-tail P y seats all)
set_all P (y ∷ seats) (suc place) new is all = All-cons P y (slice_set seats place new) (All-head P y seats all) (set_all P seats place new is (All-tail P y seats all))

-- one became another of the same tunnel, under the same key
pub apart_set : (seats : List PortSeat) (place : ℕ) (was new : PortSeat) → slice_get seats place ≡ Some was → new.tunnel ≡ was.tunnel → new.key ≡ was.key
    → SeatsApart seats → SeatsApart (slice_set seats place new)
apart_set [] place was new at tunnel key apart = absurd cc
apart_set (x ∷ seats) zero was new at tunnel key apart =
    let e : was ≡ x = cc in
    let T : ℕ → Type 0 = λ t. All (λ (b : PortSeat). (b.tunnel ≢ t) × (b.key ≢ new.key)) seats in
    let K : ℕ → Type 0 = λ k. All (λ (b : PortSeat). (b.tunnel ≢ x.tunnel) × (b.key ≢ k)) seats in
    (subst T (sym (tunnel ∙ ap (λ (y : PortSeat). y.tunnel) e)) (subst K (sym (key ∙ ap (λ (y : PortSeat). y.key) e)) apart.0), apart.1)
apart_set (x ∷ seats) (suc place) was new at tunnel key apart =
    let h = at_all (IsApartFrom x) seats apart.0 place was at in
    (set_all (IsApartFrom x) seats place new (λ e. h.0 (sym tunnel ∙ e), λ e. h.1 (sym key ∙ e)) apart.0, apart_set seats place was new at tunnel key apart.1)

all_added : (P : PortSeat → Type 0) (seats : List PortSeat) (new : PortSeat) → P new → All P seats → All P (seats ++ new ∷ [])
all_added P [] new is all = All-cons P new [] is all
all_added P (x ∷ seats) new is all = All-cons P x (seats ++ new ∷ []) (All-head P x seats all) (all_added P seats new is (All-tail P x seats all))

-- one more is apart from each
pub apart_added : (seats : List PortSeat) (new : PortSeat) → All (IsApartFrom new) seats → SeatsApart seats → SeatsApart (seats ++ new ∷ [])
apart_added [] new others apart = (others, tt)
apart_added (x ∷ seats) new others apart =
    let h = All-head (IsApartFrom new) x seats others in
    (all_added (IsApartFrom x) seats new (λ e. h.0 (sym e), λ e. h.1 (sym e)) apart.0, apart_added seats new (All-tail (IsApartFrom new) x seats others) apart.1)

-- ---- a seat and its port

-- the port of a seat
pub seat_port : {Q : Type 0} (most : Q → ℕ) (table : Slab Q) (seats : List PortSeat) (ports : List Port) → ArePorts most table seats ports → (i : ℕ) (seat : PortSeat)
    → slice_get seats i ≡ Some seat → (p : Port) × (slice_get ports i ≡ Some p) × IsPort most table seat p
seat_port most table [] ports are i seat at = absurd cc
seat_port most table (x ∷ seats) [] are i seat at = absurd are
seat_port most table (x ∷ seats) (p ∷ ports) are zero seat at = let e : x ≡ seat = cc in let P : PortSeat → Type 0 = λ y. IsPort most table y p in (p, refl, subst P e are.0)
seat_port most table (x ∷ seats) (p ∷ ports) are (suc i) seat at = seat_port most table seats ports are.1 i seat at

-- the seat of a tunnel, and its port
pub record Mine {Q : Type 0} (most : Q → ℕ) (table : Slab Q) (seats : List PortSeat) (ports : List Port) (tunnel : ℕ) : Type 0 where
  pub place : ℕ
  pub seat : PortSeat
  pub p : Port
  pub at_seat : slice_get seats place ≡ Some seat
  pub at_port : slice_get ports place ≡ Some p
  pub of_seat : seat.tunnel ≡ tunnel
  pub of_port : p.tunnel ≡ tunnel
  pub is : IsPort most table seat p

pub mine_at : {Q : Type 0} (most : Q → ℕ) (table : Slab Q) (seats : List PortSeat) (ports : List Port) (place : ℕ) (seat : PortSeat) → ArePorts most table seats ports
    → slice_get seats place ≡ Some seat → Mine most table seats ports seat.tunnel
mine_at most table seats ports place seat are at =
    let p = seat_port most table seats ports are place seat at in
    record { place = place; seat = seat; p = p.0; at_seat = at; at_port = p.1; of_seat = refl; of_port = p.2.tunnel; is = p.2 }

later : {Q : Type 0} (most : Q → ℕ) (table : Slab Q) (x : PortSeat) (q : Port) (seats : List PortSeat) (ports : List Port) (tunnel : ℕ) → Mine most table seats ports tunnel
    → Mine most table (x ∷ seats) (q ∷ ports) tunnel
later most table x q seats ports tunnel m =
    record { place = suc m.place; seat = m.seat; p = m.p; at_seat = m.at_seat; at_port = m.at_port; of_seat = m.of_seat; of_port = m.of_port; is = m.is }

-- ---- the numbers of tunnels for UDP

-- a tunnel that has a port
abbrev pub HasPort : Tunnel → Type 0
HasPort t = port_number t.goal t.id ≡ t.id ∷ []

-- the number of a live one is among them
number_at : (ts : List Tunnel) (t : Tunnel) (tunnel : ℕ) → find (λ (u : Tunnel). u.id == tunnel) ts ≡ Some t → HasPort t
    → (i : ℕ) × (slice_get (numbers_of ts) i ≡ Some tunnel)
number_at [] t tunnel at goes = absurd cc
number_at (u ∷ ts) t tunnel at goes = by_case (cases_eq u.id tunnel) (number_at ts t tunnel) where
  test : Tunnel → Bool
  test y = y.id == tunnel

  behind : (g : Goal) (i : ℕ) → slice_get (numbers_of ts) i ≡ Some tunnel → (k : ℕ) × (slice_get (port_number g u.id ++ numbers_of ts) k ≡ Some tunnel)
  behind (goal.Udp addr port) i there = (suc i, there)
  behind (goal.Ip area protocol) i there = (i, there)

  by_case : (u.id ≡ tunnel) ⊎ (u.id ≡ tunnel → ⊥) → (find test ts ≡ Some t → HasPort t → (i : ℕ) × (slice_get (numbers_of ts) i ≡ Some tunnel))
      → (i : ℕ) × (slice_get (numbers_of (u ∷ ts)) i ≡ Some tunnel)
  by_case (inl is) more =
      let found : Some u ≡ Some t = sym (ap {B = Option Tunnel} (λ (b : Bool). if b then Some u else find test ts) (eq-eqb u.id tunnel is)) ∙ at in
      let same : t ≡ u = cc in
      let here : port_number u.goal u.id ≡ u.id ∷ [] = subst HasPort same goes in
      (0, ap (λ (ns : List ℕ). slice_get (ns ++ numbers_of ts) 0) here ∙ ap {B = Option ℕ} (λ (n : ℕ). Some n) is)
  by_case (inr ne) more =
      let there : find test ts ≡ Some t = sym (ap {B = Option Tunnel} (λ (b : Bool). if b then Some u else find test ts) (ne_eqb u.id tunnel ne)) ∙ at in
      let r = more there goes in
      behind u.goal r.0 r.1

-- each of them is that of a live tunnel
number_found : (ts : List Tunnel) (i n : ℕ) → slice_get (numbers_of ts) i ≡ Some n → (t : Tunnel) × (find (λ (u : Tunnel). u.id == n) ts ≡ Some t) × (t.id ≡ n)
number_found [] i n at = absurd cc
number_found (u ∷ ts) i n at = by_goal (λ k there. number_found ts k n there) u.goal i at where
  test : Tunnel → Bool
  test y = y.id == n

  Live : Type 0
  Live = (t : Tunnel) × (find test (u ∷ ts) ≡ Some t) × (t.id ≡ n)

  first : u.id ≡ n → Live
  first is = (u, ap {B = Option Tunnel} (λ (b : Bool). if b then Some u else find test ts) (eq-eqb u.id n is), is)

  Behind : Type 0
  Behind = (t : Tunnel) × (find test ts ≡ Some t) × (t.id ≡ n)

  rest : Behind → Live
  rest r = by_case (cases_eq u.id n) where
    by_case : (u.id ≡ n) ⊎ (u.id ≡ n → ⊥) → Live
    by_case (inl is) = first is
    by_case (inr ne) = (r.0, ap {B = Option Tunnel} (λ (b : Bool). if b then Some u else find test ts) (ne_eqb u.id n ne) ∙ r.1, r.2)

  by_goal : ((k : ℕ) → slice_get (numbers_of ts) k ≡ Some n → Behind) → (g : Goal) (i : ℕ) → slice_get (port_number g u.id ++ numbers_of ts) i ≡ Some n → Live
  by_goal behind (goal.Udp addr port) zero there = first cc
  by_goal behind (goal.Udp addr port) (suc i) there = rest (behind i there)
  by_goal behind (goal.Ip area protocol) i there = rest (behind i there)

-- the seat of the port of this tunnel
mine_in : {Q : Type 0} (most : Q → ℕ) (table : Slab Q) (seats : List PortSeat) (ports : List Port) (i tunnel : ℕ) → ArePorts most table seats ports
    → slice_get (tunnels_of ports) i ≡ Some tunnel → Mine most table seats ports tunnel
mine_in most table seats [] i tunnel are at = absurd cc
mine_in most table [] (p ∷ ports) i tunnel are at = absurd are
mine_in most table (x ∷ seats) (p ∷ ports) zero tunnel are at =
    let first : p.tunnel ≡ tunnel = cc in
    record { place = 0; seat = x; p = p; at_seat = refl; at_port = refl; of_seat = sym are.0.tunnel ∙ first; of_port = first; is = are.0 }
mine_in most table (x ∷ seats) (p ∷ ports) (suc i) tunnel are at = later most table x p seats ports tunnel (mine_in most table seats ports i tunnel are.1 at)

-- that of a live tunnel for UDP, where each of these has its port
pub mine_of : {Q : Type 0} (most : Q → ℕ) (table : Slab Q) (seats : List PortSeat) (ports : List Port) (ts : List Tunnel) (t : Tunnel) (tunnel : ℕ) → ArePorts most table seats ports
    → tunnels_of ports ≡ numbers_of ts → find (λ (u : Tunnel). u.id == tunnel) ts ≡ Some t → HasPort t → Mine most table seats ports tunnel
mine_of most table seats ports ts t tunnel are same at goes =
    let x = number_at ts t tunnel at goes in
    mine_in most table seats ports x.0 tunnel are (ap (λ (ns : List ℕ). slice_get ns x.0) same ∙ x.1)

-- a tunnel whose port is there is live
port_number_at : (more : List ℕ) (ports : List Port) (i : ℕ) (p : Port) → slice_get ports i ≡ Some p → slice_get (tunnels_of ports ++ more) i ≡ Some p.tunnel
port_number_at more [] i p at = absurd cc
port_number_at more (q ∷ ports) zero p at = let same : q ≡ p = cc in ap {B = Option ℕ} (λ (y : Port). Some y.tunnel) same
port_number_at more (q ∷ ports) (suc i) p at = port_number_at more ports i p at

live_in : (more : List ℕ) (ports : List Port) (ts : List Tunnel) (i : ℕ) (p : Port) → numbers_of ts ≡ tunnels_of ports ++ more → slice_get ports i ≡ Some p
    → (t : Tunnel) × (find (λ (u : Tunnel). u.id == p.tunnel) ts ≡ Some t) × (t.id ≡ p.tunnel)
live_in more ports ts i p same at = number_found ts i p.tunnel (ap (λ (ns : List ℕ). slice_get ns i) same ∙ port_number_at more ports i p at)

pub live_of : (ports : List Port) (ts : List Tunnel) (i : ℕ) (p : Port) → tunnels_of ports ≡ numbers_of ts → slice_get ports i ≡ Some p
    → (t : Tunnel) × (find (λ (u : Tunnel). u.id == p.tunnel) ts ≡ Some t) × (t.id ≡ p.tunnel)
live_of ports ts i p same at = live_in [] ports ts i p (sym same ∙ sym (append-nil (tunnels_of ports))) at

-- of an ending connection, too
pub served_live : (e : Option End) (ts : List Tunnel) (ports : List Port) (i : ℕ) (p : Port) → AreServed e ts ports → slice_get ports i ≡ Some p
    → (t : Tunnel) × (find (λ (u : Tunnel). u.id == p.tunnel) ts ≡ Some t) × (t.id ≡ p.tunnel)
served_live None ts ports i p served at = live_of ports ts i p served at
served_live (Some why) ts ports i p (inl is) at = live_of ports ts i p is at
served_live (Some why) ts ports i p (inr (last, is)) at = live_in (last ∷ []) ports ts i p is at

-- the number of a tunnel that was found
pub found_id : (ts : List Tunnel) (t : Tunnel) (tunnel : ℕ) → find (λ (u : Tunnel). u.id == tunnel) ts ≡ Some t → t.id ≡ tunnel
found_id [] t tunnel at = absurd cc
found_id (u ∷ ts) t tunnel at = by_case (cases_eq u.id tunnel) (λ there. found_id ts t tunnel there) where
  test : Tunnel → Bool
  test y = y.id == tunnel

  by_case : (u.id ≡ tunnel) ⊎ (u.id ≡ tunnel → ⊥) → (find (λ (y : Tunnel). y.id == tunnel) ts ≡ Some t → t.id ≡ tunnel) → t.id ≡ tunnel
  by_case (inl is) rest =
      let e : Some u ≡ Some t = sym (ap {B = Option Tunnel} (λ (b : Bool). if b then Some u else find test ts) (eq-eqb u.id tunnel is)) ∙ at in
      let same : u ≡ t = cc in
      ap (λ (y : Tunnel). y.id) (sym same) ∙ is
  by_case (inr ne) rest = rest (sym (ap {B = Option Tunnel} (λ (b : Bool). if b then Some u else find test ts) (ne_eqb u.id tunnel ne)) ∙ at)

-- a port is that of the tunnel, or another
pub mine_or : {Q : Type 0} (most : Q → ℕ) (table : Slab Q) (seats : List PortSeat) (ports : List Port) (tunnel : ℕ) (m : Mine most table seats ports tunnel) → SeatsApart seats
    → (i : ℕ) (x : PortSeat) (q : Port) → slice_get seats i ≡ Some x → slice_get ports i ≡ Some q → IsPort most table x q
    → ((i ≡ m.place) × (x ≡ m.seat) × (q ≡ m.p)) ⊎ (IsApartFrom m.seat x × (q.tunnel ≢ tunnel))
mine_or most table seats ports tunnel m apart i x q at_x at_q is = by_case (apart_at seats apart m.place i m.seat x m.at_seat at_x) where
  by_case : ((m.place ≡ i) × (m.seat ≡ x)) ⊎ IsApartFrom m.seat x → ((i ≡ m.place) × (x ≡ m.seat) × (q ≡ m.p)) ⊎ (IsApartFrom m.seat x × (q.tunnel ≢ tunnel))
  by_case (inl (same, seat)) =
      let both : Some m.p ≡ Some q = sym m.at_port ∙ ap (λ (k : ℕ). slice_get ports k) same ∙ at_q in
      let e : q ≡ m.p = cc in
      inl (sym same, sym seat, e)
  by_case (inr ne) = inr (ne, λ same. ne.0 (sym is.tunnel ∙ same ∙ sym m.of_seat))

-- the seat of the tunnel is the only one
pub mine_seat : {Q : Type 0} (most : Q → ℕ) (table : Slab Q) (seats : List PortSeat) (ports : List Port) (tunnel : ℕ) (m : Mine most table seats ports tunnel) → SeatsApart seats
    → (place : ℕ) (seat : PortSeat) → slice_get seats place ≡ Some seat → seat.tunnel ≡ tunnel → seat ≡ m.seat
mine_seat most table seats ports tunnel m apart place seat at of = by_case (apart_at seats apart m.place place m.seat seat m.at_seat at) where
  by_case : ((m.place ≡ place) × (m.seat ≡ seat)) ⊎ IsApartFrom m.seat seat → seat ≡ m.seat
  by_case (inl (same, is)) = sym is
  by_case (inr ne) = absurd (ne.0 (of ∙ sym m.of_seat))

-- ---- each port, by its seat

-- a change of ports that leaves their tunnels
abbrev pub KeepsTunnels : (Port → Port) → Type 0
KeepsTunnels F = (q : Port) → (F q).tunnel ≡ q.tunnel

pub tunnels_map : (F : Port → Port) (ports : List Port) → KeepsTunnels F → tunnels_of (map F ports) ≡ tunnels_of ports
tunnels_map F [] keeps = refl
tunnels_map F (p ∷ ports) keeps = ap (λ (i : ℕ). i ∷ tunnels_of (map F ports)) (keeps p) ∙ ap (λ (xs : List ℕ). p.tunnel ∷ xs) (tunnels_map F ports keeps)

-- the change of one port is a change of each
abbrev pub one_of : ℕ → (Port → Port) → Port → Port
one_of tunnel change q = if q.tunnel == tunnel then change q else q

pub at_port_map : (tunnel : ℕ) (change F : Port → Port) (ports : List Port) → at_port tunnel change (map F ports) ≡ map (λ (q : Port). one_of tunnel change (F q)) ports
at_port_map tunnel change F [] = refl
at_port_map tunnel change F (p ∷ ports) = ap (λ (xs : List Port). one_of tunnel change (F p) ∷ xs) (at_port_map tunnel change F ports)

pub one_here : (tunnel : ℕ) (change : Port → Port) (q : Port) → q.tunnel ≡ tunnel → one_of tunnel change q ≡ change q
one_here tunnel change q same = ap {B = Port} (λ (b : Bool). if b then change q else q) (eq-eqb q.tunnel tunnel same)

pub one_other : (tunnel : ℕ) (change : Port → Port) (q : Port) → q.tunnel ≢ tunnel → one_of tunnel change q ≡ q
one_other tunnel change q ne = ap {B = Port} (λ (b : Bool). if b then change q else q) (ne_eqb q.tunnel tunnel ne)

pub one_tunnels : (tunnel : ℕ) (change : Port → Port) → KeepsTunnels change → KeepsTunnels (one_of tunnel change)
one_tunnels tunnel change keeps q = by_case (q.tunnel == tunnel) where
  by_case : (b : Bool) → (if b then change q else q).tunnel ≡ q.tunnel
  by_case true = keeps q
  by_case false = refl

module _ {Q : Type 0} (most : Q → ℕ) (table : Slab Q) where
  -- what is true of each port and its seat, by their place
  abbrev pub Each : (ℕ → PortSeat → Port → Type 0) → List PortSeat → List Port → Type 0
  Each P seats ports = (i : ℕ) (x : PortSeat) (q : Port) → slice_get seats i ≡ Some x → slice_get ports i ≡ Some q → IsPort most table x q → P i x q

  pub each_port : (P : Port → Type 0) (seats : List PortSeat) (ports : List Port) → ArePorts most table seats ports → Each (λ i x q. P q) seats ports → All P ports
  each_port P [] [] are each = All-nil P
  each_port P [] (p ∷ ports) are each = absurd are
  each_port P (x ∷ seats) [] are each = absurd are
  each_port P (x ∷ seats) (p ∷ ports) are each =
      All-cons P p ports (each 0 x p refl refl are.0) (each_port P seats ports are.1 (λ i y q at_y at_q is. each (suc i) y q at_y at_q is))

  pub each_map : (P : Port → Type 0) (F : Port → Port) (seats : List PortSeat) (ports : List Port) → ArePorts most table seats ports → Each (λ i x q. P (F q)) seats ports
      → All P (map F ports)
  each_map P F [] [] are each = All-nil P
  each_map P F [] (p ∷ ports) are each = absurd are
  each_map P F (x ∷ seats) [] are each = absurd are
  each_map P F (x ∷ seats) (p ∷ ports) are each =
      All-cons P (F p) (map F ports) (each 0 x p refl refl are.0) (each_map P F seats ports are.1 (λ i y q at_y at_q is. each (suc i) y q at_y at_q is))

  pub are_each : (after : Slab Q) (F : Port → Port) (seats : List PortSeat) (ports : List Port) → ArePorts most table seats ports
      → Each (λ i x q. IsPort most after x (F q)) seats ports → ArePorts most after seats (map F ports)
  are_each after F [] [] are each = tt
  are_each after F [] (p ∷ ports) are each = absurd are
  are_each after F (x ∷ seats) [] are each = absurd are
  are_each after F (x ∷ seats) (p ∷ ports) are each =
      (each 0 x p refl refl are.0, are_each after F seats ports are.1 (λ i y q at_y at_q is. each (suc i) y q at_y at_q is))

  pub told_each : (o : Outside) (F : Port → Port) (seats : List PortSeat) (ports : List Port) → ArePorts most table seats ports
      → Each (λ i x q. IsTold (o.port (F q).tunnel) (holds_of (F q))) seats ports → PortsTold o (map F ports)
  told_each o F [] [] are each = tt
  told_each o F [] (p ∷ ports) are each = absurd are
  told_each o F (x ∷ seats) [] are each = absurd are
  told_each o F (x ∷ seats) (p ∷ ports) are each =
      (each 0 x p refl refl are.0, told_each o F seats ports are.1 (λ i y q at_y at_q is. each (suc i) y q at_y at_q is))

  -- one of the seats became another
  pub are_set : (after : Slab Q) (F : Port → Port) (seats : List PortSeat) (ports : List Port) (place : ℕ) (new : PortSeat) → ArePorts most table seats ports
      → Each (λ i x q. (i ≡ place → IsPort most after new (F q)) × (i ≢ place → IsPort most after x (F q))) seats ports
      → ArePorts most after (slice_set seats place new) (map F ports)
  are_set after F [] [] zero new are each = tt
  are_set after F [] [] (suc place) new are each = tt
  are_set after F [] (p ∷ ports) place new are each = absurd are
  are_set after F (x ∷ seats) [] place new are each = absurd are
  are_set after F (x ∷ seats) (p ∷ ports) zero new are each = (
    (each 0 x p refl refl are.0).0 refl,
    are_each after F seats ports are.1 (λ i y q at_y at_q is. (each (suc i) y q at_y at_q is).1 (λ e. omega (arith, e))),
  )
  are_set after F (x ∷ seats) (p ∷ ports) (suc place) new are each = (
    (each 0 x p refl refl are.0).1 (λ e. omega (arith, e)),
    are_set after F seats ports place new are.1
        (λ i y q at_y at_q is.
        let r = each (suc i) y q at_y at_q is in
        (λ e. r.0 (ap (λ (k : ℕ). suc k) e), λ ne. r.1 (λ e. ne (omega (arith, e))))),
  )

  -- the port of a seat is the first of its tunnel
  pub port_first : (F : Port → Port) (seats : List PortSeat) (ports : List Port) (place : ℕ) (seat : PortSeat) (p : Port) → KeepsTunnels F → SeatsApart seats → ArePorts most table seats ports
      → slice_get seats place ≡ Some seat → slice_get ports place ≡ Some p → port_of (map F ports) p.tunnel ≡ Some (F p)
  port_first F [] ports place seat p keeps apart are at_seat at_port = absurd cc
  port_first F (x ∷ seats) [] place seat p keeps apart are at_seat at_port = absurd are
  port_first F (x ∷ seats) (q ∷ ports) zero seat p keeps apart are at_seat at_port =
      let e : q ≡ p = cc in
      let tail : List Port = map F ports in
      ap {B = Option Port} (λ (b : Bool). if b then Some (F q) else port_of tail p.tunnel) (eq-eqb (F q).tunnel p.tunnel (keeps q ∙ ap (λ (y : Port). y.tunnel) e))
      ∙ ap {B = Option Port} (λ (y : Port). Some (F y)) e
  port_first F (x ∷ seats) (q ∷ ports) (suc place) seat p keeps apart are at_seat at_port =
      let tail : List Port = map F ports in
      let own = seat_port most table seats ports are.1 place seat at_seat in
      let same : Some own.0 ≡ Some p = sym own.1 ∙ at_port in
      let e : own.0 ≡ p = cc in
      let there : p.tunnel ≡ seat.tunnel = ap (λ (y : Port). y.tunnel) (sym e) ∙ own.2.tunnel in
      let ne : (F q).tunnel ≢ p.tunnel = λ is. (at_all (IsApartFrom x) seats apart.0 place seat at_seat).0 (sym there ∙ sym is ∙ keeps q ∙ are.0.tunnel) in
      ap {B = Option Port} (λ (b : Bool). if b then Some (F q) else port_of tail p.tunnel) (ne_eqb (F q).tunnel p.tunnel ne)
      ∙ port_first F seats ports place seat p keeps apart.1 are.1 at_seat at_port

  -- ---- the port of a tunnel is gone

  -- where no seat has the tunnel
  pub are_none : (after : Slab Q) (F : Port → Port) (tunnel : ℕ) (seats : List PortSeat) (ports : List Port) → KeepsTunnels F → ArePorts most table seats ports
      → ((i : ℕ) (x : PortSeat) → slice_get seats i ≡ Some x → x.tunnel ≢ tunnel)
      → Each (λ i x q. IsPort most after x (F q)) seats ports → ArePorts most after seats (without_port tunnel (map F ports))
  are_none after F tunnel [] [] keeps are none each = tt
  are_none after F tunnel [] (p ∷ ports) keeps are none each = absurd are
  are_none after F tunnel (x ∷ seats) [] keeps are none each = absurd are
  are_none after F tunnel (x ∷ seats) (p ∷ ports) keeps are none each =
      let rest : List Port = without_port tunnel (map F ports) in
      let ne : (F p).tunnel ≢ tunnel = λ is. none 0 x refl (sym are.0.tunnel ∙ sym (keeps p) ∙ is) in
      let A : List Port → Type 0 = λ ps. ArePorts most after (x ∷ seats) ps in
      subst A (sym (ap {B = List Port} (λ (b : Bool). if not b then F p ∷ rest else rest) (ne_eqb (F p).tunnel tunnel ne)))
      (each 0 x p refl refl are.0, are_none after F tunnel seats ports keeps are.1 (λ i y at. none (suc i) y at) (λ i y q at_y at_q is. each (suc i) y q at_y at_q is))

  -- where a seat has it
  pub are_without : (after : Slab Q) (F : Port → Port) (tunnel : ℕ) (seats : List PortSeat) (ports : List Port) (place : ℕ) (seat : PortSeat) → KeepsTunnels F → SeatsApart seats
      → ArePorts most table seats ports → slice_get seats place ≡ Some seat → seat.tunnel ≡ tunnel
      → Each (λ i x q. IsApartFrom seat x → IsPort most after x (F q)) seats ports → ArePorts most after (remove seats place) (without_port tunnel (map F ports))
  are_without after F tunnel [] ports place seat keeps apart are at of each = absurd cc
  are_without after F tunnel (x ∷ seats) [] place seat keeps apart are at of each = absurd are
  are_without after F tunnel (x ∷ seats) (p ∷ ports) zero seat keeps apart are at of each =
      let e : x ≡ seat = cc in
      let rest : List Port = without_port tunnel (map F ports) in
      let same : (F p).tunnel ≡ tunnel = keeps p ∙ are.0.tunnel ∙ ap (λ (y : PortSeat). y.tunnel) e ∙ of in
      let A : List Port → Type 0 = λ ps. ArePorts most after seats ps in
      let B : PortSeat → Type 0 = λ y. All (IsApartFrom y) seats in
      let others : All (IsApartFrom seat) seats = subst B e apart.0 in
      subst A (sym (ap {B = List Port} (λ (b : Bool). if not b then F p ∷ rest else rest) (eq-eqb (F p).tunnel tunnel same)))
      (are_none after F tunnel seats ports keeps are.1 (λ i y at_y is. (at_all (IsApartFrom seat) seats others i y at_y).0 (is ∙ sym of))
      (λ i y q at_y at_q is. each (suc i) y q at_y at_q is (at_all (IsApartFrom seat) seats others i y at_y)))
  are_without after F tunnel (x ∷ seats) (p ∷ ports) (suc place) seat keeps apart are at of each =
      let h = at_all (IsApartFrom x) seats apart.0 place seat at in
      let rest : List Port = without_port tunnel (map F ports) in
      let ne : (F p).tunnel ≢ tunnel = λ is. h.0 (of ∙ sym is ∙ keeps p ∙ are.0.tunnel) in
      let A : List Port → Type 0 = λ ps. ArePorts most after (x ∷ remove seats place) ps in
      subst A (sym (ap {B = List Port} (λ (b : Bool). if not b then F p ∷ rest else rest) (ne_eqb (F p).tunnel tunnel ne))) (
        each 0 x p refl refl are.0 (λ e. h.0 (sym e), λ e. h.1 (sym e)),
        are_without after F tunnel seats ports place seat keeps apart.1 are.1 at of (λ i y q at_y at_q is. each (suc i) y q at_y at_q is),
      )

  -- what is told of the ports that are left
  pub told_without : (o : Outside) (F : Port → Port) (tunnel : ℕ) (seats : List PortSeat) (ports : List Port) → KeepsTunnels F → ArePorts most table seats ports
      → Each (λ i x q. x.tunnel ≢ tunnel → IsTold (o.port (F q).tunnel) (holds_of (F q))) seats ports → PortsTold o (without_port tunnel (map F ports))
  told_without o F tunnel [] [] keeps are each = tt
  told_without o F tunnel [] (p ∷ ports) keeps are each = absurd are
  told_without o F tunnel (x ∷ seats) [] keeps are each = absurd are
  told_without o F tunnel (x ∷ seats) (p ∷ ports) keeps are each =
      by_case (cases_eq (F p).tunnel tunnel) (told_without o F tunnel seats ports keeps are.1 (λ i y q at_y at_q is. each (suc i) y q at_y at_q is)) where
        left : List Port
        left = without_port tunnel (map F ports)

        T : List Port → Type 0
        T ps = PortsTold o ps

        by_case : ((F p).tunnel ≡ tunnel) ⊎ ((F p).tunnel ≡ tunnel → ⊥) → PortsTold o (without_port tunnel (map F ports)) → PortsTold o (without_port tunnel (F p ∷ map F ports))
        by_case (inl same) more = subst T (sym (ap {B = List Port} (λ (b : Bool). if not b then F p ∷ left else left) (eq-eqb (F p).tunnel tunnel same))) more
        by_case (inr ne) more =
            subst T (sym (ap {B = List Port} (λ (b : Bool). if not b then F p ∷ left else left) (ne_eqb (F p).tunnel tunnel ne)))
            (each 0 x p refl refl are.0 (λ same. ne (keeps p ∙ are.0.tunnel ∙ same)), more)

-- ---- one port more

pub at_last : (tunnel : ℕ) (change : Port → Port) (ports : List Port) (p : Port) → All (λ (q : Port). q.tunnel ≢ tunnel) ports → p.tunnel ≡ tunnel
    → at_port tunnel change (ports ++ p ∷ []) ≡ ports ++ change p ∷ []
at_last tunnel change [] p others same = ap (λ (q : Port). q ∷ []) (one_here tunnel change p same)
at_last tunnel change (q ∷ ports) p others same =
    let N : Port → Type 0 = λ y. y.tunnel ≢ tunnel in
    ap (λ (y : Port). y ∷ at_port tunnel change (ports ++ p ∷ [])) (one_other tunnel change q (All-head N q ports others))
    ∙ ap (λ (ys : List Port). q ∷ ys) (at_last tunnel change ports p (All-tail N q ports others) same)

pub are_added : {Q : Type 0} (most : Q → ℕ) (table : Slab Q) (seats : List PortSeat) (ports : List Port) (seat : PortSeat) (p : Port) → ArePorts most table seats ports → IsPort most table seat p
    → ArePorts most table (seats ++ seat ∷ []) (ports ++ p ∷ [])
are_added most table [] [] seat p are is = (is, tt)
are_added most table [] (q ∷ ports) seat p are is = absurd are
are_added most table (x ∷ seats) [] seat p are is = absurd are
are_added most table (x ∷ seats) (q ∷ ports) seat p are is = (are.0, are_added most table seats ports seat p are.1 is)

pub told_added : (o : Outside) (ports : List Port) (p : Port) → PortsTold o ports → IsTold (o.port p.tunnel) (holds_of p) → PortsTold o (ports ++ p ∷ [])
told_added o [] p told is = (is, tt)
told_added o (q ∷ ports) p told is = (told.0, told_added o ports p told.1 is)

-- ---- which tunnels are left

abbrev pub others_of : ℕ → List ℕ → List ℕ
others_of tunnel ns = filter (λ (i : ℕ). not (i == tunnel)) ns

pub left_ports : (tunnel : ℕ) (ports : List Port) → tunnels_of (without_port tunnel ports) ≡ others_of tunnel (tunnels_of ports)
left_ports tunnel [] = refl
left_ports tunnel (p ∷ ports) = by_case (p.tunnel == tunnel) (left_ports tunnel ports) where
  rest : List Port
  rest = without_port tunnel ports

  by_case : (b : Bool) → tunnels_of (without_port tunnel ports) ≡ others_of tunnel (tunnels_of ports)
      → tunnels_of (if not b then p ∷ rest else rest) ≡ (if not b then p.tunnel ∷ others_of tunnel (tunnels_of ports) else others_of tunnel (tunnels_of ports))
  by_case true same = same
  by_case false same = ap (λ (xs : List ℕ). p.tunnel ∷ xs) same

pub left_numbers : (tunnel : ℕ) (ts : List Tunnel) → numbers_of (filter (λ (u : Tunnel). not (u.id == tunnel)) ts) ≡ others_of tunnel (numbers_of ts)
left_numbers tunnel [] = refl
left_numbers tunnel (t ∷ ts) = out (t.id == tunnel) ∙ others t.goal (t.id == tunnel) refl (left_numbers tunnel ts) where
  rest : List Tunnel
  rest = filter (λ (u : Tunnel). not (u.id == tunnel)) ts

  -- by its goal
  either : Goal → Bool → List ℕ
  either g b = if not b then port_number g t.id ++ numbers_of rest else numbers_of rest

  out : (b : Bool) → numbers_of (if not b then t ∷ rest else rest) ≡ either t.goal b
  out true = refl
  out false = refl

  -- the number goes first, or is gone
  pick : Bool → List ℕ
  pick b = if not b then t.id ∷ others_of tunnel (numbers_of ts) else others_of tunnel (numbers_of ts)

  others : (g : Goal) (b : Bool) → (t.id == tunnel) ≡ b → numbers_of rest ≡ others_of tunnel (numbers_of ts) → either g b ≡ others_of tunnel (port_number g t.id ++ numbers_of ts)
  others (goal.Udp addr port) true is same = same ∙ sym (ap pick is)
  others (goal.Udp addr port) false is same = ap (λ (xs : List ℕ). t.id ∷ xs) same ∙ sym (ap pick is)
  others (goal.Ip area protocol) true is same = same
  others (goal.Ip area protocol) false is same = same

-- the last one is left, or not
pub others_last : (tunnel last : ℕ) (ns : List ℕ)
    → (others_of tunnel (ns ++ last ∷ []) ≡ others_of tunnel ns) ⊎ (others_of tunnel (ns ++ last ∷ []) ≡ others_of tunnel ns ++ last ∷ [])
others_last tunnel last [] = by_case (last == tunnel) where
  by_case : (b : Bool) → ((if not b then last ∷ [] else []) ≡ []) ⊎ ((if not b then last ∷ [] else []) ≡ last ∷ [])
  by_case true = inl refl
  by_case false = inr refl
others_last tunnel last (n ∷ ns) = by_case (n == tunnel) (others_last tunnel last ns) where
  more : List ℕ
  more = others_of tunnel (ns ++ last ∷ [])

  by_case : (b : Bool) → (more ≡ others_of tunnel ns) ⊎ (more ≡ others_of tunnel ns ++ last ∷ [])
      → ((if not b then n ∷ more else more) ≡ (if not b then n ∷ others_of tunnel ns else others_of tunnel ns))
      ⊎ ((if not b then n ∷ more else more) ≡ (if not b then n ∷ others_of tunnel ns else others_of tunnel ns) ++ last ∷ [])
  by_case true is = is
  by_case false (inl is) = inl (ap (λ (xs : List ℕ). n ∷ xs) is)
  by_case false (inr is) = inr (ap (λ (xs : List ℕ). n ∷ xs) is)

-- ---- the first seat of a tunnel

pub first_is_mine : (seats : List PortSeat) (tunnel place : ℕ) (seat : PortSeat) → SeatsApart seats → slice_get seats place ≡ Some seat → seat.tunnel ≡ tunnel
    → IsSeatOf seats tunnel place seat
first_is_mine seats tunnel place seat apart at of = record { at = at; tunnel_is = of; first = before } where
  before : (other : ℕ) (x : PortSeat) → other < place → slice_get seats other ≡ Some x → x.tunnel ≢ tunnel
  before other x lt at_x = by_case (apart_at seats apart place other seat x at at_x) where
    by_case : ((place ≡ other) × (seat ≡ x)) ⊎ IsApartFrom seat x → x.tunnel ≢ tunnel
    by_case (inl (same, is)) = absurd (omega (arith, lt, same))
    by_case (inr ne) = λ is. ne.0 (is ∙ sym of)
