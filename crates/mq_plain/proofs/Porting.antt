-- The port of a tunnel changes, and so does the machine's.
use Rattle.std.proofs.Common.{◌≡◌, ◌≢◌, ◌⊎◌, inl, inr, ℕ, zero, suc, ◌==◌, Bool, true, false, cond, List, [], ◌∷◌, map, find, flat_map, All, slice_get, Option, Some, None, refl, sym, ap, subst, ◌∙◌, arith}
use Rattle.std.specs.Prelude.{if◌then◌else◌}
use Rattle.std.specs.Option.{option_or}
use Rattle.std.proofs.lemmas.Bool.{cases_eq, eq-eqb, ne_eqb}
use Rattle.std.proofs.lemmas.List.Elements.{All-cons, All-head, All-tail, All-nil, All-map}
use Rattle.std.proofs.lemmas.List.Folds.{find-append}
use Rattle.slab.specs.Slab.{Slab, get, Updates}
use Rattle.mq_talk.specs.declared.note.End.{End}
use Rattle.mq_machine.specs.State.{Tunnel, Port, Held, Worker}
use Rattle.mq_machine.specs.Shared.{at_port}
use Rattle.mq_machine.specs.Acting.{holds_of}
use Rattle.mq_held.specs.declared.held.Held.{Held as HeldBy}
use Rattle.mq_held.specs.declared.held.PortSeat.{PortSeat}
use Rattle.mq_step.specs.Holds.{IsPort, ArePorts, AreServed, IsApartFrom, IsOther, tunnels_of}
use Rattle.mq_step.proofs.Filling.{served_same}
use Rattle.mq_step.proofs.Places.{apart_at}
use Rattle.mq_actor.specs.declared.ring.Ring.{Ring}
use Rattle.mq_actor.specs.Holds.{IsWorker, AreHeld}
use Rattle.mq_actor.specs.Lent.{seat_at}
use Rattle.mq_actor.specs.Seen.{Words}
use Rattle.mq_actor.specs.Told.{TellsPort, TellPorts, TellConns, TellsRing}
use Rattle.mq_actor.proofs.Helds.{held_at}
use Rattle.mq_actor.proofs.InRing.{at_all}
use Rattle.mq_actor.proofs.Sighted.{HaveOwnTunnels}
use Rattle.mq_play.specs.Events.{with_ports, with_held_ports}

-- ---- which seat is found

-- the seat at a place of a connection at a place
pub record StandsAt {L : Type 0} (hs : List (HeldBy L)) (seat : PortSeat) : Type 0 where
  pub i : ℕ
  pub h : HeldBy L
  pub a : ℕ
  pub at : slice_get hs i ≡ Some h
  pub at_seat : slice_get h.ports.items a ≡ Some seat

-- what is found in a list stands at a place, and has the tunnel
in_list : (tunnel : ℕ) (seats : List PortSeat) (seat : PortSeat) → find (λ (s : PortSeat). s.tunnel == tunnel) seats ≡ Some seat
    → (a : ℕ) × (slice_get seats a ≡ Some seat) × (seat.tunnel ≡ tunnel)
in_list tunnel [] seat is = absurd cc
in_list tunnel (x ∷ seats) seat is = by_case (cases_eq x.tunnel tunnel) (λ later. in_list tunnel seats seat later) where
  rest : Option PortSeat
  rest = find (λ (s : PortSeat). s.tunnel == tunnel) seats

  by_case : (x.tunnel ≡ tunnel) ⊎ (x.tunnel ≡ tunnel → ⊥) → (find (λ (s : PortSeat). s.tunnel == tunnel) seats ≡ Some seat → (a : ℕ) × (slice_get seats a ≡ Some seat) × (seat.tunnel ≡ tunnel))
      → (a : ℕ) × (slice_get (x ∷ seats) a ≡ Some seat) × (seat.tunnel ≡ tunnel)
  by_case (inl same) later =
      let here : Some x ≡ Some seat = ap {B = Option PortSeat} (λ (b : Bool). cond b (Some x) (find (λ (s : PortSeat). s.tunnel == tunnel) seats)) (sym (eq-eqb x.tunnel tunnel same)) ∙ is in
      let e : x ≡ seat = cc in
      (0, here, ap (λ (s : PortSeat). s.tunnel) (sym e) ∙ same)
  by_case (inr ne) later =
      let l = later (ap {B = Option PortSeat} (λ (b : Bool). cond b (Some x) (find (λ (s : PortSeat). s.tunnel == tunnel) seats)) (sym (ne_eqb x.tunnel tunnel ne)) ∙ is) in
      (suc l.0, l.1, l.2)

none_in_list : (tunnel : ℕ) (seats : List PortSeat) → find (λ (s : PortSeat). s.tunnel == tunnel) seats ≡ None → (a : ℕ) (seat : PortSeat) → slice_get seats a ≡ Some seat → seat.tunnel ≢ tunnel
none_in_list tunnel [] none a seat at = absurd cc
none_in_list tunnel (x ∷ seats) none a seat at = by_case (cases_eq x.tunnel tunnel) (λ later. none_in_list tunnel seats later) a at where
  by_case : (x.tunnel ≡ tunnel) ⊎ (x.tunnel ≡ tunnel → ⊥)
      → (find (λ (s : PortSeat). s.tunnel == tunnel) seats ≡ None → (a : ℕ) (seat : PortSeat) → slice_get seats a ≡ Some seat → seat.tunnel ≢ tunnel)
      → (a : ℕ) → slice_get (x ∷ seats) a ≡ Some seat → seat.tunnel ≢ tunnel
  by_case (inl same) later a at =
      let here : Some x ≡ None = ap {B = Option PortSeat} (λ (b : Bool). cond b (Some x) (find (λ (s : PortSeat). s.tunnel == tunnel) seats)) (sym (eq-eqb x.tunnel tunnel same)) ∙ none in
      absurd cc
  by_case (inr ne) later zero at = let e : x ≡ seat = cc in let P : PortSeat → Type 0 = λ s. s.tunnel ≢ tunnel in subst P e ne
  by_case (inr ne) later (suc a) at =
      later (ap {B = Option PortSeat} (λ (b : Bool). cond b (Some x) (find (λ (s : PortSeat). s.tunnel == tunnel) seats)) (sym (ne_eqb x.tunnel tunnel ne)) ∙ none) a seat at

or_some : (o p : Option PortSeat) (seat : PortSeat) → option_or o p ≡ Some seat → (o ≡ Some seat) ⊎ ((o ≡ None) × (p ≡ Some seat))
or_some None p seat is = inr (refl, is)
or_some (Some x) p seat is = inl is

or_none : (o p : Option PortSeat) → option_or o p ≡ None → (o ≡ None) × (p ≡ None)
or_none None p is = (refl, is)
or_none (Some x) p is = absurd cc

module _ {L : Type 0} (tunnel : ℕ) where
  abbrev all_seats : List (HeldBy L) → List PortSeat
  all_seats hs = flat_map (λ (h : HeldBy L). h.ports.items) hs

  pub found_seat : (hs : List (HeldBy L)) (seat : PortSeat) → find (λ (s : PortSeat). s.tunnel == tunnel) (all_seats hs) ≡ Some seat → StandsAt hs seat × (seat.tunnel ≡ tunnel)
  found_seat [] seat is = absurd cc
  found_seat (h ∷ hs) seat is =
      by_case (or_some (find (λ (s : PortSeat). s.tunnel == tunnel) h.ports.items) (find (λ (s : PortSeat). s.tunnel == tunnel) (all_seats hs)) seat (sym (find-append (λ (s : PortSeat). s.tunnel == tunnel) h.ports.items (all_seats hs)) ∙ is)) (λ later. found_seat hs seat later) where
        by_case : (find (λ (s : PortSeat). s.tunnel == tunnel) h.ports.items ≡ Some seat) ⊎ ((find (λ (s : PortSeat). s.tunnel == tunnel) h.ports.items ≡ None) × (find (λ (s : PortSeat). s.tunnel == tunnel) (all_seats hs) ≡ Some seat))
            → (find (λ (s : PortSeat). s.tunnel == tunnel) (all_seats hs) ≡ Some seat → StandsAt hs seat × (seat.tunnel ≡ tunnel)) → StandsAt (h ∷ hs) seat × (seat.tunnel ≡ tunnel)
        by_case (inl here) later = let l = in_list tunnel h.ports.items seat here in (record { i = 0; h = h; a = l.0; at = refl; at_seat = l.1 }, l.2)
        by_case (inr (none, there)) later =
            let l = later there in
            (record { i = suc l.0.i; h = l.0.h; a = l.0.a; at = l.0.at; at_seat = l.0.at_seat }, l.1)

  pub no_seat : (hs : List (HeldBy L)) → find (λ (s : PortSeat). s.tunnel == tunnel) (all_seats hs) ≡ None → (i a : ℕ) (h : HeldBy L) (seat : PortSeat) → slice_get hs i ≡ Some h → slice_get h.ports.items a ≡ Some seat
      → seat.tunnel ≢ tunnel
  no_seat [] none i a h seat at at_seat = absurd cc
  no_seat (g ∷ hs) none i a h seat at at_seat = by_place i at (or_none (find (λ (s : PortSeat). s.tunnel == tunnel) g.ports.items) (find (λ (s : PortSeat). s.tunnel == tunnel) (all_seats hs)) (sym (find-append (λ (s : PortSeat). s.tunnel == tunnel) g.ports.items (all_seats hs)) ∙ none)) (λ later. no_seat hs later) where
    by_place : (i : ℕ) → slice_get (g ∷ hs) i ≡ Some h → (find (λ (s : PortSeat). s.tunnel == tunnel) g.ports.items ≡ None) × (find (λ (s : PortSeat). s.tunnel == tunnel) (all_seats hs) ≡ None)
        → (find (λ (s : PortSeat). s.tunnel == tunnel) (all_seats hs) ≡ None → (i a : ℕ) (h : HeldBy L) (seat : PortSeat) → slice_get hs i ≡ Some h → slice_get h.ports.items a ≡ Some seat → seat.tunnel ≢ tunnel) → seat.tunnel ≢ tunnel
    by_place zero at both later =
        let e : g ≡ h = cc in
        let P : HeldBy L → Type 0 = λ x. slice_get x.ports.items a ≡ Some seat in
        none_in_list tunnel g.ports.items both.0 a seat (subst P (sym e) at_seat)
    by_place (suc i) at both later = later both.1 i a h seat at at_seat

-- ---- the machine's port changes

-- a change that leaves all but what it holds and sent
pub record Keeps (change : Port → Port) : Type 0 where
  pub tunnel : (p : Port) → (change p).tunnel ≡ p.tunnel
  pub limit : (p : Port) → (change p).limit ≡ p.limit
  pub received : (p : Port) → (change p).received ≡ p.received

module _ {L Q : Type 0} (words : Words L Q) (table : Slab Q) (change : Port → Port) (keeps : Keeps change) (tunnel : ℕ) where
  is_changed : (seat : PortSeat) (p : Port) → IsPort words.most table seat p → IsPort words.most table seat (change p)
  is_changed seat p is = record {
    tunnel = keeps.tunnel p ∙ is.tunnel;
    received = keeps.received p ∙ is.received;
    port = is.port;
    at = is.at;
    limit = keeps.limit p ∙ is.limit;
    small = let e = keeps.limit p in let le = is.small in omega (arith, e, le);
  }

  are_changed : (seats : List PortSeat) (ports : List Port) → ArePorts words.most table seats ports → ArePorts words.most table seats (at_port tunnel change ports)
  are_changed [] [] are = tt
  are_changed [] (p ∷ ports) are = absurd are
  are_changed (seat ∷ seats) [] are = absurd are
  are_changed (seat ∷ seats) (p ∷ ports) are = (here (p.tunnel == tunnel), are_changed seats ports are.1) where
    here : (b : Bool) → IsPort words.most table seat (if b then change p else p)
    here true = is_changed seat p are.0
    here false = are.0

  tunnels_changed : (ports : List Port) → tunnels_of (at_port tunnel change ports) ≡ tunnels_of ports
  tunnels_changed [] = refl
  tunnels_changed (p ∷ ports) = ap (λ (ns : List ℕ). (if p.tunnel == tunnel then change p else p).tunnel ∷ ns) (tunnels_changed ports) ∙ ap (λ (n : ℕ). n ∷ tunnels_of ports) (here (p.tunnel == tunnel)) where
    here : (b : Bool) → (if b then change p else p).tunnel ≡ p.tunnel
    here true = keeps.tunnel p
    here false = refl

  served_changed : (why : Option End) (us : List Tunnel) (ports : List Port) → AreServed why us ports → AreServed why us (at_port tunnel change ports)
  served_changed why us ports served = served_same why us ports (at_port tunnel change ports) (tunnels_changed ports) served

  helds_changed : (hs : List (HeldBy L)) (ss : List Held) → AreHeld words.most table hs ss → AreHeld words.most table hs (map (with_ports tunnel change) ss)
  helds_changed [] [] are = tt
  helds_changed [] (s ∷ ss) are = absurd are
  helds_changed (h ∷ hs) [] are = absurd are
  helds_changed (h ∷ hs) (s ∷ ss) are = (
    record {
      conn = are.0.conn;
      number = are.0.number;
      ports = are_changed h.ports.items s.ports are.0.ports;
      apart = are.0.apart;
      served = served_changed s.conn.ending s.conn.tunnels s.ports are.0.served;
      bound = are.0.bound;
      room = are.0.room;
    },
    helds_changed hs ss are.1,
  )

  actors_changed : (ss : List Held) (id : ℕ) → All (λ (h : Held). h.conn.actor ≡ id) ss → All (λ (h : Held). h.conn.actor ≡ id) (map (with_ports tunnel change) ss)
  actors_changed ss id all = All-map (λ (h : Held). h.conn.actor ≡ id) (with_ports tunnel change) ss all

  -- the value stands for the worker with the port changed
  pub stands_changed : (r : Ring L) (w : Worker) → IsWorker words.most table r w → IsWorker words.most table r (with_held_ports tunnel change w)
  stands_changed r w is = record {
    id = is.id;
    setup = is.setup;
    offered = is.offered;
    conns = helds_changed r.conns.items w.conns is.conns;
    next = is.next;
    actors = actors_changed w.conns w.id is.actors;
    rooms = is.rooms;
    ports = is.ports;
    numbers = is.numbers;
  }

-- ---- where no port has the tunnel

apart_same : (t : ℕ) (change : Port → Port) (ports : List Port) → All (λ (p : Port). p.tunnel ≢ t) ports → at_port t change ports ≡ ports
apart_same t change [] all = refl
apart_same t change (p ∷ ports) all =
    ap (λ (ps : List Port). (if p.tunnel == t then change p else p) ∷ ps) (apart_same t change ports (All-tail (λ (q : Port). q.tunnel ≢ t) p ports all))
    ∙ ap {B = List Port} (λ (b : Bool). (if b then change p else p) ∷ ports) (ne_eqb p.tunnel t (All-head (λ (q : Port). q.tunnel ≢ t) p ports all))

-- ports are of the tunnels of their seats
seats_apart : {Q : Type 0} (most : Q → ℕ) (table : Slab Q) (t : ℕ) (seats : List PortSeat) (ports : List Port) → ArePorts most table seats ports
    → ((a : ℕ) (seat : PortSeat) → slice_get seats a ≡ Some seat → seat.tunnel ≢ t) → All (λ (p : Port). p.tunnel ≢ t) ports
seats_apart most table t [] [] are each = All-nil (λ (p : Port). p.tunnel ≢ t)
seats_apart most table t [] (p ∷ ports) are each = absurd are
seats_apart most table t (seat ∷ seats) [] are each = absurd are
seats_apart most table t (seat ∷ seats) (p ∷ ports) are each =
    All-cons (λ (q : Port). q.tunnel ≢ t) p ports (λ same. each 0 seat refl (sym are.0.tunnel ∙ same))
    (seats_apart most table t seats ports are.1 (λ a s at. each (suc a) s at))

helds_same : {L Q : Type 0} (most : Q → ℕ) (table : Slab Q) (t : ℕ) (change : Port → Port) (hs : List (HeldBy L)) (ss : List Held) → AreHeld most table hs ss
    → ((i a : ℕ) (h : HeldBy L) (seat : PortSeat) → slice_get hs i ≡ Some h → slice_get h.ports.items a ≡ Some seat → seat.tunnel ≢ t) → map (with_ports t change) ss ≡ ss
helds_same most table t change [] [] are each = refl
helds_same most table t change [] (s ∷ ss) are each = absurd are
helds_same most table t change (h ∷ hs) [] are each = absurd are
helds_same most table t change (h ∷ hs) (s ∷ ss) are each =
    ap (λ (xs : List Held). with_ports t change s ∷ xs) (helds_same most table t change hs ss are.1 (λ i a g seat at at_seat. each (suc i) a g seat at at_seat))
    ∙ ap (λ (ps : List Port). record s { ports = ps } ∷ ss)
    (apart_same t change s.ports (seats_apart most table t h.ports.items s.ports are.0.ports (λ a seat at. each 0 a h seat refl at)))

-- nothing changes where no seat has the tunnel
pub unlent_same : {L Q : Type 0} (most : Q → ℕ) (table : Slab Q) (t : ℕ) (change : Port → Port) (r : Ring L) (w : Worker) → IsWorker most table r w → seat_at t r ≡ None
    → with_held_ports t change w ≡ w
unlent_same most table t change r w is none =
    ap (λ (hs : List Held). record w { conns = hs }) (helds_same most table t change r.conns.items w.conns is.conns (no_seat t r.conns.items none))

-- ---- where one has it

module _ {L Q : Type 0} (words : Words L Q) (table after : Slab Q) (change : Port → Port) (keeps : Keeps change) (tunnel : ℕ) (was now : Q)
    (tells_now : (p : Port) → words.port was ≡ Some (holds_of p) → words.port now ≡ Some (holds_of (change p))) where
  -- the seat of the tunnel
  here_tells : (key : ℕ) (seat : PortSeat) (p : Port) → seat.key ≡ key → get table key ≡ Some was → get after key ≡ Some now → TellsPort words table seat p → TellsPort words after seat (change p)
  here_tells key seat p same at at_now tells = λ port at_port.
      let both : Some now ≡ Some port = sym at_now ∙ ap (λ (k : ℕ). get after k) (sym same) ∙ at_port in
      let e : now ≡ port = cc in
      let P : Q → Type 0 = λ q. words.port q ≡ Some (holds_of (change p)) in
      subst P e (tells_now p (tells was (ap (λ (k : ℕ). get table k) same ∙ at)))

  ports_tell : (key : ℕ) (seats : List PortSeat) (ports : List Port) → get table key ≡ Some was → Updates table after key (Some now) → ArePorts words.most table seats ports
      → ((a : ℕ) (seat : PortSeat) → slice_get seats a ≡ Some seat → ((seat.tunnel ≡ tunnel) × (seat.key ≡ key)) ⊎ ((seat.tunnel ≢ tunnel) × (seat.key ≢ key)))
      → TellPorts words table seats ports → TellPorts words after seats (at_port tunnel change ports)
  ports_tell key [] [] at updates are each tell = tt
  ports_tell key [] (p ∷ ports) at updates are each tell = absurd are
  ports_tell key (seat ∷ seats) [] at updates are each tell = absurd are
  ports_tell key (seat ∷ seats) (p ∷ ports) at updates are each tell =
      (here (each 0 seat refl), ports_tell key seats ports at updates are.1 (λ a s at_s. each (suc a) s at_s) tell.1) where
        Tells : Port → Type 0
        Tells q = TellsPort words after seat q

        here : ((seat.tunnel ≡ tunnel) × (seat.key ≡ key)) ⊎ ((seat.tunnel ≢ tunnel) × (seat.key ≢ key)) → TellsPort words after seat (if p.tunnel == tunnel then change p else p)
        here (inl (same, same_key)) =
            let P : Port → Type 0 = λ q. TellsPort words after seat q in
            subst P (ap {B = Port} (λ (b : Bool). if b then change p else p) (sym (eq-eqb p.tunnel tunnel (are.0.tunnel ∙ same))))
            (here_tells key seat p same_key at updates.changed tell.0)
        here (inr (ne, other)) =
            let P : Port → Type 0 = λ q. TellsPort words after seat q in
            subst P (ap {B = Port} (λ (b : Bool). if b then change p else p) (sym (ne_eqb p.tunnel tunnel (λ e. ne (sym are.0.tunnel ∙ e)))))
            (λ port at_port. tell.0 port (sym (updates.others seat.key other) ∙ at_port))

  conns_tell : (key : ℕ) (hs : List (HeldBy L)) (ss : List Held) → get table key ≡ Some was → Updates table after key (Some now) → AreHeld words.most table hs ss
      → ((i a : ℕ) (h : HeldBy L) (seat : PortSeat) → slice_get hs i ≡ Some h → slice_get h.ports.items a ≡ Some seat
      → ((seat.tunnel ≡ tunnel) × (seat.key ≡ key)) ⊎ ((seat.tunnel ≢ tunnel) × (seat.key ≢ key)))
      → TellConns words table hs ss → TellConns words after hs (map (with_ports tunnel change) ss)
  conns_tell key [] [] at updates are each tell = tt
  conns_tell key [] (s ∷ ss) at updates are each tell = absurd are
  conns_tell key (h ∷ hs) [] at updates are each tell = absurd are
  conns_tell key (h ∷ hs) (s ∷ ss) at updates are each tell = (
    record { link = tell.0.link; ports = ports_tell key h.ports.items s.ports at updates are.0.ports (λ a seat at_seat. each 0 a h seat refl at_seat) tell.0.ports },
    conns_tell key hs ss at updates are.1 (λ i a g seat at_g at_seat. each (suc i) a g seat at_g at_seat) tell.1,
  )

  -- which seats have the tunnel, and which the key
  one_key : (r : Ring L) (w : Worker) (seat : PortSeat) → IsWorker words.most table r w → HaveOwnTunnels r.conns.items → StandsAt r.conns.items seat → seat.tunnel ≡ tunnel
      → (i a : ℕ) (h : HeldBy L) (other : PortSeat) → slice_get r.conns.items i ≡ Some h → slice_get h.ports.items a ≡ Some other
      → ((other.tunnel ≡ tunnel) × (other.key ≡ seat.key)) ⊎ ((other.tunnel ≢ tunnel) × (other.key ≢ seat.key))
  one_key r w seat is own x of i a h other at at_other = by_case (cases_eq other.tunnel tunnel) (cases_eq i x.i) where
    seat_same : (i ≡ x.i) → (a ≡ x.a) → other ≡ seat
    seat_same same_i same_a =
        let first : Some h ≡ Some x.h = sym at ∙ ap (λ (k : ℕ). slice_get r.conns.items k) same_i ∙ x.at in
        let e : h ≡ x.h = cc in
        let P : HeldBy L → Type 0 = λ g. slice_get g.ports.items x.a ≡ Some other in
        let both : Some other ≡ Some seat = sym (subst P e (ap (λ (k : ℕ). slice_get h.ports.items k) (sym same_a) ∙ at_other)) ∙ x.at_seat in
        cc

    same_place : i ≡ x.i → ((a ≡ x.a) × (other ≡ seat)) ⊎ IsApartFrom other seat
    same_place same_i =
        let first : Some h ≡ Some x.h = sym at ∙ ap (λ (k : ℕ). slice_get r.conns.items k) same_i ∙ x.at in
        let e : h ≡ x.h = cc in
        let held = held_at words.most table r.conns.items w.conns i h is.conns at in
        let P : HeldBy L → Type 0 = λ g. slice_get g.ports.items x.a ≡ Some seat in
        apart_at h.ports.items held.2.apart a x.a other seat at_other (subst P (sym e) x.at_seat)

    keys_apart : i ≢ x.i → other.key ≢ seat.key
    keys_apart ne =
        let others = is.ports x.i i x.h h (λ e. ne (sym e)) x.at at in
        let o = at_all (λ (s : PortSeat). IsOther x.h.ports.items x.h.bound s.key) h.ports.items others.seats a other at_other in
        λ same. at_all (λ (s : PortSeat). s.key ≢ other.key) x.h.ports.items o.seats_are x.a seat x.at_seat (sym same)

    by_case : (other.tunnel ≡ tunnel) ⊎ (other.tunnel ≡ tunnel → ⊥) → (i ≡ x.i) ⊎ (i ≡ x.i → ⊥)
        → ((other.tunnel ≡ tunnel) × (other.key ≡ seat.key)) ⊎ ((other.tunnel ≢ tunnel) × (other.key ≢ seat.key))
    by_case (inl same) place =
        let both = own i x.i a x.a h x.h other seat at x.at at_other x.at_seat (same ∙ sym of) in
        inl (same, ap (λ (s : PortSeat). s.key) (seat_same both.0 both.1))
    by_case (inr ne) (inl same_i) = by_seat (same_place same_i) where
      by_seat : ((a ≡ x.a) × (other ≡ seat)) ⊎ IsApartFrom other seat → ((other.tunnel ≡ tunnel) × (other.key ≡ seat.key)) ⊎ ((other.tunnel ≢ tunnel) × (other.key ≢ seat.key))
      by_seat (inl (place, e)) = absurd (ne (ap (λ (s : PortSeat). s.tunnel) e ∙ of))
      by_seat (inr far) = inr (ne, λ same. far.1 (sym same))
    by_case (inr ne) (inr apart) = inr (ne, keys_apart apart)

  -- what the ring tells then
  pub tells_changed : (r : Ring L) (w : Worker) (seat : PortSeat) → IsWorker words.most table r w → HaveOwnTunnels r.conns.items → TellsRing words table r w → seat_at tunnel r ≡ Some seat
      → get table seat.key ≡ Some was → Updates table after seat.key (Some now) → TellsRing words after r (with_held_ports tunnel change w)
  tells_changed r w seat is own tells found at updates =
      let x = found_seat tunnel r.conns.items seat found in
      record { conns = conns_tell seat.key r.conns.items w.conns at updates is.conns (one_key r w seat is own x.0 x.1) tells.conns; offered = tells.offered }
