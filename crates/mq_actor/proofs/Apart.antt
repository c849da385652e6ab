-- The tunnels of a connection behind its step are none of the others'.
use Rattle.std.proofs.Common.{◌≡◌, ◌≢◌, ◌⊎◌, inl, inr, ℕ, zero, suc, ◌==◌, Bool, true, false, not, cond, List, [], ◌∷◌, length, filter, slice_get, Contains, Option, Some, None, refl, sym, ap, subst, ◌∙◌, arith}
use Rattle.std.proofs.lemmas.List.Elements.{All-contains_itself}
use Rattle.slab.specs.Slab.{Slab}
use Rattle.mq_talk.specs.declared.note.End.{End}
use Rattle.mq_talk.specs.Mails.{Inboxes}
use Rattle.mq_talk.specs.Offices.{Seen, Sees}
use Rattle.mq_machine.specs.State.{Conn, Held, Port, Tunnel, Shared, Worker}
use Rattle.mq_machine.specs.Acting.{Outside, Known, IsOpen}
use Rattle.mq_held.specs.declared.held.Held.{Held as HeldBy}
use Rattle.mq_held.specs.declared.held.PortSeat.{PortSeat}
use Rattle.mq_step.specs.Holds.{IsHeld, ArePorts, AreServed, tunnels_of, numbers_of as ids_of}
use Rattle.mq_actor.specs.Goes.{Shape, shape_of, shapes_of, Goes}
use Rattle.mq_actor.specs.Steps.{sight}
use Rattle.mq_actor.proofs.Between.{get_append}
use Rattle.mq_actor.proofs.Books.{open_once, open_within}
use Rattle.mq_actor.proofs.Cores.{AreApart}
use Rattle.mq_actor.proofs.InRing.{at_all}
use Rattle.mq_actor.proofs.Lists.{found_at, number_at, map_get, get_map, get_pushed}
use Rattle.mq_actor.proofs.Opened.{sees_longer}

-- ---- the tunnel of a seat

port_of_seat : {Q : Type 0} (most : Q → ℕ) (table : Slab Q) (seats : List PortSeat) (ports : List Port) (a : ℕ) (x : PortSeat) → ArePorts most table seats ports → slice_get seats a ≡ Some x
    → (p : Port) × (slice_get ports a ≡ Some p) × (p.tunnel ≡ x.tunnel)
port_of_seat most table [] [] a x are at = absurd cc
port_of_seat most table [] (p ∷ ports) a x are at = absurd are
port_of_seat most table (y ∷ seats) [] a x are at = absurd are
port_of_seat most table (y ∷ seats) (p ∷ ports) zero x are at = let e : y ≡ x = cc in (p, refl, are.0.tunnel ∙ ap (λ (s : PortSeat). s.tunnel) e)
port_of_seat most table (y ∷ seats) (p ∷ ports) (suc a) x are at = port_of_seat most table seats ports a x are.1 at

-- a seat is of one of the connection's tunnels
pub tunnel_of_seat : {L Q : Type 0} (most : Q → ℕ) (table : Slab Q) (h : HeldBy L) (s : Held) (a : ℕ) (x : PortSeat) → IsHeld most table h s → slice_get h.ports.items a ≡ Some x
    → (i : ℕ) × (t : Tunnel) × (slice_get s.conn.tunnels i ≡ Some t) × (t.id ≡ x.tunnel)
tunnel_of_seat most table h s a x held at = by_served s.conn.ending held.served (port_of_seat most table h.ports.items s.ports a x held.ports at) where
  Number : Type 0
  Number = (i : ℕ) × (t : Tunnel) × (slice_get s.conn.tunnels i ≡ Some t) × (t.id ≡ x.tunnel)

  of_port : (p : Port) → slice_get (ids_of s.conn.tunnels) a ≡ Some p.tunnel → p.tunnel ≡ x.tunnel → Number
  of_port p at_id is_p = let t = number_at s.conn.tunnels a p.tunnel at_id in (t.0, t.1, t.2, t.3 ∙ is_p)

  ids : (p : Port) → slice_get s.ports a ≡ Some p → slice_get (tunnels_of s.ports) a ≡ Some p.tunnel
  ids p at_p = get_map (λ (q : Port). q.tunnel) s.ports a p at_p

  same : tunnels_of s.ports ≡ ids_of s.conn.tunnels → ((p : Port) × (slice_get s.ports a ≡ Some p) × (p.tunnel ≡ x.tunnel)) → Number
  same are (p, at_p, is_p) = of_port p (ap (λ (ns : List ℕ). slice_get ns a) (sym are) ∙ ids p at_p) is_p

  by_served : (e : Option End) → AreServed e s.conn.tunnels s.ports → ((p : Port) × (slice_get s.ports a ≡ Some p) × (p.tunnel ≡ x.tunnel)) → Number
  by_served None served found = same served found
  by_served (Some why) (inl served) found = same served found
  by_served (Some why) (inr (last, is)) (p, at_p, is_p) =
      of_port p (ap (λ (ns : List ℕ). slice_get ns a) is ∙ get_append (tunnels_of s.ports) (last ∷ []) a p.tunnel (ids p at_p)) is_p

-- ---- what a step leaves of the numbers of its tunnels

filtered_at : {A : Type 0} (p : A → Bool) (xs : List A) (i : ℕ) (x : A) → slice_get (filter p xs) i ≡ Some x → (k : ℕ) × (slice_get xs k ≡ Some x)
filtered_at p [] i x at = absurd cc
filtered_at {A} p (y ∷ xs) i x at = by_test (p y) i at (λ j at_j. filtered_at p xs j x at_j) where
  by_test : (b : Bool) (j : ℕ) → slice_get (cond b (y ∷ filter p xs) (filter p xs)) j ≡ Some x
      → ((i : ℕ) → slice_get (filter p xs) i ≡ Some x → (k : ℕ) × (slice_get xs k ≡ Some x)) → (k : ℕ) × (slice_get (y ∷ xs) k ≡ Some x)
  by_test true zero at_j rest = (0, at_j)
  by_test true (suc j) at_j rest = let k = rest j at_j in (suc k.0, k.1)
  by_test false j at_j rest = let k = rest j at_j in (suc k.0, k.1)

of_shape : (c : Conn) (k : ℕ) (x : Shape) → slice_get (shapes_of c.tunnels) k ≡ Some x → (v : Tunnel) × (slice_get c.tunnels k ≡ Some v) × (v.id ≡ x.id)
of_shape c k x at = let v = map_get shape_of c.tunnels k x at in (v.0, v.1, ap (λ (y : Shape). y.id) (sym v.2))

-- a tunnel behind it was there before, or has the number of the book's next entry
pub was_or_new : (c : Conn) (sh : Shared) (ts : List Tunnel) (after : Shared) (i : ℕ) (t : Tunnel) → Goes c sh ts after → slice_get ts i ≡ Some t
    → ((k : ℕ) × (v : Tunnel) × (slice_get c.tunnels k ≡ Some v) × (v.id ≡ t.id)) ⊎ (t.id ≡ length sh.book)
was_or_new c sh ts after i t (inl stays) at =
    let v = of_shape c i (shape_of t) (ap (λ (xs : List Shape). slice_get xs i) (sym stays.tunnels_are) ∙ get_map shape_of ts i t at) in inl (i, v.0, v.1, v.2)
was_or_new c sh ts after i t (inr (inl opens)) at =
    by_side (get_pushed (shapes_of c.tunnels) (record { id = length sh.book; stream = opens.stream; goal = opens.goal }) i (shape_of t)
    (ap (λ (xs : List Shape). slice_get xs i) (sym opens.tunnels_are) ∙ get_map shape_of ts i t at)) where
      by_side : (slice_get (shapes_of c.tunnels) i ≡ Some (shape_of t)) ⊎ ((i ≡ length (shapes_of c.tunnels)) × (shape_of t ≡ record { id = length sh.book; stream = opens.stream; goal = opens.goal }))
          → ((k : ℕ) × (v : Tunnel) × (slice_get c.tunnels k ≡ Some v) × (v.id ≡ t.id)) ⊎ (t.id ≡ length sh.book)
      by_side (inl at_i) = let v = of_shape c i (shape_of t) at_i in inl (i, v.0, v.1, v.2)
      by_side (inr (last, is)) = inr (ap (λ (x : Shape). x.id) is)
was_or_new c sh ts after i t (inr (inr (inl closes))) at =
    let k = filtered_at (λ (x : Shape). not (x.id == closes.closed.id)) (shapes_of c.tunnels) i (shape_of t)
    (ap (λ (xs : List Shape). slice_get xs i) (sym closes.tunnels_are) ∙ get_map shape_of ts i t at) in
    let v = of_shape c k.0 (shape_of t) k.1 in inl (k.0, v.0, v.1, v.2)
was_or_new c sh ts after i t (inr (inr (inr tells))) at =
    let v = of_shape c i (shape_of t) (ap (λ (xs : List Shape). slice_get xs i) (sym tells.tunnels_are) ∙ get_map shape_of ts i t at) in inl (i, v.0, v.1, v.2)

-- ---- no two connections

module _ (x : Worker) (o : Outside) (seen : Seen) (boxes : Inboxes) (known : Known (sight o seen boxes) x) (apart : AreApart x.conns) where
  pub open_of : (i k : ℕ) (s : Held) (v : Tunnel) → slice_get x.conns i ≡ Some s → slice_get s.conn.tunnels k ≡ Some v → IsOpen seen.entries x.id v.id s.conn.number v.stream v.goal
  open_of i k s v at at_v =
      let C : Tunnel → Type 0 = λ u. Contains s.conn.tunnels u in
      (known.tunnels v.id s.conn.number v.stream v.goal).0 (record {
        held = s;
        t = v;
        at = found_at x.conns i s apart at;
        has = at_all C s.conn.tunnels (All-contains_itself s.conn.tunnels) k v at_v;
        id = refl;
        on = refl;
        leads = refl;
      })

  -- the tunnels of two connections differ
  pub others_differ : (i j k l : ℕ) (s t : Held) (v u : Tunnel) → slice_get x.conns i ≡ Some s → slice_get x.conns j ≡ Some t → slice_get s.conn.tunnels k ≡ Some v → slice_get t.conn.tunnels l ≡ Some u
      → i ≢ j → v.id ≢ u.id
  others_differ i j k l s t v u at_s at_t at_v at_u ne = λ same.
      let a = open_of i k s v at_s at_v in
      let b = open_of j l t u at_t at_u in
      let P : ℕ → Type 0 = λ id. IsOpen seen.entries x.id id s.conn.number v.stream v.goal in
      let e = open_once seen.entries x.id u.id s.conn.number v.stream t.conn.number u.stream v.goal u.goal (subst P same a) b in
      ne (apart i j s t at_s at_t (sym e))

  -- a connection's tunnels behind its step are none of the others'
  pub goes_apart : (i j b : ℕ) (s t : Held) (sh : Shared) (ts : List Tunnel) (after : Shared) (k : ℕ) (v : Tunnel) (u : Tunnel) → slice_get x.conns i ≡ Some s → slice_get x.conns j ≡ Some t → i ≢ j
      → Goes s.conn sh ts after → Sees seen sh.book → slice_get ts k ≡ Some v → slice_get t.conn.tunnels b ≡ Some u → v.id ≢ u.id
  goes_apart i j b s t sh ts after k v u at_s at_t ne goes sees at_v at_u = by_was (was_or_new s.conn sh ts after k v goes at_v) where
    by_was : ((l : ℕ) × (w : Tunnel) × (slice_get s.conn.tunnels l ≡ Some w) × (w.id ≡ v.id)) ⊎ (v.id ≡ length sh.book) → v.id ≢ u.id
    by_was (inl (l, w, at_w, same)) = λ is. others_differ i j l b s t w u at_s at_t at_w at_u ne (same ∙ is)
    by_was (inr new) = λ is.
        let lt = open_within seen.entries x.id u.id t.conn.number u.stream u.goal (open_of j b t u at_t at_u) in
        let le = sees_longer seen sh.book sees in
        omega (arith, lt, le, new, is)
