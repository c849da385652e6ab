-- For whom a worker stands behind a loan of a link or a port.
use Rattle.std.proofs.Common.{◌≡◌, inl, inr, ◌⊎◌, ℕ, zero, suc, ◌+◌, ◌==◌, cond, Bool, length, is_some, List, [], ◌∷◌, ◌++◌, map, Option, Some, None, slice_get, slice_set, position, refl, sym, ap, subst, ◌∙◌, arith}
use Rattle.std.specs.Option.{option_map_or, option_copied_mut}
use Rattle.std.specs.Borrow.{MutBor}
use Rattle.std.proofs.lemmas.List.Sums.{sum_by-set}
use Rattle.std.specs.Prelude.{IfSome, count_by, slice_index_or}
use Rattle.std.specs.Vec.{with_item}
use Rattle.std.specs.VecDeque.{deque_with_item}
use Rattle.std.proofs.lemmas.Bool.{cases_eq}
use Rattle.slab.specs.Slab.{Slab, get, with_value, Updates}
use Rattle.slab.proofs.SlabLemmas.{ContainsKey-within, Updates-with_value}
use Rattle.mq_outside.specs.Ports.{PortsPast, Retired, limit_of}
use Rattle.mq_ports.specs.Tables.{Changes, IsBalanced, holds_place, is_place}
use Rattle.mq_talk.specs.declared.book.Call.{Call}
use Rattle.mq_talk.specs.declared.book.Call.TheVariants as call
use Rattle.mq_talk.specs.declared.goal.Goal.TheVariants as goal
use Rattle.mq_machine.specs.State.{Port, Offer, Held, Worker}
use Rattle.mq_machine.specs.Want.{Want, Nothing, Say, Bind, Ask, Judge, Push, Send, Over, want_of}
use Rattle.mq_held.specs.declared.held.Held.{Held as HeldBy}
use Rattle.mq_held.specs.declared.held.PortSeat.{PortSeat}
use Rattle.mq_step.specs.Holds.{ArePorts, IsHeld, IsReady, IsBound}
use Rattle.mq_actor.specs.declared.offer.Offer.{Offer as OfferBy}
use Rattle.mq_actor.specs.declared.ring.Ring.{Ring}
use Rattle.mq_actor.specs.Holds.{AreHeld, AreOffered, AreDistinct, numbers_of, IsWorker}
use Rattle.mq_actor.specs.Lent.{seat_at, with_conn_link, with_offer_link, with_link, with_port}
use Rattle.mq_actor.proofs.OwnPorts.{own_ports_set}

-- ---- links

-- where an element is replaced by one with the same image, the images stay
map_set : {A B : Type 0} (f : A → B) (xs : List A) (i : ℕ) (x y : A) → slice_get xs i ≡ Some x → f y ≡ f x → map f (slice_set xs i y) ≡ map f xs
map_set f [] i x y at same = absurd cc
map_set {A} {B} f (z ∷ xs) zero x y at same =
    let e : z ≡ x = cc in
    ap {B = List B} (λ (w : B). w ∷ map f xs) (same ∙ ap f (sym e))
map_set {A} {B} f (z ∷ xs) (suc i) x y at same = ap {B = List B} (λ (ws : List B). f z ∷ ws) (map_set f xs i x y at same)

held_set : {L Q : Type 0} (most : Q → ℕ) (table : Slab Q) (hs : List (HeldBy L)) (ss : List Held) (i : ℕ) (h : HeldBy L) (link : L)
    → slice_get hs i ≡ Some h → AreHeld most table hs ss → AreHeld most table (slice_set hs i (record h { link = link })) ss
held_set most table [] ss i h link at are = absurd cc
held_set most table (g ∷ hs) [] i h link at are = absurd are
held_set {L} most table (g ∷ hs) (s ∷ ss) zero h link at are =
    let e : g ≡ h = cc in
    let x : IsHeld most table h s = subst (λ (k : HeldBy L). IsHeld most table k s) e are.0 in
    (record { conn = x.conn; number = x.number; ports = x.ports; apart = x.apart; served = x.served; bound = x.bound; room = x.room }, are.1)
held_set most table (g ∷ hs) (s ∷ ss) (suc i) h link at are = (are.0, held_set most table hs ss i h link at are.1)

offered_set : {L : Type 0} (fs : List (OfferBy L)) (xs : List Offer) (i : ℕ) (f : OfferBy L) (link : L)
    → slice_get fs i ≡ Some f → AreOffered fs xs → AreOffered (slice_set fs i (record f { link = link })) xs
offered_set [] xs i f link at are = absurd cc
offered_set (g ∷ fs) [] i f link at are = absurd are
offered_set {L} (g ∷ fs) (x ∷ xs) zero f link at are =
    let e : g ≡ f = cc in
    (are.0 ∙ ap {B = ℕ} (λ (k : OfferBy L). k.number) e, are.1)
offered_set (g ∷ fs) (x ∷ xs) (suc i) f link at are = (are.0, offered_set fs xs i f link at are.1)

module _ {L Q : Type 0} (most : Q → ℕ) (table : Slab Q) (r : Ring L) (w : Worker) (x : IsWorker most table r w) where
  abbrev conn_number : HeldBy L → ℕ
  conn_number h = h.number

  abbrev offer_number : OfferBy L → ℕ
  offer_number f = f.number

  conn_stands : (i : ℕ) (h : HeldBy L) (link : L) → slice_get r.conns.items i ≡ Some h
      → IsWorker most table (record r { conns = with_item r.conns i (record h { link = link }) }) w
  conn_stands i h link at =
      let g : HeldBy L = record h { link = link } in
      let same : map conn_number (slice_set r.conns.items i g) ≡ map conn_number r.conns.items = map_set conn_number r.conns.items i h g at refl in
      record {
        id = x.id;
        setup = x.setup;
        offered = x.offered;
        conns = held_set most table r.conns.items w.conns i h link at x.conns;
        next = x.next;
        actors = x.actors;
        rooms = x.rooms;
        ports = own_ports_set most table table r.conns.items w.conns i h g x.conns x.ports at (λ key port there other. (there, other));
        numbers = subst (λ (ns : List ℕ). AreDistinct (ns ++ map offer_number r.offered.items)) (sym same) x.numbers;
      }

  offer_stands : (i : ℕ) (f : OfferBy L) (link : L) → slice_get r.offered.items i ≡ Some f
      → IsWorker most table (record r { offered = deque_with_item r.offered i (record f { link = link }) }) w
  offer_stands i f link at =
      let g : OfferBy L = record f { link = link } in
      let same : map offer_number (slice_set r.offered.items i g) ≡ map offer_number r.offered.items = map_set offer_number r.offered.items i f g at refl in
      record {
        id = x.id;
        setup = x.setup;
        offered = offered_set r.offered.items w.offered i f link at x.offered;
        conns = x.conns;
        next = x.next;
        actors = x.actors;
        rooms = x.rooms;
        ports = x.ports;
        numbers = subst (λ (ns : List ℕ). AreDistinct (map conn_number r.conns.items ++ ns)) (sym same) x.numbers;
      }

  conn_by : (i : ℕ) (link : L) (o : Option (HeldBy L)) → slice_get r.conns.items i ≡ o
      → IsWorker most table (option_map_or (λ (h : HeldBy L). record r { conns = with_item r.conns i (record h { link = link }) }) o r) w
  conn_by i link None at = x
  conn_by i link (Some h) at = conn_stands i h link at

  offer_by : (i : ℕ) (link : L) (o : Option (OfferBy L)) → slice_get r.offered.items i ≡ o
      → IsWorker most table (option_map_or (λ (f : OfferBy L). record r { offered = deque_with_item r.offered i (record f { link = link }) }) o r) w
  offer_by i link None at = x
  offer_by i link (Some f) at = offer_stands i f link at

  link_by : (link : L) (o u : Option ℕ)
      → IsWorker most table (option_map_or (λ i. with_conn_link r i link) o (option_map_or (λ i. with_offer_link r i link) u r)) w
  link_by link (Some i) u = conn_by i link (slice_get r.conns.items i) refl
  link_by link None (Some i) = offer_by i link (slice_get r.offered.items i) refl
  link_by link None None = x

  -- a link became another
  pub link_stands : (number : ℕ) (link : L) → IsWorker most table (with_link number r link) w
  link_stands number link =
      link_by link (position (λ (h : HeldBy L). h.number == number) r.conns.items) (position (λ (f : OfferBy L). f.number == number) r.offered.items)

module _ {L : Type 0} (r : Ring L) where
  abbrev Same : Ring L → Type 0
  Same s = numbers_of s.conns.items s.offered.items ≡ numbers_of r.conns.items r.offered.items

  same_conn : (i : ℕ) (link : L) (o : Option (HeldBy L)) → slice_get r.conns.items i ≡ o
      → Same (option_map_or (λ (h : HeldBy L). record r { conns = with_item r.conns i (record h { link = link }) }) o r)
  same_conn i link None at = refl
  same_conn i link (Some h) at =
      ap {B = List ℕ} (λ (ns : List ℕ). ns ++ map (λ (f : OfferBy L). f.number) r.offered.items)
      (map_set (λ (g : HeldBy L). g.number) r.conns.items i h (record h { link = link }) at refl)

  same_offer : (i : ℕ) (link : L) (o : Option (OfferBy L)) → slice_get r.offered.items i ≡ o
      → Same (option_map_or (λ (f : OfferBy L). record r { offered = deque_with_item r.offered i (record f { link = link }) }) o r)
  same_offer i link None at = refl
  same_offer i link (Some f) at =
      ap {B = List ℕ} (λ (ns : List ℕ). map (λ (h : HeldBy L). h.number) r.conns.items ++ ns)
      (map_set (λ (g : OfferBy L). g.number) r.offered.items i f (record f { link = link }) at refl)

  same_by : (link : L) (o u : Option ℕ) → Same (option_map_or (λ i. with_conn_link r i link) o (option_map_or (λ i. with_offer_link r i link) u r))
  same_by link (Some i) u = same_conn i link (slice_get r.conns.items i) refl
  same_by link None (Some i) = same_offer i link (slice_get r.offered.items i) refl
  same_by link None None = refl

  -- the numbers stay
  pub link_numbers : (number : ℕ) (link : L) → Same (with_link number r link)
  link_numbers number link =
      same_by link (position (λ (h : HeldBy L). h.number == number) r.conns.items) (position (λ (f : OfferBy L). f.number == number) r.offered.items)

-- ---- ports

-- a port stands under each key under which one stood, and takes as long payloads
abbrev AreSized : {Q : Type 0} → (Q → ℕ) → Slab Q → Slab Q → Type 0
AreSized {Q} most table after = (key : ℕ) (port : Q) → get table key ≡ Some port → (now : Q) × (get after key ≡ Some now) × (most now ≡ most port)

module _ {Q : Type 0} (most : Q → ℕ) (table after : Slab Q) (sized : AreSized most table after) where
  ports_sized : (seats : List PortSeat) (ports : List Port) → ArePorts most table seats ports → ArePorts most after seats ports
  ports_sized [] [] are = tt
  ports_sized [] (p ∷ ports) are = absurd are
  ports_sized (seat ∷ seats) [] are = absurd are
  ports_sized (seat ∷ seats) (p ∷ ports) are =
      let now = sized seat.key are.0.port are.0.at in (
        record { tunnel = are.0.tunnel; received = are.0.received; port = now.0; at = now.1; limit = are.0.limit ∙ sym now.2; small = are.0.small },
        ports_sized seats ports are.1,
      )

  ready_sized : (limit key : ℕ) (seats : List PortSeat) → IsReady most table limit key seats → IsReady most after limit key seats
  ready_sized limit key seats is =
      let now = sized key is.port is.at in
      record { port = now.0; at = now.1; limit_is = now.2 ∙ is.limit_is; apart = is.apart }

  asked_sized : (seats : List PortSeat) (asked : Call) (bound : Option ℕ) → IsBound most table seats (Ask asked) bound → IsBound most after seats (Ask asked) bound
  asked_sized seats (call.Open conn stream actor (goal.Udp addr number)) (Some key) is = ready_sized (limit_of addr) key seats is
  asked_sized seats (call.Open conn stream actor (goal.Udp addr number)) None is = absurd is
  asked_sized seats (call.Open conn stream actor (goal.Ip area protocol)) bound is = is
  asked_sized seats (call.Assign tunnel asked) bound is = is
  asked_sized seats (call.Advertise tunnel ranges) bound is = is
  asked_sized seats (call.Close tunnel) bound is = is

  bound_sized : (seats : List PortSeat) (w : Want) (bound : Option ℕ) → IsBound most table seats w bound → IsBound most after seats w bound
  bound_sized seats Nothing bound is = is
  bound_sized seats Say bound is = is
  bound_sized seats (Bind stream goal) bound is = is
  bound_sized seats (Ask asked) bound is = asked_sized seats asked bound is
  bound_sized seats (Judge tunnel n flow) bound is = is
  bound_sized seats (Push parcel) bound is = is
  bound_sized seats (Send tunnel n payload) bound is = is
  bound_sized seats (Over why) bound is = is

  helds_sized : {L : Type 0} (hs : List (HeldBy L)) (ss : List Held) → AreHeld most table hs ss → AreHeld most after hs ss
  helds_sized [] [] are = tt
  helds_sized [] (s ∷ ss) are = absurd are
  helds_sized (h ∷ hs) [] are = absurd are
  helds_sized (h ∷ hs) (s ∷ ss) are =
      let held = are.0 in (
        record {
          conn = held.conn;
          number = held.number;
          ports = ports_sized h.ports.items s.ports held.ports;
          apart = held.apart;
          served = held.served;
          bound = bound_sized h.ports.items (want_of s.conn) h.bound held.bound;
          room = held.room;
        },
        helds_sized hs ss are.1,
      )

  pub worker_sized : {L : Type 0} (r : Ring L) (w : Worker) → IsWorker most table r w → IsWorker most after r w
  worker_sized r w x = record {
    id = x.id;
    setup = x.setup;
    offered = x.offered;
    conns = helds_sized r.conns.items w.conns x.conns;
    next = x.next;
    actors = x.actors;
    rooms = x.rooms;
    ports = x.ports;
    numbers = x.numbers;
  }

-- one port became another that takes as long payloads
pub value_sized : {Q : Type 0} (most : Q → ℕ) (table : Slab Q) (key : ℕ) (was port : Q) → get table key ≡ Some was → most port ≡ most was
    → AreSized most table (with_value table key port)
value_sized {Q} most table key was port at same = λ other one at_one. by_key other one at_one (cases_eq other key) where
  updates : Updates table (with_value table key port) key (Some port)
  updates = Updates-with_value table key port (rw at refl)

  by_key : (other : ℕ) (one : Q) → get table other ≡ Some one → (other ≡ key) ⊎ (other ≡ key → ⊥)
      → (now : Q) × (get (with_value table key port) other ≡ Some now) × (most now ≡ most one)
  by_key other one at_one (inl here) =
      let both : Some was ≡ Some one = sym at ∙ ap (λ (k : ℕ). get table k) (sym here) ∙ at_one in
      let e : was ≡ one = cc in
      (port, ap (λ (k : ℕ). get (with_value table key port) k) here ∙ updates.changed, same ∙ ap most e)
  by_key other one at_one (inr apart) = (one, updates.others other apart ∙ at_one, refl)

-- what holds of a port that was lent
pub lent_then : {Q : Type 0} (lent : Option (MutBor Q)) (at : Option Q) (F : Q → Type 0) → option_copied_mut lent ≡ at
    → ((was : Q) → at ≡ Some was → F was) → IfSome lent (λ was. F was.now)
lent_then None at F is each = tt
lent_then (Some was) at F is each = each was.now (sym is)

module _ {L Q : Type 0} (table : Slab Q) (r : Ring L) (tunnel : ℕ) (seat : PortSeat) (found : seat_at tunnel r ≡ Some seat) (was port : Q)
    (at : get table seat.key ≡ Some was) where
  abbrev with_seat : Option PortSeat → Slab Q
  with_seat o = option_map_or (λ (s : PortSeat). with_value table s.key port) o table

  -- the port of a tunnel became another
  pub port_changes : (one : PortSeat) × (seat_at tunnel r ≡ Some one)
      × Changes table (with_port tunnel r table port) one.key (λ old new. (old ≡ was) × (new ≡ port))
  port_changes =
      let C : Option PortSeat → Type 0 = λ o. Changes table (with_seat o) seat.key (λ old new. (old ≡ was) × (new ≡ port)) in
      let changes : C (Some seat) = record {
        was = was;
        now = port;
        at = at;
        updates = Updates-with_value table seat.key port (rw at refl);
        does = (refl, refl);
      } in
      (seat, found, subst C (sym found) changes)

  pub port_stands : (most : Q → ℕ) (w : Worker) → most port ≡ most was → IsWorker most table r w → IsWorker most (with_port tunnel r table port) r w
  port_stands most w same x =
      subst (λ (o : Option PortSeat). IsWorker most (with_seat o) r w) (sym found)
      (worker_sized most table (with_value table seat.key port) (value_sized most table seat.key was port at same) r w x)

  -- as many slots pass a test that can't tell the two
  counts_same : (p : Option Q → Bool) → p (Some port) ≡ p (Some was) → count_by p (with_value table seat.key port).slots ≡ count_by p table.slots
  counts_same p same =
      let within = ContainsKey-within table seat.key (rw at refl) in
      let sums = sum_by-set (λ (slot : Option Q). cond (p slot) 1 0) table.slots seat.key (Some port) None within in
      let old : cond (p (slice_index_or table.slots seat.key None)) 1 0 ≡ cond (p (Some was)) 1 0 = ap {B = ℕ} (λ (slot : Option Q). cond (p slot) 1 0) at in
      let new : cond (p (Some port)) 1 0 ≡ cond (p (Some was)) 1 0 = ap {B = ℕ} (λ (b : Bool). cond b 1 0) same in
      omega (arith, sums, old, new)

  balanced_by : (place : Q → Option ℕ) (past : Option PortsPast) → place port ≡ place was → IsBalanced place past table.slots
      → IsBalanced place past (with_value table seat.key port).slots
  balanced_by place None same is = tt
  balanced_by place (Some past) same is =
      let some = counts_same is_some refl in
      record {
        sizes = ap {B = ℕ} (λ (n : ℕ). length past.retired + n) some ∙ is.sizes;
        once = λ i.
            let here = counts_same (holds_place place i) (ap {B = Bool} (λ (o : Option ℕ). is_place i o) same) in
            ap {B = ℕ} (λ (n : ℕ). count_by (λ (t : Retired). is_place i t.place) past.retired + n) here ∙ is.once i;
      }

  pub port_balanced : (place : Q → Option ℕ) (past : Option PortsPast) → place port ≡ place was → IsBalanced place past table.slots
      → IsBalanced place past (with_port tunnel r table port).slots
  port_balanced place past same is =
      subst (λ (o : Option PortSeat). IsBalanced place past (with_seat o).slots) (sym found) (balanced_by place past same is)
