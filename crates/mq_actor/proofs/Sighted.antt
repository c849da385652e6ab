-- An outside that tells of a ring what its links and ports tell, and connections no two of whose seats are of one tunnel.
use Rattle.std.proofs.Common.{◌≡◌, ◌≢◌, ◌⊎◌, inl, inr, ℕ, zero, suc, ◌+◌, ◌<◌, ◌≤◌, ◌==◌, Bool, cond, List, [], ◌∷◌, ◌++◌, length, map, remove}
use Rattle.std.proofs.Common.{find, All, Contains, Option, Some, None, MatchOption, slice_get, slice_set, option_map, refl, sym, ap, subst, ◌∙◌, arith}
use Rattle.std.specs.Prelude.{⊤}
use Rattle.std.specs.Option.{option_or, unwrap_or}
use Rattle.std.proofs.lemmas.Bool.{eq-eqb, ne_eqb}
use Rattle.std.proofs.lemmas.List.Elements.{All-contains_itself, All-head, All-tail}
use Rattle.slab.specs.Slab.{Slab, get}
use Rattle.mq_outside.specs.Counts.{LinkCounts, no_link_counts, no_port_counts}
use Rattle.mq_talk.specs.declared.goal.Goal.{Goal}
use Rattle.mq_talk.specs.declared.note.End.{End}
use Rattle.mq_talk.specs.Mails.{Inboxes}
use Rattle.mq_talk.specs.Offices.{Seen}
use Rattle.mq_machine.specs.State.{Tunnel, Link, Port, Held, Worker}
use Rattle.mq_machine.specs.Acting.{Outside, IsOpen, Known, Binder}
use Rattle.mq_held.specs.declared.held.Held.{Held as HeldBy}
use Rattle.mq_held.specs.declared.held.PortSeat.{PortSeat}
use Rattle.mq_step.specs.Holds.{ArePorts, AreServed, IsApartFrom, SeatsApart, IsHeld, numbers_of as ids_of}
use Rattle.mq_step.specs.Sights.{SeesPort}
use Rattle.mq_step.proofs.Places.{apart_at}
use Rattle.mq_actor.specs.declared.offer.Offer.{Offer as OfferBy}
use Rattle.mq_actor.specs.declared.ring.Ring.{Ring}
use Rattle.mq_actor.specs.Holds.{AreHeld, AreDistinct, numbers_of}
use Rattle.mq_actor.specs.Seen.{Words, SeesConn, SeesOffer, SeesRing}
use Rattle.mq_actor.specs.Steps.{sight}
use Rattle.mq_actor.proofs.Between.{get_append}
use Rattle.mq_actor.proofs.Books.{open_once}
use Rattle.mq_actor.proofs.Cores.{AreApart}
use Rattle.mq_actor.proofs.InRing.{all_at, at_all}
use Rattle.mq_actor.proofs.Lists.{found_at, get_map, get_pushed, get_removed, HasNumber, number_at}
use Rattle.mq_actor.proofs.Helds.{held_at}
use Rattle.mq_actor.proofs.Pointwise.{within}

-- ---- the outside

-- of the first connection with this number, or else of the first offered link with it
abbrev link_told : {L Q : Type 0} → Words L Q → List (HeldBy L) → List (OfferBy L) → ℕ → Option Link
link_told {L} words hs fs number =
    unwrap_or (option_map (λ (h : HeldBy L). words.link h.link) (find (λ (h : HeldBy L). h.number == number) hs))
    (unwrap_or (option_map (λ (f : OfferBy L). words.link f.link) (find (λ (f : OfferBy L). f.number == number) fs)) None)

-- the first seat of this tunnel of the first connection that has one
abbrev seat_in : {L : Type 0} → List (HeldBy L) → ℕ → Option PortSeat
seat_in [] tunnel = None
seat_in (h ∷ hs) tunnel = option_or (find (λ (seat : PortSeat). seat.tunnel == tunnel) h.ports.items) (seat_in hs tunnel)

-- what a word says of the port under the key of this seat
abbrev port_told : {Q A : Type 0} → (Q → A) → A → Slab Q → Option PortSeat → A
port_told say nothing table None = nothing
port_told say nothing table (Some seat) = unwrap_or (option_map say (get table seat.key)) nothing

-- An outside that tells of these connections and offered links what they tell, and of others nothing.
abbrev pub ring_sight : {L Q : Type 0} → Words L Q → Slab Q → Binder → List (HeldBy L) → List (OfferBy L) → Outside
ring_sight {L} words table binds hs fs = record {
  link = λ conn. link_told words hs fs conn;
  link_counts = λ conn. unwrap_or (option_map (λ (h : HeldBy L). words.link_counts h.link) (find (λ (h : HeldBy L). h.number == conn) hs)) no_link_counts;
  port = λ tunnel. port_told words.port None table (seat_in hs tunnel);
  port_counts = λ tunnel. port_told words.port_counts no_port_counts table (seat_in hs tunnel);
  binds = binds;
}

-- no two seats of these connections are of one tunnel
abbrev pub HaveOwnTunnels : {L : Type 0} → List (HeldBy L) → Type 0
HaveOwnTunnels {L} hs =
    (i j a b : ℕ) (g h : HeldBy L) (x y : PortSeat) → slice_get hs i ≡ Some g → slice_get hs j ≡ Some h → slice_get g.ports.items a ≡ Some x
    → slice_get h.ports.items b ≡ Some y → x.tunnel ≡ y.tunnel → (i ≡ j) × (a ≡ b)

-- ---- the first with a number

first_with : {A : Type 0} (key : A → ℕ) (xs : List A) (i : ℕ) (x : A) → ((j : ℕ) (y : A) → slice_get xs j ≡ Some y → key y ≡ key x → j ≡ i)
    → slice_get xs i ≡ Some x → find (λ (y : A). key y == key x) xs ≡ Some x
first_with key [] i x alone at = absurd cc
first_with {A} key (y ∷ xs) zero x alone at =
    let e : y ≡ x = cc in
    ap {B = Option A} (λ (b : Bool). cond b (Some y) (find (λ (z : A). key z == key x) xs)) (eq-eqb (key y) (key x) (ap key e)) ∙ at
first_with {A} key (y ∷ xs) (suc i) x alone at =
    let ne : key y ≢ key x = λ same. let e : 0 ≡ suc i = alone 0 y refl same in omega (arith, e) in
    ap {B = Option A} (λ (b : Bool). cond b (Some y) (find (λ (z : A). key z == key x) xs)) (ne_eqb (key y) (key x) ne)
    ∙ first_with key xs i x (λ j z at_z same. let e : suc j ≡ suc i = alone (suc j) z at_z same in omega (arith, e)) at

none_with : {A : Type 0} (key : A → ℕ) (xs : List A) (n : ℕ) → ((j : ℕ) (y : A) → slice_get xs j ≡ Some y → key y ≢ n) → find (λ (y : A). key y == n) xs ≡ None
none_with key [] n none = refl
none_with {A} key (y ∷ xs) n none =
    ap {B = Option A} (λ (b : Bool). cond b (Some y) (find (λ (z : A). key z == n) xs)) (ne_eqb (key y) n (none 0 y refl))
    ∙ none_with key xs n (λ j z at. none (suc j) z at)

-- ---- numbers

conn_number : {L : Type 0} (hs : List (HeldBy L)) (fs : List (OfferBy L)) (i : ℕ) (h : HeldBy L) → slice_get hs i ≡ Some h
    → slice_get (numbers_of hs fs) i ≡ Some h.number
conn_number {L} hs fs i h at =
    get_append (map (λ (g : HeldBy L). g.number) hs) (map (λ (f : OfferBy L). f.number) fs) i h.number (get_map (λ (g : HeldBy L). g.number) hs i h at)

offer_number : {L : Type 0} (hs : List (HeldBy L)) (fs : List (OfferBy L)) (k : ℕ) (f : OfferBy L) → slice_get fs k ≡ Some f
    → slice_get (numbers_of hs fs) (length hs + k) ≡ Some f.number
offer_number {L} [] fs k f at =
    let e : k ≡ 0 + k = omega arith in
    let P : ℕ → Type 0 = λ n. slice_get (map (λ (g : OfferBy L). g.number) fs) n ≡ Some f.number in
    subst P e (get_map (λ (g : OfferBy L). g.number) fs k f at)
offer_number {L} (h ∷ hs) fs k f at =
    let e : suc (length hs + k) ≡ suc (length hs) + k = omega arith in
    let P : ℕ → Type 0 = λ n. slice_get (numbers_of (h ∷ hs) fs) n ≡ Some f.number in
    subst P e (offer_number hs fs k f at)

number_is : (m n : ℕ) → m ≡ n → Some m ≡ Some n
number_is m n is = ap {B = Option ℕ} (λ (k : ℕ). Some k) is

-- the connection at a place is the first with its number
conn_found : {L : Type 0} (hs : List (HeldBy L)) (fs : List (OfferBy L)) (i : ℕ) (h : HeldBy L) → AreDistinct (numbers_of hs fs) → slice_get hs i ≡ Some h
    → find (λ (g : HeldBy L). g.number == h.number) hs ≡ Some h
conn_found {L} hs fs i h apart at =
    first_with (λ (g : HeldBy L). g.number) hs i h
    (λ j g at_g same. apart j i h.number (conn_number hs fs j g at_g ∙ number_is g.number h.number same) (conn_number hs fs i h at)) at

-- no connection has the number of an offered link
offer_none : {L : Type 0} (hs : List (HeldBy L)) (fs : List (OfferBy L)) (k : ℕ) (f : OfferBy L) → AreDistinct (numbers_of hs fs) → slice_get fs k ≡ Some f
    → find (λ (g : HeldBy L). g.number == f.number) hs ≡ None
offer_none {L} hs fs k f apart at =
    none_with (λ (g : HeldBy L). g.number) hs f.number
    (λ j g at_g same.
    let less = within hs j g at_g in
    let e = apart j (length hs + k) f.number (conn_number hs fs j g at_g ∙ number_is g.number f.number same) (offer_number hs fs k f at) in
    omega (arith, e, less))

-- which is the first offered link with its number
offer_found : {L : Type 0} (hs : List (HeldBy L)) (fs : List (OfferBy L)) (k : ℕ) (f : OfferBy L) → AreDistinct (numbers_of hs fs) → slice_get fs k ≡ Some f
    → find (λ (g : OfferBy L). g.number == f.number) fs ≡ Some f
offer_found {L} hs fs k f apart at =
    first_with (λ (g : OfferBy L). g.number) fs k f
    (λ j g at_g same.
    let e =
    apart (length hs + j) (length hs + k) f.number (offer_number hs fs j g at_g ∙ number_is g.number f.number same) (offer_number hs fs k f at) in
    omega (arith, e)) at

-- ---- seats

own_tail : {L : Type 0} (h : HeldBy L) (hs : List (HeldBy L)) → HaveOwnTunnels (h ∷ hs) → HaveOwnTunnels hs
own_tail h hs own = λ i j a b f g x y at_f at_g at_x at_y same.
    let is = own (suc i) (suc j) a b f g x y at_f at_g at_x at_y same in
    let e = is.0 in (omega (arith, e), is.1)

-- a seat is the first of its tunnel
seat_found : {L : Type 0} (hs : List (HeldBy L)) (i a : ℕ) (h : HeldBy L) (seat : PortSeat) → HaveOwnTunnels hs → slice_get hs i ≡ Some h
    → slice_get h.ports.items a ≡ Some seat → seat_in hs seat.tunnel ≡ Some seat
seat_found [] i a h seat own at at_seat = absurd cc
seat_found {L} (g ∷ hs) zero a h seat own at at_seat =
    let e : h ≡ g = cc in
    let P : HeldBy L → Type 0 = λ f. slice_get f.ports.items a ≡ Some seat in
    let here : slice_get g.ports.items a ≡ Some seat = subst P e at_seat in
    ap {B = Option PortSeat} (λ (o : Option PortSeat). option_or o (seat_in hs seat.tunnel))
    (first_with (λ (x : PortSeat). x.tunnel) g.ports.items a seat (λ j x at_x same. (own 0 0 j a g g x seat refl refl at_x here same).1) here)
seat_found (g ∷ hs) (suc i) a h seat own at at_seat =
    ap {B = Option PortSeat} (λ (o : Option PortSeat). option_or o (seat_in hs seat.tunnel))
    (none_with (λ (x : PortSeat). x.tunnel) g.ports.items seat.tunnel
    (λ j x at_x same. let e : 0 ≡ suc i = (own 0 (suc i) j a g h x seat refl at at_x at_seat same).0 in omega (arith, e)))
    ∙ seat_found hs i a h seat (own_tail g hs own) at at_seat

port_is : {Q A : Type 0} (say : Q → A) (nothing : A) (table : Slab Q) (o : Option PortSeat) (seat : PortSeat) (port : Q) → o ≡ Some seat
    → get table seat.key ≡ Some port → port_told say nothing table o ≡ say port
port_is {Q} {A} say nothing table o seat port is at =
    ap {B = A} (λ (x : Option PortSeat). port_told say nothing table x) is ∙ ap {B = A} (λ (x : Option Q). unwrap_or (option_map say x) nothing) at

-- ---- what is seen

-- each of the connections is seen
pub sighted_conns : {L Q : Type 0} (words : Words L Q) (table : Slab Q) (binds : Binder) (hs : List (HeldBy L)) (fs : List (OfferBy L))
    → AreDistinct (numbers_of hs fs) → HaveOwnTunnels hs → All (λ (h : HeldBy L). SeesConn words table h (ring_sight words table binds hs fs)) hs
sighted_conns {L} words table binds hs fs apart own =
    all_at (λ (h : HeldBy L). SeesConn words table h (ring_sight words table binds hs fs)) hs (λ i h at. one i h at) where
      one : (i : ℕ) (h : HeldBy L) → slice_get hs i ≡ Some h → SeesConn words table h (ring_sight words table binds hs fs)
      one i h at =
          let found = conn_found hs fs i h apart at in
          record {
            of_link = record {
              link_is = ap {B = Option Link}
                  (λ (o : Option (HeldBy L)). unwrap_or (option_map (λ (g : HeldBy L). words.link g.link) o)
                  (unwrap_or (option_map (λ (f : OfferBy L). words.link f.link) (find (λ (f : OfferBy L). f.number == h.number) fs)) None))
                  found;
              counts_are = ap {B = LinkCounts}
                  (λ (o : Option (HeldBy L)). unwrap_or (option_map (λ (g : HeldBy L). words.link_counts g.link) o) no_link_counts) found;
            };
            of_ports = all_at (SeesPort words.port words.port_counts table (ring_sight words table binds hs fs)) h.ports.items
                (λ a seat at_seat port there.
                let first = seat_found hs i a h seat own at at_seat in (
                  port_is words.port None table (seat_in hs seat.tunnel) seat port first there,
                  port_is words.port_counts no_port_counts table (seat_in hs seat.tunnel) seat port first there,
                ));
          }

-- each of the offered links is seen
pub sighted_offers : {L Q : Type 0} (words : Words L Q) (table : Slab Q) (binds : Binder) (hs : List (HeldBy L)) (fs : List (OfferBy L))
    → AreDistinct (numbers_of hs fs) → All (SeesOffer words (ring_sight words table binds hs fs)) fs
sighted_offers {L} words table binds hs fs apart =
    all_at (SeesOffer words (ring_sight words table binds hs fs)) fs
    (λ k f at.
    ap {B = Option Link}
    (λ (o : Option (HeldBy L)). unwrap_or (option_map (λ (g : HeldBy L). words.link g.link) o)
    (unwrap_or (option_map (λ (g : OfferBy L). words.link g.link) (find (λ (g : OfferBy L). g.number == f.number) fs)) None))
    (offer_none hs fs k f apart at)
    ∙ ap {B = Option Link} (λ (o : Option (OfferBy L)). unwrap_or (option_map (λ (g : OfferBy L). words.link g.link) o) None)
    (offer_found hs fs k f apart at))

-- and the failures are told
pub sighted_binds : {L Q : Type 0} (words : Words L Q) (table : Slab Q) (binds : Binder) (hs : List (HeldBy L)) (fs : List (OfferBy L))
    → (ring_sight words table binds hs fs).binds ≡ binds
sighted_binds words table binds hs fs = refl

-- a ring of which no connection has ended is seen
pub sighted : {L Q : Type 0} (words : Words L Q) (table : Slab Q) (binds : Binder) (r : Ring L) → r.ended ≡ None
    → AreDistinct (numbers_of r.conns.items r.offered.items) → HaveOwnTunnels r.conns.items → (o : Outside) × SeesRing words table binds r o
sighted {L} words table binds r none apart own =
    let o : Outside = ring_sight words table binds r.conns.items r.offered.items in
    let P : Option (HeldBy L) → Type 0 = λ x. MatchOption x ⊤ (λ (h : HeldBy L). SeesConn words table h o) in (
      o,
      record {
        conns = sighted_conns words table binds r.conns.items r.offered.items apart own;
        offers = sighted_offers words table binds r.conns.items r.offered.items apart;
        ended = subst P (sym none) tt;
        binds_are = refl;
      },
    )

distinct_more : (n : ℕ) (ns : List ℕ) → All (λ (m : ℕ). m ≢ n) ns → AreDistinct ns → AreDistinct (n ∷ ns)
distinct_more n ns others apart zero zero m at_i at_j = refl
distinct_more n ns others apart zero (suc j) m at_i at_j = let e : m ≡ n = cc in absurd (at_all (λ (k : ℕ). k ≢ n) ns others j m at_j e)
distinct_more n ns others apart (suc i) zero m at_i at_j = let e : m ≡ n = cc in absurd (at_all (λ (k : ℕ). k ≢ n) ns others i m at_i e)
distinct_more n ns others apart (suc i) (suc j) m at_i at_j = ap (λ (k : ℕ). suc k) (apart i j m at_i at_j)

no_seat : (seats : List PortSeat) (a : ℕ) (x : PortSeat) → seats ≡ [] → slice_get seats a ≡ Some x → ⊥
no_seat [] a x none at = absurd cc
no_seat (seat ∷ seats) a x none at = absurd cc

own_more : {L : Type 0} (g : HeldBy L) (hs : List (HeldBy L)) → g.ports.items ≡ [] → HaveOwnTunnels hs → HaveOwnTunnels (g ∷ hs)
own_more {L} g hs none own zero j a b f h x y at_f at_h at_x at_y same =
    let e : f ≡ g = cc in
    absurd (no_seat f.ports.items a x (ap (λ (k : HeldBy L). k.ports.items) e ∙ none) at_x)
own_more {L} g hs none own (suc i) zero a b f h x y at_f at_h at_x at_y same =
    let e : h ≡ g = cc in
    absurd (no_seat h.ports.items b y (ap (λ (k : HeldBy L). k.ports.items) e ∙ none) at_y)
own_more g hs none own (suc i) (suc j) a b f h x y at_f at_h at_x at_y same =
    let is = own i j a b f h x y at_f at_h at_x at_y same in (ap (λ (k : ℕ). suc k) is.0, is.1)

-- and one of which a connection without ports has ended, whose number is none of the others'
pub sighted_ended : {L Q : Type 0} (words : Words L Q) (table : Slab Q) (binds : Binder) (r : Ring L) (h : HeldBy L) → r.ended ≡ Some h → h.ports.items ≡ []
    → All (λ (n : ℕ). n ≢ h.number) (numbers_of r.conns.items r.offered.items) → AreDistinct (numbers_of r.conns.items r.offered.items)
    → HaveOwnTunnels r.conns.items → (o : Outside) × SeesRing words table binds r o
sighted_ended {L} words table binds r h ended none others apart own =
    let hs : List (HeldBy L) = h ∷ r.conns.items in
    let fs : List (OfferBy L) = r.offered.items in
    let o : Outside = ring_sight words table binds hs fs in
    let P : Option (HeldBy L) → Type 0 = λ x. MatchOption x ⊤ (λ (g : HeldBy L). SeesConn words table g o) in
    let S : HeldBy L → Type 0 = λ g. SeesConn words table g o in
    let distinct : AreDistinct (numbers_of hs fs) = distinct_more h.number (numbers_of r.conns.items fs) others apart in
    let all = sighted_conns words table binds hs fs distinct (own_more h r.conns.items none own) in (
      o,
      record {
        conns = All-tail S h r.conns.items all;
        offers = sighted_offers words table binds hs fs distinct;
        ended = subst P (sym ended) (All-head S h r.conns.items all);
        binds_are = refl;
      },
    )

-- ---- those of a worker

seat_port : {Q : Type 0} (most : Q → ℕ) (table : Slab Q) (seats : List PortSeat) (ports : List Port) → ArePorts most table seats ports
    → (a : ℕ) (seat : PortSeat) → slice_get seats a ≡ Some seat → (p : Port) × (slice_get ports a ≡ Some p) × (p.tunnel ≡ seat.tunnel)
seat_port most table [] ports are a seat at = absurd cc
seat_port most table (x ∷ seats) [] are a seat at = absurd are
seat_port most table (x ∷ seats) (p ∷ ports) are zero seat at = let e : x ≡ seat = cc in (p, refl, are.0.tunnel ∙ ap (λ (y : PortSeat). y.tunnel) e)
seat_port most table (x ∷ seats) (p ∷ ports) are (suc a) seat at = seat_port most table seats ports are.1 a seat at

tunnel_same : (tunnels : List Tunnel) (ports : List Port) → map (λ (q : Port). q.tunnel) ports ≡ ids_of tunnels
    → (a : ℕ) (p : Port) → slice_get ports a ≡ Some p → HasNumber tunnels p.tunnel
tunnel_same tunnels ports same a p at = number_at tunnels a p.tunnel (ap (λ (ns : List ℕ). slice_get ns a) (sym same) ∙ get_map (λ (q : Port). q.tunnel) ports a p at)

port_tunnel : (ending : Option End) (tunnels : List Tunnel) (ports : List Port) → AreServed ending tunnels ports
    → (a : ℕ) (p : Port) → slice_get ports a ≡ Some p → HasNumber tunnels p.tunnel
port_tunnel None tunnels ports served a p at = tunnel_same tunnels ports served a p at
port_tunnel (Some why) tunnels ports (inl same) a p at = tunnel_same tunnels ports same a p at
port_tunnel (Some why) tunnels ports (inr (last, is)) a p at =
    number_at tunnels a p.tunnel
    (ap (λ (ns : List ℕ). slice_get ns a) is ∙ get_append (map (λ (q : Port). q.tunnel) ports) (last ∷ []) a p.tunnel (get_map (λ (q : Port). q.tunnel) ports a p at))

-- the seats of one connection are of tunnels of their own
one_place : (seats : List PortSeat) → SeatsApart seats → (a b : ℕ) (x y : PortSeat) → slice_get seats a ≡ Some x → slice_get seats b ≡ Some y → x.tunnel ≡ y.tunnel → a ≡ b
one_place seats apart a b x y at_x at_y same = by_case (apart_at seats apart a b x y at_x at_y) where
  by_case : ((a ≡ b) × (x ≡ y)) ⊎ IsApartFrom x y → a ≡ b
  by_case (inl (place, is)) = place
  by_case (inr ne) = absurd (ne.0 (sym same))

-- a worker's connections have tunnels of their own
pub own_tunnels : {L Q : Type 0} (most : Q → ℕ) (table : Slab Q) (hs : List (HeldBy L)) (x : Worker) (o : Outside) (seen : Seen) (boxes : Inboxes)
    → AreHeld most table hs x.conns → AreApart x.conns → Known (sight o seen boxes) x → HaveOwnTunnels hs
own_tunnels {L} most table hs x o seen boxes are apart known = λ i j a b g h u v at_g at_h at_u at_v same.
    by_places i j a b g h u v at_g at_h at_u at_v same (held_at most table hs x.conns i g are at_g) (held_at most table hs x.conns j h are at_h) where
      At : ℕ → HeldBy L → Type 0
      At i g = (s : Held) × (slice_get x.conns i ≡ Some s) × IsHeld most table g s

      -- the tunnel is open on this connection
      OpenOn : ℕ → ℕ → Type 0
      OpenOn tunnel conn = (stream : ℕ) × (goal : Goal) × IsOpen seen.entries x.id tunnel conn stream goal

      of_tunnel : (i : ℕ) (s : Held) (seat : PortSeat) → slice_get x.conns i ≡ Some s → HasNumber s.conn.tunnels seat.tunnel
          → OpenOn seat.tunnel s.conn.number
      of_tunnel i s seat at_s (a, t, at_t, is) = (
        t.stream,
        t.goal,
        (known.tunnels seat.tunnel s.conn.number t.stream t.goal).0 (record {
          held = s;
          t = t;
          at = found_at x.conns i s apart at_s;
          has = at_all (λ (y : Tunnel). Contains s.conn.tunnels y) s.conn.tunnels (All-contains_itself s.conn.tunnels) a t at_t;
          id = is;
          on = refl;
          leads = refl;
        }),
      )

      open_on : (i a : ℕ) (g : HeldBy L) (s : Held) (seat : PortSeat) → slice_get x.conns i ≡ Some s → IsHeld most table g s
          → slice_get g.ports.items a ≡ Some seat → OpenOn seat.tunnel s.conn.number
      open_on i a g s seat at_s is at_seat =
          let p = seat_port most table g.ports.items s.ports is.ports a seat at_seat in
          let P : ℕ → Type 0 = λ n. HasNumber s.conn.tunnels n in
          of_tunnel i s seat at_s (subst P p.2 (port_tunnel s.conn.ending s.conn.tunnels s.ports is.served a p.0 p.1))

      one_conn : (tunnel m n : ℕ) → OpenOn tunnel m → OpenOn tunnel n → m ≡ n
      one_conn tunnel m n (stream, goal, is) (on, to, also) = open_once seen.entries x.id tunnel n on m stream to goal also is

      -- the same place has the same connection
      same_held : {i j : ℕ} {g h : HeldBy L} → i ≡ j → slice_get hs i ≡ Some g → slice_get hs j ≡ Some h → h ≡ g
      same_held place at_g at_h = let e : Some _ ≡ Some _ = sym at_h ∙ ap (λ (k : ℕ). slice_get hs k) (sym place) ∙ at_g in cc

      by_places : (i j a b : ℕ) (g h : HeldBy L) (u v : PortSeat) → slice_get hs i ≡ Some g → slice_get hs j ≡ Some h → slice_get g.ports.items a ≡ Some u → slice_get h.ports.items b ≡ Some v
          → u.tunnel ≡ v.tunnel → At i g → At j h → (i ≡ j) × (a ≡ b)
      by_places i j a b g h u v at_g at_h at_u at_v same (s, at_s, of_s) (t, at_t, of_t) =
          let P : ℕ → Type 0 = λ n. OpenOn n s.conn.number in
          let numbers =
          one_conn v.tunnel s.conn.number t.conn.number (subst P same (open_on i a g s u at_s of_s at_u)) (open_on j b h t v at_t of_t at_v) in
          let place = apart i j s t at_s at_t numbers in (place, one_place g.ports.items of_s.apart a b u v at_u (subst (λ (k : HeldBy L). slice_get k.ports.items b ≡ Some v) (same_held place at_g at_h) at_v) same)

-- ---- connections that change

-- what stands in a list in which the element at a place was set
get_set : {A : Type 0} (xs : List A) (i : ℕ) (y : A) (j : ℕ) (x : A) → slice_get (slice_set xs i y) j ≡ Some x
    → ((j ≡ i) × (x ≡ y)) ⊎ ((j ≢ i) × (slice_get xs j ≡ Some x))
get_set [] zero y j x at = absurd cc
get_set [] (suc i) y j x at = absurd cc
get_set (z ∷ xs) zero y zero x at = let e : x ≡ y = cc in inl (refl, e)
get_set (z ∷ xs) zero y (suc j) x at = inr (λ same. omega (arith, same), at)
get_set (z ∷ xs) (suc i) y zero x at = inr (λ same. omega (arith, same), at)
get_set {A} (z ∷ xs) (suc i) y (suc j) x at = by_case (get_set xs i y j x at) where
  by_case : ((j ≡ i) × (x ≡ y)) ⊎ ((j ≢ i) × (slice_get xs j ≡ Some x))
      → ((suc j ≡ suc i) × (x ≡ y)) ⊎ ((suc j ≢ suc i) × (slice_get (z ∷ xs) (suc j) ≡ Some x))
  by_case (inl (here, is)) = inl (ap (λ (k : ℕ). suc k) here, is)
  by_case (inr (ne, is)) = inr (λ same. ne (omega (arith, same)), is)

-- one of them became another, whose tunnels are its own, and none of the others'
pub own_tunnels_set : {L : Type 0} (hs : List (HeldBy L)) (place : ℕ) (now : HeldBy L) → HaveOwnTunnels hs → SeatsApart now.ports.items
    → ((j a b : ℕ) (h : HeldBy L) (x y : PortSeat) → j ≢ place → slice_get hs j ≡ Some h → slice_get h.ports.items b ≡ Some y
    → slice_get now.ports.items a ≡ Some x → x.tunnel ≢ y.tunnel) → HaveOwnTunnels (slice_set hs place now)
own_tunnels_set {L} hs place now own apart others = λ i j a b g h x y at_g at_h at_x at_y same.
    by_places i j a b g h x y at_x at_y same (get_set hs place now i g at_g) (get_set hs place now j h at_h) where
      Stands : ℕ → HeldBy L → Type 0
      Stands i g = ((i ≡ place) × (g ≡ now)) ⊎ ((i ≢ place) × (slice_get hs i ≡ Some g))

      -- a seat of the new one
      there : (a : ℕ) (g : HeldBy L) (x : PortSeat) → g ≡ now → slice_get g.ports.items a ≡ Some x → slice_get now.ports.items a ≡ Some x
      there a g x is at = let P : HeldBy L → Type 0 = λ k. slice_get k.ports.items a ≡ Some x in subst P is at

      by_places : (i j a b : ℕ) (g h : HeldBy L) (x y : PortSeat) → slice_get g.ports.items a ≡ Some x → slice_get h.ports.items b ≡ Some y
          → x.tunnel ≡ y.tunnel → Stands i g → Stands j h → (i ≡ j) × (a ≡ b)
      by_places i j a b g h x y at_x at_y same (inl (here, is)) (inl (beside, also)) =
          (here ∙ sym beside, one_place now.ports.items apart a b x y (there a g x is at_x) (there b h y also at_y) same)
      by_places i j a b g h x y at_x at_y same (inl (here, is)) (inr (ne, at_h)) = absurd (others j a b h x y ne at_h at_y (there a g x is at_x) same)
      by_places i j a b g h x y at_x at_y same (inr (ne, at_g)) (inl (beside, also)) = absurd (others i b a g y x ne at_g at_x (there b h y also at_y) (sym same))
      by_places i j a b g h x y at_x at_y same (inr (ne, at_g)) (inr (far, at_h)) = own i j a b g h x y at_g at_h at_x at_y same

-- one of them is gone
pub own_tunnels_removed : {L : Type 0} (hs : List (HeldBy L)) (place : ℕ) → HaveOwnTunnels hs → HaveOwnTunnels (remove hs place)
own_tunnels_removed {L} hs place own = λ i j a b g h x y at_g at_h at_x at_y same.
    by_sides i j a b g h x y at_x at_y same (get_removed hs place i g at_g) (get_removed hs place j h at_h) where
      Side : ℕ → HeldBy L → Type 0
      Side i g = ((i < place) × (slice_get hs i ≡ Some g)) ⊎ ((place ≤ i) × (slice_get hs (suc i) ≡ Some g))

      by_sides : (i j a b : ℕ) (g h : HeldBy L) (x y : PortSeat) → slice_get g.ports.items a ≡ Some x → slice_get h.ports.items b ≡ Some y
          → x.tunnel ≡ y.tunnel → Side i g → Side j h → (i ≡ j) × (a ≡ b)
      by_sides i j a b g h x y at_x at_y same (inl (less, at_g)) (inl (low, at_h)) = own i j a b g h x y at_g at_h at_x at_y same
      by_sides i j a b g h x y at_x at_y same (inl (less, at_g)) (inr (high, at_h)) =
          let e = (own i (suc j) a b g h x y at_g at_h at_x at_y same).0 in absurd (omega (arith, e, less, high))
      by_sides i j a b g h x y at_x at_y same (inr (more, at_g)) (inl (low, at_h)) =
          let e = (own (suc i) j a b g h x y at_g at_h at_x at_y same).0 in absurd (omega (arith, e, more, low))
      by_sides i j a b g h x y at_x at_y same (inr (more, at_g)) (inr (high, at_h)) =
          let is = own (suc i) (suc j) a b g h x y at_g at_h at_x at_y same in
          let e = is.0 in (omega (arith, e), is.1)

-- one came that has no ports
pub own_tunnels_pushed : {L : Type 0} (hs : List (HeldBy L)) (h : HeldBy L) → h.ports.items ≡ [] → HaveOwnTunnels hs → HaveOwnTunnels (hs ++ h ∷ [])
own_tunnels_pushed {L} hs new none own = λ i j a b g h x y at_g at_h at_x at_y same.
    by_places i j a b g h x y at_x at_y same (get_pushed hs new i g at_g) (get_pushed hs new j h at_h) where
      Stands : ℕ → HeldBy L → Type 0
      Stands i g = (slice_get hs i ≡ Some g) ⊎ ((i ≡ length hs) × (g ≡ new))

      bare : (a : ℕ) (g : HeldBy L) (x : PortSeat) → g ≡ new → slice_get g.ports.items a ≡ Some x → ⊥
      bare a g x is at = no_seat g.ports.items a x (ap (λ (k : HeldBy L). k.ports.items) is ∙ none) at

      by_places : (i j a b : ℕ) (g h : HeldBy L) (x y : PortSeat) → slice_get g.ports.items a ≡ Some x → slice_get h.ports.items b ≡ Some y
          → x.tunnel ≡ y.tunnel → Stands i g → Stands j h → (i ≡ j) × (a ≡ b)
      by_places i j a b g h x y at_x at_y same (inl at_g) (inl at_h) = own i j a b g h x y at_g at_h at_x at_y same
      by_places i j a b g h x y at_x at_y same (inr (last, is)) there = absurd (bare a g x is at_x)
      by_places i j a b g h x y at_x at_y same (inl at_g) (inr (last, is)) = absurd (bare b h y is at_y)
