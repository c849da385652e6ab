-- A datagram was received, or none was there, or memory was refused.
use Rattle.std.proofs.Common.{◌≡◌, ◌≢◌, ◌⊎◌, inl, inr, ℕ, zero, suc, ◌+◌, ◌==◌, Bool, true, false, List, [], ◌∷◌, drop, map, length, min, slice_get, slice_set, nat_lt, Option, Some, None, refl, sym, ap, subst, ◌∙◌, arith}
use Rattle.std.specs.Prelude.{◌||◌, if◌then◌else◌, option_map}
use Rattle.std.proofs.lemmas.Bool.{eq-eqb, ne_eqb, lt-ltb}
use Rattle.std.proofs.lemmas.List.{map-id}
use Rattle.std.proofs.lemmas.List.Elements.{All-cons, All-head, All-tail, All-nil}
use Rattle.slab.specs.Slab.{Slab, get}
use Rattle.mq_outside.specs.Counts.{last_count, risen, LinkCounts, PortCounts}
use Rattle.mq_outside.specs.Ports.{PortHolds, PortPast}
use Rattle.mq_talk.specs.declared.note.Note.{Note}
use Rattle.mq_talk.specs.declared.note.End.TheVariants as end
use Rattle.mq_talk.specs.declared.note.From.TheVariants as source
use Rattle.mq_talk.specs.Mails.{IsTold, Inboxes}
use Rattle.mq_talk.specs.Offices.{Seen}
use Rattle.mq_machine.specs.declared.setup.Setup.{Setup}
use Rattle.mq_machine.specs.State.{Conn, Tunnel, Link, Held, Port, Orders, Shared, tunnel_of}
use Rattle.mq_machine.specs.Want.{Said, want_of}
use Rattle.mq_machine.specs.Steps.{queued, settled_note, received, port_received, starved}
use Rattle.mq_machine.specs.Shared.{at_port}
use Rattle.mq_machine.specs.Turn.{Receive, HeldDone, OwnNext, PortNext, ReceiveNext, received_from, with_conn}
use Rattle.mq_machine.specs.Acting.{Outside, PortsTold, holds_of, holding}
use Rattle.mq_conn.specs.Conns.{IsConn}
use Rattle.mq_held.specs.Ready.{may_give, CanGive}
use Rattle.mq_held.specs.declared.held.Held.{Held as HeldBy}
use Rattle.mq_held.specs.declared.held.PortSeat.{PortSeat}
use Rattle.mq_held.specs.Ports.{receive_calls, GivesNone, ReceiveWaits, TakesDatagram, IsIdle}
use Rattle.mq_held.specs.Seats.{counted}
use Rattle.mq_step.specs.Holds.{IsPort, ArePorts, IsApartFrom, SeatsApart, IsHeld, tunnels_of, numbers_of}
use Rattle.mq_step.specs.Sights.{Found, SeesPort, SeesPorts, port_if, filled_port, idle, idle_port, PortGrows}
use Rattle.mq_step.specs.Whole.{SeesLink, filled, IsAsTold}
use Rattle.mq_step.specs.Gives.{Asked, Waited, Turned, Starved, ReceivesWait, receive_alone}
use Rattle.mq_step.proofs.Counting.{rose_risen, risen_grows, same_grows, port_same}
use Rattle.mq_step.proofs.Filling.{StaysTold, stays_at, told_filled, stays_filled, is_moved, served_any, served_ending, alive_served, are_filled, served_filled}
use Rattle.mq_step.proofs.Places.{apart_at, one_of, at_port_map, one_here, one_other, one_tunnels, tunnels_map, each_port, are_each, are_set, told_each, apart_set}
use Rattle.mq_step.proofs.Wanting.{Mailed, shared_by, shares_same}
use Rattle.mq_step.proofs.Keeping.{IsKept, no_opens_nil, queued_keeps}
use Rattle.mq_step.proofs.Standing.{stands, same_apart}
use Rattle.mq_step.proofs.Sending.{mine_seen, found_at, found_here}
use Rattle.mq_step.proofs.Receiving.{Live, LinkStays, link_stays, waits_opens, waits_bound, receives_wait, held_then, filled_one, port_is, tunnel_is, which, first_is, link_told, link_grows, none_faults}

-- ---- what is known behind a receive

pub record Behind {L Q : Type 0} (most : Q → ℕ) (holds : Q → Option PortHolds) (counts : Q → PortCounts) (table after : Slab Q) (h g : HeldBy L) (o n : Outside) (seat : PortSeat) (was : Q) : Type 0 where
  pub now : Q
  pub at : get after seat.key ≡ Some now
  pub limit : most now ≡ most was
  pub sees : (n.port seat.tunnel ≡ holds now) × (n.port_counts seat.tunnel ≡ counts now)
  pub others : (other : ℕ) → other ≢ seat.key → get after other ≡ get table other
  -- what is told of the other ports is told again
  pub stays : (i : ℕ) (y : PortSeat) (q : Port) → slice_get h.ports.items i ≡ Some y → IsPort most table y q → IsApartFrom seat y → StaysTold o n q
  pub link : LinkStays o n h.number
  pub number : g.number ≡ h.number
  pub bound : g.bound ≡ h.bound

abbrev pub behind_of : {L Q : Type 0} (most : Q → ℕ) (holds : Q → Option PortHolds) (counts : Q → PortCounts) (link : L → Option Link) (link_counts : L → LinkCounts) (table after : Slab Q) (h g : HeldBy L) (o n : Outside) (place : ℕ) (seat : PortSeat) (was now : Q)
    → slice_get h.ports.items place ≡ Some seat → get after seat.key ≡ Some now → most now ≡ most was → ((other : ℕ) → other ≢ seat.key → get after other ≡ get table other)
    → SeesPorts holds counts table o h.ports.items → SeesPorts holds counts after n h.ports.items → g.number ≡ h.number → g.link ≡ h.link → g.bound ≡ h.bound
    → SeesLink link link_counts h o → SeesLink link link_counts g n → Behind most holds counts table after h g o n seat was
behind_of most holds counts link link_counts table after h g o n place seat was now here at limit others before sees number same bound so sn = record {
  now = now;
  at = at;
  limit = limit;
  sees = mine_seen holds counts after n h.ports.items place seat seat.tunnel now here refl at sees;
  others = others;
  stays = λ i y q at_y is ne. stays_at most holds counts table after o n h.ports.items i y q before sees at_y is (others y.key ne.1);
  link = link_stays link link_counts h g o n number same so sn;
  number = number;
  bound = bound;
}

-- the port as it is behind the call, whatever is told of it then
abbrev pub beyond : Outside → ℕ → Option PortHolds → PortCounts → Outside
beyond o tunnel told count = record o { port = λ other. if other == tunnel then told else o.port other; port_counts = λ other. if other == tunnel then count else o.port_counts other }

abbrev pub behind_call : {L Q : Type 0} (most : Q → ℕ) (holds : Q → Option PortHolds) (counts : Q → PortCounts) (table after : Slab Q) (h g : HeldBy L) (o : Outside) (seat : PortSeat) (was now : Q)
    → get after seat.key ≡ Some now → most now ≡ most was → ((other : ℕ) → other ≢ seat.key → get after other ≡ get table other) → g.number ≡ h.number → g.bound ≡ h.bound
    → Behind most holds counts table after h g o (beyond o seat.tunnel (holds now) (counts now)) seat was
behind_call most holds counts table after h g o seat was now at limit others number bound = record {
  now = now;
  at = at;
  limit = limit;
  sees = (
    ap {B = Option PortHolds} (λ (b : Bool). if b then holds now else o.port seat.tunnel) (eq-eqb seat.tunnel seat.tunnel refl),
    ap {B = PortCounts} (λ (b : Bool). if b then counts now else o.port_counts seat.tunnel) (eq-eqb seat.tunnel seat.tunnel refl),
  );
  others = others;
  stays = λ i y q at_y is ne.
      let other : q.tunnel ≢ seat.tunnel = λ same. ne.0 (sym is.tunnel ∙ same) in
      record {
        port = ap {B = Option PortHolds} (λ (b : Bool). if b then holds now else o.port q.tunnel) (ne_eqb q.tunnel seat.tunnel other);
        counts = ap {B = PortCounts} (λ (b : Bool). if b then counts now else o.port_counts q.tunnel) (ne_eqb q.tunnel seat.tunnel other);
      };
  link = record { link = refl; counts = refl };
  number = number;
  bound = bound;
}

-- who sees the seats of which one counts one more sees those before
pub sees_counted : {Q : Type 0} (holds : Q → Option PortHolds) (counts : Q → PortCounts) (after : Slab Q) (n : Outside) (seats : List PortSeat) (place : ℕ) (was new : PortSeat) → slice_get seats place ≡ Some was
    → new.tunnel ≡ was.tunnel → new.key ≡ was.key → SeesPorts holds counts after n (slice_set seats place new) → SeesPorts holds counts after n seats
sees_counted holds counts after n [] zero was new at tunnel key sees = sees
sees_counted holds counts after n [] (suc place) was new at tunnel key sees = sees
sees_counted holds counts after n (x ∷ seats) zero was new at tunnel key sees =
    let e : x ≡ was = cc in
    let t : x.tunnel ≡ new.tunnel = ap (λ (y : PortSeat). y.tunnel) e ∙ sym tunnel in
    let k : x.key ≡ new.key = ap (λ (y : PortSeat). y.key) e ∙ sym key in
    let h = All-head (SeesPort holds counts after n) new seats sees in
    All-cons (SeesPort holds counts after n) x seats
    (λ port there. let r = h port (ap (λ (i : ℕ). get after i) (sym k) ∙ there) in (ap n.port t ∙ r.0, ap n.port_counts t ∙ r.1))
    (All-tail (SeesPort holds counts after n) new seats sees)
sees_counted holds counts after n (x ∷ seats) (suc place) was new at tunnel key sees =
    All-cons (SeesPort holds counts after n) x seats (All-head (SeesPort holds counts after n) x (slice_set seats place new) sees)
    (sees_counted holds counts after n seats place was new at tunnel key (All-tail (SeesPort holds counts after n) x (slice_set seats place new) sees))

-- ---- what it held

gives_none : (told : Option PortHolds) → GivesNone told → may_give (port_if told idle_port) ≡ false
gives_none None none = refl
gives_none (Some holds) none = ap (λ (b : Bool). b || nat_lt 0 (length holds.arrived)) none.0 ∙ ap (λ (xs : List (List ℕ)). nat_lt 0 (length xs)) none.1

-- a port with this datagram, or with one
abbrev pub with_one : List ℕ → PortHolds
with_one datagram = record idle_port { arrived = datagram ∷ [] }

gives_one : (told : Option PortHolds) → CanGive told → may_give (port_if told (with_one [])) ≡ true
gives_one None can = refl
gives_one (Some holds) can = can

pub record Takes (told after : Option PortHolds) (datagram : List ℕ) : Type 0 where
  pub others : List (List ℕ)
  pub works : (port_if told (with_one datagram)).receive_fails ≡ false
  pub arrived : (port_if told (with_one datagram)).arrived ≡ datagram ∷ others
  pub tells : IsTold after (record (port_if told (with_one datagram)) { arrived = others })

takes_if : (told after : Option PortHolds) (datagram : List ℕ) (holds : PortHolds) (others : List (List ℕ)) → IsTold told holds → holds.receive_fails ≡ false → holds.arrived ≡ datagram ∷ others
    → IsTold after (record holds { arrived = others }) → (told ≡ None → after ≡ None) → Takes told after datagram
takes_if None after datagram holds others is works arrived tells untold =
    let P : Option PortHolds → Type 0 = λ x. IsTold x (record (with_one datagram) { arrived = [] }) in
    record { others = []; works = refl; arrived = refl; tells = subst P (sym (untold refl)) tt }
takes_if (Some told) after datagram holds others is works arrived tells untold =
    let P : PortHolds → Type 0 = λ x. IsTold after (record x { arrived = others }) in
    record { others = others; works = ap (λ (x : PortHolds). x.receive_fails) (sym is) ∙ works; arrived = ap (λ (x : PortHolds). x.arrived) (sym is) ∙ arrived; tells = subst P is tells }

gives_then : (holds : PortHolds) (datagram : List ℕ) (others : List (List ℕ)) → holds.receive_fails ≡ false → holds.arrived ≡ datagram ∷ others → may_give holds ≡ true
gives_then holds datagram others works arrived =
    ap (λ (b : Bool). b || nat_lt 0 (length holds.arrived)) works ∙ ap (λ (xs : List (List ℕ)). nat_lt 0 (length xs)) arrived ∙ lt-ltb 0 (length (datagram ∷ others)) (omega arith)

-- the connection for which memory was refused
abbrev pub sunk_then : Outside → Held → ℕ → Held
sunk_then o s tunnel = record (filled o (found_at tunnel (with_one [])) s) { conn = starved s.conn }

-- the packet, as it comes to the tunnel
abbrev pub came : Held → Tunnel → ℕ → List ℕ → Note × Conn
came s t n datagram = settled_note (queued s.conn t (source.Port t.id) n datagram)

-- the connection behind it
abbrev pub received_left : Outside → Held → PortSeat → Tunnel → List ℕ → Held
received_left o s seat t datagram = record (filled o (found_at seat.tunnel (with_one datagram)) s) {
  conn = (came s t seat.received datagram).1;
  ports = at_port seat.tunnel port_received (filled o (found_at seat.tunnel (with_one datagram)) s).ports;
}

module _ {L Q : Type 0} (most : Q → ℕ) (holds : Q → Option PortHolds) (past : Q → PortPast) (counts : Q → PortCounts) (table after : Slab Q) (h g : HeldBy L) (o n : Outside) (s : Held) (seat : PortSeat) where
  -- the port stands in the table behind
  is_behind : (x : Live most holds counts table h o s seat) (b : Behind most holds counts table after h g o n seat x.is.port) (new : PortSeat) (q : Port) → new.key ≡ seat.key → q.tunnel ≡ new.tunnel
      → q.received ≡ new.received → q.limit ≡ x.p.limit → IsPort most after new q
  is_behind x b new q key tunnel rec limit = record {
    tunnel = tunnel;
    received = rec;
    port = b.now;
    at = ap (λ (k : ℕ). get after k) key ∙ b.at;
    limit = limit ∙ x.is.limit ∙ sym b.limit;
    small = let le = x.is.small in omega (arith, limit, le);
  }

  pub unbound : (x : Live most holds counts table h o s seat) (b : Behind most holds counts table after h g o n seat x.is.port) → g.bound ≡ None
  unbound x b = b.bound ∙ waits_bound most table h.ports.items (want_of s.conn) h.bound x.wait x.held.bound

  -- each port of the connection is that of the seat, or another
  abbrev pub Which : Live most holds counts table h o s seat → ℕ → PortSeat → Port → Type 0
  Which x i y q = ((i ≡ x.place) × (y ≡ seat) × (q ≡ x.p)) ⊎ (IsApartFrom seat y × (q.tunnel ≢ seat.tunnel))

  pub one_is : (x : Live most holds counts table h o s seat) (i : ℕ) (y : PortSeat) (q : Port) → slice_get h.ports.items i ≡ Some y → slice_get s.ports i ≡ Some q → IsPort most table y q → Which x i y q
  one_is x i y q at_y at_q is = which most holds counts table h o s seat x i y q at_y at_q is

  -- the ports of a connection with the same seats
  pub same_are : (x : Live most holds counts table h o s seat) (b : Behind most holds counts table after h g o n seat x.is.port) → g.ports.items ≡ h.ports.items → ArePorts most after g.ports.items s.ports
  same_are x b seats =
      let P : List PortSeat → Type 0 = λ xs. ArePorts most after xs s.ports in
      let R : List Port → Type 0 = λ ps. ArePorts most after h.ports.items ps in
      subst P (sym seats) (subst R (map-id s.ports) (are_each most table after (λ q. q) h.ports.items s.ports x.held.ports (λ i y q at_y at_q is. by_case i y q is (one_is x i y q at_y at_q is)))) where
        by_case : (i : ℕ) (y : PortSeat) (q : Port) → IsPort most table y q → Which x i y q → IsPort most after y q
        by_case i y q is (inl (at, same, port)) =
            let X : PortSeat → Type 0 = λ z. IsPort most after z q in
            let Y : Port → Type 0 = λ z. IsPort most after seat z in
            subst X (sym same) (subst Y (sym port) (is_behind x b seat x.p refl x.is.tunnel x.is.received refl))
        by_case i y q is (inr (ne, other)) =
            record { tunnel = is.tunnel; received = is.received; port = is.port; at = b.others y.key ne.1 ∙ is.at; limit = is.limit; small = is.small }

  -- its place is the only one of the seat
  pub place_is : (x : Live most holds counts table h o s seat) (place : ℕ) → slice_get h.ports.items place ≡ Some seat → place ≡ x.place
  place_is x place at = by_case (apart_at h.ports.items x.held.apart place x.place seat seat at x.here) where
    by_case : ((place ≡ x.place) × (seat ≡ seat)) ⊎ IsApartFrom seat seat → place ≡ x.place
    by_case (inl (same, is)) = same
    by_case (inr ne) = absurd (ne.0 refl)

  pub still_apart : (x : Live most holds counts table h o s seat) → g.ports.items ≡ h.ports.items → SeatsApart g.ports.items
  still_apart x seats = same_apart h.ports.items g.ports.items seats x.held.apart

  -- ---- it waits

  pub received_waits : (x : Live most holds counts table h o s seat) (b : Behind most holds counts table after h g o n seat x.is.port) (seen : Seen) (mail : Inboxes)
      → ReceiveWaits (receive_calls holds past counts x.is.port b.now) → n.binds ≡ o.binds → Waited (receive_alone seat.tunnel) o n seen seen mail mail s
  received_waits x b seen mail w binds =
      let counts_are : n.port_counts seat.tunnel ≡ record (o.port_counts seat.tunnel) { receive_waits = risen (o.port_counts seat.tunnel).receive_waits } =
      b.sees.1 ∙ w.counts ∙ ap (λ (c : PortCounts). record c { receive_waits = risen c.receive_waits }) (sym x.sees.1) in
      let I : ℕ → Type 0 = λ i. PortGrows (o.port_counts i) (n.port_counts i) in
      let J : ℕ → Type 0 = λ i. n.port i ≡ o.port i in
      let grows : I seat.tunnel = record {
        send_waits = same_grows (o.port_counts seat.tunnel).send_waits (n.port_counts seat.tunnel).send_waits (ap (λ (c : PortCounts). c.send_waits) counts_are);
        receive_waits = let e = ap (λ (c : PortCounts). c.receive_waits) counts_are in let le = risen_grows (o.port_counts seat.tunnel).receive_waits in omega (arith, e, le);
        faults = same_grows (o.port_counts seat.tunnel).faults (n.port_counts seat.tunnel).faults (ap (λ (c : PortCounts). c.faults) counts_are);
      } in
      record {
        none = first_is most holds counts table h o s seat x idle false (gives_none (holds x.is.port) w.nothing);
        asked =
            All-cons (Asked o n s) (Receive seat.tunnel) []
            (rose_risen (o.port_counts seat.tunnel).receive_waits (n.port_counts seat.tunnel).receive_waits (ap (λ (c : PortCounts). c.receive_waits) counts_are))
            (All-nil (Asked o n s));
        grows = record {
          link = link_grows o n h.number s.conn.number b.link x.held.number;
          ports = each_port most table G h.ports.items s.ports x.held.ports (λ i y q at_y at_q is. grow grows i y q at_y is (one_is x i y q at_y at_q is));
        };
        told = record {
          link = ap n.link x.held.number ∙ b.link.link ∙ ap o.link (sym x.held.number);
          ports = each_port most table E h.ports.items s.ports x.held.ports (λ i y q at_y at_q is. tell (b.sees.0 ∙ w.after ∙ sym x.sees.0) i y q at_y is (one_is x i y q at_y at_q is));
          binds = binds;
        };
        seen_is = refl;
        mail_is = refl;
      } where
        G : Port → Type 0
        G p = PortGrows (o.port_counts p.tunnel) (n.port_counts p.tunnel)

        E : Port → Type 0
        E p = n.port p.tunnel ≡ o.port p.tunnel

        grow : PortGrows (o.port_counts seat.tunnel) (n.port_counts seat.tunnel) → (i : ℕ) (y : PortSeat) (q : Port) → slice_get h.ports.items i ≡ Some y → IsPort most table y q → Which x i y q → G q
        grow grows i y q at is (inl (place, same, port)) =
            let I : ℕ → Type 0 = λ j. PortGrows (o.port_counts j) (n.port_counts j) in
            subst I (sym (ap (λ (z : Port). z.tunnel) port ∙ x.of_port)) grows
        grow grows i y q at is (inr (ne, other)) = port_same (o.port_counts q.tunnel) (n.port_counts q.tunnel) (b.stays i y q at is ne).counts

        tell : n.port seat.tunnel ≡ o.port seat.tunnel → (i : ℕ) (y : PortSeat) (q : Port) → slice_get h.ports.items i ≡ Some y → IsPort most table y q → Which x i y q → E q
        tell told i y q at is (inl (place, same, port)) =
            let J : ℕ → Type 0 = λ j. n.port j ≡ o.port j in
            subst J (sym (ap (λ (z : Port). z.tunnel) port ∙ x.of_port)) told
        tell told i y q at is (inr (ne, other)) = (b.stays i y q at is ne).port

  pub waits_stand : (x : Live most holds counts table h o s seat) (b : Behind most holds counts table after h g o n seat x.is.port) → g.ports.items ≡ h.ports.items → IsConn g.conn s.conn → IsHeld most after g s
  waits_stand x b seats conn =
      stands most after g s conn (x.held.number ∙ sym b.number) (same_are x b seats) (still_apart x seats) x.held.served (waits_opens h.conn s.conn x.held.conn x.wait) (unbound x b)

  -- ---- memory was refused

  pub received_starves : (x : Live most holds counts table h o s seat) (seen : Seen) (m : Mailed seen) (orders : Orders) → CanGive (holds x.is.port) → n.binds.holds ≡ o.binds.holds
      → Starved (receive_alone seat.tunnel) (ReceivesWait seat.tunnel) o n seen seen m.mail m.mail orders s (sunk_then o s seat.tunnel)
  received_starves x seen m orders can same = record {
    found = found_at seat.tunnel (with_one []);
    vain_is = receives_wait seat.tunnel (with_one []) refl refl;
    try = Receive seat.tunnel;
    answer = Said;
    sh = shared_by seen seen.entries m.boxes orders;
    after = shared_by seen seen.entries m.boxes orders;
    reached = record { took = false; asked = false };
    pieces = (filled o (found_at seat.tunnel (with_one [])) s).link.pieces;
    tunnels = s.conn.tunnels;
    is = first_is most holds counts table h o s seat x (found_at seat.tunnel (with_one [])) true
        (ap (λ (y : PortHolds). may_give (port_if (holds x.is.port) y)) (found_here seat.tunnel (with_one [])) ∙ gives_one (holds x.is.port) can);
    shares = shares_same seen seen m orders refl;
    takes = λ same. absurd cc;
    leaves = refl;
    heard = (refl, refl, refl);
    binds = same;
    then = refl;
  }

  pub starved_stands : (x : Live most holds counts table h o s seat) (b : Behind most holds counts table after h g o n seat x.is.port) → g.ports.items ≡ h.ports.items → IsConn g.conn (starved s.conn)
      → IsHeld most after g (sunk_then o s seat.tunnel)
  starved_stands x b seats conn =
      let f : Found = found_at seat.tunnel (with_one []) in
      stands most after g (sunk_then o s seat.tunnel) conn (x.held.number ∙ sym b.number)
      (are_filled most after o f g.ports.items s.ports (same_are x b seats)) (still_apart x seats)
      (served_filled o f (Some end.NoMemory) s.conn.tunnels s.ports (served_ending s.conn.ending end.NoMemory s.conn.tunnels s.ports x.held.served)) no_opens_nil (unbound x b)

  -- what is told of its port, where that wasn't called
  told_same : (x : Live most holds counts table h o s seat) (b : Behind most holds counts table after h g o n seat x.is.port) (f : Found) → holds b.now ≡ holds x.is.port → PortsTold n (filled o f s).ports
  told_same x b f same =
      told_each most table n (filled_port o f) h.ports.items s.ports x.held.ports (λ i y q at_y at_q is. by_case i y q at_y is (one_is x i y q at_y at_q is)) where
        by_case : (i : ℕ) (y : PortSeat) (q : Port) → slice_get h.ports.items i ≡ Some y → IsPort most table y q → Which x i y q → IsTold (n.port q.tunnel) (holds_of (filled_port o f q))
        by_case i y q at is (inl (place, seat_is, port)) =
            let t : q.tunnel ≡ seat.tunnel = ap (λ (z : Port). z.tunnel) port ∙ x.of_port in
            told_filled o n f q (ap n.port t ∙ b.sees.0 ∙ same ∙ sym x.sees.0 ∙ ap o.port (sym t))
        by_case i y q at is (inr (ne, other)) = stays_filled o n f q (b.stays i y q at is ne)

  pub starved_told : (x : Live most holds counts table h o s seat) (b : Behind most holds counts table after h g o n seat x.is.port) → IsIdle (receive_calls holds past counts x.is.port b.now) → IsAsTold n (sunk_then o s seat.tunnel)
  starved_told x b idle_is = record {
    link = link_told o n h.number s.conn.number s.conn.number b.link x.held.number x.held.number;
    ports = told_same x b (found_at seat.tunnel (with_one [])) idle_is.after;
  }

  -- ---- a datagram was received

  takes : (x : Live most holds counts table h o s seat) (b : Behind most holds counts table after h g o n seat x.is.port) (datagram : List ℕ)
      → TakesDatagram (receive_calls holds past counts x.is.port b.now) datagram → Takes (holds x.is.port) (holds b.now) datagram
  takes x b datagram d = takes_if (holds x.is.port) (holds b.now) datagram d.holds d.others d.told d.works d.arrived d.tells d.untold

  -- the packet that came
  came_is : (x : Live most holds counts table h o s seat) (q : Port) (datagram : List ℕ) → q.tunnel ≡ x.p.tunnel → q.received ≡ x.p.received
      → received s.conn q datagram ≡ Some (came s x.t seat.received datagram)
  came_is x q datagram tunnel rec =
      ap (λ (i : ℕ). option_map (λ (t : Tunnel). settled_note (queued s.conn t (source.Port i) q.received datagram)) (tunnel_of s.conn i)) (tunnel ∙ x.of_port)
      ∙ ap (λ (u : Option Tunnel). option_map (λ (t : Tunnel). settled_note (queued s.conn t (source.Port seat.tunnel) q.received datagram)) u) (tunnel_is most holds counts table h o s seat x)
      ∙ ap {B = Option (Note × Conn)} (λ (i : ℕ). Some (settled_note (queued s.conn x.t (source.Port i) q.received datagram))) (sym x.id)
      ∙ ap {B = Option (Note × Conn)} (λ (k : ℕ). Some (came s x.t k datagram)) (rec ∙ x.is.received)

  received_is : (x : Live most holds counts table h o s seat) (datagram : List ℕ) (others : List (List ℕ)) (said : Note) (q : Port) → q.tunnel ≡ x.p.tunnel → q.received ≡ x.p.received → q.arrived ≡ datagram ∷ others
      → said ≡ (came s x.t seat.received datagram).0
      → received_from (filled o (found_at seat.tunnel (with_one datagram)) s) q q.arrived ≡ Some (said, Some (received_left o s seat x.t datagram))
  received_is x datagram others said q tunnel rec arrived says =
      let f : Held = filled o (found_at seat.tunnel (with_one datagram)) s in
      let put : ℕ → Held = λ i. record f { ports = at_port i port_received f.ports } in
      ap (λ (xs : List (List ℕ)). received_from f q xs) arrived
      ∙ ap (λ (i : ℕ). option_map (with_conn (put i)) (received s.conn q datagram)) (tunnel ∙ x.of_port)
      ∙ ap (λ (d : Option (Note × Conn)). option_map (with_conn (put seat.tunnel)) d) (came_is x q datagram tunnel rec)
      ∙ ap {B = HeldDone} (λ (k : Note). Some (k, Some (received_left o s seat x.t datagram))) (sym says)

  pub received_done : (x : Live most holds counts table h o s seat) (b : Behind most holds counts table after h g o n seat x.is.port) (setup : Setup) (seen : Seen) (m : Mailed seen) (orders : Orders) (datagram : List ℕ) (said : Note)
      → TakesDatagram (receive_calls holds past counts x.is.port b.now) datagram → said ≡ (came s x.t seat.received datagram).0 → n.binds.holds ≡ o.binds.holds
      → Turned setup (receive_alone seat.tunnel) (ReceivesWait seat.tunnel) o n seen seen m.mail m.mail orders s said (Some (received_left o s seat x.t datagram))
  received_done x b setup seen m orders datagram said d says same =
      let d_is = takes x b datagram d in
      let f : Found = found_at seat.tunnel (with_one datagram) in
      let H : PortHolds = held_then most holds counts table h o s seat x (with_one datagram) in
      let q : Port = holding H x.p in
      let here = found_here seat.tunnel (with_one datagram) in
      let sh : Shared = shared_by seen seen.entries m.boxes orders in
      let left : Held = received_left o s seat x.t datagram in
      let P : Option Port → Type 0 = λ p. ReceiveNext p (filled o f s) sh Said said (Some left) sh in
      let R : Bool → Type 0 = λ fails. PortNext fails (filled o f s) q sh Said said (Some left) sh in
      let own : OwnNext sh Said said (Some left) sh (received_from (filled o f s) q q.arrived) =
      record { said = refl; is = received_is x datagram d_is.others said q refl refl d_is.arrived says; after_is = refl } in
      record {
        found = f;
        vain_is = receives_wait seat.tunnel (with_one datagram) refl refl;
        try = Receive seat.tunnel;
        answer = Said;
        sh = sh;
        after = sh;
        became = Some left;
        is = first_is most holds counts table h o s seat x f true
            (ap (λ (y : PortHolds). may_give (port_if (holds x.is.port) y)) here ∙ gives_then H datagram d_is.others d_is.works d_is.arrived);
        shares = shares_same seen seen m orders refl;
        faults = none_faults o n s seat.tunnel (with_one datagram) refl refl;
        binds = same;
        next = subst P (sym (port_is most holds counts table h o s seat x f ∙ ap {B = Option Port} (λ (y : PortHolds). Some (holding (port_if (holds x.is.port) y) x.p)) here)) (subst R (sym d_is.works) own);
        then = refl;
      }

  -- what all ports are then
  abbrev F : List ℕ → Port → Port
  F datagram q = filled_port o (found_at seat.tunnel (with_one datagram)) q

  abbrev G : List ℕ → Port → Port
  G datagram q = one_of seat.tunnel port_received (F datagram q)

  left_ports : (x : Live most holds counts table h o s seat) (datagram : List ℕ) → (received_left o s seat x.t datagram).ports ≡ map (G datagram) s.ports
  left_ports x datagram = at_port_map seat.tunnel port_received (F datagram) s.ports

  port_left : (x : Live most holds counts table h o s seat) (datagram : List ℕ) (q : Port) → q ≡ x.p
      → G datagram q ≡ port_received (holding (held_then most holds counts table h o s seat x (with_one datagram)) x.p)
  port_left x datagram q same =
      ap (λ (z : Port). G datagram z) same
      ∙ one_here seat.tunnel port_received (F datagram x.p) x.of_port
      ∙ ap (λ (z : Port). port_received z) (filled_one most holds counts table h o s seat x (found_at seat.tunnel (with_one datagram)))
      ∙ ap (λ (y : PortHolds). port_received (holding (port_if (holds x.is.port) y) x.p)) (found_here seat.tunnel (with_one datagram))

  counts_one : (x : Live most holds counts table h o s seat) → min (x.p.received + 1) last_count ≡ counted seat.received
  counts_one x = ap {B = ℕ} (λ (k : ℕ). min (k + 1) last_count) x.is.received

  pub received_stands : (x : Live most holds counts table h o s seat) (b : Behind most holds counts table after h g o n seat x.is.port) (datagram : List ℕ)
      → g.ports.items ≡ slice_set h.ports.items x.place (record seat { received = counted seat.received }) → IsConn g.conn (came s x.t seat.received datagram).1
      → IsHeld most after g (received_left o s seat x.t datagram)
  received_stands x b datagram seats conn =
      let u : Held = received_left o s seat x.t datagram in
      let kept : IsKept s.conn u.conn = queued_keeps s.conn x.t (source.Port x.t.id) seat.received datagram (waits_opens h.conn s.conn x.held.conn x.wait) in
      let ports = left_ports x datagram in
      let P : List PortSeat → Type 0 = λ xs. ArePorts most after xs u.ports in
      let R : List Port → Type 0 = λ ps. ArePorts most after (slice_set h.ports.items x.place new) ps in
      let are = are_set most table after (G datagram) h.ports.items s.ports x.place new x.held.ports
      (λ i y q at_y at_q is. (λ same. here i q same at_q, λ ne. other i y q at_y ne is (one_is x i y q at_y at_q is))) in
      let served : tunnels_of u.ports ≡ numbers_of u.conn.tunnels =
      ap (λ (ps : List Port). tunnels_of ps) ports
      ∙ tunnels_map (G datagram) s.ports (λ q. one_tunnels seat.tunnel port_received (λ z. refl) (F datagram q))
      ∙ alive_served s.conn.ending s.conn.tunnels s.ports x.alive x.held.served
      ∙ sym kept.3 in
      stands most after g u conn (kept.0 ∙ x.held.number ∙ sym b.number) (subst P (sym seats) (subst R (sym ports) are))
      (same_apart (slice_set h.ports.items x.place new) g.ports.items seats (apart_set h.ports.items x.place seat new x.here refl refl x.held.apart))
      (served_any u.conn.ending u.conn.tunnels u.ports served) kept.2 (unbound x b) where
        new : PortSeat
        new = record seat { received = counted seat.received }

        here : (i : ℕ) (q : Port) → i ≡ x.place → slice_get s.ports i ≡ Some q → IsPort most after new (G datagram q)
        here i q same at =
            let both : Some q ≡ Some x.p = sym at ∙ ap (λ (k : ℕ). slice_get s.ports k) same ∙ x.at_port in
            let e : q ≡ x.p = cc in
            let Y : Port → Type 0 = λ z. IsPort most after new z in
            let z : Port = port_received (holding (held_then most holds counts table h o s seat x (with_one datagram)) x.p) in
            subst Y (sym (port_left x datagram q e)) (is_behind x b new z refl x.of_port (counts_one x) refl)

        other : (i : ℕ) (y : PortSeat) (q : Port) → slice_get h.ports.items i ≡ Some y → i ≢ x.place → IsPort most table y q → Which x i y q → IsPort most after y (G datagram q)
        other i y q at ne is (inl (same, seat_is, port)) = absurd (ne same)
        other i y q at ne is (inr (far, not)) =
            let Y : Port → Type 0 = λ z. IsPort most after y z in
            subst Y (sym (one_other seat.tunnel port_received (F datagram q) not))
            (is_moved most table after y q (port_if (o.port q.tunnel) ((found_at seat.tunnel (with_one datagram)).port q.tunnel)) (b.others y.key far.1) is)

  pub received_told : (x : Live most holds counts table h o s seat) (b : Behind most holds counts table after h g o n seat x.is.port) (datagram : List ℕ)
      → TakesDatagram (receive_calls holds past counts x.is.port b.now) datagram → IsAsTold n (received_left o s seat x.t datagram)
  received_told x b datagram d =
      let u : Held = received_left o s seat x.t datagram in
      let kept : IsKept s.conn u.conn = queued_keeps s.conn x.t (source.Port x.t.id) seat.received datagram (waits_opens h.conn s.conn x.held.conn x.wait) in
      let P : List Port → Type 0 = λ ps. PortsTold n ps in
      record {
        link = link_told o n h.number s.conn.number u.conn.number b.link x.held.number (kept.0 ∙ x.held.number);
        ports = subst P (sym (left_ports x datagram)) (told_each most table n (G datagram) h.ports.items s.ports x.held.ports (λ i y q at_y at_q is. by_case i y q at_y is (one_is x i y q at_y at_q is)));
      } where
        Told : Port → Type 0
        Told z = IsTold (n.port z.tunnel) (holds_of z)

        by_case : (i : ℕ) (y : PortSeat) (q : Port) → slice_get h.ports.items i ≡ Some y → IsPort most table y q → Which x i y q → Told (G datagram q)
        by_case i y q at is (inl (place, seat_is, port)) =
            let d_is = takes x b datagram d in
            let H : PortHolds = held_then most holds counts table h o s seat x (with_one datagram) in
            let T : Option PortHolds → Type 0 = λ told. IsTold told (record H { arrived = drop 1 H.arrived }) in
            let A : List (List ℕ) → Type 0 = λ xs. IsTold (holds b.now) (record H { arrived = xs }) in
            let e : n.port x.p.tunnel ≡ holds b.now = ap n.port x.of_port ∙ b.sees.0 in
            let rest : drop 1 H.arrived ≡ d_is.others = ap (λ (xs : List (List ℕ)). drop 1 xs) d_is.arrived in
            subst Told (sym (port_left x datagram q port)) (subst T (sym e) (subst A (sym rest) d_is.tells))
        by_case i y q at is (inr (ne, not)) =
            subst Told (sym (one_other seat.tunnel port_received (F datagram q) not)) (stays_filled o n (found_at seat.tunnel (with_one datagram)) q (b.stays i y q at is ne))
