-- A payload went to its port, or waits for it.
use Rattle.std.proofs.Common.{◌≡◌, ◌≢◌, ◌⊎◌, inl, inr, ℕ, ◌==◌, Bool, true, false, not, ◌&&◌, List, [], ◌∷◌, ◌++◌, map, length, slice_get, nat_lt, cond, Option, Some, None, refl, sym, ap, subst, ◌∙◌, arith}
use Rattle.std.specs.Prelude.{option_map, if◌then◌else◌}
use Rattle.std.proofs.lemmas.Bool.{eq-eqb, ne_eqb}
use Rattle.std.proofs.lemmas.List.{map-id}
use Rattle.slab.specs.Slab.{Slab, get}
use Rattle.mq_outside.specs.Counts.{risen, PortCounts}
use Rattle.mq_outside.specs.Ports.{PortHolds}
use Rattle.mq_talk.specs.declared.book.Call.TheVariants as call
use Rattle.mq_talk.specs.declared.goal.Goal.TheVariants as goal
use Rattle.mq_talk.specs.declared.note.Note.{Note}
use Rattle.mq_talk.specs.Mails.{IsTold, Inboxes}
use Rattle.mq_talk.specs.Offices.{Seen}
use Rattle.mq_machine.specs.State.{Conn, Tunnel, Held, Port, Orders, Shared}
use Rattle.mq_machine.specs.Want.{Want, Ask, Send, want_of}
use Rattle.mq_machine.specs.Shared.{Answers, PortsAnswer, put_of, port_of, port_answer, port_sent, at_port}
use Rattle.mq_machine.specs.Turn.{can_do, send_waits}
use Rattle.mq_machine.specs.Acting.{Outside, PortsTold, PortFailed, WantWaited, holds_of, holding}
use Rattle.mq_conn.specs.Conns.{IsConn}
use Rattle.mq_held.specs.declared.held.Held.{Held as HeldBy}
use Rattle.mq_held.specs.declared.held.PortSeat.{PortSeat}
use Rattle.mq_held.specs.Ports.{PortCalls, SendDoes, SendWaits, TakesNone}
use Rattle.mq_step.specs.Holds.{IsPort, ArePorts, IsApartFrom, IsHeld, tunnels_of, numbers_of}
use Rattle.mq_step.specs.Sights.{Found, SeesPort, SeesPorts, port_if, filled_port, idle_link, idle_port, PortFits, PortsFit, PortGrows}
use Rattle.mq_step.specs.Wanted.{WantDone, WantWaits, is_send, ported, SendsWait}
use Rattle.mq_step.proofs.Filling.{StaysTold, stays_at, stays_filled, is_moved, fits_if, served_any, alive_served}
use Rattle.mq_step.proofs.Places.{at_all, Mine, mine_of, mine_or, KeepsTunnels, tunnels_map, one_of, at_port_map, one_here, one_other, one_tunnels, each_port, each_map, are_each, told_each, port_first}
use Rattle.mq_step.proofs.Wanting.{Mailed, acted_is, shared_by, shares_same}
use Rattle.mq_step.proofs.Keeping.{kept_put}
use Rattle.mq_step.proofs.Cores.{WantsNoOpen, send_live, tail_opens, none_opens}
use Rattle.mq_step.proofs.Standing.{stands, same_apart, bound_none}
use Rattle.mq_step.proofs.Counting.{rose_risen, risen_grows, same_grows, port_same}

-- ---- the port of the payload

pub the_mine : {L Q : Type 0} (most : Q → ℕ) (table : Slab Q) (h : HeldBy L) (s : Held) (tunnel k : ℕ) (payload : List ℕ) → IsHeld most table h s → want_of s.conn ≡ Send tunnel k payload
    → Mine most table h.ports.items s.ports tunnel
the_mine most table h s tunnel k payload held want =
    let a = send_live h.conn s.conn tunnel k payload held.conn want in
    mine_of most table h.ports.items s.ports s.conn.tunnels a.0 tunnel held.ports (alive_served s.conn.ending s.conn.tunnels s.ports a.2 held.served) a.1 a.3

pub same_port : {Q : Type 0} (table : Slab Q) (key : ℕ) (a b : Q) → get table key ≡ Some a → get table key ≡ Some b → a ≡ b
same_port table key a b x y = some_same a b (sym x ∙ y) where
  some_same : {A : Type 0} (a b : A) → Some a ≡ Some b → a ≡ b
  some_same a b is = cc

-- ---- what is told of it

pub told_is : (told : Option PortHolds) (found : PortHolds) → IsTold told found → port_if told found ≡ found
told_is None found is = refl
told_is (Some holds) found is = sym is

-- the outside tells of it what the table has
pub mine_seen : {Q : Type 0} (holds : Q → Option PortHolds) (counts : Q → PortCounts) (table : Slab Q) (o : Outside) (seats : List PortSeat) (place : ℕ) (seat : PortSeat) (tunnel : ℕ) (port : Q)
    → slice_get seats place ≡ Some seat → seat.tunnel ≡ tunnel → get table seat.key ≡ Some port → SeesPorts holds counts table o seats → (o.port tunnel ≡ holds port) × (o.port_counts tunnel ≡ counts port)
mine_seen holds counts table o seats place seat tunnel port here same at sees =
    let x = at_all (SeesPort holds counts table o) seats sees place seat here port at in
    (ap o.port (sym same) ∙ x.0, ap o.port_counts (sym same) ∙ x.1)

-- with what was found the port holds this
pub mine_filled : (o : Outside) (f : Found) (p : Port) (tunnel : ℕ) (told : Option PortHolds) (found : PortHolds) → p.tunnel ≡ tunnel → o.port tunnel ≡ told → f.port tunnel ≡ found
    → filled_port o f p ≡ holding (port_if told found) p
mine_filled o f p tunnel told found same sees finds =
    ap (λ (t : Option PortHolds). holding (port_if t (f.port p.tunnel)) p) (ap o.port same ∙ sees)
    ∙ ap (λ (x : PortHolds). holding (port_if told x) p) (ap f.port same ∙ finds)

-- this was found of the tunnel's port, and of no other
abbrev pub found_at : ℕ → PortHolds → Found
found_at tunnel holds = record { link = idle_link; port = λ other. if other == tunnel then holds else idle_port }

pub found_here : (tunnel : ℕ) (holds : PortHolds) → (found_at tunnel holds).port tunnel ≡ holds
found_here tunnel holds = ap {B = PortHolds} (λ (b : Bool). if b then holds else idle_port) (eq-eqb tunnel tunnel refl)

pub found_other : (tunnel other : ℕ) (holds : PortHolds) → other ≢ tunnel → (found_at tunnel holds).port other ≡ idle_port
found_other tunnel other holds ne = ap {B = PortHolds} (λ (b : Bool). if b then holds else idle_port) (ne_eqb other tunnel ne)

-- where nothing is told, another port fails nothing
pub other_fits : (o n : Outside) (tunnel : ℕ) (holds : PortHolds) (q : Port) → q.tunnel ≢ tunnel → PortFits o n (filled_port o (found_at tunnel holds) q)
other_fits o n tunnel holds q ne = λ none is.
    let other = found_other tunnel q.tunnel holds ne in
    fits_if (o.port q.tunnel) ((found_at tunnel holds).port q.tunnel) q (PortFailed o n q.tunnel) (ap (λ (x : PortHolds). x.send_fails) other) (ap (λ (x : PortHolds). x.receive_fails) other) none is

-- ---- the payload was sent, or dropped

sent_keeps : {Q : Type 0} (most : Q → ℕ) (table : Slab Q) (seat : PortSeat) (q : Port) (payload : List ℕ) → IsPort most table seat q → IsPort most table seat (port_sent payload q)
sent_keeps most table seat q payload is = by_case (nat_lt q.limit (length payload)) q.send_fails where
  by_case : (b d : Bool) → IsPort most table seat (cond b q (cond d (record q { send_fails = false }) (record q { sent = q.sent ++ payload ∷ [] })))
  by_case true d = is
  by_case false true = record { tunnel = is.tunnel; received = is.received; port = is.port; at = is.at; limit = is.limit; small = is.small }
  by_case false false = record { tunnel = is.tunnel; received = is.received; port = is.port; at = is.at; limit = is.limit; small = is.small }

sent_tunnel : (q : Port) (payload : List ℕ) → (port_sent payload q).tunnel ≡ q.tunnel
sent_tunnel q payload = by_case (nat_lt q.limit (length payload)) q.send_fails where
  by_case : (b d : Bool) → (cond b q (cond d (record q { send_fails = false }) (record q { sent = q.sent ++ payload ∷ [] }))).tunnel ≡ q.tunnel
  by_case true d = refl
  by_case false true = refl
  by_case false false = refl

-- what is known of a send
pub record Sends {L Q : Type 0} (most : Q → ℕ) (holds : Q → Option PortHolds) (counts : Q → PortCounts) (table after : Slab Q) (h g : HeldBy L) (o n : Outside) (s : Held) (tunnel k : ℕ) (payload : List ℕ) : Type 0 where
  pub held : IsHeld most table h s
  pub want : want_of s.conn ≡ Send tunnel k payload
  pub one : Mine most table h.ports.items s.ports tunnel
  pub now : Q
  pub at : get after one.seat.key ≡ Some now
  pub limit : most now ≡ most one.is.port
  pub others : (other : ℕ) → other ≢ one.seat.key → get after other ≡ get table other
  pub sees : SeesPorts holds counts table o h.ports.items
  pub sees_after : SeesPorts holds counts after n g.ports.items
  pub seats : g.ports.items ≡ h.ports.items
  pub number : g.number ≡ h.number
  pub bound : g.bound ≡ h.bound

-- the calls of its port
abbrev pub calls : {Q : Type 0} → (Q → Option PortHolds) → (Q → PortCounts) → Q → Q → PortCalls
calls holds counts was now = record { holds = holds was; after = holds now; counts = counts was; counts_after = counts now }

-- the connection behind it
abbrev pub sent_left : Outside → Held → ℕ → List ℕ → PortHolds → Conn → Held
sent_left o s tunnel payload holds t = record (ported o (found_at tunnel holds) s) { conn = t; ports = at_port tunnel (port_sent payload) (ported o (found_at tunnel holds) s).ports }

module _ {L Q : Type 0} (most : Q → ℕ) (holds : Q → Option PortHolds) (counts : Q → PortCounts) (table after : Slab Q) (h g : HeldBy L) (o n : Outside) (s : Held) (tunnel k : ℕ) (payload : List ℕ) where
  abbrev Known : Type 0
  Known = Sends most holds counts table after h g o n s tunnel k payload

  -- each port is the one of the payload, or another, whose place in the table stays
  abbrev IsMine : Known → PortSeat → Port → Type 0
  IsMine x y q = (y ≡ x.one.seat) × (q ≡ x.one.p)

  abbrev IsOther : Known → PortSeat → Port → Type 0
  IsOther x y q = (q.tunnel ≢ tunnel) × (get after y.key ≡ get table y.key)

  which : (x : Known) (i : ℕ) (y : PortSeat) (q : Port) → slice_get h.ports.items i ≡ Some y → slice_get s.ports i ≡ Some q → IsPort most table y q → IsMine x y q ⊎ IsOther x y q
  which x i y q at_y at_q is = by_case (mine_or most table h.ports.items s.ports tunnel x.one x.held.apart i y q at_y at_q is) where
    by_case : ((i ≡ x.one.place) × (y ≡ x.one.seat) × (q ≡ x.one.p)) ⊎ (IsApartFrom x.one.seat y × (q.tunnel ≢ tunnel)) → IsMine x y q ⊎ IsOther x y q
    by_case (inl (place, seat, port)) = inl (seat, port)
    by_case (inr (ne, other)) = inr (other, x.others y.key ne.1)

  before : (x : Known) → (o.port tunnel ≡ holds x.one.is.port) × (o.port_counts tunnel ≡ counts x.one.is.port)
  before x = mine_seen holds counts table o h.ports.items x.one.place x.one.seat tunnel x.one.is.port x.one.at_seat x.one.of_seat x.one.is.at x.sees

  behind : (x : Known) → (n.port tunnel ≡ holds x.now) × (n.port_counts tunnel ≡ counts x.now)
  behind x =
      mine_seen holds counts after n g.ports.items x.one.place x.one.seat tunnel x.now (ap (λ (xs : List PortSeat). slice_get xs x.one.place) x.seats ∙ x.one.at_seat) x.one.of_seat x.at x.sees_after

  stay_one : (x : Known) (i : ℕ) (y : PortSeat) (q : Port) → slice_get h.ports.items i ≡ Some y → IsPort most table y q → get after y.key ≡ get table y.key → StaysTold o n q
  stay_one x i y q at is same =
      let P : List PortSeat → Type 0 = λ xs. SeesPorts holds counts after n xs in
      stays_at most holds counts table after o n h.ports.items i y q x.sees (subst P x.seats x.sees_after) at is same

  -- what all ports hold, with what was found of that one
  abbrev F : PortHolds → Port → Port
  F found q = filled_port o (found_at tunnel found) q

  mine_is : (x : Known) (found : PortHolds) → IsTold (holds x.one.is.port) found → F found x.one.p ≡ holding found x.one.p
  mine_is x found told =
      mine_filled o (found_at tunnel found) x.one.p tunnel (holds x.one.is.port) found x.one.of_port (before x).0 (found_here tunnel found)
      ∙ ap (λ (y : PortHolds). holding y x.one.p) (told_is (holds x.one.is.port) found told)

  first_port : (x : Known) (f : Found) → port_of (ported o f s).ports tunnel ≡ Some (filled_port o f x.one.p)
  first_port x f =
      ap (λ (i : ℕ). port_of (ported o f s).ports i) (sym x.one.of_port)
      ∙ port_first most table (filled_port o f) h.ports.items s.ports x.one.place x.one.seat x.one.p (λ q. refl) x.held.apart x.held.ports x.one.at_seat x.one.at_port

  sent_faults : (x : Known) (said : Note) (t : Conn) (d : SendDoes (calls holds counts x.one.is.port x.now) x.one.p s.conn payload said t)
      → PortsFit o n (ported o (found_at tunnel d.holds) s).ports
  sent_faults x said t d = each_map most table (PortFits o n) (F d.holds) h.ports.items s.ports x.held.ports (λ i y q at_y at_q is. by_case y q (which x i y q at_y at_q is)) where
    fails : PortFits o n (holding d.holds x.one.p)
    fails = λ none is.
        let q : Port = holding d.holds x.one.p in
        let untold : holds x.one.is.port ≡ None = sym (before x).0 ∙ ap o.port (sym x.one.of_port) ∙ none in
        let e = d.fails untold is in
        let f : (n.port_counts q.tunnel).faults ≡ risen (o.port_counts q.tunnel).faults =
        ap (λ (i : ℕ). (n.port_counts i).faults) x.one.of_port
        ∙ ap (λ (c : PortCounts). c.faults) ((behind x).1 ∙ e)
        ∙ ap (λ (c : PortCounts). risen c.faults) (sym (ap o.port_counts x.one.of_port ∙ (before x).1)) in
        inl (rose_risen (o.port_counts q.tunnel).faults (n.port_counts q.tunnel).faults f)

    by_case : (y : PortSeat) (q : Port) → IsMine x y q ⊎ IsOther x y q → PortFits o n (F d.holds q)
    by_case y q (inl (seat, port)) =
        let P : Port → Type 0 = λ z. PortFits o n z in
        subst P (sym (ap (λ (z : Port). F d.holds z) port ∙ mine_is x d.holds d.told)) fails
    by_case y q (inr (ne, same)) = other_fits o n tunnel d.holds q ne

  pub sent_done : (seen : Seen) (m : Mailed seen) (orders : Orders) (x : Sends most holds counts table after h g o n s tunnel k payload) (said : Note) (t : Conn)
      (d : SendDoes (calls holds counts x.one.is.port x.now) x.one.p s.conn payload said t) → n.binds.holds ≡ o.binds.holds
      → WantDone o n seen seen m.mail m.mail orders s said (Some (sent_left o s tunnel payload d.holds t))
  sent_done seen m orders x said t d same =
      let h_is : Held = ported o (found_at tunnel d.holds) s in
      let q : Port = holding d.holds x.one.p in
      let w : Want = Send tunnel k payload in
      let first : port_of h_is.ports tunnel ≡ Some q = first_port x (found_at tunnel d.holds) ∙ ap {B = Option Port} (λ (y : Port). Some y) (mine_is x d.holds d.told) in
      let sh : Shared = shared_by seen seen.entries m.boxes orders in
      let A : Want → Type 0 = λ v. Answers s.conn.actor sh v (port_answer q) sh in
      let B : Want → Type 0 = λ v. PortsAnswer h_is.ports v (port_answer q) in
      record {
        found = found_at tunnel d.holds;
        answer = port_answer q;
        sh = sh;
        after = sh;
        became = Some (sent_left o s tunnel payload d.holds t);
        calm = λ not_send. let e : true ≡ false = ap (λ (v : Want). is_send v) (sym x.want) ∙ not_send in absurd cc;
        can =
            ap (λ (v : Want). can_do h_is.ports v) x.want
            ∙ ap (λ (p : Option Port). not (send_waits p payload)) first
            ∙ ap (λ (b : Bool). not b) d.goes;
        shares = shares_same seen seen m orders refl;
        faults = sent_faults x said t d;
        binds = same;
        next = record {
          answers = subst A (sym x.want) refl;
          ports = subst B (sym x.want) (ap (λ (p : Option Port). option_map port_answer p) first);
          is = acted_is h_is w (port_answer q) said t x.want tt d.does;
        };
        then = refl;
      }

  -- its ports
  abbrev G : PortHolds → Port → Port
  G found q = one_of tunnel (port_sent payload) (F found q)

  keeps_sent : (found : PortHolds) → KeepsTunnels (G found)
  keeps_sent found q = one_tunnels tunnel (port_sent payload) (λ z. sent_tunnel z payload) (F found q)

  left_ports : (found : PortHolds) (t : Conn) → (sent_left o s tunnel payload found t).ports ≡ map (G found) s.ports
  left_ports found t = at_port_map tunnel (port_sent payload) (F found) s.ports

  sent_is : (x : Known) (found : PortHolds) → IsTold (holds x.one.is.port) found → G found x.one.p ≡ port_sent payload (holding found x.one.p)
  sent_is x found told = one_here tunnel (port_sent payload) (F found x.one.p) x.one.of_port ∙ ap (λ (y : Port). port_sent payload y) (mine_is x found told)

  moved : (x : Known) (found : PortHolds) → IsPort most after x.one.seat (holding found x.one.p)
  moved x found = record { tunnel = x.one.is.tunnel; received = x.one.is.received; port = x.now; at = x.at; limit = x.one.is.limit ∙ sym x.limit; small = x.one.is.small }

  pub sent_stands : (x : Sends most holds counts table after h g o n s tunnel k payload) (said : Note) (t : Conn) (d : SendDoes (calls holds counts x.one.is.port x.now) x.one.p s.conn payload said t)
      → IsConn g.conn t → IsHeld most after g (sent_left o s tunnel payload d.holds t)
  sent_stands x said t d conn =
      let q : Port = holding d.holds x.one.p in
      let u : Held = sent_left o s tunnel payload d.holds t in
      let kept = kept_put s.conn t said (put_of q) q.limit (tail_opens h.conn s.conn x.held.conn) d.does in
      let ports = left_ports d.holds t in
      let P : List Port → Type 0 = λ ps. ArePorts most after g.ports.items ps in
      let S : List PortSeat → Type 0 = λ xs. ArePorts most after xs (map (G d.holds) s.ports) in
      let are = subst P (sym ports) (subst S (sym x.seats)
      (are_each most table after (G d.holds) h.ports.items s.ports x.held.ports (λ i y q at_y at_q is. by_case y q is (which x i y q at_y at_q is)))) in
      let a = send_live h.conn s.conn tunnel k payload x.held.conn x.want in
      let served : tunnels_of u.ports ≡ numbers_of t.tunnels =
      ap (λ (ps : List Port). tunnels_of ps) ports
      ∙ tunnels_map (G d.holds) s.ports (keeps_sent d.holds)
      ∙ alive_served s.conn.ending s.conn.tunnels s.ports a.2 x.held.served
      ∙ sym (ap (λ (ts : List Tunnel). numbers_of ts) kept.tunnels) in
      let bound : g.bound ≡ None = x.bound ∙ bound_none most table h.ports.items (want_of s.conn) (Send tunnel k payload) h.bound x.held.bound x.want in
      stands most after g u conn (kept.number ∙ x.held.number ∙ sym x.number) are (same_apart h.ports.items g.ports.items x.seats x.held.apart)
      (served_any t.ending t.tunnels u.ports served) kept.opens bound where
        by_case : (y : PortSeat) (q : Port) → IsPort most table y q → IsMine x y q ⊎ IsOther x y q → IsPort most after y (G d.holds q)
        by_case y q is (inl (seat, port)) =
            let X : PortSeat → Type 0 = λ z. IsPort most after z (G d.holds q) in
            let Y : Port → Type 0 = λ z. IsPort most after x.one.seat z in
            subst X (sym seat) (subst Y (sym (ap (λ (z : Port). G d.holds z) port ∙ sent_is x d.holds d.told))
            (sent_keeps most after x.one.seat (holding d.holds x.one.p) payload (moved x d.holds)))
        by_case y q is (inr (ne, same)) =
            let Y : Port → Type 0 = λ z. IsPort most after y z in
            subst Y (sym (one_other tunnel (port_sent payload) (F d.holds q) ne))
            (is_moved most table after y q (port_if (o.port q.tunnel) ((found_at tunnel d.holds).port q.tunnel)) same is)

  pub sent_told : (x : Sends most holds counts table after h g o n s tunnel k payload) (said : Note) (t : Conn) (d : SendDoes (calls holds counts x.one.is.port x.now) x.one.p s.conn payload said t)
      → PortsTold n (sent_left o s tunnel payload d.holds t).ports
  sent_told x said t d =
      let P : List Port → Type 0 = λ ps. PortsTold n ps in
      subst P (sym (left_ports d.holds t)) (told_each most table n (G d.holds) h.ports.items s.ports x.held.ports (λ i y q at_y at_q is. by_case i y q at_y is (which x i y q at_y at_q is))) where
        T : Port → Type 0
        T z = IsTold (n.port z.tunnel) (holds_of z)

        by_case : (i : ℕ) (y : PortSeat) (q : Port) → slice_get h.ports.items i ≡ Some y → IsPort most table y q → IsMine x y q ⊎ IsOther x y q → T (G d.holds q)
        by_case i y q at is (inl (seat, port)) =
            let q_is : Port = holding d.holds x.one.p in
            let W : Option PortHolds → Type 0 = λ told. IsTold told (holds_of (port_sent payload q_is)) in
            let same : n.port (port_sent payload q_is).tunnel ≡ holds x.now = ap n.port (sent_tunnel q_is payload ∙ x.one.of_port) ∙ (behind x).0 in
            subst T (sym (ap (λ (z : Port). G d.holds z) port ∙ sent_is x d.holds d.told)) (subst W (sym same) d.tells)
        by_case i y q at is (inr (ne, same)) =
            subst T (sym (one_other tunnel (port_sent payload) (F d.holds q) ne)) (stays_filled o n (found_at tunnel d.holds) q (stay_one x i y q at is same))

  -- ---- it waits

  waits_by : (w f l : Bool) → w ≡ true → f ≡ false → l ≡ false → not (w && not f && not l) ≡ false
  waits_by true false false a b c = refl
  waits_by false f l a b c = absurd cc
  waits_by true true l a b c = absurd cc
  waits_by true false true a b c = absurd cc

  -- a port that tells it takes nothing, and one that tells nothing, wait
  waits_if : (told : Option PortHolds) (found : PortHolds) → TakesNone told → found.send_fails ≡ false → found.send_waits ≡ true → ((port_if told found).send_fails ≡ false) × ((port_if told found).send_waits ≡ true)
  waits_if None found none works waits = (works, waits)
  waits_if (Some holds) found none works waits = (none.0, none.1)

  -- whatever was found that takes no datagram
  cannot_send : (x : Known) → SendWaits (calls holds counts x.one.is.port x.now) (most x.one.is.port) payload → (f : Found) → SendsWait f
      → can_do (ported o f s).ports (want_of s.conn) ≡ false
  cannot_send x waits f vain =
      let told : Option PortHolds = holds x.one.is.port in
      let q : Port = holding (port_if told (f.port tunnel)) x.one.p in
      let first : port_of (ported o f s).ports tunnel ≡ Some q =
      first_port x f ∙ ap {B = Option Port} (λ (y : Port). Some y) (mine_filled o f x.one.p tunnel told (f.port tunnel) x.one.of_port (before x).0 refl) in
      let w = waits_if told (f.port tunnel) waits.nothing (vain tunnel).0 (vain tunnel).1 in
      let long : nat_lt q.limit (length payload) ≡ false = ap (λ (l : ℕ). nat_lt l (length payload)) x.one.is.limit ∙ waits.fits in
      ap (λ (v : Want). can_do (ported o f s).ports v) x.want ∙ ap (λ (p : Option Port). not (send_waits p payload)) first ∙ waits_by q.send_waits q.send_fails (nat_lt q.limit (length payload)) w.1 w.0 long

  pub sent_waits : (seen : Seen) (mail : Inboxes) (x : Sends most holds counts table after h g o n s tunnel k payload) → SendWaits (calls holds counts x.one.is.port x.now) (most x.one.is.port) payload → n.binds ≡ o.binds
      → WantWaits o n seen seen mail mail s
  sent_waits seen mail x waits faults =
      let A : Want → Type 0 = λ v. WantWaited o n v in
      record {
        cannot = λ f vain. cannot_send x waits f vain;
        asked = subst A (sym x.want) (rose_risen (o.port_counts tunnel).send_waits (n.port_counts tunnel).send_waits (ap (λ (c : PortCounts). c.send_waits) counts_are));
        grows = each_port most table G_is h.ports.items s.ports x.held.ports (λ i y q at_y at_q is. grow i y q at_y is (which x i y q at_y at_q is));
        told = each_port most table T_is h.ports.items s.ports x.held.ports (λ i y q at_y at_q is. tell i y q at_y is (which x i y q at_y at_q is));
        works = each_port most table F_is h.ports.items s.ports x.held.ports (λ i y q at_y at_q is. work i y q at_y is (which x i y q at_y at_q is));
        binds = faults;
        seen_is = refl;
        mail_is = refl;
      } where
        counts_are : n.port_counts tunnel ≡ record (o.port_counts tunnel) { send_waits = risen (o.port_counts tunnel).send_waits }
        counts_are = (behind x).1 ∙ waits.counts ∙ ap (λ (c : PortCounts). record c { send_waits = risen c.send_waits }) (sym (before x).1)

        G_is : Port → Type 0
        G_is p = PortGrows (o.port_counts p.tunnel) (n.port_counts p.tunnel)

        T_is : Port → Type 0
        T_is p = n.port p.tunnel ≡ o.port p.tunnel

        F_is : Port → Type 0
        F_is p = (n.port_counts p.tunnel).faults ≡ (o.port_counts p.tunnel).faults

        of_mine : (y : PortSeat) (q : Port) → IsMine x y q → q.tunnel ≡ tunnel
        of_mine y q (seat, port) = ap (λ (z : Port). z.tunnel) port ∙ x.one.of_port

        grow : (i : ℕ) (y : PortSeat) (q : Port) → slice_get h.ports.items i ≡ Some y → IsPort most table y q → IsMine x y q ⊎ IsOther x y q → G_is q
        grow i y q at is (inl mine) =
            let I : ℕ → Type 0 = λ j. PortGrows (o.port_counts j) (n.port_counts j) in
            subst I (sym (of_mine y q mine)) (record {
              send_waits = let e = ap (λ (c : PortCounts). c.send_waits) counts_are in let le = risen_grows (o.port_counts tunnel).send_waits in omega (arith, e, le);
              receive_waits = same_grows (o.port_counts tunnel).receive_waits (n.port_counts tunnel).receive_waits (ap (λ (c : PortCounts). c.receive_waits) counts_are);
              faults = same_grows (o.port_counts tunnel).faults (n.port_counts tunnel).faults (ap (λ (c : PortCounts). c.faults) counts_are);
            })
        grow i y q at is (inr (ne, same)) = port_same (o.port_counts q.tunnel) (n.port_counts q.tunnel) (stay_one x i y q at is same).counts

        tell : (i : ℕ) (y : PortSeat) (q : Port) → slice_get h.ports.items i ≡ Some y → IsPort most table y q → IsMine x y q ⊎ IsOther x y q → T_is q
        tell i y q at is (inl mine) = let J : ℕ → Type 0 = λ j. n.port j ≡ o.port j in subst J (sym (of_mine y q mine)) ((behind x).0 ∙ waits.after ∙ sym (before x).0)
        tell i y q at is (inr (ne, same)) = (stay_one x i y q at is same).port

        work : (i : ℕ) (y : PortSeat) (q : Port) → slice_get h.ports.items i ≡ Some y → IsPort most table y q → IsMine x y q ⊎ IsOther x y q → F_is q
        work i y q at is (inl mine) =
            let K : ℕ → Type 0 = λ j. (n.port_counts j).faults ≡ (o.port_counts j).faults in
            subst K (sym (of_mine y q mine)) (ap (λ (c : PortCounts). c.faults) counts_are)
        work i y q at is (inr (ne, same)) = ap (λ (c : PortCounts). c.faults) (stay_one x i y q at is same).counts

  pub waits_stands : (x : Sends most holds counts table after h g o n s tunnel k payload) → IsConn g.conn s.conn → IsHeld most after g s
  waits_stands x conn =
      let none : WantsNoOpen s.conn = λ conn id actor addr port e.
      let f : Send tunnel k payload ≡ Ask (call.Open conn id actor (goal.Udp addr port)) = sym x.want ∙ e in cc in
      let bound : g.bound ≡ None = x.bound ∙ bound_none most table h.ports.items (want_of s.conn) (Send tunnel k payload) h.bound x.held.bound x.want in
      let S : List PortSeat → Type 0 = λ xs. ArePorts most after xs s.ports in
      let P : List Port → Type 0 = λ ps. ArePorts most after h.ports.items ps in
      let are = subst P (map-id s.ports) (are_each most table after (λ q. q) h.ports.items s.ports x.held.ports (λ i y q at_y at_q is. by_case y q is (which x i y q at_y at_q is))) in
      stands most after g s conn (x.held.number ∙ sym x.number) (subst S (sym x.seats) are) (same_apart h.ports.items g.ports.items x.seats x.held.apart)
      x.held.served (none_opens h.conn s.conn x.held.conn none) bound where
        by_case : (y : PortSeat) (q : Port) → IsPort most table y q → IsMine x y q ⊎ IsOther x y q → IsPort most after y q
        by_case y q is (inl (seat, port)) =
            let X : PortSeat → Type 0 = λ z. IsPort most after z q in
            let Y : Port → Type 0 = λ z. IsPort most after x.one.seat z in
            subst X (sym seat) (subst Y (sym port)
            (record { tunnel = x.one.is.tunnel; received = x.one.is.received; port = x.now; at = x.at; limit = x.one.is.limit ∙ sym x.limit; small = x.one.is.small }))
        by_case y q is (inr (ne, same)) = record { tunnel = is.tunnel; received = is.received; port = is.port; at = same ∙ is.at; limit = is.limit; small = is.small }
