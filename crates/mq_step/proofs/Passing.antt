-- The receives of a connection, one seat after the other: those before were in vain.
use Rattle.std.proofs.Common.{◌≡◌, ◌≢◌, ◌⊎◌, inl, inr, ℕ, zero, suc, ◌<◌, ◌≤◌, ◌&&◌, Bool, true, false, List, [], ◌∷◌, map, length, All, slice_get, nat_lt, Option, Some, None, Result, Ok, Err, refl, sym, ap, subst, ◌∙◌, arith}
use Rattle.std.specs.Prelude.{find, if◌then◌else◌, ◌||◌, is_some}
use Rattle.std.specs.Result.{IsErr}
use Rattle.std.proofs.lemmas.Bool.{cases_lt}
use Rattle.std.proofs.lemmas.List.Elements.{All-cons, All-nil}
use Rattle.slab.specs.Slab.{Slab, get}
use Rattle.mq_wire.specs.declared.NoMemory.{NoMemory}
use Rattle.mq_outside.specs.Counts.{risen, LinkCounts, PortCounts, no_port_counts}
use Rattle.mq_outside.specs.Ports.{PortHolds, PortPast}
use Rattle.mq_talk.specs.declared.note.Note.{Note}
use Rattle.mq_talk.specs.Mails.{Inboxes}
use Rattle.mq_talk.specs.Offices.{Seen}
use Rattle.mq_machine.specs.declared.setup.Setup.{Setup}
use Rattle.mq_machine.specs.State.{Link, Held, Port, Orders, tunnel_of}
use Rattle.mq_machine.specs.Turn.{Try, Receive, can_try, can_receive_on}
use Rattle.mq_machine.specs.Acting.{Outside, Binder, Rose}
use Rattle.mq_held.specs.Ports.{receive_calls, GivesNone, ReceiveWaits}
use Rattle.mq_held.specs.Ready.{may_give}
use Rattle.mq_held.specs.declared.held.Held.{Held as HeldBy}
use Rattle.mq_held.specs.declared.held.PortSeat.{PortSeat}
use Rattle.mq_step.specs.Notes.{SteppedWith, stepped_with}
use Rattle.mq_step.specs.Notes.{Quiet, Did, Ended, Noteless}
use Rattle.mq_step.specs.Holds.{IsPort, ArePorts, IsApartFrom, SeatsApart, IsHeld}
use Rattle.mq_step.specs.Sights.{Found, SeesPort, SeesPorts, port_if, filled_port, idle, PortGrows}
use Rattle.mq_step.specs.Whole.{SeesLink, Sees, filled}
use Rattle.mq_step.specs.Gives.{Gives, Asked, Waited, Turned, ReadsWait, ReceivesWait, first_of, receives_of, receive_alone}
use Rattle.mq_step.specs.Vain.{AskedInVain}
use Rattle.mq_step.proofs.Counting.{rose_risen, risen_grows, same_grows, port_same, link_same}
use Rattle.mq_step.proofs.Places.{at_all, all_by, apart_at, seat_port, each_port, port_first}
use Rattle.mq_step.proofs.Seeing.{there, there_is}
use Rattle.mq_step.proofs.Trying.{PortBetween, Between, mid, faults_back, binds_back}
use Rattle.mq_step.specs.declared.stepped.Stepped.{Stepped}
use Rattle.mq_step.proofs.Receiving.{link_stays, link_grows}

-- ---- which ports were asked

-- the port of this seat was asked in vain
pub record WasAsked {Q : Type 0} (holds : Q → Option PortHolds) (past : Q → PortPast) (counts : Q → PortCounts) (table after : Slab Q) (seat : PortSeat) : Type 0 where
  pub was : Q
  pub at : get table seat.key ≡ Some was
  pub now : Q
  pub at_now : get after seat.key ≡ Some now
  pub waits : ReceiveWaits (receive_calls holds past counts was now)

-- those of the first seats were asked, and the others stay
abbrev pub PassedTo : {Q : Type 0} → (Q → Option PortHolds) → (Q → PortPast) → (Q → PortCounts) → Slab Q → Slab Q → ℕ → List PortSeat → Type 0
PassedTo holds past counts table after k [] = Unit {0}
PassedTo holds past counts table after zero (seat ∷ seats) = (get after seat.key ≡ get table seat.key) × PassedTo holds past counts table after zero seats
PassedTo holds past counts table after (suc k) (seat ∷ seats) = WasAsked holds past counts table after seat × PassedTo holds past counts table after k seats

module _ {Q : Type 0} (holds : Q → Option PortHolds) (past : Q → PortPast) (counts : Q → PortCounts) (table : Slab Q) where
  pub passed_none : (seats : List PortSeat) → PassedTo holds past counts table table zero seats
  passed_none [] = tt
  passed_none (seat ∷ seats) = (refl, passed_none seats)

  -- where nothing changes under these keys
  passed_same : (between after : Slab Q) (k : ℕ) (seats : List PortSeat) → ((i : ℕ) (x : PortSeat) → slice_get seats i ≡ Some x → get after x.key ≡ get between x.key)
      → PassedTo holds past counts table between k seats → PassedTo holds past counts table after k seats
  passed_same between after zero [] same p = tt
  passed_same between after (suc k) [] same p = tt
  passed_same between after zero (seat ∷ seats) same p = (same 0 seat refl ∙ p.0, passed_same between after zero seats (λ i x at. same (suc i) x at) p.1)
  passed_same between after (suc k) (seat ∷ seats) same p = (
    record { was = p.0.was; at = p.0.at; now = p.0.now; at_now = same 0 seat refl ∙ p.0.at_now; waits = p.0.waits },
    passed_same between after k seats (λ i x at. same (suc i) x at) p.1,
  )

  -- the next one was asked
  pub passed_next : (between after : Slab Q) (k : ℕ) (seats : List PortSeat) (seat : PortSeat) → SeatsApart seats → slice_get seats k ≡ Some seat → AskedInVain holds past counts between after seat
      → PassedTo holds past counts table between k seats → PassedTo holds past counts table after (suc k) seats
  passed_next between after k [] seat apart at vain p = absurd cc
  passed_next between after zero (x ∷ seats) seat apart at vain p =
      let e : x ≡ seat = cc in
      let others : All (IsApartFrom seat) seats = subst (λ (y : PortSeat). All (IsApartFrom y) seats) e apart.0 in
      let W : PortSeat → Type 0 = λ y. WasAsked holds past counts table after y in
      let before : get table seat.key ≡ Some vain.was = ap (λ (y : PortSeat). get table y.key) (sym e) ∙ sym p.0 ∙ ap (λ (y : PortSeat). get between y.key) e ∙ vain.at in (
        subst W (sym e) (record { was = vain.was; at = before; now = vain.now; at_now = vain.at_now; waits = vain.waits }),
        passed_same between after zero seats (λ i y at_y. vain.others y.key (at_all (IsApartFrom seat) seats others i y at_y).1) p.1,
      )
  passed_next between after (suc k) (x ∷ seats) seat apart at vain p =
      let ne = at_all (IsApartFrom x) seats apart.0 k seat at in (
        record { was = p.0.was; at = p.0.at; now = p.0.now; at_now = vain.others x.key (λ same. ne.1 (sym same)) ∙ p.0.at_now; waits = p.0.waits },
        passed_next between after k seats seat apart.1 at vain p.1,
      )

  asked_at : (after : Slab Q) (k : ℕ) (seats : List PortSeat) → PassedTo holds past counts table after k seats → (i : ℕ) (x : PortSeat) → slice_get seats i ≡ Some x → i < k → WasAsked holds past counts table after x
  asked_at after k [] p i x at lt = absurd cc
  asked_at after zero (y ∷ seats) p i x at lt = absurd (omega (arith, lt))
  asked_at after (suc k) (y ∷ seats) p zero x at lt = let e : y ≡ x = cc in let W : PortSeat → Type 0 = λ z. WasAsked holds past counts table after z in subst W e p.0
  asked_at after (suc k) (y ∷ seats) p (suc i) x at lt = asked_at after k seats p.1 i x at (omega (arith, lt))

  left_at : (after : Slab Q) (k : ℕ) (seats : List PortSeat) → PassedTo holds past counts table after k seats → (i : ℕ) (x : PortSeat) → slice_get seats i ≡ Some x → k ≤ i → get after x.key ≡ get table x.key
  left_at after k [] p i x at le = absurd cc
  left_at after zero (y ∷ seats) p zero x at le = let e : y ≡ x = cc in let P : PortSeat → Type 0 = λ z. get after z.key ≡ get table z.key in subst P e p.0
  left_at after zero (y ∷ seats) p (suc i) x at le = left_at after zero seats p.1 i x at (omega arith)
  left_at after (suc k) (y ∷ seats) p zero x at le = absurd (omega (arith, le))
  left_at after (suc k) (y ∷ seats) p (suc i) x at le = left_at after k seats p.1 i x at (omega (arith, le))

pub there_at : {A : Type 0} (xs : List A) (k : ℕ) → k < length xs → (x : A) × (slice_get xs k ≡ Some x)
there_at [] k lt = absurd (omega (arith, lt))
there_at (x ∷ xs) zero lt = (x, refl)
there_at (x ∷ xs) (suc k) lt = there_at xs k (omega (arith, lt))

-- ---- the first receive that can be done

module _ (can : Try → Bool) where
  pub first_behind : (ports : List Port) (k : ℕ) (p : Port) (try : Try) → slice_get ports k ≡ Some p
      → ((i : ℕ) (q : Port) → slice_get ports i ≡ Some q → i < k → can (Receive q.tunnel) ≡ false)
      → find can (Receive p.tunnel ∷ []) ≡ Some try → find can (map (λ (q : Port). Receive q.tunnel) ports) ≡ Some try
  first_behind [] k p try at before is = absurd cc
  first_behind (q ∷ ports) zero p try at before is =
      let e : q ≡ p = cc in
      let rest : List Try = map (λ (y : Port). Receive y.tunnel) ports in
      let F : Port → Type 0 = λ y. find can (Receive y.tunnel ∷ rest) ≡ Some try in
      subst F (sym e) (by_can (can (Receive p.tunnel)) rest is) where
        by_can : (b : Bool) (rest : List Try) → (if b then Some (Receive p.tunnel) else None) ≡ Some try → (if b then Some (Receive p.tunnel) else find can rest) ≡ Some try
        by_can true rest is = is
        by_can false rest is = absurd cc
  first_behind (q ∷ ports) (suc k) p try at before is =
      let rest : List Try = map (λ (y : Port). Receive y.tunnel) ports in
      ap {B = Option Try} (λ (b : Bool). if b then Some (Receive q.tunnel) else find can rest) (before 0 q refl (omega arith))
      ∙ first_behind ports k p try at (λ i y at_y lt. before (suc i) y at_y (omega (arith, lt))) is

  pub first_none : (ports : List Port) → ((i : ℕ) (q : Port) → slice_get ports i ≡ Some q → can (Receive q.tunnel) ≡ false) → find can (map (λ (q : Port). Receive q.tunnel) ports) ≡ None
  first_none [] none = refl
  first_none (q ∷ ports) none =
      let rest : List Try = map (λ (y : Port). Receive y.tunnel) ports in
      ap {B = Option Try} (λ (b : Bool). if b then Some (Receive q.tunnel) else find can rest) (none 0 q refl)
      ∙ first_none ports (λ i y at. none (suc i) y at)

-- a port that tells it gives nothing, or else was found so
gives_not : (told : Option PortHolds) (found : PortHolds) → GivesNone told → found.receive_fails ≡ false → found.arrived ≡ [] → may_give (port_if told found) ≡ false
gives_not None found none works empty = ap (λ (b : Bool). b || nat_lt 0 (length found.arrived)) works ∙ ap (λ (xs : List (List ℕ)). nat_lt 0 (length xs)) empty
gives_not (Some holds) found none works empty = ap (λ (b : Bool). b || nat_lt 0 (length holds.arrived)) none.0 ∙ ap (λ (xs : List (List ℕ)). nat_lt 0 (length xs)) none.1

and_false : (a : Bool) → (a && false) ≡ false
and_false true = refl
and_false false = refl

-- the ports that a change keeps, by their places
map_at : (F : Port → Port) (ports : List Port) (i : ℕ) (q : Port) → slice_get (map F ports) i ≡ Some q → (p : Port) × (slice_get ports i ≡ Some p) × (q ≡ F p)
map_at F [] i q at = absurd cc
map_at F (p ∷ ports) zero q at = let e : F p ≡ q = cc in (p, refl, sym e)
map_at F (p ∷ ports) (suc i) q at = map_at F ports i q at

at_map : (F : Port → Port) (ports : List Port) (i : ℕ) (p : Port) → slice_get ports i ≡ Some p → slice_get (map F ports) i ≡ Some (F p)
at_map F [] i p at = absurd cc
at_map F (x ∷ ports) zero p at = let e : x ≡ p = cc in ap {B = Option Port} (λ (y : Port). Some (F y)) e
at_map F (x ∷ ports) (suc i) p at = at_map F ports i p at

pub port_seat : {Q : Type 0} (most : Q → ℕ) (table : Slab Q) (seats : List PortSeat) (ports : List Port) → ArePorts most table seats ports → (i : ℕ) (p : Port)
    → slice_get ports i ≡ Some p → (x : PortSeat) × (slice_get seats i ≡ Some x) × IsPort most table x p
port_seat most table [] [] are i p at = absurd cc
port_seat most table [] (q ∷ ports) are i p at = absurd are
port_seat most table (x ∷ seats) [] are i p at = absurd are
port_seat most table (x ∷ seats) (q ∷ ports) are zero p at = let e : q ≡ p = cc in let P : Port → Type 0 = λ y. IsPort most table x y in (x, refl, subst P e are.0)
port_seat most table (x ∷ seats) (q ∷ ports) are (suc i) p at = port_seat most table seats ports are.1 i p at

module _ {L Q : Type 0} (most : Q → ℕ) (holds : Q → Option PortHolds) (past : Q → PortPast) (counts : Q → PortCounts) (table after : Slab Q) (h : HeldBy L) (o : Outside) (s : Held) (k : ℕ)
    (held : IsHeld most table h s) (so : SeesPorts holds counts table o h.ports.items) (passed : PassedTo holds past counts table after k h.ports.items) where
  -- the counts of the ports now
  abbrev pub counts_now : ℕ → PortCounts
  counts_now tunnel = there counts no_port_counts after h.ports.items tunnel

  asked : (i : ℕ) (x : PortSeat) → slice_get h.ports.items i ≡ Some x → i < k → WasAsked holds past counts table after x
  asked i x at lt = asked_at holds past counts table after k h.ports.items passed i x at lt

  stays : (i : ℕ) (x : PortSeat) → slice_get h.ports.items i ≡ Some x → k ≤ i → get after x.key ≡ get table x.key
  stays i x at le = left_at holds past counts table after k h.ports.items passed i x at le

  same_some : {A : Type 0} (a b : A) (r : Option A) → r ≡ Some a → r ≡ Some b → a ≡ b
  same_some a b r x y = let e : Some a ≡ Some b = sym x ∙ y in cc

  before : (i : ℕ) (x : PortSeat) (port : Q) → slice_get h.ports.items i ≡ Some x → get table x.key ≡ Some port → (o.port x.tunnel ≡ holds port) × (o.port_counts x.tunnel ≡ counts port)
  before i x port at is = at_all (SeesPort holds counts table o) h.ports.items so i x at port is

  -- what the outside told is what the ports tell now
  pub sees_now : SeesPorts holds counts after (mid o o.link_counts counts_now) h.ports.items
  sees_now = all_by (SeesPort holds counts after (mid o o.link_counts counts_now)) h.ports.items each where
    each : (i : ℕ) (x : PortSeat) → slice_get h.ports.items i ≡ Some x → (port : Q) → get after x.key ≡ Some port → (o.port x.tunnel ≡ holds port) × (counts_now x.tunnel ≡ counts port)
    each i x at port is = (by_place (cases_lt i k), there_is counts no_port_counts after h.ports.items i x port held.apart at is) where
      by_place : (i < k) ⊎ (k ≤ i) → o.port x.tunnel ≡ holds port
      by_place (inl lt) =
          let a = asked i x at lt in
          (before i x a.was at a.at).0 ∙ sym a.waits.after ∙ ap holds (same_some a.now port (get after x.key) a.at_now is)
      by_place (inr le) = (before i x port at (sym (stays i x at le) ∙ is)).0

  -- one more receive was in vain on each port that was asked
  asked_counts : (i : ℕ) (x : PortSeat) (at : slice_get h.ports.items i ≡ Some x) → i < k → counts_now x.tunnel ≡ record (o.port_counts x.tunnel) { receive_waits = risen (o.port_counts x.tunnel).receive_waits }
  asked_counts i x at lt =
      let a = asked i x at lt in
      there_is counts no_port_counts after h.ports.items i x a.now held.apart at a.at_now
      ∙ a.waits.counts
      ∙ ap (λ (c : PortCounts). record c { receive_waits = risen c.receive_waits }) (sym (before i x a.was at a.at).1)

  left_counts : (i : ℕ) (x : PortSeat) (q : Port) → slice_get h.ports.items i ≡ Some x → IsPort most table x q → k ≤ i → counts_now x.tunnel ≡ o.port_counts x.tunnel
  left_counts i x q at is le =
      there_is counts no_port_counts after h.ports.items i x is.port held.apart at (stays i x at le ∙ is.at) ∙ sym (before i x is.port at is.at).1

  pub between : Between o o.link_counts counts_now s
  between = record {
    link = link_same (o.link_counts s.conn.number) (o.link_counts s.conn.number) refl;
    link_faults = refl;
    ports = each_port most table (PortBetween o counts_now) h.ports.items s.ports held.ports (λ i x q at_x at_q is. by_place i x q at_x is (cases_lt i k));
  } where
    B : ℕ → Type 0
    B t = PortGrows (o.port_counts t) (counts_now t) × ((counts_now t).faults ≡ (o.port_counts t).faults)

    of : (q : Port) → B q.tunnel → PortBetween o counts_now q
    of q b = record { grows = b.0; faults = b.1 }

    by_place : (i : ℕ) (x : PortSeat) (q : Port) → slice_get h.ports.items i ≡ Some x → IsPort most table x q → (i < k) ⊎ (k ≤ i) → PortBetween o counts_now q
    by_place i x q at is (inl lt) =
        let e = asked_counts i x at lt in
        of q (subst B (sym is.tunnel) (
          record {
            send_waits = same_grows (o.port_counts x.tunnel).send_waits (counts_now x.tunnel).send_waits (ap (λ (c : PortCounts). c.send_waits) e);
            receive_waits = let r = ap (λ (c : PortCounts). c.receive_waits) e in let le = risen_grows (o.port_counts x.tunnel).receive_waits in omega (arith, r, le);
            faults = same_grows (o.port_counts x.tunnel).faults (counts_now x.tunnel).faults (ap (λ (c : PortCounts). c.faults) e);
          },
          ap (λ (c : PortCounts). c.faults) e,
        ))
    by_place i x q at is (inr le) =
        let e = left_counts i x q at is le in
        of q (subst B (sym is.tunnel) (port_same (o.port_counts x.tunnel) (counts_now x.tunnel) e, ap (λ (c : PortCounts). c.faults) e))

  -- whatever else was found, none of them could be received on
  cannot : (f : Found) (i : ℕ) (p : Port) → slice_get s.ports i ≡ Some p → i < k → ((f.port p.tunnel).receive_fails ≡ false) × ((f.port p.tunnel).arrived ≡ [])
      → can_try (filled o f s) (Receive p.tunnel) ≡ false
  cannot f i p at lt vain =
      let x = port_seat most table h.ports.items s.ports held.ports i p at in
      let a = asked i x.0 x.1 lt in
      let N : Option PortHolds → Type 0 = λ told. GivesNone told in
      let told : o.port p.tunnel ≡ holds a.was = ap o.port x.2.tunnel ∙ (before i x.0 a.was x.1 a.at).0 in
      let live : Bool = is_some (tunnel_of s.conn p.tunnel) in
      ap (λ (q : Option Port). can_receive_on s.conn q) (port_first most table (filled_port o f) h.ports.items s.ports i x.0 p (λ q. refl) held.apart held.ports x.1 at)
      ∙ ap (λ (b : Bool). live && b) (gives_not (o.port p.tunnel) (f.port p.tunnel) (subst N (sym told) a.waits.nothing) vain.0 vain.1)
      ∙ and_false live

  -- it tells of the connection what is told now
  pub sees_mid : (link : L → Option Link) (link_counts : L → LinkCounts) (binds : Binder) (g : HeldBy L) → g.number ≡ h.number → g.link ≡ h.link → g.ports.items ≡ h.ports.items
      → SeesLink link link_counts h o → o.binds ≡ binds → Sees link link_counts holds counts binds after g (mid o o.link_counts counts_now)
  sees_mid link link_counts binds g number same items lo binds_are =
      let P : List PortSeat → Type 0 = λ xs. SeesPorts holds counts after (mid o o.link_counts counts_now) xs in
      record {
        of_link = record {
          link_is = ap o.link number ∙ lo.link_is ∙ ap link (sym same);
          counts_are = ap o.link_counts number ∙ lo.counts_are ∙ ap link_counts (sym same);
        };
        of_table = record { ports = subst P (sym items) sees_now; binds_are = binds_are };
      }

  -- ---- the receive at the next place

  module _ (seat : PortSeat) (here : slice_get h.ports.items k ≡ Some seat) where
    -- it is the first of all
    first_all : (f : Found) (try : Try) → ReceivesWait seat.tunnel f → first_of (receive_alone seat.tunnel) (filled o f s) ≡ Some try → first_of receives_of (filled o f s) ≡ Some try
    first_all f try vain is =
        let p = seat_port most table h.ports.items s.ports held.ports k seat here in
        let can : Try → Bool = can_try (filled o f s) in
        let F : ℕ → Type 0 = λ t. find can (Receive t ∷ []) ≡ Some try in
        first_behind can (filled o f s).ports k (filled_port o f p.0) try (at_map (filled_port o f) s.ports k p.0 p.1) (λ i q at lt. none i q at lt) (subst F (sym p.2.tunnel) is) where
          none : (i : ℕ) (q : Port) → slice_get (filled o f s).ports i ≡ Some q → i < k → can_try (filled o f s) (Receive q.tunnel) ≡ false
          none i q at lt =
              let p = map_at (filled_port o f) s.ports i q at in
              let x = port_seat most table h.ports.items s.ports held.ports i p.0 p.1 in
              let C : Port → Type 0 = λ y. can_try (filled o f s) (Receive y.tunnel) ≡ false in
              let ne : p.0.tunnel ≢ seat.tunnel = λ same. apart i x.0 x.1 lt (sym x.2.tunnel ∙ same) in
              subst C (sym p.2) (cannot f i p.0 p.1 lt (vain.others p.0.tunnel ne)) where
                apart : (i : ℕ) (x : PortSeat) → slice_get h.ports.items i ≡ Some x → i < k → x.tunnel ≢ seat.tunnel
                apart i x at lt = by_case (apart_at h.ports.items held.apart k i seat x here at) where
                  by_case : ((k ≡ i) × (seat ≡ x)) ⊎ IsApartFrom seat x → x.tunnel ≢ seat.tunnel
                  by_case (inl (same, is)) = absurd (omega (arith, lt, same))
                  by_case (inr ne) = ne.0

    turned_all : (setup : Setup) (n : Outside) (seen seen_after : Seen) (mail mail_after : Inboxes) (orders : Orders) (said : Note) (t : Option Held)
        → Turned setup (receive_alone seat.tunnel) (ReceivesWait seat.tunnel) (mid o o.link_counts counts_now) n seen seen_after mail mail_after orders s said t
        → Turned setup receives_of ReadsWait o n seen seen_after mail mail_after orders s said t
    turned_all setup n seen seen_after mail mail_after orders said t d = record {
      found = d.found;
      vain_is = d.vain_is.reads;
      try = d.try;
      answer = d.answer;
      sh = d.sh;
      after = d.after;
      became = d.became;
      is = first_all d.found d.try d.vain_is d.is;
      shares = d.shares;
      faults = faults_back o n o.link_counts counts_now d.found s between d.faults;
      binds = binds_back o n o.link_counts counts_now d.answer d.binds;
      next = d.next;
      then = d.then;
    }

    -- what it gives, all give
    pub seat_gives : (setup : Setup) (n : Outside) (seen seen_after : Seen) (mail mail_after : Inboxes) (stand : Held → Type 0) (r : Result SteppedWith NoMemory) → (r ≡ Ok Quiet → ⊥)
        → Gives setup (receive_alone seat.tunnel) (ReceivesWait seat.tunnel) (mid o o.link_counts counts_now) n seen seen_after mail mail_after stand s r → Gives setup receives_of ReadsWait o n seen seen_after mail mail_after stand s r
    seat_gives setup n seen seen_after mail mail_after stand (Ok Quiet) loud gives = absurd (loud refl)
    seat_gives setup n seen seen_after mail mail_after stand (Ok (Did said)) loud gives = λ orders.
        let d = gives orders in (d.0, turned_all setup n seen seen_after mail mail_after orders said (Some d.0) d.1, d.2)
    seat_gives setup n seen seen_after mail mail_after stand (Ok (Ended said)) loud gives = λ orders. turned_all setup n seen seen_after mail mail_after orders said None (gives orders)
    seat_gives setup n seen seen_after mail mail_after stand (Ok Noteless) loud gives = gives
    seat_gives setup n seen seen_after mail mail_after stand (Err refused) loud gives = λ orders.
        let x = gives orders in
        let d = x.1 in (
          x.0,
          record {
            found = d.found;
            vain_is = d.vain_is.reads;
            try = d.try;
            answer = d.answer;
            sh = d.sh;
            after = d.after;
            reached = d.reached;
            pieces = d.pieces;
            tunnels = d.tunnels;
            is = first_all d.found d.try d.vain_is d.is;
            shares = d.shares;
            takes = d.takes;
            leaves = d.leaves;
            heard = d.heard;
            binds = binds_back o n o.link_counts counts_now d.answer d.binds;
            then = d.then;
          },
          x.2,
        )

  -- ---- all were in vain

  pub all_waited : (link : L → Option Link) (link_counts : L → LinkCounts) (g : HeldBy L) (n : Outside) (seen : Seen) (mail : Inboxes) → length h.ports.items ≤ k → g.number ≡ h.number → g.link ≡ h.link
      → SeesLink link link_counts h o → SeesLink link link_counts g n → SeesPorts holds counts after n h.ports.items → n.binds ≡ o.binds → Waited receives_of o n seen seen mail mail s
  all_waited link link_counts g n seen mail end number same lo ln sn binds =
      let stay = link_stays link link_counts h g o n number same lo ln in
      record {
        none = first_none (can_try (filled o idle s)) (filled o idle s).ports (λ i q at. none i q at);
        asked = asked_all s.ports (λ i p at. p_rose i p at);
        grows = record {
          link = link_grows o n h.number s.conn.number stay held.number;
          ports = each_port most table G h.ports.items s.ports held.ports (λ i x q at_x at_q is. (told i x q at_x is).0);
        };
        told = record {
          link = ap n.link held.number ∙ stay.link ∙ ap o.link (sym held.number);
          ports = each_port most table E h.ports.items s.ports held.ports (λ i x q at_x at_q is. (told i x q at_x is).1);
          binds = binds;
        };
        seen_is = refl;
        mail_is = refl;
      } where
        G : Port → Type 0
        G p = PortGrows (o.port_counts p.tunnel) (n.port_counts p.tunnel)

        E : Port → Type 0
        E p = n.port p.tunnel ≡ o.port p.tunnel

        less : (i : ℕ) (x : PortSeat) → slice_get h.ports.items i ≡ Some x → i < k
        less i x at = let lt = within h.ports.items i x at in omega (arith, lt, end) where
          within : (xs : List PortSeat) (j : ℕ) (y : PortSeat) → slice_get xs j ≡ Some y → j < length xs
          within [] j y at = absurd cc
          within (z ∷ xs) zero y at = omega arith
          within (z ∷ xs) (suc j) y at = let lt = within xs j y at in omega (arith, lt)

        -- what is told of a port then
        counts_then : (i : ℕ) (x : PortSeat) → slice_get h.ports.items i ≡ Some x → n.port_counts x.tunnel ≡ record (o.port_counts x.tunnel) { receive_waits = risen (o.port_counts x.tunnel).receive_waits }
        counts_then i x at =
            let a = asked i x at (less i x at) in
            (at_all (SeesPort holds counts after n) h.ports.items sn i x at a.now a.at_now).1
            ∙ a.waits.counts
            ∙ ap (λ (c : PortCounts). record c { receive_waits = risen c.receive_waits }) (sym (before i x a.was at a.at).1)

        told : (i : ℕ) (x : PortSeat) (q : Port) → slice_get h.ports.items i ≡ Some x → IsPort most table x q → G q × E q
        told i x q at is =
            let a = asked i x at (less i x at) in
            let e = counts_then i x at in
            let D : ℕ → Type 0 = λ t. PortGrows (o.port_counts t) (n.port_counts t) × (n.port t ≡ o.port t) in
            subst D (sym is.tunnel) (
              record {
                send_waits = same_grows (o.port_counts x.tunnel).send_waits (n.port_counts x.tunnel).send_waits (ap (λ (c : PortCounts). c.send_waits) e);
                receive_waits = let r = ap (λ (c : PortCounts). c.receive_waits) e in let le = risen_grows (o.port_counts x.tunnel).receive_waits in omega (arith, r, le);
                faults = same_grows (o.port_counts x.tunnel).faults (n.port_counts x.tunnel).faults (ap (λ (c : PortCounts). c.faults) e);
              },
              (at_all (SeesPort holds counts after n) h.ports.items sn i x at a.now a.at_now).0 ∙ a.waits.after ∙ sym (before i x a.was at a.at).0,
            )

        Rise : Port → Type 0
        Rise p = Rose (o.port_counts p.tunnel).receive_waits (n.port_counts p.tunnel).receive_waits

        p_rose : (i : ℕ) (p : Port) → slice_get s.ports i ≡ Some p → Rise p
        p_rose i p at =
            let x = port_seat most table h.ports.items s.ports held.ports i p at in
            let R : ℕ → Type 0 = λ t. Rose (o.port_counts t).receive_waits (n.port_counts t).receive_waits in
            subst R (sym x.2.tunnel) (rose_risen (o.port_counts x.0.tunnel).receive_waits (n.port_counts x.0.tunnel).receive_waits (ap (λ (c : PortCounts). c.receive_waits) (counts_then i x.0 x.1)))

        asked_all : (ports : List Port) → ((i : ℕ) (p : Port) → slice_get ports i ≡ Some p → Rise p)
            → All (Asked o n s) (map (λ (p : Port). Receive p.tunnel) ports)
        asked_all [] each = All-nil (Asked o n s)
        asked_all (p ∷ ports) each =
            All-cons (Asked o n s) (Receive p.tunnel) (map (λ (q : Port). Receive q.tunnel) ports) (each 0 p refl) (asked_all ports (λ i q at. each (suc i) q at))

        none : (i : ℕ) (q : Port) → slice_get (filled o idle s).ports i ≡ Some q → can_try (filled o idle s) (Receive q.tunnel) ≡ false
        none i q at =
            let p = map_at (filled_port o idle) s.ports i q at in
            let x = port_seat most table h.ports.items s.ports held.ports i p.0 p.1 in
            let C : Port → Type 0 = λ y. can_try (filled o idle s) (Receive y.tunnel) ≡ false in
            subst C (sym p.2) (cannot idle i p.0 p.1 (less i x.0 x.1) (refl, refl))

-- whoever says that memory was refused
pub err_gives : (setup : Setup) (o n : Outside) (seen seen_after : Seen) (mail mail_after : Inboxes) (stand : Held → Type 0) (s : Held) (refused : NoMemory) (r : Result Stepped NoMemory) (told : Option Note) → IsErr r
    → Gives setup receives_of ReadsWait o n seen seen_after mail mail_after stand s (Err refused)
    → Gives setup receives_of ReadsWait o n seen seen_after mail mail_after stand s (stepped_with r told)
err_gives setup o n seen seen_after mail mail_after stand s refused (Ok stepped) told is gives = absurd cc
err_gives setup o n seen seen_after mail mail_after stand s refused (Err why) told is gives = gives
