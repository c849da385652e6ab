-- A port was bound, or wasn't; and what needs no port at all.
use Rattle.std.proofs.Common.{◌≡◌, ◌≢◌, inl, inr, ℕ, ◌<◌, Bool, true, false, List, [], ◌∷◌, map, All, Option, Some, None, MatchOption, Result, Ok, Err, refl, sym, ap, subst, ◌∙◌}
use Rattle.std.specs.Prelude.{⊤}
use Rattle.std.specs.Vec.{vec_len, vec_capacity}
use Rattle.std.proofs.lemmas.List.Elements.{All-cons, All-nil}
use Rattle.slab.specs.Slab.{Slab, get}
use Rattle.mq_addr.specs.declared.addr.Addr.{Addr}
use Rattle.mq_outside.specs.Counts.{PortCounts}
use Rattle.mq_outside.specs.Ports.{PortHolds, limit_of}
use Rattle.mq_talk.specs.declared.book.Call.TheVariants as call
use Rattle.mq_talk.specs.declared.goal.Goal.{Goal}
use Rattle.mq_talk.specs.declared.goal.Goal.TheVariants as goal
use Rattle.mq_talk.specs.declared.note.Note.{Note}
use Rattle.mq_talk.specs.declared.note.Note.TheVariants as note
use Rattle.mq_talk.specs.declared.note.End.{End}
use Rattle.mq_talk.specs.Mails.{Inboxes}
use Rattle.mq_talk.specs.Offices.{Seen}
use Rattle.mq_machine.specs.State.{Conn, Tunnel, Held, Port, Orders, Shared}
use Rattle.mq_machine.specs.Want.{Want, Nothing, Say, Bind, Ask, Over, Answer, Said, Bound, want_of}
use Rattle.mq_machine.specs.Done.{done}
use Rattle.mq_machine.specs.Steps.{starved}
use Rattle.mq_machine.specs.Shared.{Answers, PortsAnswer}
use Rattle.mq_machine.specs.Silent.{Heard, takes_memory, tunnels_after, may_starve}
use Rattle.mq_machine.specs.Turn.{Act, can_do}
use Rattle.mq_machine.specs.Acting.{Outside, Binder, Binds, BindFits, PortsTold, WantWaited}
use Rattle.mq_conn.specs.Conns.{IsConn}
use Rattle.mq_held.specs.declared.held.Held.{Held as HeldBy}
use Rattle.mq_held.specs.declared.held.PortSeat.{PortSeat}
use Rattle.mq_held.specs.Answers.{KeepsPorts, PortBound, NotBound, BindGives}
use Rattle.mq_step.specs.Holds.{ArePorts, AreServed, IsReady, IsBound, IsHeld, tunnels_of, numbers_of}
use Rattle.mq_step.specs.Sights.{SeesPorts, SeesTable, filled_port, idle}
use Rattle.mq_step.specs.Wanted.{MayBind, WantDone, WantWaits, WantStarves, ActGives, ported}
use Rattle.mq_step.specs.Notes.{stepped_with}
use Rattle.mq_wire.specs.declared.NoMemory.{NoMemory}
use Rattle.std.specs.Result.{IsErr}
use Rattle.mq_step.proofs.Filling.{are_filled, are_kept, tunnels_filled, StaysTold, stay_told, filled_told, stays_grow, stays_port, stays_work, none_fails, served_any, served_filled, alive_served}
use Rattle.mq_step.proofs.Wanting.{Mailed, over_is, shared_by, shares_same}
use Rattle.mq_step.proofs.Keeping.{no_opens_nil, kept_said, kept_refused, bound_next}
use Rattle.mq_step.proofs.Cores.{tail_opens, said_alive, bind_alive}
use Rattle.mq_step.proofs.Standing.{stands, same_apart, bound_none}
use Rattle.mq_step.proofs.Doing.{NeedsNoPort, idle_works, left, want_done, left_stands, left_told}
use Rattle.mq_step.proofs.Refusing.{sunk, Sinks}
use Rattle.mq_step.proofs.Opening.{Comes}
use Rattle.mq_step.specs.declared.stepped.Stepped.{Stepped}
use Rattle.mq_machine.proofs.Silents.{starves_alive}

-- no seat has a key under which nothing stands
keys_free : {Q : Type 0} (most : Q → ℕ) (table : Slab Q) (key : ℕ) (seats : List PortSeat) (ports : List Port) → get table key ≡ None → ArePorts most table seats ports
    → All (λ (seat : PortSeat). seat.key ≢ key) seats
keys_free most table key [] ports free are = All-nil (λ (seat : PortSeat). seat.key ≢ key)
keys_free most table key (seat ∷ seats) [] free are = absurd are
keys_free {Q} most table key (seat ∷ seats) (p ∷ ports) free are =
    All-cons (λ (x : PortSeat). x.key ≢ key) seat seats (λ same. none (sym are.0.at ∙ ap (λ (k : ℕ). get table k) same ∙ free)) (keys_free most table key seats ports free are.1) where
      none : ◌≡◌ {A = Option Q} (Some are.0.port) None → ⊥
      none is = cc

-- ---- memory was refused before anything was asked

-- what is known of a connection whose ports stayed
pub record Stays {L Q : Type 0} (most : Q → ℕ) (holds : Q → Option PortHolds) (counts : Q → PortCounts) (binds binds_after : Binder) (table after : Slab Q) (h g : HeldBy L) (o n : Outside) (s : Held) : Type 0 where
  pub held : IsHeld most table h s
  pub keeps : KeepsPorts table after
  pub seats : g.ports.items ≡ h.ports.items
  pub number : g.number ≡ h.number
  pub sees : SeesTable holds counts binds table h.ports.items o
  pub sees_after : SeesTable holds counts binds_after after g.ports.items n

module _ {L Q : Type 0} (most : Q → ℕ) (holds : Q → Option PortHolds) (counts : Q → PortCounts) (binds binds_after : Binder) (table after : Slab Q) (h g : HeldBy L) (o n : Outside) (s : Held) where
  stay : Stays most holds counts binds binds_after table after h g o n s → All (StaysTold o n) s.ports
  stay x =
      let P : List PortSeat → Type 0 = λ xs. SeesPorts holds counts after n xs in
      stay_told most holds counts table after o n h.ports.items s.ports x.keeps x.sees.ports (subst P x.seats x.sees_after.ports) x.held.ports

  -- what binds ports holds what it held
  pub held_back : Stays most holds counts binds binds_after table after h g o n s → binds_after ≡ binds → n.binds.holds ≡ o.binds.holds
  held_back x same = ap (λ (b : Binder). b.holds) (x.sees_after.binds_are ∙ same ∙ sym x.sees.binds_are)

  -- a bind, as the outside tells it
  binds_seen : Stays most holds counts binds binds_after table after h g o n s → (done : Bool) → Binds done binds binds_after → Binds done o.binds n.binds
  binds_seen x done is =
      let P : Binder → Type 0 = λ b. Binds done b n.binds in
      let R : Binder → Type 0 = λ b. Binds done binds b in
      subst P (sym x.sees.binds_are) (subst R (sym x.sees_after.binds_are) is)

  -- a connection that isn't ending, and wants what takes memory, was refused it
  pub sinks_alone : (x : Stays most holds counts binds binds_after table after h g o n s) (seen : Seen) (m : Mailed seen) (orders : Orders) (w : Want) (a : Answer) (asked : Bool) → want_of s.conn ≡ w
      → ((ports : List Port) → can_do ports w ≡ true) → may_starve w ≡ true → g.bound ≡ None → IsConn g.conn (starved s.conn)
      → Heard asked (ported o idle s) (shared_by seen seen.entries m.boxes orders) Act a s.conn.tunnels (shared_by seen seen.entries m.boxes orders) → BindFits o n a
      → Sinks most after g o n seen seen m orders s
  sinks_alone x seen m orders w a asked want can takes bound conn heard_is fits =
      let takes_it : may_starve (want_of s.conn) ≡ true = ap (λ (v : Want). may_starve v) want ∙ takes in
      let alive = starves_alive s.conn takes_it in
      let sh : Shared = shared_by seen seen.entries m.boxes orders in
      let u : Held = sunk o s s.conn.tunnels in
      let A : List PortSeat → Type 0 = λ xs. ArePorts most after xs (map (filled_port o idle) s.ports) in
      record {
        left_is = u;
        starves = record {
          found = idle;
          answer = a;
          sh = sh;
          after = sh;
          asked = asked;
          tunnels = s.conn.tunnels;
          can = ap (λ (v : Want). can_do (ported o idle s).ports v) want ∙ can (ported o idle s).ports;
          takes = takes_it;
          shares = shares_same seen seen m orders refl;
          heard = heard_is;
          binds = fits;
          then = refl;
        };
        stands_for = stands most after g u conn (x.held.number ∙ sym x.number)
            (subst A (sym x.seats) (are_filled most after o idle h.ports.items s.ports (are_kept most table after h.ports.items s.ports x.keeps x.held.ports)))
            (same_apart h.ports.items g.ports.items x.seats x.held.apart)
            (served_filled o idle u.conn.ending s.conn.tunnels s.ports (served_alive s.conn.ending u.conn.ending alive x.held.served)) no_opens_nil bound;
        told_is = filled_told o n idle s.ports (stay x);
      } where
        served_alive : (d e : Option End) → d ≡ None → AreServed d s.conn.tunnels s.ports → AreServed e s.conn.tunnels s.ports
        served_alive d e none served = served_any e s.conn.tunnels s.ports (alive_served d s.conn.tunnels s.ports none served)

  -- a bind was answered, or not even that, where memory was refused
  pub bind_sinks : (x : Stays most holds counts binds binds_after table after h g o n s) (seen : Seen) (m : Mailed seen) (orders : Orders) (stream : ℕ) (goal : Goal)
      → want_of s.conn ≡ Bind stream goal → g.bound ≡ None → IsConn g.conn (starved s.conn) → MayBind binds binds_after → Sinks most after g o n seen seen m orders s
  bind_sinks x seen m orders stream goal want bound conn (inl same) =
      sinks_alone x seen m orders (Bind stream goal) Said false want (λ ports. refl) refl bound conn (refl, refl, refl)
      (held_back x same)
  bind_sinks x seen m orders stream goal want bound conn (inr (done, is)) =
      let sh : Shared = shared_by seen seen.entries m.boxes orders in
      let A : Want → Type 0 = λ w. Answers s.conn.actor sh w (Bound done) sh in
      sinks_alone x seen m orders (Bind stream goal) (Bound done) true want (λ ports. refl) refl bound conn
      (record {
        tries = refl;
        takes = ap (λ (w : Want). takes_memory w) want;
        place = λ is. absurd cc;
        answers = subst A (sym want) refl;
        tunnels_are = sym (ap (λ (w : Want). tunnels_after w (Bound done) s.conn.tunnels) want);
      })
      (binds_seen x done is)

  -- ---- a note that needs nothing of the outside

  says_plain : NeedsNoPort n Say Said
  says_plain = record { lives = tt; can = λ ports. refl; ports = λ ports. refl; answers = λ ports. tt; plain = λ h. refl }

  pub says : (x : Stays most holds counts binds binds_after table after h g o n s) (seen : Seen) (m : Mailed seen) (orders : Orders) (said : Note) (t : Conn) → want_of s.conn ≡ Say
      → g.bound ≡ h.bound → binds_after ≡ binds → done s.conn Said ≡ Some (said, t) → IsConn g.conn t → Comes most after g o n seen seen m orders s said
  says x seen m orders said t want same stays does conn =
      let sh : Shared = shared_by seen seen.entries m.boxes orders in
      let kept = kept_said s.conn t said (tail_opens h.conn s.conn x.held.conn) does in
      let alive = said_alive h.conn s.conn x.held.conn want in
      let bound : g.bound ≡ None = same ∙ bound_none most table h.ports.items (want_of s.conn) Say h.bound x.held.bound want in
      let served = served_any t.ending s.conn.tunnels s.ports (alive_served s.conn.ending s.conn.tunnels s.ports alive x.held.served) in
      record {
        left_is = left o s t;
        done_is = want_done o n seen seen m.mail m.mail orders s Say Said said t sh sh want says_plain does refl (shares_same seen seen m orders refl) (held_back x stays);
        stands_for = left_stands most table after h g o s t x.held x.keeps x.seats x.number bound served kept conn;
        told_is = left_told most holds counts binds binds_after table after h g o n s t x.held x.keeps x.seats x.sees x.sees_after;
      }

  -- ---- binds

  binds_plain : (stream : ℕ) (goal : Goal) (b : Bool) → NeedsNoPort n (Bind stream goal) (Bound b)
  binds_plain stream goal b = record { lives = tt; can = λ ports. refl; ports = λ ports. refl; answers = λ ports. tt; plain = λ h. refl }

  pub binds_not : (x : Stays most holds counts binds binds_after table after h g o n s) (seen : Seen) (m : Mailed seen) (orders : Orders) (said : Note) (t : Conn) (stream : ℕ) (goal : Goal)
      → want_of s.conn ≡ Bind stream goal → g.bound ≡ h.bound → Binds false binds binds_after → done s.conn (Bound false) ≡ Some (said, t) → IsConn g.conn t → Comes most after g o n seen seen m orders s said
  binds_not x seen m orders said t stream goal want same rises does conn =
      let sh : Shared = shared_by seen seen.entries m.boxes orders in
      let kept = kept_refused s.conn t said (tail_opens h.conn s.conn x.held.conn) does in
      let alive = (bind_alive h.conn s.conn stream goal x.held.conn want) in
      let bound : g.bound ≡ None = same ∙ bound_none most table h.ports.items (want_of s.conn) (Bind stream goal) h.bound x.held.bound want in
      let served = served_any t.ending s.conn.tunnels s.ports (alive_served s.conn.ending s.conn.tunnels s.ports alive x.held.served) in
      record {
        left_is = left o s t;
        done_is = want_done o n seen seen m.mail m.mail orders s (Bind stream goal) (Bound false) said t sh sh want (binds_plain stream goal false) does refl (shares_same seen seen m orders refl) (binds_seen x false rises);
        stands_for = left_stands most table after h g o s t x.held x.keeps x.seats x.number bound served kept conn;
        told_is = left_told most holds counts binds binds_after table after h g o n s t x.held x.keeps x.seats x.sees x.sees_after;
      }

  -- the port stands for the tunnel that is to open
  ready_for : (c : Conn) (conn id actor number key : ℕ) (addr : Addr) (bound : Option ℕ) → want_of c ≡ Ask (call.Open conn id actor (goal.Udp addr number)) → bound ≡ Some key
      → IsReady most after (limit_of addr) key g.ports.items → IsBound most after g.ports.items (want_of c) bound
  ready_for c conn id actor number key addr bound want is ready =
      let W : Want → Type 0 = λ w. IsBound most after g.ports.items w bound in
      let B : Option ℕ → Type 0 = λ b. IsBound most after g.ports.items (Ask (call.Open conn id actor (goal.Udp addr number))) b in
      subst W (sym want) (subst B (sym is) ready)

  pub bind_done : (x : Stays most holds counts binds binds_after table after h g o n s) (seen : Seen) (m : Mailed seen) (orders : Orders) (said : Note) (t : Conn) (stream number : ℕ) (addr : Addr)
      → want_of s.conn ≡ Bind stream (goal.Udp addr number) → PortBound most counts addr table after g.bound binds binds_after → vec_len g.ports < vec_capacity g.ports
      → done s.conn (Bound true) ≡ Some (said, t) → IsConn g.conn t → Comes most after g o n seen seen m orders s said
  bind_done x seen m orders said t stream number addr want was room does conn =
      let goal = goal.Udp addr number in
      let sh : Shared = shared_by seen seen.entries m.boxes orders in
      let k = bound_next s.conn t said stream goal want does in
      let alive = bind_alive h.conn s.conn stream goal x.held.conn want in
      let ready : IsReady most after (limit_of addr) was.key g.ports.items = record {
        port = was.port;
        at = was.adds.updates.changed;
        limit_is = was.limit;
        apart = all_apart was;
      } in
      let R : Option ℕ → Type 0 = λ b. MatchOption b ⊤ (λ key. vec_len g.ports < vec_capacity g.ports) in
      let A : List PortSeat → Type 0 = λ xs. ArePorts most after xs (map (filled_port o idle) s.ports) in
      let served : tunnels_of (map (filled_port o idle) s.ports) ≡ numbers_of t.tunnels =
      tunnels_filled o idle s.ports ∙ alive_served s.conn.ending s.conn.tunnels s.ports alive x.held.served ∙ sym (ap (λ (ts : List Tunnel). numbers_of ts) k.2) in
      record {
        left_is = left o s t;
        done_is = want_done o n seen seen m.mail m.mail orders s (Bind stream goal) (Bound true) said t sh sh want (binds_plain stream goal true) does refl (shares_same seen seen m orders refl) (binds_seen x true was.binds_are);
        stands_for = record {
          conn = conn;
          number = k.0 ∙ x.held.number ∙ sym x.number;
          ports = subst A (sym x.seats) (are_filled most after o idle h.ports.items s.ports (are_kept most table after h.ports.items s.ports x.keeps x.held.ports));
          apart = same_apart h.ports.items g.ports.items x.seats x.held.apart;
          served = served_any t.ending t.tunnels (map (filled_port o idle) s.ports) served;
          bound = ready_for t t.number stream t.actor number was.key addr g.bound k.3 was.bound_is ready;
          room = subst R (sym was.bound_is) room;
        };
        told_is = left_told most holds counts binds binds_after table after h g o n s t x.held x.keeps x.seats x.sees x.sees_after;
      } where
        -- no seat has the key of the port that was bound
        all_apart : (was : PortBound most counts addr table after g.bound binds binds_after) → All (λ (seat : PortSeat). seat.key ≢ was.key) g.ports.items
        all_apart was = keys_free most table was.key g.ports.items s.ports was.adds.free (subst B (sym x.seats) x.held.ports) where
          B : List PortSeat → Type 0
          B xs = ArePorts most table xs s.ports

  -- ---- nothing is wanted, or nothing is left

  pub quiet : (x : Stays most holds counts binds binds_after table after h g o n s) (seen : Seen) (mail : Inboxes) → want_of s.conn ≡ Nothing → binds_after ≡ binds → WantWaits o n seen seen mail mail s
  quiet x seen mail want same =
      let W : Want → Type 0 = λ w. WantWaited o n w in
      record {
        cannot = λ f vain. ap (λ (w : Want). can_do (ported o f s).ports w) want;
        asked = subst W (sym want) tt;
        grows = stays_grow o n s.ports (stay x);
        told = stays_port o n s.ports (stay x);
        works = stays_work o n s.ports (stay x);
        binds = x.sees_after.binds_are ∙ same ∙ sym x.sees.binds_are;
        seen_is = refl;
        mail_is = refl;
      }

  pub ends : (seen : Seen) (m : Mailed seen) (orders : Orders) (why : End) (number : ℕ) → want_of s.conn ≡ Over why → s.conn.number ≡ number → n.binds.holds ≡ o.binds.holds
      → WantDone o n seen seen m.mail m.mail orders s (note.Ended number why) None
  ends seen m orders why number want same stays =
      let h_is : Held = ported o idle s in
      let sh : Shared = shared_by seen seen.entries m.boxes orders in
      let A : Want → Type 0 = λ w. Answers s.conn.actor sh w Said sh in
      let P : Want → Type 0 = λ w. PortsAnswer h_is.ports w Said in
      record {
        found = idle;
        answer = Said;
        sh = sh;
        after = sh;
        became = None;
        calm = λ not_send. refl;
        can = ap (λ (w : Want). can_do h_is.ports w) want;
        shares = shares_same seen seen m orders refl;
        faults = none_fails o n idle s.ports idle_works;
        binds = stays;
        next = record {
          answers = subst A (sym want) refl;
          ports = subst P (sym want) tt;
          is = over_is h_is why Said want ∙ ap {B = Option (Note × Option Held)} (λ (i : ℕ). Some (note.Ended i why, None)) same;
        };
        then = refl;
      }

  -- a bind, either way
  pub bind_comes : (x : Stays most holds counts binds binds_after table after h g o n s) (seen : Seen) (m : Mailed seen) (orders : Orders) (said : Note) (stream number : ℕ) (addr : Addr)
      → want_of s.conn ≡ Bind stream (goal.Udp addr number) → vec_len g.ports < vec_capacity g.ports
      → BindGives (IsConn g.conn) (PortBound most counts addr table after g.bound binds binds_after) (NotBound table after h.bound g.bound binds binds_after) s.conn (Ok said)
      → Comes most after g o n seen seen m orders s said
  bind_comes x seen m orders said stream number addr want room (inl gives) = bind_done x seen m orders said gives.1.0 stream number addr want gives.0 room gives.1.1 gives.1.2
  bind_comes x seen m orders said stream number addr want room (inr gives) = binds_not x seen m orders said gives.1.0 stream (goal.Udp addr number) want gives.0.bound_is gives.0.binds_are gives.1.1 gives.1.2

-- memory was refused, whoever said so
pub err_gives : (o n : Outside) (seen seen_after : Seen) (mail mail_after : Inboxes) (stands_for : Held → Type 0) (s : Held) (r : Result Stepped NoMemory) (told : Option Note) → IsErr r
    → ((orders : Orders) → (t : Held) × WantStarves o n seen seen_after mail mail_after orders s t × stands_for t × PortsTold n t.ports) → ActGives o n seen seen_after mail mail_after stands_for s (stepped_with r told)
err_gives o n seen seen_after mail mail_after stands_for s (Ok stepped) told is gives = absurd cc
err_gives o n seen seen_after mail mail_after stands_for s (Err refused) told is gives = gives
