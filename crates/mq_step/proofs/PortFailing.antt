-- A receive failed, so that the tunnel of its port closed.
use Rattle.std.proofs.Common.{◌≡◌, ◌≢◌, ◌⊎◌, inl, inr, ℕ, Bool, true, List, [], ◌∷◌, length, nat_lt, Option, Some, None, Result, Ok, Err, refl, sym, ap, subst, ◌∙◌}
use Rattle.std.specs.Prelude.{◌||◌}
use Rattle.std.proofs.lemmas.List.Elements.{All-cons, All-nil}
use Rattle.std.specs.Result.{IsErr}
use Rattle.slab.specs.Slab.{Slab, get}
use Rattle.mq_wire.specs.declared.NoMemory.{NoMemory}
use Rattle.mq_outside.specs.Counts.{risen, PortCounts, no_port_counts, no_link_counts}
use Rattle.mq_outside.specs.Ports.{PortHolds, PortPast}
use Rattle.mq_talk.specs.declared.book.Call.TheVariants as call
use Rattle.mq_talk.specs.declared.book.Reply.TheVariants as reply
use Rattle.mq_talk.specs.declared.note.Note.{Note}
use Rattle.mq_talk.specs.declared.note.End.{End}
use Rattle.mq_talk.specs.Mails.{Inboxes}
use Rattle.mq_talk.specs.Offices.{Seen}
use Rattle.mq_machine.specs.declared.act.StreamAct.TheVariants as stream
use Rattle.mq_talk.specs.declared.note.Why.TheVariants as why
use Rattle.mq_machine.specs.declared.setup.Setup.{Setup}
use Rattle.mq_machine.specs.State.{Conn, Tunnel, Held, Port, Orders, tunnel_of, tunnel_on}
use Rattle.mq_machine.specs.Want.{Want, Ask, Replied, want_of, want_by, tunnel_want}
use Rattle.mq_machine.specs.Steps.{port_failed}
use Rattle.mq_machine.specs.Shared.{PortsAnswer, without_port}
use Rattle.mq_machine.specs.Turn.{Receive, ActNext, PortNext, ReceiveNext, receive_failed}
use Rattle.mq_machine.specs.Acting.{Outside, holding, Binder, handed_back}
use Rattle.mq_conn.specs.Conns.{IsConn}
use Rattle.mq_held.specs.Ready.{may_give}
use Rattle.mq_held.specs.declared.held.Held.{Held as HeldBy}
use Rattle.mq_held.specs.declared.held.PortSeat.{PortSeat}
use Rattle.mq_held.specs.Ports.{FailsReceive}
use Rattle.mq_held.specs.Seats.{IsSeatOf}
use Rattle.mq_step.specs.Holds.{IsApartFrom, IsHeld, IsKnown}
use Rattle.mq_step.specs.Sights.{Found, SeesPort, SeesPorts, port_if, filled_port, idle_port, PortFits, PortsFit}
use Rattle.mq_step.specs.Whole.{filled, IsAsTold}
use Rattle.mq_step.specs.Notes.{SteppedWith, stepped_with}
use Rattle.mq_step.specs.Notes.{Quiet, Did, Ended, Noteless}
use Rattle.mq_step.specs.Gives.{Gives, Turned, Starved, StandsAsTold, ReceivesWait, receive_alone}
use Rattle.mq_step.specs.Closing.{Closed, CloseGives, Retires}
use Rattle.mq_step.proofs.Wanting.{acted_is}
use Rattle.mq_step.proofs.Keeping.{port_failed_keeps}
use Rattle.mq_step.proofs.Cores.{own_stream}
use Rattle.mq_step.proofs.Places.{mine_seat, each_map}
use Rattle.mq_step.proofs.Standing.{stands, same_apart}
use Rattle.mq_step.proofs.Retiring.{retired_told}
use Rattle.mq_step.proofs.Sending.{found_at, found_here, other_fits}
use Rattle.mq_step.proofs.Receiving.{Live, LinkStays, waits_opens, receives_wait, held_then, port_is, tunnel_is, which, first_is, link_told, link_fits}
use Rattle.mq_step.specs.declared.stepped.Stepped.{Stepped}
use Rattle.mq_step.proofs.Received.{Behind, unbound, same_are}

-- the connection whose port failed
abbrev pub failing : Held → Tunnel → Held
failing s t = record s { conn = port_failed s.conn t }

abbrev pub failing_port : PortHolds
failing_port = record idle_port { receive_fails = true }

-- the connection behind the close of its tunnel
abbrev pub failed_left : Outside → Held → ℕ → Conn → Held
failed_left o s tunnel t = record (filled o (found_at tunnel failing_port) s) { conn = t; ports = without_port tunnel (filled o (found_at tunnel failing_port) s).ports }

gives_failure : (told : Option PortHolds) → FailsReceive told → (port_if told failing_port).receive_fails ≡ true
gives_failure None fails = refl
gives_failure (Some holds) fails = fails

fails_then : (holds : PortHolds) → holds.receive_fails ≡ true → may_give holds ≡ true
fails_then holds fails = ap (λ (b : Bool). b || nat_lt 0 (length holds.arrived)) fails

pub failing_known : (seen : Seen) (actor : ℕ) (s : Held) (t : Tunnel) → IsKnown seen actor s → IsKnown seen actor (failing s t)
failing_known seen actor s t known = record { sound = known.sound; worker = known.worker; actor_is = known.actor_is; tunnels = known.tunnels; places = (tt, known.places) }

-- ---- an outside that tells nothing

abbrev pub blind : Outside
blind = record { link = λ conn. None; link_counts = λ conn. no_link_counts; port = λ tunnel. None; port_counts = λ tunnel. no_port_counts; binds = record { holds = None; faults = 0 } }

pub blind_sees : {Q : Type 0} (table : Slab Q) (seats : List PortSeat) → SeesPorts (λ (port : Q). None) (λ (port : Q). no_port_counts) table blind seats
blind_sees {Q} table [] = All-nil (SeesPort (λ (port : Q). None) (λ (port : Q). no_port_counts) table blind)
blind_sees {Q} table (seat ∷ seats) =
    All-cons (SeesPort (λ (port : Q). None) (λ (port : Q). no_port_counts) table blind) seat seats (λ port at. (refl, refl)) (blind_sees table seats)

module _ {L Q : Type 0} (most : Q → ℕ) (holds : Q → Option PortHolds) (past : Q → PortPast) (counts : Q → PortCounts) (table after : Slab Q) (h mid : HeldBy L) (o : Outside) (s : Held) (seat : PortSeat) where
  -- it wants its tunnel closed
  pub wants_close : (x : Live most holds counts table h o s seat) → want_of (port_failed s.conn x.t) ≡ Ask (call.Close seat.tunnel)
  wants_close x =
      let c : Conn = port_failed s.conn x.t in
      let on : tunnel_on c x.t.stream ≡ Some x.t = own_stream h.conn s.conn seat.tunnel x.t x.held.conn x.found in
      ap (λ (e : Option End). want_by c e) x.alive
      ∙ ap (λ (u : Option Tunnel). tunnel_want u (stream.Close why.Port)) on
      ∙ ap {B = Want} (λ (i : ℕ). Ask (call.Close i)) x.id

  -- and stands so before that
  pub failing_stands : (x : Live most holds counts table h o s seat) (n : Outside) (b : Behind most holds counts table after h mid o n seat x.is.port) → mid.ports.items ≡ h.ports.items
      → IsConn mid.conn (port_failed s.conn x.t) → IsHeld most after mid (failing s x.t)
  failing_stands x n b seats conn =
      stands most after mid (failing s x.t) conn (x.held.number ∙ sym b.number)
      (same_are most holds past counts table after h mid o n s seat x b seats)
      (same_apart h.ports.items mid.ports.items seats x.held.apart) x.held.served
      (port_failed_keeps s.conn x.t (waits_opens h.conn s.conn x.held.conn x.wait)).opens
      (unbound most holds past counts table after h mid o n s seat x b)

  -- where nothing is told, the port was handed back with one failure more
  failed_faults : (x : Live most holds counts table h o s seat) (n : Outside) → n.binds ≡ handed_back (risen (o.port_counts seat.tunnel).faults) o.binds
      → PortsFit o n (filled o (found_at seat.tunnel failing_port) s).ports
  failed_faults x n faults =
      each_map most table (PortFits o n) (filled_port o (found_at seat.tunnel failing_port)) h.ports.items s.ports x.held.ports
      (λ i y q at_y at_q is. by_case i y q (which most holds counts table h o s seat x i y q at_y at_q is)) where
        by_case : (i : ℕ) (y : PortSeat) (q : Port) → ((i ≡ x.place) × (y ≡ seat) × (q ≡ x.p)) ⊎ (IsApartFrom seat y × (q.tunnel ≢ seat.tunnel))
            → PortFits o n (filled_port o (found_at seat.tunnel failing_port) q)
        by_case i y q (inl (place, same, port)) =
            let F : ℕ → Type 0 = λ j. n.binds ≡ handed_back (risen (o.port_counts j).faults) o.binds in
            λ none fails. inr (subst F (sym (ap (λ (z : Port). z.tunnel) port ∙ x.of_port)) faults)
        by_case i y q (inr (ne, other)) = other_fits o n seat.tunnel failing_port q other

  pub failed_done : (x : Live most holds counts table h o s seat) (n : Outside) (setup : Setup) (seen seen_after : Seen) (mail mail_after : Inboxes) (orders : Orders) (said : Note) (stand : Held → Type 0)
      → FailsReceive (holds x.is.port) → (closed : Closed seen seen_after mail mail_after orders stand seat.tunnel (failing s x.t) said) → n.binds ≡ handed_back (risen (o.port_counts seat.tunnel).faults) o.binds
      → Turned setup (receive_alone seat.tunnel) (ReceivesWait seat.tunnel) o n seen seen_after mail mail_after orders s said (Some (failed_left o s seat.tunnel closed.conn))
  failed_done x n setup seen seen_after mail mail_after orders said stand fails closed faults =
      let f : Found = found_at seat.tunnel failing_port in
      let here = found_here seat.tunnel failing_port in
      let h_is : Held = filled o f s in
      let now : Held = record h_is { conn = port_failed s.conn x.t } in
      let H : PortHolds = held_then most holds counts table h o s seat x failing_port in
      let q : Port = holding H x.p in
      let fail : H.receive_fails ≡ true = gives_failure (holds x.is.port) fails in
      let want : want_of now.conn ≡ Ask (call.Close seat.tunnel) = wants_close x in
      let left : Held = failed_left o s seat.tunnel closed.conn in
      let W : Want → Type 0 = λ w. PortsAnswer now.ports w (Replied reply.Closed) in
      let P : Option Port → Type 0 = λ p. ReceiveNext p h_is closed.sh (Replied reply.Closed) said (Some left) closed.after in
      let R : Bool → Type 0 = λ b. PortNext b h_is q closed.sh (Replied reply.Closed) said (Some left) closed.after in
      let A : Option Tunnel → Type 0 = λ t. ActNext (receive_failed h_is q t) closed.sh (Replied reply.Closed) said (Some left) closed.after in
      let acts : ActNext now closed.sh (Replied reply.Closed) said (Some left) closed.after = record {
        answers = closed.answers;
        ports = subst W (sym want) tt;
        is = acted_is now (Ask (call.Close seat.tunnel)) (Replied reply.Closed) said closed.conn want tt closed.does;
      } in
      let live : tunnel_of s.conn q.tunnel ≡ Some x.t = ap (λ (i : ℕ). tunnel_of s.conn i) x.of_port ∙ tunnel_is most holds counts table h o s seat x in
      record {
        found = f;
        vain_is = receives_wait seat.tunnel failing_port refl refl;
        try = Receive seat.tunnel;
        answer = Replied reply.Closed;
        sh = closed.sh;
        after = closed.after;
        became = Some left;
        is = first_is most holds counts table h o s seat x f true (ap (λ (y : PortHolds). may_give (port_if (holds x.is.port) y)) here ∙ fails_then H fail);
        shares = closed.shares;
        faults = record { link = link_fits (o.link s.conn.number) _; ports = failed_faults x n faults };
        binds = ap (λ (b : Binder). b.holds) faults;
        next = subst P (sym (port_is most holds counts table h o s seat x f ∙ ap {B = Option Port} (λ (y : PortHolds). Some (holding (port_if (holds x.is.port) y) x.p)) here)) (subst R (sym fail) (subst A (sym live) acts));
        then = refl;
      }

  -- what is told of the ports that are left: the receive called that of the seat alone, and the close handed that back
  pub failed_told : (x : Live most holds counts table h o s seat) (n : Outside) (last : Slab Q) (fin : HeldBy L) (t : Conn) → LinkStays o n h.number → t.number ≡ h.number
      → ((other : ℕ) → other ≢ seat.key → get after other ≡ get table other) → mid.ports.items ≡ h.ports.items → Retires after last mid.ports.items fin.ports.items seat.tunnel
      → SeesPorts holds counts table o h.ports.items → SeesPorts holds counts last n fin.ports.items → IsAsTold n (failed_left o s seat.tunnel t)
  failed_told x n last fin t stays number others same retires so sn = record {
    link = link_told o n h.number s.conn.number t.number stays x.held.number number;
    ports = retired_told table last h.ports.items fin.ports.items seat.tunnel most holds counts o n (found_at seat.tunnel failing_port) s.ports whole x.held.apart x.held.ports so sn;
  } where
    R : List PortSeat → Type 0
    R xs = Retires after last xs fin.ports.items seat.tunnel

    there : Retires after last h.ports.items fin.ports.items seat.tunnel
    there = subst R same retires

    -- the tunnel's first seat is this one
    mine : (place : ℕ) (y : PortSeat) → IsSeatOf h.ports.items seat.tunnel place y → y ≡ seat
    mine place y is =
        mine_seat most table h.ports.items s.ports seat.tunnel
        (record { place = x.place; seat = seat; p = x.p; at_seat = x.here; at_port = x.at_port; of_seat = refl; of_port = x.of_port; is = x.is }) x.held.apart place y is.at is.tunnel_is

    whole : Retires table last h.ports.items fin.ports.items seat.tunnel
    whole = record {
      gone = λ place y is.
          let r = there.gone place y is in
          (r.0, λ other ne. r.1 other ne ∙ others other (λ e. ne (e ∙ ap (λ (z : PortSeat). z.key) (sym (mine place y is)))));
      none = λ without. absurd (without x.place seat x.here refl);
    }

-- a close gives nothing else
pub closes_give : (setup : Setup) (tunnel : ℕ) (o n : Outside) (seen seen_after : Seen) (mail mail_after : Inboxes) (stand : Held → Type 0) (s closing : Held) (r : Result SteppedWith NoMemory) → CloseGives seen seen_after mail mail_after stand tunnel closing r
    → ((said : Note) (orders : Orders) → Closed seen seen_after mail mail_after orders stand tunnel closing said
    → (t : Held) × Turned setup (receive_alone tunnel) (ReceivesWait tunnel) o n seen seen_after mail mail_after orders s said (Some t) × StandsAsTold n stand t)
    → Gives setup (receive_alone tunnel) (ReceivesWait tunnel) o n seen seen_after mail mail_after stand s r
closes_give setup tunnel o n seen seen_after mail mail_after stand s closing (Ok (Did said)) gives turns = λ orders. turns said orders (gives orders)
closes_give setup tunnel o n seen seen_after mail mail_after stand s closing (Ok Quiet) gives turns = absurd gives
closes_give setup tunnel o n seen seen_after mail mail_after stand s closing (Ok (Ended said)) gives turns = absurd gives
closes_give setup tunnel o n seen seen_after mail mail_after stand s closing (Ok Noteless) gives turns = absurd gives
closes_give setup tunnel o n seen seen_after mail mail_after stand s closing (Err refused) gives turns = absurd gives

-- nor does a step that was refused memory
pub starved_gives : (setup : Setup) (tunnel : ℕ) (o n : Outside) (seen seen_after : Seen) (mail mail_after : Inboxes) (stand : Held → Type 0) (s : Held) (r : Result Stepped NoMemory) (told : Option Note) → IsErr r
    → ((orders : Orders) → (t : Held) × Starved (receive_alone tunnel) (ReceivesWait tunnel) o n seen seen_after mail mail_after orders s t × StandsAsTold n stand t)
    → Gives setup (receive_alone tunnel) (ReceivesWait tunnel) o n seen seen_after mail mail_after stand s (stepped_with r told)
starved_gives setup tunnel o n seen seen_after mail mail_after stand s (Ok stepped) told is starves = absurd cc
starved_gives setup tunnel o n seen seen_after mail mail_after stand s (Err refused) told is starves = starves
