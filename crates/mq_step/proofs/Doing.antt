-- A connection did what it wants, without a port.
use Rattle.std.proofs.Common.{◌≡◌, ℕ, true, List, map, Option, Some, None, refl, sym, ap, subst, ◌∙◌}
use Rattle.slab.specs.Slab.{Slab}
use Rattle.mq_outside.specs.Counts.{PortCounts}
use Rattle.mq_outside.specs.Ports.{PortHolds}
use Rattle.mq_talk.specs.declared.note.Note.{Note}
use Rattle.mq_talk.specs.declared.note.End.{End}
use Rattle.mq_talk.specs.Mails.{Inboxes}
use Rattle.mq_talk.specs.Offices.{Seen}
use Rattle.mq_machine.specs.State.{Conn, Tunnel, Held, Port, Orders, Shared}
use Rattle.mq_machine.specs.Want.{Want, Answer, want_of}
use Rattle.mq_machine.specs.Done.{done}
use Rattle.mq_machine.specs.Shared.{Answers, PortsAnswer, ports_after}
use Rattle.mq_machine.specs.Turn.{can_do}
use Rattle.mq_machine.specs.Acting.{Shares, Outside, BindFits, PortsTold, Binder}
use Rattle.mq_conn.specs.Conns.{IsConn}
use Rattle.mq_held.specs.declared.held.Held.{Held as HeldBy}
use Rattle.mq_held.specs.declared.held.PortSeat.{PortSeat}
use Rattle.mq_held.specs.Answers.{KeepsPorts}
use Rattle.mq_step.specs.Holds.{ArePorts, AreServed, IsHeld}
use Rattle.mq_step.specs.Sights.{SeesPorts, SeesTable, filled_port, idle}
use Rattle.mq_step.specs.Wanted.{WantDone, ported, with_prepared}
use Rattle.mq_step.proofs.Filling.{are_filled, are_kept, stay_told, filled_told, FailsNot, none_fails, served_filled}
use Rattle.mq_step.proofs.Wanting.{IsNotOver, acted_is}
use Rattle.mq_step.proofs.Keeping.{Kept}
use Rattle.mq_step.proofs.Standing.{stands, same_apart}

-- this answer to this want leaves the ports as they are
pub record NeedsNoPort (n : Outside) (w : Want) (a : Answer) : Type 0 where
  pub lives : IsNotOver w
  pub can : (ports : List Port) → can_do ports w ≡ true
  pub ports : (ports : List Port) → ports_after w a ports ≡ ports
  pub answers : (ports : List Port) → PortsAnswer ports w a
  pub plain : (h : Held) → with_prepared n a h ≡ h

pub idle_works : FailsNot idle
idle_works = record { sends = λ tunnel. refl; receives = λ tunnel. refl }

-- the state behind it
abbrev pub left : Outside → Held → Conn → Held
left o s t = record (ported o idle s) { conn = t }

pub want_done : (o n : Outside) (seen seen_after : Seen) (mail mail_after : Inboxes) (orders : Orders) (s : Held) (w : Want) (a : Answer) (said : Note) (t : Conn) (sh sh_after : Shared)
    → want_of s.conn ≡ w → NeedsNoPort n w a → done s.conn a ≡ Some (said, t) → Answers s.conn.actor sh w a sh_after → Shares seen seen_after mail mail_after orders sh sh_after → BindFits o n a
    → WantDone o n seen seen_after mail mail_after orders s said (Some (left o s t))
want_done o n seen seen_after mail mail_after orders s w a said t sh sh_after want needs is answers shares binds =
    let h : Held = ported o idle s in
    let A : Want → Type 0 = λ v. Answers s.conn.actor sh v a sh_after in
    let P : Want → Type 0 = λ v. PortsAnswer h.ports v a in
    record {
      found = idle;
      answer = a;
      sh = sh;
      after = sh_after;
      became = Some (left o s t);
      calm = λ not_send. refl;
      can = ap (λ (v : Want). can_do h.ports v) want ∙ needs.can h.ports;
      shares = shares;
      faults = none_fails o n idle s.ports idle_works;
      binds = binds;
      next = record {
        answers = subst A (sym want) answers;
        ports = subst P (sym want) (needs.answers h.ports);
        is =
            acted_is h w a said t want needs.lives is
            ∙ ap {B = Option (Note × Option Held)} (λ (ports : List Port). Some (said, Some (record h { conn = t; ports = ports }))) (needs.ports h.ports);
      };
      then = ap {B = Option Held} (λ (x : Held). Some x) (sym (needs.plain (left o s t)));
    }

-- for which state the connection stands then
pub left_stands : {L Q : Type 0} (most : Q → ℕ) (table after : Slab Q) (h g : HeldBy L) (o : Outside) (s : Held) (t : Conn) → IsHeld most table h s → KeepsPorts table after
    → g.ports.items ≡ h.ports.items → g.number ≡ h.number → g.bound ≡ None → AreServed t.ending s.conn.tunnels s.ports → Kept s.conn t → IsConn g.conn t → IsHeld most after g (left o s t)
left_stands most table after h g o s t held keeps seats number bound served kept conn =
    let A : List PortSeat → Type 0 = λ seats. ArePorts most after seats (map (filled_port o idle) s.ports) in
    stands most after g (left o s t) conn (kept.number ∙ held.number ∙ sym number)
    (subst A (sym seats) (are_filled most after o idle h.ports.items s.ports (are_kept most table after h.ports.items s.ports keeps held.ports)))
    (same_apart h.ports.items g.ports.items seats held.apart)
    (serves t.ending s.conn.tunnels t.tunnels (sym kept.tunnels) served)
    kept.opens
    bound where
      serves : (e : Option End) (ts us : List Tunnel) → ts ≡ us → AreServed e ts s.ports → AreServed e us (map (filled_port o idle) s.ports)
      serves e ts us same served = let P : List Tunnel → Type 0 = λ xs. AreServed e xs (map (filled_port o idle) s.ports) in subst P same (served_filled o idle e ts s.ports served)

-- and what is told of its ports
pub left_told : {L Q : Type 0} (most : Q → ℕ) (holds : Q → Option PortHolds) (counts : Q → PortCounts) (binds binds_after : Binder) (table after : Slab Q) (h g : HeldBy L) (o n : Outside) (s : Held) (t : Conn)
    → IsHeld most table h s → KeepsPorts table after → g.ports.items ≡ h.ports.items → SeesTable holds counts binds table h.ports.items o → SeesTable holds counts binds_after after g.ports.items n
    → PortsTold n (left o s t).ports
left_told most holds counts binds binds_after table after h g o n s t held keeps seats so sn =
    let P : List PortSeat → Type 0 = λ xs. SeesPorts holds counts after n xs in
    filled_told o n idle s.ports (stay_told most holds counts table after o n h.ports.items s.ports keeps so.ports (subst P seats sn.ports) held.ports)
