-- A connection whose link was called: what stays of it, and what its writes and reads give.
use Rattle.std.proofs.Common.{◌≡◌, ℕ, Bool, true, false, List, length, nat_lt, All, Option, Some, None, Result, Ok, Err, refl, sym, ap, subst, ◌∙◌}
use Rattle.std.specs.Prelude.{◌||◌}
use Rattle.std.specs.Result.{IsErr}
use Rattle.std.proofs.lemmas.List.Elements.{All-cons, All-head, All-tail}
use Rattle.slab.specs.Slab.{Slab}
use Rattle.mq_wire.specs.declared.NoMemory.{NoMemory}
use Rattle.mq_outside.specs.Counts.{risen, LinkCounts, PortCounts}
use Rattle.mq_outside.specs.Links.{LinkPast, taken_of}
use Rattle.mq_outside.specs.Ports.{PortHolds}
use Rattle.mq_talk.specs.declared.note.Note.{Note}
use Rattle.mq_talk.specs.declared.note.End.{End}
use Rattle.mq_talk.specs.declared.note.End.TheVariants as end
use Rattle.mq_talk.specs.Mails.{IsTold, Inboxes}
use Rattle.mq_talk.specs.Offices.{Seen}
use Rattle.mq_machine.specs.declared.setup.Setup.{Setup}
use Rattle.mq_machine.specs.State.{Conn, Tunnel, Link, new_link, Held, owed}
use Rattle.mq_machine.specs.Want.{want_of, may_wait}
use Rattle.mq_machine.specs.Steps.{failed, starved, wrote}
use Rattle.mq_machine.specs.Turn.{Write, Read, can_try, has_room_for, WriteNext}
use Rattle.mq_machine.specs.Acting.{Outside, Rose, Binder}
use Rattle.mq_conn.specs.Conns.{IsConn}
use Rattle.mq_held.specs.declared.held.Held.{Held as HeldBy}
use Rattle.mq_held.specs.declared.held.PortSeat.{PortSeat}
use Rattle.mq_held.specs.declared.went.Went.TheVariants as done
use Rattle.mq_held.specs.Notes as went
use Rattle.mq_held.specs.Links.{Calls, calls_of, WriteGives, WriteWaits, FailsWrite}
use Rattle.mq_step.proofs.Wanting.{Mailed}
use Rattle.mq_step.specs.Notes.{SteppedWith, stepped_by, stepped_with}
use Rattle.mq_step.specs.declared.stepped.Stepped.TheVariants as stepped
use Rattle.mq_step.specs.Holds.{ArePorts, AreServed, IsHeld, IsKnown}
use Rattle.mq_step.specs.Sights.{Found, SeesPorts, SeesTable, idle, idle_link}
use Rattle.mq_step.specs.Whole.{SeesLink, Sees, link_if, filled}
use Rattle.mq_step.specs.Wanted.{ActGives}
use Rattle.mq_step.specs.Gives.{Tries, InVain, Asked, Gives, WritesWait, receives_of, from_read, from_write}
use Rattle.mq_step.specs.Wanted.{SendsWait}
use Rattle.mq_step.proofs.Filling.{StaysTold, stay_told, none_changed, served_ending}
use Rattle.mq_step.proofs.Keeping.{NoOpens, no_opens_nil}
use Rattle.mq_step.proofs.Cores.{Wrote, wrote_leaves}
use Rattle.mq_step.proofs.Standing.{stands, same_apart}
use Rattle.mq_step.proofs.Counting.{rose_risen, rose_then}
use Rattle.mq_step.proofs.Trying.{Between, mid, skip, first_true, receives_back, read_back}
use Rattle.mq_step.proofs.Framing.{still_bound, still_opens, whole, whole_stands, whole_told, same_link, drained, drains}
use Rattle.mq_step.proofs.Linking.{on_link, LinkSeen, write_in_vain, write_rose, write_between, roomy, took_some, written, write_does_turn, write_could, both_true, owes_some}
use Rattle.mq_step.specs.declared.stepped.Stepped.{Stepped}
use Rattle.mq_step.proofs.Failing.{failed_gives, fallen}

-- memory was refused, whoever said so
pub gives_err : (setup : Setup) (tries : Tries) (vain : InVain) (o n : Outside) (seen seen_after : Seen) (mail mail_after : Inboxes) (stands_for : Held → Type 0) (s : Held) (r : Result Stepped NoMemory) (told : Option Note) → IsErr r
    → ((refused : NoMemory) → Gives setup tries vain o n seen seen_after mail mail_after stands_for s (Err refused)) → Gives setup tries vain o n seen seen_after mail mail_after stands_for s (stepped_with r told)
gives_err setup tries vain o n seen seen_after mail mail_after stands_for s (Ok stepped) told is gives = absurd cc
gives_err setup tries vain o n seen seen_after mail mail_after stands_for s (Err refused) told is gives = gives refused

-- ---- what stays

-- a connection whose link was called and nothing else
pub record Moves {L Q : Type 0} (link : L → Option Link) (past : L → LinkPast) (counts : L → LinkCounts) (most : Q → ℕ) (holds : Q → Option PortHolds) (port_counts : Q → PortCounts)
    (binds : Binder) (table : Slab Q) (old new : HeldBy L) (o n : Outside) (s : Held) : Type 0 where
  pub held : IsHeld most table old s
  pub wait : may_wait (want_of s.conn) ≡ true
  pub rest : new ≡ record old { conn = new.conn; link = new.link }
  pub sees : Sees link counts holds port_counts binds table old o
  pub sees_after : Sees link counts holds port_counts binds table new n

pub moved_held : {L Q : Type 0} (most : Q → ℕ) (table : Slab Q) (old new : HeldBy L) (s : Held) → IsHeld most table old s → may_wait (want_of s.conn) ≡ true
    → new ≡ record old { conn = new.conn; link = new.link } → IsConn new.conn s.conn → IsHeld most table new s
moved_held most table old new s held wait rest conn =
    let A : List PortSeat → Type 0 = λ xs. ArePorts most table xs s.ports in
    stands most table new s conn (held.number ∙ sym (ap (λ h. h.number) rest)) (subst A (sym (ap (λ h. h.ports.items) rest)) held.ports)
    (same_apart old.ports.items new.ports.items (ap (λ h. h.ports.items) rest) held.apart) held.served (still_opens old.conn s.conn held.conn wait)
    (ap (λ h. h.bound) rest ∙ still_bound most table old s held wait)

-- the connection whose link failed, on any link
pub fallen_held : {L Q : Type 0} (most : Q → ℕ) (table : Slab Q) (old new : HeldBy L) (s : Held) (link : Link) → IsHeld most table old s → may_wait (want_of s.conn) ≡ true
    → new ≡ record old { conn = new.conn; link = new.link } → IsConn new.conn (failed s.conn) → IsHeld most table new (fallen s link)
fallen_held most table old new s link held wait rest conn =
    let A : List PortSeat → Type 0 = λ xs. ArePorts most table xs s.ports in
    stands most table new (fallen s link) conn (held.number ∙ sym (ap (λ h. h.number) rest)) (subst A (sym (ap (λ h. h.ports.items) rest)) held.ports)
    (same_apart old.ports.items new.ports.items (ap (λ h. h.ports.items) rest) held.apart)
    (served_ending s.conn.ending end.Link s.conn.tunnels s.ports held.served) no_opens_nil
    (ap (λ h. h.bound) rest ∙ still_bound most table old s held wait)

pub moved_known : {L Q : Type 0} (most : Q → ℕ) (table : Slab Q) (old new : HeldBy L) (s : Held) (seen : Seen) (actor : ℕ) → IsHeld most table old s → IsKnown seen actor s → may_wait (want_of s.conn) ≡ true
    → new ≡ record old { conn = new.conn; link = new.link } → IsConn new.conn (failed s.conn) → (x : Held) × IsHeld most table new x × IsKnown seen actor x
moved_known most table old new s seen actor held known wait rest conn =
    (fallen s s.link, fallen_held most table old new s s.link held wait rest conn, record { sound = known.sound; worker = known.worker; actor_is = known.actor_is; tunnels = known.tunnels; places = tt })

-- what the outside tells of it, once its link was asked in vain
pub moved_sight : {L Q : Type 0} (link : L → Option Link) (past : L → LinkPast) (counts : L → LinkCounts) (holds : Q → Option PortHolds) (port_counts : Q → PortCounts) (binds : Binder) (table : Slab Q) (old new : HeldBy L)
    (o : Outside) → Sees link counts holds port_counts binds table old o → new ≡ record old { conn = new.conn; link = new.link } → link new.link ≡ link old.link
    → Sees link counts holds port_counts binds table new (mid o (λ i. counts new.link) o.port_counts)
moved_sight link past counts holds port_counts binds table old new o sees rest same =
    let P : List PortSeat → Type 0 = λ xs. SeesPorts holds port_counts table o xs in
    record {
      of_link = record { link_is = ap o.link (ap (λ h. h.number) rest) ∙ sees.of_link.link_is ∙ sym same; counts_are = refl };
      of_table = record { ports = subst P (sym (ap (λ h. h.ports.items) rest)) sees.of_table.ports; binds_are = sees.of_table.binds_are };
    }

pub link_seen : {L : Type 0} (link : L → Option Link) (past : L → LinkPast) (counts : L → LinkCounts) (old new : HeldBy L) (o : Outside) (s : Held) → s.conn.number ≡ old.number → SeesLink link counts old o
    → LinkSeen o (calls_of link past counts old.link new.link) s
link_seen link past counts old new o s number sees = record { link = ap o.link number ∙ sees.link_is; counts = ap o.link_counts number ∙ sees.counts_are }

module _ {L Q : Type 0} (link : L → Option Link) (past : L → LinkPast) (counts : L → LinkCounts) (most : Q → ℕ) (holds : Q → Option PortHolds) (port_counts : Q → PortCounts) (binds : Binder) (table : Slab Q)
    (old new : HeldBy L) (o n : Outside) (s : Held) where
  pub stay_all : Moves link past counts most holds port_counts binds table old new o n s → All (StaysTold o n) s.ports
  stay_all x =
      let P : List PortSeat → Type 0 = λ xs. SeesPorts holds port_counts table n xs in
      stay_told most holds port_counts table table o n old.ports.items s.ports (none_changed table) x.sees.of_table.ports (subst P (ap (λ h. h.ports.items) x.rest) x.sees_after.of_table.ports) x.held.ports

  pub seen_link : Moves link past counts most holds port_counts binds table old new o n s → LinkSeen o (calls_of link past counts old.link new.link) s
  seen_link x = link_seen link past counts old new o s x.held.number x.sees.of_link

  -- nothing was bound
  pub same_binds : Moves link past counts most holds port_counts binds table old new o n s → n.binds.holds ≡ o.binds.holds
  same_binds x = ap (λ (b : Binder). b.holds) (x.sees_after.of_table.binds_are ∙ sym x.sees.of_table.binds_are)

  -- what the outside tells behind the call
  pub link_behind : Moves link past counts most holds port_counts binds table old new o n s → n.link s.conn.number ≡ link new.link
  link_behind x = ap n.link (x.held.number ∙ sym (ap (λ h. h.number) x.rest)) ∙ x.sees_after.of_link.link_is

  pub bound_none : Moves link past counts most holds port_counts binds table old new o n s → new.bound ≡ None
  bound_none x = ap (λ h. h.bound) x.rest ∙ still_bound most table old s x.held x.wait

  pub drained_stands : (x : Moves link past counts most holds port_counts binds table old new o n s) (f : Found) (pieces : List (List ℕ)) → IsConn new.conn (starved s.conn) → IsHeld most table new (drained o f s pieces)
  drained_stands x f pieces conn =
      whole_stands most table table old new o f s (starved s.conn) (record (filled o f s).link { pieces = pieces }) x.held (none_changed table) (ap (λ h. h.ports.items) x.rest) (ap (λ h. h.number) x.rest) (bound_none x)
      refl no_opens_nil (served_ending s.conn.ending end.NoMemory s.conn.tunnels s.ports x.held.served) conn

  -- ---- writes

  pub write_starves : (x : Moves link past counts most holds port_counts binds table old new o n s) (setup : Setup) (seen : Seen) (m : Mailed seen) (refused : NoMemory)
      → WriteGives (calls_of link past counts old.link new.link) (IsConn new.conn) s.conn (Err refused)
      → Gives setup from_write SendsWait o n seen seen m.mail m.mail (IsHeld most table new) s (Err refused)
  write_starves x setup seen m refused gives = λ orders.
      let f : Found = on_link new_link in
      let h : Held = filled o f s in
      let can = write_could o (calls_of link past counts old.link new.link) s (seen_link x) gives.0 gives.1 in
      let same : n.link s.conn.number ≡ o.link s.conn.number = link_behind x ∙ gives.2.holds ∙ sym (seen_link x).link in (
        drained o f s h.link.pieces,
        drains from_write SendsWait o n seen m orders s f Write false h.link.pieces (λ tunnel. (refl, refl)) (first_true h Write (from_read h) can) (λ is. absurd cc) refl (same_binds x),
        (drained_stands x f h.link.pieces gives.3, whole_told o n f s (starved s.conn) h.link refl (same_link o n s new_link same) (stay_all x)),
      )

  pub wrote_gives : (x : Moves link past counts most holds port_counts binds table old new o n s) (setup : Setup) (seen : Seen) (m : Mailed seen) (told : Option Note)
      → WriteGives (calls_of link past counts old.link new.link) (IsConn new.conn) s.conn (Ok (went.went_by done.Did told))
      → Gives setup from_write SendsWait o n seen seen m.mail m.mail (IsHeld most table new) s (Ok (stepped_by stepped.Did told))
  wrote_gives x setup seen m None gives = gives
  wrote_gives x setup seen m (Some said) gives = λ orders.
      let c : Calls = calls_of link past counts old.link new.link in
      let d = gives.1 in
      let t : Conn = gives.0 in
      let f : Found = on_link (roomy d.link.room) in
      let some = took_some o c s said t (seen_link x) d in
      let does = ap {B = Conn} (λ (y : Note × Conn). y.1) d.does in
      let is : t ≡ (wrote s.conn (taken_of d.link.room (length (owed s.conn)))).1 = sym does in
      let W : Conn → Type 0 = λ y. Wrote s.conn y in
      let same : Wrote s.conn t = subst W (sym is) (wrote_leaves old.conn s.conn (taken_of d.link.room (length (owed s.conn))) x.held.conn) in
      let T : Option Link → Type 0 = λ told. IsTold told (written o s (roomy d.link.room)) in
      let S : Option End → Type 0 = λ e. AreServed e t.tunnels s.ports in
      let U : List Tunnel → Type 0 = λ ts. AreServed s.conn.ending ts s.ports in (
        whole o f s t (written o s (roomy d.link.room)),
        write_does_turn setup o n c seen m orders s said t (seen_link x) d (same_binds x),
        (
          whole_stands most table table old new o f s t (written o s (roomy d.link.room)) x.held (none_changed table) (ap (λ h. h.ports.items) x.rest) (ap (λ h. h.number) x.rest) (bound_none x)
              same.number (subst NoOpens (sym same.dues) (still_opens old.conn s.conn x.held.conn x.wait)) (subst S (sym same.ending) (subst U (sym same.tunnels) x.held.served)) gives.2,
          whole_told o n f s t (written o s (roomy d.link.room)) same.number (subst T (sym (link_behind x)) some.tells) (stay_all x),
        ),
      )

-- the outside tells of the ports behind the call what it told
pub moved_table : {L Q : Type 0} (holds : Q → Option PortHolds) (port_counts : Q → PortCounts) (binds : Binder) (table : Slab Q) (old new : HeldBy L) (o : Outside) → SeesTable holds port_counts binds table old.ports.items o
    → new ≡ record old { conn = new.conn; link = new.link } → SeesTable holds port_counts binds table new.ports.items o
moved_table holds port_counts binds table old new o sees rest =
    let P : List PortSeat → Type 0 = λ xs. SeesPorts holds port_counts table o xs in
    record { ports = subst P (sym (ap (λ h. h.ports.items) rest)) sees.ports; binds_are = sees.binds_are }

-- ---- a write failed

abbrev pub broken : Link
broken = record idle_link { write_fails = true }

fails_write : (told after : Option Link) → FailsWrite told after → ((link_if told broken).write_fails ≡ true) × IsTold after (record (link_if told broken) { write_fails = false })
fails_write None after fails = let P : Option Link → Type 0 = λ a. IsTold a (record broken { write_fails = false }) in (refl, subst P (sym fails) tt)
fails_write (Some l) after fails = let P : Option Link → Type 0 = λ a. IsTold a (record l { write_fails = false }) in (fails.0, subst P (sym fails.1) refl)

module _ {L Q : Type 0} (link : L → Option Link) (past : L → LinkPast) (counts : L → LinkCounts) (most : Q → ℕ) (holds : Q → Option PortHolds) (port_counts : Q → PortCounts) (binds binds_after : Binder) (table after : Slab Q)
    (old new fin : HeldBy L) (o n : Outside) (s : Held) where
  -- what is told of the link in the end
  pub told_end : IsHeld most table old s → new ≡ record old { conn = new.conn; link = new.link } → fin ≡ record new { conn = fin.conn; ports = fin.ports; bound = fin.bound } → Sees link counts holds port_counts binds_after after fin n
      → (l : Link) → IsTold (link new.link) l → (t : Held) → IsHeld most after fin t → t.link ≡ l → IsTold (n.link t.conn.number) t.link
  told_end held rest acts sees l told t stands_for same =
      let P : Option Link → Type 0 = λ a. IsTold a l in
      let Q : Link → Type 0 = λ x. IsTold (n.link t.conn.number) x in
      let e : n.link t.conn.number ≡ link new.link = ap n.link stands_for.number ∙ sees.of_link.link_is ∙ ap link (ap (λ h. h.link) acts) in
      subst Q (sym same) (subst P (sym e) told)

  -- the link's faults in the end
  pub faults_end : IsHeld most table old s → new ≡ record old { conn = new.conn; link = new.link } → fin ≡ record new { conn = fin.conn; ports = fin.ports; bound = fin.bound } → SeesLink link counts old o
      → Sees link counts holds port_counts binds_after after fin n → counts new.link ≡ record (counts old.link) { faults = risen (counts old.link).faults }
      → Rose (o.link_counts s.conn.number).faults (n.link_counts s.conn.number).faults
  faults_end held rest acts before sees is =
      let a : o.link_counts s.conn.number ≡ counts old.link = ap o.link_counts held.number ∙ before.counts_are in
      let number : s.conn.number ≡ fin.number = held.number ∙ sym (ap (λ h. h.number) acts ∙ ap (λ h. h.number) rest) in
      let b : n.link_counts s.conn.number ≡ counts new.link = ap n.link_counts number ∙ sees.of_link.counts_are ∙ ap counts (ap (λ h. h.link) acts) in
      rose_risen (o.link_counts s.conn.number).faults (n.link_counts s.conn.number).faults
      (ap (λ (x : LinkCounts). x.faults) (b ∙ is) ∙ ap (λ (x : LinkCounts). risen x.faults) (sym a))

  pub write_fails_gives : (setup : Setup) (seen seen_after : Seen) (mail mail_after : Inboxes) (r : Result SteppedWith NoMemory) → IsHeld most table old s → may_wait (want_of s.conn) ≡ true
      → Sees link counts holds port_counts binds table old o → Sees link counts holds port_counts binds_after after fin n
      → new ≡ record old { conn = new.conn; link = new.link } → fin ≡ record new { conn = fin.conn; ports = fin.ports; bound = fin.bound }
      → WriteGives (calls_of link past counts old.link new.link) (IsConn new.conn) s.conn (Ok went.Failed)
      → ((l : Link) → IsHeld most table new (fallen s l) → ActGives o n seen seen_after mail mail_after (IsHeld most after fin) (fallen s l) r)
      → Gives setup from_write SendsWait o n seen seen_after mail mail_after (IsHeld most after fin) s r
  write_fails_gives setup seen seen_after mail mail_after r held wait so sn rest acts gives act_gives =
      let c : Calls = calls_of link past counts old.link new.link in
      let f : Found = on_link broken in
      let h : Held = filled o f s in
      let sl = link_seen link past counts old new o s held.number so.of_link in
      let F : Option Link → Type 0 = λ told. FailsWrite told c.after in
      let fails = fails_write (o.link s.conn.number) c.after (subst F (sym sl.link) gives.0.fails) in
      let l : Link = record h.link { write_fails = false } in
      let can : can_try h Write ≡ true = both_true (nat_lt 0 (length (owed s.conn))) (h.link.write_fails || has_room_for h.link.room) (owes_some s.conn gives.0.some) (ap (λ (b : Bool). b || has_room_for h.link.room) fails.0) in
      failed_gives setup from_write SendsWait Write o n seen seen_after mail mail_after (IsHeld most after fin) s broken l r (first_true h Write (from_read h) can) (λ tunnel. (refl, refl))
      (λ sh after_sh answer said became next. let W : Bool → Type 0 = λ b. WriteNext b h sh answer said became after_sh in subst W (sym fails.0) next)
      (λ none is. faults_end held rest acts so.of_link sn gives.0.counts)
      (told_end held rest acts sn l fails.1)
      (act_gives l (fallen_held most table old new s l held wait rest gives.1))

-- ---- a write waits

idle_writes : WritesWait idle
idle_writes = record { sends = λ tunnel. (refl, refl); works = refl; room = refl }

from_read_back : (o n : Outside) (lc : ℕ → LinkCounts) (s : Held) → Between o lc o.port_counts s → All (Asked (mid o lc o.port_counts) n s) (from_read s) → All (Asked o n s) (from_read s)
from_read_back o n lc s between asked =
    All-cons (Asked o n s) Read (receives_of s) (read_back o n lc o.port_counts s between (All-head (Asked (mid o lc o.port_counts) n s) Read (receives_of s) asked))
    (receives_back o n lc o.port_counts s s.ports between.ports (All-tail (Asked (mid o lc o.port_counts) n s) Read (receives_of s) asked))

pub write_waits_gives : {L : Type 0} (link : L → Option Link) (past : L → LinkPast) (counts : L → LinkCounts) (o n : Outside) (old new : HeldBy L) (s : Held) (setup : Setup) (seen seen_after : Seen) (mail mail_after : Inboxes)
    (stands_for : Held → Type 0) (r : Result SteppedWith NoMemory) → s.conn.number ≡ old.number → SeesLink link counts old o → WriteWaits (calls_of link past counts old.link new.link) s.conn
    → Gives setup from_read WritesWait (mid o (λ i. counts new.link) o.port_counts) n seen seen_after mail mail_after stands_for s r → Gives setup from_write SendsWait o n seen seen_after mail mail_after stands_for s r
write_waits_gives link past counts o n old new s setup seen seen_after mail mail_after stands_for r number sees waits gives =
    let c : Calls = calls_of link past counts old.link new.link in
    let sl = link_seen link past counts old new o s number sees in
    let lc : ℕ → LinkCounts = λ i. counts new.link in
    let between = write_between o c s sl waits in
    skip o n lc o.port_counts setup Write from_read WritesWait SendsWait seen seen_after mail mail_after stands_for s r between
    (λ f vain. write_in_vain o c s f sl waits vain.works vain.room) idle_writes (λ f vain. vain.sends)
    (λ grows some. rose_then (o.link_counts s.conn.number).write_waits (counts new.link).write_waits (n.link_counts s.conn.number).write_waits (write_rose o c s sl waits some) grows.link.write_waits)
    (from_read_back o n lc s between) gives
