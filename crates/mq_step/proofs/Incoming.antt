-- What the reads of a connection give.
use Rattle.std.proofs.Common.{◌≡◌, inl, inr, ℕ, Bool, true, false, List, ◌∷◌, length, drop, nat_lt, Option, Some, None, Result, Ok, Err, refl, sym, ap, subst, ◌∙◌}
use Rattle.std.specs.Prelude.{◌||◌}
use Rattle.slab.specs.Slab.{Slab}
use Rattle.mq_wire.specs.declared.NoMemory.{NoMemory}
use Rattle.mq_outside.specs.Counts.{LinkCounts, PortCounts}
use Rattle.mq_outside.specs.Links.{LinkPast, behind}
use Rattle.mq_outside.specs.Ports.{PortHolds}
use Rattle.mq_talk.specs.declared.note.Note.{Note}
use Rattle.mq_talk.specs.Mails.{IsTold, Inboxes}
use Rattle.mq_talk.specs.Offices.{Seen}
use Rattle.mq_machine.specs.declared.setup.Setup.{Setup}
use Rattle.mq_machine.specs.State.{Conn, Tunnel, Link, Held}
use Rattle.mq_machine.specs.Want.{want_of, may_wait}
use Rattle.mq_machine.specs.Steps.{can_read, starved}
use Rattle.mq_machine.specs.Silent.{Leaves}
use Rattle.mq_machine.specs.Turn.{Read, can_try, can_take, ReadNext, most_read}
use Rattle.mq_machine.specs.Acting.{Outside, Binder}
use Rattle.mq_conn.specs.Conns.{IsConn}
use Rattle.mq_held.specs.declared.held.Held.{Held as HeldBy}
use Rattle.mq_held.specs.declared.went.Went.TheVariants as done
use Rattle.mq_held.specs.Notes as went
use Rattle.mq_held.specs.Links.{Calls, calls_of, ReadGives, ReadDoes, ReadWaits, FailsRead}
use Rattle.mq_step.proofs.Wanting.{Mailed}
use Rattle.mq_step.specs.declared.stepped.Stepped.TheVariants as stepped
use Rattle.mq_step.specs.Notes.{SteppedWith, stepped_by}
use Rattle.mq_step.specs.Notes.{Did}
use Rattle.mq_step.specs.Holds.{IsHeld, numbers_of}
use Rattle.mq_step.specs.Sights.{Found, idle, idle_link}
use Rattle.mq_step.specs.Whole.{SeesLink, Sees, IsAsTold, link_if, filled}
use Rattle.mq_step.specs.Wanted.{ActGives}
use Rattle.mq_step.specs.Gives.{Gives, Turned, WritesWait, ReadsWait, receives_of, from_read}
use Rattle.mq_step.proofs.Filling.{none_changed, served_any, alive_served}
use Rattle.mq_step.proofs.Keeping.{Kept}
use Rattle.mq_step.proofs.Taking.{took_keeps, finished_alone, can_go, go_alive}
use Rattle.mq_step.proofs.Counting.{rose_then}
use Rattle.mq_step.proofs.Trying.{mid, skip, first_true, receives_back}
use Rattle.mq_step.proofs.Framing.{whole, whole_stands, whole_told, drained, drains}
use Rattle.mq_step.proofs.Linking.{on_link, both_true}
use Rattle.mq_step.proofs.Failing.{failed_gives, fallen}
use Rattle.mq_step.proofs.Pieces.{read_in_vain, read_rose, read_between, with_pieces, gave_piece, read_first, reads_wait, piece_turn, ended_link, end_over, end_turn}
use Rattle.mq_step.proofs.Moving.{Moves, fallen_held, link_seen, told_end, faults_end, stay_all, seen_link, same_binds, link_behind, bound_none, drained_stands}

-- ---- a read that was done, or refused memory

module _ {L Q : Type 0} (link : L → Option Link) (past : L → LinkPast) (counts : L → LinkCounts) (most : Q → ℕ) (holds : Q → Option PortHolds) (port_counts : Q → PortCounts) (binds : Binder) (table : Slab Q)
    (old new : HeldBy L) (o n : Outside) (s : Held) where
  -- what a read leaves of the connection
  read_stands : (x : Moves link past counts most holds port_counts binds table old new o n s) (f : Found) (t : Conn) (l : Link) → can_read s.conn ≡ true → Kept s.conn t → IsConn new.conn t → IsHeld most table new (whole o f s t l)
  read_stands x f t l can kept conn =
      let alive = alive_served s.conn.ending s.conn.tunnels s.ports (go_alive s.conn (can_go s.conn can)) x.held.served in
      whole_stands most table table old new o f s t l x.held (none_changed table) (ap (λ h. h.ports.items) x.rest) (ap (λ h. h.number) x.rest)
      (bound_none link past counts most holds port_counts binds table old new o n s x) kept.number kept.opens
      (served_any t.ending t.tunnels s.ports (alive ∙ sym (ap (λ (ts : List Tunnel). numbers_of ts) kept.tunnels))) conn

  read_told : (x : Moves link past counts most holds port_counts binds table old new o n s) (f : Found) (t : Conn) (l : Link) → t.number ≡ s.conn.number → IsTold (link new.link) l → IsAsTold n (whole o f s t l)
  read_told x f t l same told =
      let P : Option Link → Type 0 = λ a. IsTold a l in
      whole_told o n f s t l same (subst P (sym (link_behind link past counts most holds port_counts binds table old new o n s x)) told) (stay_all link past counts most holds port_counts binds table old new o n s x)

  pub read_starves : (x : Moves link past counts most holds port_counts binds table old new o n s) (setup : Setup) (seen : Seen) (m : Mailed seen) (refused : NoMemory)
      → ReadGives setup (calls_of link past counts old.link new.link) (IsConn new.conn) s.conn (Err refused) → Gives setup from_read WritesWait o n seen seen m.mail m.mail (IsHeld most table new) s (Err refused)
  read_starves x setup seen m refused gives = λ orders.
      let c : Calls = calls_of link past counts old.link new.link in
      let sl = seen_link link past counts most holds port_counts binds table old new o n s x in
      let d = gives.1.1 in
      let f : Found = on_link (with_pieces (d.first ∷ d.others)) in
      let h : Held = filled o f s in
      let y = gave_piece o c s gives.1.0 sl d in
      let pieces = behind (drop most_read d.first) d.others in
      let V : List (List ℕ) → Type 0 = λ ps. Leaves true Read ps pieces in (
        drained o f s pieces,
        drains from_read WritesWait o n seen m orders s f Read true pieces (reads_wait (with_pieces (d.first ∷ d.others)) refl refl) (first_true h Read (receives_of h) (read_first o c s gives.1.0 sl d gives.0)) (λ is. absurd cc)
            (subst V (sym y.pieces) (refl, refl)) (same_binds link past counts most holds port_counts binds table old new o n s x),
        (drained_stands link past counts most holds port_counts binds table old new o n s x f pieces gives.2, read_told x f (starved s.conn) (record h.link { pieces = pieces }) refl y.tells),
      )

  read_does : (x : Moves link past counts most holds port_counts binds table old new o n s) (setup : Setup) (seen : Seen) (m : Mailed seen) (said : Note) (t : Conn) → can_read s.conn ≡ true → IsConn new.conn t
      → ReadDoes setup (calls_of link past counts old.link new.link) s.conn said t → Gives setup from_read WritesWait o n seen seen m.mail m.mail (IsHeld most table new) s (Ok (Did said))
  read_does x setup seen m said t can conn (inl (piece, d, took, is)) = λ orders.
      let c : Calls = calls_of link past counts old.link new.link in
      let sl = seen_link link past counts most holds port_counts binds table old new o n s x in
      let f : Found = on_link (with_pieces (d.first ∷ d.others)) in
      let l : Link = record (filled o f s).link { pieces = behind (drop most_read d.first) d.others } in
      let kept = took_keeps setup new.conn s.conn t piece took conn in
      let N : Note → Type 0 = λ y. Turned setup from_read WritesWait o n seen seen m.mail m.mail orders s y (Some (whole o f s t l)) in (
        whole o f s t l,
        subst N (sym is) (piece_turn setup o n c seen m orders s piece t sl d can took (same_binds link past counts most holds port_counts binds table old new o n s x)),
        (read_stands x f t l can kept conn, read_told x f t l kept.number (gave_piece o c s piece sl d).tells),
      )
  read_does x setup seen m said t can conn (inr (inside, d, ends, is)) = λ orders.
      let c : Calls = calls_of link past counts old.link new.link in
      let sl = seen_link link past counts most holds port_counts binds table old new o n s x in
      let f : Found = on_link ended_link in
      let l : Link = (filled o f s).link in
      let T : Conn → Type 0 = λ y. Kept s.conn y in
      let kept = subst T (ap {B = Conn} (λ (y : Note × Conn). y.1) is) (finished_alone old.conn s.conn inside x.held.conn can) in (
        whole o f s t l,
        end_turn setup o n c seen m orders s said t inside sl d can ends is (same_binds link past counts most holds port_counts binds table old new o n s x),
        (read_stands x f t l can kept conn, read_told x f t l kept.number (end_over o c s sl d).tells),
      )

  pub read_gives : (x : Moves link past counts most holds port_counts binds table old new o n s) (setup : Setup) (seen : Seen) (m : Mailed seen) (told : Option Note)
      → ReadGives setup (calls_of link past counts old.link new.link) (IsConn new.conn) s.conn (Ok (went.went_by done.Did told))
      → Gives setup from_read WritesWait o n seen seen m.mail m.mail (IsHeld most table new) s (Ok (stepped_by stepped.Did told))
  read_gives x setup seen m None gives = gives
  read_gives x setup seen m (Some said) gives = read_does x setup seen m said gives.1.0 gives.0 gives.1.2 gives.1.1

-- ---- a read failed

abbrev pub broken_read : Link
broken_read = record idle_link { read_fails = true }

fails_read : (told after : Option Link) → FailsRead told after → ((link_if told broken_read).read_fails ≡ true) × IsTold after (record (link_if told broken_read) { read_fails = false })
fails_read None after fails = let P : Option Link → Type 0 = λ a. IsTold a (record broken_read { read_fails = false }) in (refl, subst P (sym fails) tt)
fails_read (Some l) after fails = let P : Option Link → Type 0 = λ a. IsTold a (record l { read_fails = false }) in (fails.0, subst P (sym fails.1) refl)

module _ {L Q : Type 0} (link : L → Option Link) (past : L → LinkPast) (counts : L → LinkCounts) (most : Q → ℕ) (holds : Q → Option PortHolds) (port_counts : Q → PortCounts) (binds binds_after : Binder) (table after : Slab Q)
    (old new fin : HeldBy L) (o n : Outside) (s : Held) where
  pub read_fails_gives : (setup : Setup) (seen seen_after : Seen) (mail mail_after : Inboxes) (r : Result SteppedWith NoMemory) → IsHeld most table old s → may_wait (want_of s.conn) ≡ true
      → Sees link counts holds port_counts binds table old o → Sees link counts holds port_counts binds_after after fin n
      → new ≡ record old { conn = new.conn; link = new.link } → fin ≡ record new { conn = fin.conn; ports = fin.ports; bound = fin.bound }
      → ReadGives setup (calls_of link past counts old.link new.link) (IsConn new.conn) s.conn (Ok went.Failed)
      → ((l : Link) → IsHeld most table new (fallen s l) → ActGives o n seen seen_after mail mail_after (IsHeld most after fin) (fallen s l) r)
      → Gives setup from_read WritesWait o n seen seen_after mail mail_after (IsHeld most after fin) s r
  read_fails_gives setup seen seen_after mail mail_after r held wait so sn rest acts gives act_gives =
      let c : Calls = calls_of link past counts old.link new.link in
      let f : Found = on_link broken_read in
      let h : Held = filled o f s in
      let sl = link_seen link past counts old new o s held.number so.of_link in
      let F : Option Link → Type 0 = λ told. FailsRead told c.after in
      let fails = fails_read (o.link s.conn.number) c.after (subst F (sym sl.link) gives.1.fails) in
      let l : Link = record h.link { read_fails = false } in
      let can : can_try h Read ≡ true = both_true (can_read s.conn) (can_take h.link) gives.0 (ap (λ (b : Bool). b || nat_lt 0 (length h.link.pieces) || h.link.is_ended) fails.0) in
      failed_gives setup from_read WritesWait Read o n seen seen_after mail mail_after (IsHeld most after fin) s broken_read l r (first_true h Read (receives_of h) can) (reads_wait broken_read refl refl)
      (λ sh after_sh answer said became next. let R : Bool → Type 0 = λ b. ReadNext b setup h sh answer said became after_sh in subst R (sym fails.0) next)
      (λ none is. faults_end link past counts most holds port_counts binds binds_after table after old new fin o n s held rest acts so.of_link sn gives.1.counts)
      (told_end link past counts most holds port_counts binds binds_after table after old new fin o n s held rest acts sn l fails.1)
      (act_gives l (fallen_held most table old new s l held wait rest gives.2))

-- ---- a read waits

idle_reads : ReadsWait idle
idle_reads = record { writes = record { sends = λ tunnel. (refl, refl); works = refl; room = refl }; works = refl; pieces = refl; not_ended = refl }

pub read_waits_gives : {L : Type 0} (link : L → Option Link) (past : L → LinkPast) (counts : L → LinkCounts) (o n : Outside) (old new : HeldBy L) (s : Held) (setup : Setup) (seen seen_after : Seen) (mail mail_after : Inboxes)
    (stands_for : Held → Type 0) (r : Result SteppedWith NoMemory) → s.conn.number ≡ old.number → SeesLink link counts old o → ReadWaits (calls_of link past counts old.link new.link) s.conn
    → Gives setup receives_of ReadsWait (mid o (λ i. counts new.link) o.port_counts) n seen seen_after mail mail_after stands_for s r → Gives setup from_read WritesWait o n seen seen_after mail mail_after stands_for s r
read_waits_gives link past counts o n old new s setup seen seen_after mail mail_after stands_for r number sees waits gives =
    let c : Calls = calls_of link past counts old.link new.link in
    let sl = link_seen link past counts old new o s number sees in
    let lc : ℕ → LinkCounts = λ i. counts new.link in
    let between = read_between o c s sl waits in
    skip o n lc o.port_counts setup Read receives_of ReadsWait WritesWait seen seen_after mail mail_after stands_for s r between
    (λ f vain. read_in_vain o c s f sl waits vain.works vain.pieces vain.not_ended) idle_reads (λ f vain. vain.writes)
    (λ grows can. rose_then (o.link_counts s.conn.number).read_waits (counts new.link).read_waits (n.link_counts s.conn.number).read_waits (read_rose o c s sl waits can) grows.link.read_waits)
    (receives_back o n lc o.port_counts s s.ports between.ports) gives
