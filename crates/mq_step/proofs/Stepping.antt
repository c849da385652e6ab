-- A step of a connection: its want, or else a frame, or else what comes behind.
use Rattle.std.proofs.Common.{◌≡◌, ℕ, true, false, List, [], ◌∷◌, All, Option, Some, None, Result, Ok, Err, refl, sym, ap, subst, ◌∙◌}
use Rattle.std.specs.Prelude.{is_some}
use Rattle.mq_talk.specs.Mails.{IsTold, Inboxes}
use Rattle.mq_step.proofs.Counting.{rose_then}
use Rattle.mq_step.proofs.Places.{at_all}
use Rattle.mq_step.proofs.Sending.{the_mine}
use Rattle.mq_step.proofs.Framing.{told_link}
use Rattle.std.proofs.lemmas.List.Elements.{All-cons, All-head, All-tail, All-nil}
use Rattle.slab.specs.Slab.{Slab}
use Rattle.mq_wire.specs.declared.NoMemory.{NoMemory}
use Rattle.mq_outside.specs.Counts.{LinkCounts, PortCounts, no_link_counts, no_port_counts}
use Rattle.mq_outside.specs.Links.{LinkPast}
use Rattle.mq_outside.specs.Ports.{PortHolds}
use Rattle.mq_talk.specs.declared.note.Note.{Note}
use Rattle.mq_talk.specs.Offices.{Seen}
use Rattle.mq_machine.specs.declared.setup.Setup.{Setup}
use Rattle.mq_machine.specs.State.{Conn, Link, Held, Port, Orders}
use Rattle.mq_machine.specs.Want.{Want, Nothing, Say, Bind, Ask, Judge, Push, Send, Over, want_of, may_wait}
use Rattle.mq_machine.specs.Steps.{framed, starved}
use Rattle.mq_machine.specs.Turn.{Try, Act, Frame, Write, Read, can_do, tries_of}
use Rattle.mq_machine.specs.Acting.{Outside, Rose, WantWaited, Binder}
use Rattle.mq_conn.specs.Conns.{IsConn}
use Rattle.mq_held.specs.declared.held.Held.{Held as HeldBy}
use Rattle.mq_held.specs.declared.held.PortSeat.{PortSeat}
use Rattle.mq_held.specs.Frames.{FrameGives}
use Rattle.mq_step.proofs.Wanting.{Mailed}
use Rattle.mq_step.specs.declared.stepped.Stepped.TheVariants as stepped
use Rattle.mq_step.specs.Notes.{SteppedWith, stepped_by}
use Rattle.mq_step.specs.Notes.{Quiet, Did, Ended, Noteless}
use Rattle.mq_step.specs.Holds.{ArePorts, IsHeld, IsKnown}
use Rattle.mq_step.specs.Sights.{Found, SeesPort, SeesPorts, SeesTable, idle, idle_link, PortGrows}
use Rattle.mq_step.specs.Whole.{Sees, link_if, filled}
use Rattle.mq_step.specs.Wanted.{WantDone, WantWaits, ActGives, SendsWait, ported}
use Rattle.mq_step.specs.Gives.{Turned, Asked, Gives, Anything, from_frame, from_write, from_read, receives_of}
use Rattle.mq_step.proofs.Counting.{link_same}
use Rattle.mq_step.proofs.Trying.{PortBetween, Between, mid, skip, first_true, receives_back, read_back, write_back}
use Rattle.mq_step.proofs.Framing.{whole, whole_told, same_link, drained, drains, frame_done, frame_stands, fits_link}
use Rattle.mq_step.proofs.Linking.{between_link}
use Rattle.mq_step.proofs.Failing.{became_link}
use Rattle.mq_step.proofs.Moving.{Moves, stay_all, seen_link, same_binds, link_behind, drained_stands}

-- ---- frames

module _ {L Q : Type 0} (link : L → Option Link) (past : L → LinkPast) (counts : L → LinkCounts) (most : Q → ℕ) (holds : Q → Option PortHolds) (port_counts : Q → PortCounts) (binds : Binder) (table : Slab Q)
    (old new : HeldBy L) (o n : Outside) (s : Held) where
  kept_link : (x : Moves link past counts most holds port_counts binds table old new o n s) → new.link ≡ old.link → n.link s.conn.number ≡ o.link s.conn.number
  kept_link x same =
      link_behind link past counts most holds port_counts binds table old new o n s x ∙ ap link same ∙ sym (seen_link link past counts most holds port_counts binds table old new o n s x).link

  pub frame_starves : (x : Moves link past counts most holds port_counts binds table old new o n s) → new.link ≡ old.link → (setup : Setup) (seen : Seen) (m : Mailed seen) (refused : NoMemory)
      → FrameGives (IsConn new.conn) s.conn (Err refused) → Gives setup from_frame SendsWait o n seen seen m.mail m.mail (IsHeld most table new) s (Err refused)
  frame_starves x same setup seen m refused gives = λ orders.
      let h : Held = filled o idle s in (
        drained o idle s h.link.pieces,
        drains from_frame SendsWait o n seen m orders s idle Frame false h.link.pieces (λ tunnel. (refl, refl)) (first_true h Frame (from_write h) gives.0) (λ is. absurd cc) refl
            (same_binds link past counts most holds port_counts binds table old new o n s x),
        (
          drained_stands link past counts most holds port_counts binds table old new o n s x idle h.link.pieces gives.1,
          whole_told o n idle s (starved s.conn) h.link refl (same_link o n s idle_link (kept_link x same)) (stay_all link past counts most holds port_counts binds table old new o n s x),
        ),
      )

  pub framed_gives : (x : Moves link past counts most holds port_counts binds table old new o n s) → new.link ≡ old.link → (setup : Setup) (seen : Seen) (m : Mailed seen) (told : Option Note)
      → is_some told ≡ true → FrameGives (IsConn new.conn) s.conn (Ok told)
      → Gives setup from_frame SendsWait o n seen seen m.mail m.mail (IsHeld most table new) s (Ok (stepped_by stepped.Did told))
  framed_gives x same setup seen m None some gives = absurd cc
  framed_gives x same setup seen m (Some said) some gives = λ orders.
      let t : Conn = gives.0 in
      let h : Held = filled o idle s in
      let held = frame_stands most table old new o s said t x.held x.wait gives.1 (ap (λ y. y.ports.items) x.rest) (ap (λ y. y.number) x.rest) (ap (λ y. y.bound) x.rest) gives.2 in
      let number : t.number ≡ s.conn.number = held.number ∙ ap (λ y. y.number) x.rest ∙ sym x.held.number in (
        whole o idle s t h.link,
        frame_done setup o n seen m orders s said t gives.1 (same_binds link past counts most holds port_counts binds table old new o n s x),
        (held, whole_told o n idle s t h.link number (same_link o n s idle_link (kept_link x same)) (stay_all link past counts most holds port_counts binds table old new o n s x)),
      )

same_between : (o : Outside) (s : Held) → Between o o.link_counts o.port_counts s
same_between o s = between_link o o.link_counts s (link_same (o.link_counts s.conn.number) (o.link_counts s.conn.number) refl) refl

pub frame_waits : (setup : Setup) (o n : Outside) (seen seen_after : Seen) (mail mail_after : Inboxes) (stands_for : Held → Type 0) (s : Held) (r : Result SteppedWith NoMemory) → framed s.conn ≡ None
    → Gives setup from_write SendsWait o n seen seen_after mail mail_after stands_for s r → Gives setup from_frame SendsWait o n seen seen_after mail mail_after stands_for s r
frame_waits setup o n seen seen_after mail mail_after stands_for s r none gives =
    skip o n o.link_counts o.port_counts setup Frame from_write SendsWait SendsWait seen seen_after mail mail_after stands_for s r (same_between o s)
    (λ f vain. ap (λ (d : Option (Note × Conn)). is_some d) none) (λ tunnel. (refl, refl)) (λ f vain. vain) (λ grows. none) (λ asked. asked) gives

-- ---- the want

pub vain_waits : (ports : List Port) (w : Want) → can_do ports w ≡ false → may_wait w ≡ true
vain_waits ports Nothing is = refl
vain_waits ports Say is = absurd cc
vain_waits ports (Bind stream goal) is = absurd cc
vain_waits ports (Ask asked) is = absurd cc
vain_waits ports (Judge tunnel k flow) is = absurd cc
vain_waits ports (Push parcel) is = absurd cc
vain_waits ports (Send tunnel k payload) is = refl
vain_waits ports (Over why) is = absurd cc

pub want_waits : (o n : Outside) (s : Held) (seen seen_after : Seen) (mail mail_after : Inboxes) → WantWaits o n seen seen_after mail mail_after s → may_wait (want_of s.conn) ≡ true
want_waits o n s seen seen_after mail mail_after w = vain_waits (ported o idle s).ports (want_of s.conn) (w.cannot idle (λ tunnel. (refl, refl)))

-- ---- what the outside tells once a want was in vain

-- the ports are as the outside told, with the counts that it tells then
told_ports : {Q : Type 0} (most : Q → ℕ) (holds : Q → Option PortHolds) (counts : Q → PortCounts) (table : Slab Q) (o n : Outside) (lc : ℕ → LinkCounts) (seats : List PortSeat) (ports : List Port)
    → ArePorts most table seats ports → All (λ (p : Port). n.port p.tunnel ≡ o.port p.tunnel) ports → SeesPorts holds counts table n seats → SeesPorts holds counts table (mid o lc n.port_counts) seats
told_ports most holds counts table o n lc [] ports are told sees = All-nil (SeesPort holds counts table (mid o lc n.port_counts))
told_ports most holds counts table o n lc (seat ∷ seats) [] are told sees = absurd are
told_ports most holds counts table o n lc (seat ∷ seats) (p ∷ ports) are told sees =
    let here = All-head (SeesPort holds counts table n) seat seats sees in
    let same = All-head (λ (q : Port). n.port q.tunnel ≡ o.port q.tunnel) p ports told in
    All-cons (SeesPort holds counts table (mid o lc n.port_counts)) seat seats
    (λ port at. (ap o.port (sym are.0.tunnel) ∙ sym same ∙ ap n.port are.0.tunnel ∙ (here port at).0, (here port at).1))
    (told_ports most holds counts table o n lc seats ports are.1 (All-tail (λ (q : Port). n.port q.tunnel ≡ o.port q.tunnel) p ports told) (All-tail (SeesPort holds counts table n) seat seats sees))

between_ports : (o n : Outside) (ports : List Port) → All (λ (p : Port). PortGrows (o.port_counts p.tunnel) (n.port_counts p.tunnel)) ports
    → All (λ (p : Port). (n.port_counts p.tunnel).faults ≡ (o.port_counts p.tunnel).faults) ports → All (PortBetween o n.port_counts) ports
between_ports o n [] grow work = All-nil (PortBetween o n.port_counts)
between_ports o n (p ∷ ports) grow work =
    let G : Port → Type 0 = λ q. PortGrows (o.port_counts q.tunnel) (n.port_counts q.tunnel) in
    let W : Port → Type 0 = λ q. (n.port_counts q.tunnel).faults ≡ (o.port_counts q.tunnel).faults in
    All-cons (PortBetween o n.port_counts) p ports (record { grows = All-head G p ports grow; faults = All-head W p ports work })
    (between_ports o n ports (All-tail G p ports grow) (All-tail W p ports work))

pub want_between : (o n : Outside) (seen seen_after : Seen) (mail mail_after : Inboxes) (s : Held) → WantWaits o n seen seen_after mail mail_after s → Between o o.link_counts n.port_counts s
want_between o n seen seen_after mail mail_after s w = record {
  link = link_same (o.link_counts s.conn.number) (o.link_counts s.conn.number) refl;
  link_faults = refl;
  ports = between_ports o n s.ports w.grows w.works;
}

pub want_sight : {L Q : Type 0} (link : L → Option Link) (link_counts : L → LinkCounts) (most : Q → ℕ) (holds : Q → Option PortHolds) (counts : Q → PortCounts) (binds binds_after : Binder) (table after : Slab Q) (old new : HeldBy L)
    (o n : Outside) (seen seen_after : Seen) (mail mail_after : Inboxes) (s : Held) → Sees link link_counts holds counts binds table old o → new.number ≡ old.number → new.link ≡ old.link → IsHeld most after new s
    → WantWaits o n seen seen_after mail mail_after s → SeesTable holds counts binds_after after new.ports.items n → Sees link link_counts holds counts binds_after after new (mid o o.link_counts n.port_counts)
want_sight link link_counts most holds counts binds binds_after table after old new o n seen seen_after mail mail_after s sees number same held w sn = record {
  of_link = record {
    link_is = ap o.link number ∙ sees.of_link.link_is ∙ ap link (sym same);
    counts_are = ap o.link_counts number ∙ sees.of_link.counts_are ∙ ap link_counts (sym same);
  };
  of_table = record {
    ports = told_ports most holds counts after o n o.link_counts new.ports.items s.ports held.ports w.told sn.ports;
    binds_are = sym w.binds ∙ sn.binds_are;
  };
}

-- what was asked is asked, seen from before
frame_back : (o n : Outside) (lc : ℕ → LinkCounts) (pc : ℕ → PortCounts) (s : Held) → Between o lc pc s → All (Asked (mid o lc pc) n s) (from_frame s) → All (Asked o n s) (from_frame s)
frame_back o n lc pc s between asked =
    let A : Try → Type 0 = Asked (mid o lc pc) n s in
    let B : Try → Type 0 = Asked o n s in
    let one = All-tail A Frame (from_write s) asked in
    let two = All-tail A Write (from_read s) one in
    All-cons B Frame (from_write s) (All-head A Frame (from_write s) asked)
    (All-cons B Write (from_read s) (write_back o n lc pc s between (All-head A Write (from_read s) one))
    (All-cons B Read (receives_of s) (read_back o n lc pc s between (All-head A Read (receives_of s) two)) (receives_back o n lc pc s s.ports between.ports (All-tail A Read (receives_of s) two))))

-- the want was asked, and the counts went on from there
want_asked : {L Q : Type 0} (most : Q → ℕ) (table : Slab Q) (h : HeldBy L) (o m n : Outside) (s : Held) (w : Want) → IsHeld most table h s → want_of s.conn ≡ w → WantWaited o m w
    → All (λ (p : Port). PortGrows (m.port_counts p.tunnel) (n.port_counts p.tunnel)) s.ports → WantWaited o n w
want_asked most table h o m n s Nothing held want asked grow = tt
want_asked most table h o m n s Say held want asked grow = asked
want_asked most table h o m n s (Bind stream goal) held want asked grow = asked
want_asked most table h o m n s (Ask called) held want asked grow = asked
want_asked most table h o m n s (Judge tunnel k flow) held want asked grow = asked
want_asked most table h o m n s (Push parcel) held want asked grow = asked
want_asked most table h o m n s (Over why) held want asked grow = asked
want_asked most table h o m n s (Send tunnel k payload) held want asked grow =
    let one = the_mine most table h s tunnel k payload held want in
    let G : Port → Type 0 = λ q. PortGrows (m.port_counts q.tunnel) (n.port_counts q.tunnel) in
    let I : ℕ → Type 0 = λ i. PortGrows (m.port_counts i) (n.port_counts i) in
    let here = subst I one.of_port (at_all G s.ports grow one.place one.p one.at_port) in
    rose_then (o.port_counts tunnel).send_waits (m.port_counts tunnel).send_waits (n.port_counts tunnel).send_waits asked here.send_waits

pub quiet_gives : {L Q : Type 0} (most : Q → ℕ) (table : Slab Q) (h : HeldBy L) (setup : Setup) (o m n : Outside) (seen seen_mid seen_after : Seen) (mail mail_mid mail_after : Inboxes) (stands_for : Held → Type 0) (s : Held) (r : Result SteppedWith NoMemory)
    → IsHeld most table h s → WantWaits o m seen seen_mid mail mail_mid s → Gives setup from_frame SendsWait (mid o o.link_counts m.port_counts) n seen_mid seen_after mail_mid mail_after stands_for s r
    → Gives setup tries_of Anything o n seen seen_after mail mail_after stands_for s r
quiet_gives most table h setup o m n seen seen_mid seen_after mail mail_mid mail_after stands_for s r held w gives =
    let between = want_between o m seen seen_mid mail mail_mid s w in
    let S : Seen → Type 0 = λ x. Gives setup from_frame SendsWait (mid o o.link_counts m.port_counts) n x seen_after mail_mid mail_after stands_for s r in
    let M : Inboxes → Type 0 = λ x. Gives setup from_frame SendsWait (mid o o.link_counts m.port_counts) n seen seen_after x mail_after stands_for s r in
    skip o n o.link_counts m.port_counts setup Act from_frame SendsWait Anything seen seen_after mail mail_after stands_for s r between
    (λ f vain. w.cannot f vain) (λ tunnel. (refl, refl)) (λ f vain. tt)
    (λ grows. want_asked most table h o m n s (want_of s.conn) held refl w.asked grows.ports)
    (frame_back o n o.link_counts m.port_counts s between) (subst M w.mail_is (subst S w.seen_is gives))

-- ---- the want was done

-- the connection on its link with what was told, or else an idle one
abbrev pub linked : Outside → Held → Held
linked o s = record s { link = link_if (o.link s.conn.number) idle_link }

-- what was found of its ports, with an idle link
abbrev pub at_ports : Found → Found
at_ports f = record { link = idle_link; port = f.port }

module _ {L Q : Type 0} (most : Q → ℕ) (after : Slab Q) (new : HeldBy L) (o n : Outside) (s : Held) where
  linked_told : (t : Held) → n.link new.number ≡ o.link s.conn.number → IsHeld most after new t → t.link ≡ (linked o s).link → IsTold (n.link t.conn.number) t.link
  linked_told t same stands_for is =
      let P : Option Link → Type 0 = λ a. IsTold a (linked o s).link in
      let R : Link → Type 0 = λ x. IsTold (n.link t.conn.number) x in
      subst R (sym is) (subst P (sym (ap n.link stands_for.number ∙ same)) (told_link (o.link s.conn.number) idle_link))

  turned : (setup : Setup) (seen seen_after : Seen) (mail mail_after : Inboxes) (orders : Orders) (said : Note) (t : Option Held) → WantDone o n seen seen_after mail mail_after orders (linked o s) said t
      → Turned setup tries_of Anything o n seen seen_after mail mail_after orders s said t
  turned setup seen seen_after mail mail_after orders said t x = record {
    found = at_ports x.found;
    vain_is = tt;
    try = Act;
    answer = x.answer;
    sh = x.sh;
    after = x.after;
    became = x.became;
    is = first_true (filled o (at_ports x.found) s) Act (from_frame (filled o (at_ports x.found) s)) x.can;
    shares = x.shares;
    faults = record {
      link = λ none is. fits_link (o.link s.conn.number) idle_link (Rose (o.link_counts s.conn.number).faults (n.link_counts s.conn.number).faults) refl refl none is;
      ports = x.faults;
    };
    binds = x.binds;
    next = x.next;
    then = x.then;
  }

  pub act_gives : (setup : Setup) (seen seen_after : Seen) (mail mail_after : Inboxes) (r : Result SteppedWith NoMemory) → n.link new.number ≡ o.link s.conn.number → (r ≡ Ok Quiet → ⊥)
      → ActGives o n seen seen_after mail mail_after (IsHeld most after new) (linked o s) r → Gives setup tries_of Anything o n seen seen_after mail mail_after (IsHeld most after new) s r
  act_gives setup seen seen_after mail mail_after (Ok Quiet) same loud gives = absurd (loud refl)
  act_gives setup seen seen_after mail mail_after (Ok (Did said)) same loud gives = λ orders.
      let d = gives orders in
      let link = became_link (ported o d.1.found (linked o s)) d.1.answer said d.1.became d.0 n d.1.next.is d.1.then in
      (d.0, turned setup seen seen_after mail mail_after orders said (Some d.0) d.1, (d.2, record { link = linked_told d.0 same d.2 link; ports = d.3 }))
  act_gives setup seen seen_after mail mail_after (Ok (Ended said)) same loud gives = λ orders. turned setup seen seen_after mail mail_after orders said None (gives orders)
  act_gives setup seen seen_after mail mail_after (Ok Noteless) same loud gives = gives
  act_gives setup seen seen_after mail mail_after (Err refused) same loud gives = λ orders.
      let d = gives orders in
      let x = d.1 in (
        d.0,
        record {
          found = at_ports x.found;
          vain_is = tt;
          try = Act;
          answer = x.answer;
          sh = x.sh;
          after = x.after;
          reached = record { took = false; asked = x.asked };
          pieces = (linked o s).link.pieces;
          tunnels = x.tunnels;
          is = first_true (filled o (at_ports x.found) s) Act (from_frame (filled o (at_ports x.found) s)) x.can;
          shares = x.shares;
          takes = λ is. x.takes;
          leaves = refl;
          heard = x.heard;
          binds = x.binds;
          then = x.then;
        },
        (d.2, record { link = linked_told d.0 same d.2 (ap (λ (y : Held). y.link) x.then); ports = d.3 }),
      )

-- ---- a call of the core alone

pub link_rest : {L : Type 0} (old new : HeldBy L) → new ≡ record old { conn = new.conn } → new ≡ record old { conn = new.conn; link = new.link }
link_rest {L} old new rest = rest ∙ ap {B = HeldBy L} (λ (l : L). record old { conn = new.conn; link = l }) (sym (ap (λ h. h.link) rest))

pub same_sight : {L Q : Type 0} (link : L → Option Link) (counts : L → LinkCounts) (holds : Q → Option PortHolds) (port_counts : Q → PortCounts) (binds : Binder) (table : Slab Q) (old new : HeldBy L) (o : Outside)
    → Sees link counts holds port_counts binds table old o → new ≡ record old { conn = new.conn } → Sees link counts holds port_counts binds table new o
same_sight {L} {Q} link counts holds port_counts binds table old new o sees rest =
    let P : HeldBy L → Type 0 = λ h. Sees link counts holds port_counts binds table h o in
    let here : P (record old { conn = new.conn }) = record {
      of_link = record { link_is = sees.of_link.link_is; counts_are = sees.of_link.counts_are };
      of_table = record { ports = sees.of_table.ports; binds_are = sees.of_table.binds_are };
    } in
    subst P (sym rest) here

-- an outside that tells nothing
abbrev pub silent : Outside
silent = record {
  link = λ conn. None;
  link_counts = λ conn. no_link_counts;
  port = λ tunnel. None;
  port_counts = λ tunnel. no_port_counts;
  binds = record { holds = None; faults = 0 };
}

-- with the link of a state that has what is told of it, it is the same connection
pub linked_held : {L Q : Type 0} (most : Q → ℕ) (table : Slab Q) (h : HeldBy L) (o : Outside) (s : Held) → IsHeld most table h s → IsHeld most table h (linked o s)
linked_held most table h o s held = record { conn = held.conn; number = held.number; ports = held.ports; apart = held.apart; served = held.served; bound = held.bound; room = held.room }

pub known_then : (seen after : Seen) (actor who : ℕ) (s : Held) → IsKnown seen actor s → after ≡ seen → who ≡ actor → IsKnown after who s
known_then seen after actor who s known same mine =
    let P : Seen → Type 0 = λ x. IsKnown x who s in
    let Q : ℕ → Type 0 = λ x. IsKnown seen x s in
    subst P (sym same) (subst Q (sym mine) known)

-- the book keeps its configuration
pub config_stays : (old new : Outside) (seen seen_after : Seen) (mail mail_after : Inboxes) (stands : Held → Type 0) (s : Held) (r : Result SteppedWith NoMemory) → ActGives old new seen seen_after mail mail_after stands s r
    → seen_after.config ≡ seen.config
config_stays old new seen seen_after mail mail_after stands s (Ok Quiet) gives = ap (λ (x : Seen). x.config) gives.0.seen_is
config_stays old new seen seen_after mail mail_after stands s (Ok (Did note)) gives = (gives (record { bind = false })).1.shares.same.config
config_stays old new seen seen_after mail mail_after stands s (Ok (Ended note)) gives = (gives (record { bind = false })).shares.same.config
config_stays old new seen seen_after mail mail_after stands s (Ok Noteless) gives = absurd gives
config_stays old new seen seen_after mail mail_after stands s (Err refused) gives = (gives (record { bind = false })).1.shares.same.config
