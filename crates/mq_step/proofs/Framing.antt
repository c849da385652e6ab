-- A connection framed, wrote or read something; or was refused memory for that.
use Rattle.std.proofs.Common.{◌≡◌, ℕ, Bool, true, false, List, map, All, Option, Some, None, refl, sym, ap, subst, ◌∙◌}
use Rattle.std.specs.Prelude.{◌||◌, option_map, is_some}
use Rattle.slab.specs.Slab.{Slab}
use Rattle.mq_talk.specs.declared.goal.Goal.TheVariants as goal
use Rattle.mq_talk.specs.declared.note.Note.{Note}
use Rattle.mq_talk.specs.Mails.{IsTold}
use Rattle.mq_talk.specs.Offices.{Seen}
use Rattle.mq_machine.specs.declared.setup.Setup.{Setup}
use Rattle.mq_machine.specs.State.{Conn, Link, Held, Orders, Shared}
use Rattle.mq_machine.specs.Want.{Want, Nothing, Say, Bind, Ask, Judge, Push, Send, Over, Said, want_of, may_wait}
use Rattle.mq_machine.specs.Steps.{framed, starved}
use Rattle.mq_machine.specs.Silent.{Reached, Leaves, may_starve}
use Rattle.mq_machine.specs.Turn.{Try, Act, Frame, with_conn}
use Rattle.mq_machine.specs.Acting.{Outside, Rose}
use Rattle.mq_conn.specs.declared.conn.Conn.{Conn as Core}
use Rattle.mq_conn.specs.Conns.{IsConn}
use Rattle.mq_held.specs.declared.held.Held.{Held as HeldBy}
use Rattle.mq_held.specs.declared.held.PortSeat.{PortSeat}
use Rattle.mq_held.specs.Answers.{KeepsPorts}
use Rattle.mq_step.specs.Holds.{ArePorts, AreServed, IsBound, IsHeld}
use Rattle.mq_step.specs.Sights.{Found, filled_port, idle}
use Rattle.mq_step.specs.Whole.{link_if, filled, IsAsTold, FaultsFit}
use Rattle.mq_step.specs.Gives.{Tries, InVain, first_of, Turned, Starved, from_frame, from_write}
use Rattle.mq_step.specs.Wanted.{SendsWait}
use Rattle.mq_step.proofs.Filling.{are_filled, are_kept, StaysTold, filled_told, FailsNot, none_fails, served_any, served_filled, alive_served}
use Rattle.mq_step.proofs.Wanting.{Mailed, shared_by, shares_same}
use Rattle.mq_step.proofs.Keeping.{NoOpens, framed_keeps, framed_goes_on}
use Rattle.mq_step.proofs.Cores.{none_opens, go_on_opens}
use Rattle.mq_step.proofs.Taking.{go_alive, waits_unopened}
use Rattle.mq_step.proofs.Standing.{stands, same_apart}
use Rattle.mq_step.proofs.Doing.{idle_works}
use Rattle.mq_step.proofs.Trying.{first_true}

-- ---- a connection that waits for its client, or for its port

waits_bound : {Q : Type 0} (most : Q → ℕ) (table : Slab Q) (seats : List PortSeat) (w : Want) (bound : Option ℕ) → may_wait w ≡ true → IsBound most table seats w bound → bound ≡ None
waits_bound most table seats Nothing bound wait is = is
waits_bound most table seats Say bound wait is = absurd cc
waits_bound most table seats (Bind stream goal) bound wait is = absurd cc
waits_bound most table seats (Ask call) bound wait is = absurd cc
waits_bound most table seats (Judge tunnel n flow) bound wait is = absurd cc
waits_bound most table seats (Push parcel) bound wait is = absurd cc
waits_bound most table seats (Send tunnel n payload) bound wait is = is
waits_bound most table seats (Over why) bound wait is = absurd cc

pub still_bound : {L Q : Type 0} (most : Q → ℕ) (table : Slab Q) (h : HeldBy L) (s : Held) → IsHeld most table h s → may_wait (want_of s.conn) ≡ true → h.bound ≡ None
still_bound most table h s held wait = waits_bound most table h.ports.items (want_of s.conn) h.bound wait held.bound

pub still_opens : (c : Core) (s : Conn) → IsConn c s → may_wait (want_of s) ≡ true → NoOpens s.due
still_opens c s is wait = none_opens c s is (λ conn id actor addr port want. waits_unopened (want_of s) wait conn id actor (goal.Udp addr port) want)

-- ---- what is left, and for which state it stands

-- the connection with what is told or found, another core and another link
abbrev pub whole : Outside → Found → Held → Conn → Link → Held
whole o f s t link = record { conn = t; link = link; ports = map (filled_port o f) s.ports }

pub whole_stands : {L Q : Type 0} (most : Q → ℕ) (table after : Slab Q) (h g : HeldBy L) (o : Outside) (f : Found) (s : Held) (t : Conn) (link : Link) → IsHeld most table h s → KeepsPorts table after
    → g.ports.items ≡ h.ports.items → g.number ≡ h.number → g.bound ≡ None → t.number ≡ s.conn.number → NoOpens t.due → AreServed t.ending t.tunnels s.ports → IsConn g.conn t
    → IsHeld most after g (whole o f s t link)
whole_stands most table after h g o f s t link held keeps seats number bound same opens served conn =
    let A : List PortSeat → Type 0 = λ xs. ArePorts most after xs (map (filled_port o f) s.ports) in
    stands most after g (whole o f s t link) conn (same ∙ held.number ∙ sym number)
    (subst A (sym seats) (are_filled most after o f h.ports.items s.ports (are_kept most table after h.ports.items s.ports keeps held.ports)))
    (same_apart h.ports.items g.ports.items seats held.apart)
    (served_filled o f t.ending t.tunnels s.ports served) opens bound

pub told_link : (told : Option Link) (found : Link) → IsTold told (link_if told found)
told_link None found = tt
told_link (Some link) found = refl

pub whole_told : (o n : Outside) (f : Found) (s : Held) (t : Conn) (link : Link) → t.number ≡ s.conn.number → IsTold (n.link s.conn.number) link → All (StaysTold o n) s.ports → IsAsTold n (whole o f s t link)
whole_told o n f s t link same told stay =
    let P : ℕ → Type 0 = λ i. IsTold (n.link i) link in
    record { link = subst P (sym same) told; ports = filled_told o n f s.ports stay }

pub same_link : (o n : Outside) (s : Held) (found : Link) → n.link s.conn.number ≡ o.link s.conn.number → IsTold (n.link s.conn.number) (link_if (o.link s.conn.number) found)
same_link o n s found same = let P : Option Link → Type 0 = λ told. IsTold told (link_if (o.link s.conn.number) found) in subst P (sym same) (told_link (o.link s.conn.number) found)

-- nothing of what was found fails, of the link either
pub fits_link : (told : Option Link) (found : Link) (F : Type 0) → found.read_fails ≡ false → found.write_fails ≡ false → told ≡ None
    → (link_if told found).read_fails || (link_if told found).write_fails ≡ true → F
fits_link None found F reads writes none fails = absurd (both found.read_fails found.write_fails reads writes fails) where
  both : (a b : Bool) → a ≡ false → b ≡ false → a || b ≡ true → ⊥
  both false false p q is = cc
  both true b p q is = cc
  both false true p q is = cc
fits_link (Some link) found F reads writes none fails = absurd cc

pub whole_fits : (o n : Outside) (f : Found) (s : Held) → f.link.read_fails ≡ false → f.link.write_fails ≡ false → FailsNot f → FaultsFit o n (filled o f s)
whole_fits o n f s reads writes works = record {
  link = λ none is. fits_link (o.link s.conn.number) f.link (Rose (o.link_counts s.conn.number).faults (n.link_counts s.conn.number).faults) reads writes none is;
  ports = none_fails o n f s.ports works;
}

-- ---- memory was refused

abbrev pub reaching : Bool → Reached
reaching took = record { took = took; asked = false }

-- the connection that is ending for want of memory
abbrev pub drained : Outside → Found → Held → List (List ℕ) → Held
drained o f s pieces = whole o f s (starved s.conn) (record (filled o f s).link { pieces = pieces })

pub drains : (tries : Tries) (vain : InVain) (o n : Outside) (seen : Seen) (m : Mailed seen) (orders : Orders) (s : Held) (f : Found) (t : Try) (took : Bool) (pieces : List (List ℕ))
    → vain f → first_of tries (filled o f s) ≡ Some t → (t ≡ Act → may_starve (want_of s.conn) ≡ true) → Leaves took t (filled o f s).link.pieces pieces → n.binds.holds ≡ o.binds.holds
    → Starved tries vain o n seen seen m.mail m.mail orders s (drained o f s pieces)
drains tries vain o n seen m orders s f t took pieces vain_is is takes leaves same =
    let sh : Shared = shared_by seen seen.entries m.boxes orders in
    record {
      found = f;
      vain_is = vain_is;
      try = t;
      answer = Said;
      sh = sh;
      after = sh;
      reached = reaching took;
      pieces = pieces;
      tunnels = s.conn.tunnels;
      is = is;
      shares = shares_same seen seen m orders refl;
      takes = takes;
      leaves = leaves;
      heard = (refl, refl, refl);
      binds = same;
      then = refl;
    }

-- ---- a frame

pub frame_done : (setup : Setup) (o n : Outside) (seen : Seen) (m : Mailed seen) (orders : Orders) (s : Held) (said : Note) (t : Conn) → framed s.conn ≡ Some (said, t) → n.binds.holds ≡ o.binds.holds
    → Turned setup from_frame SendsWait o n seen seen m.mail m.mail orders s said (Some (whole o idle s t (filled o idle s).link))
frame_done setup o n seen m orders s said t is same =
    let h : Held = filled o idle s in
    let sh : Shared = shared_by seen seen.entries m.boxes orders in
    record {
      found = idle;
      vain_is = λ tunnel. (refl, refl);
      try = Frame;
      answer = Said;
      sh = sh;
      after = sh;
      became = Some (whole o idle s t h.link);
      is = first_true h Frame (from_write h) (ap (λ (d : Option (Note × Conn)). is_some d) is);
      shares = shares_same seen seen m orders refl;
      faults = whole_fits o n idle s refl refl idle_works;
      binds = same;
      next = record { said = refl; is = ap (λ (d : Option (Note × Conn)). option_map (with_conn h) d) is; after_is = refl };
      then = refl;
    }

pub frame_stands : {L Q : Type 0} (most : Q → ℕ) (table : Slab Q) (h g : HeldBy L) (o : Outside) (s : Held) (said : Note) (t : Conn) → IsHeld most table h s → may_wait (want_of s.conn) ≡ true
    → framed s.conn ≡ Some (said, t) → g.ports.items ≡ h.ports.items → g.number ≡ h.number → g.bound ≡ h.bound → IsConn g.conn t → IsHeld most table g (whole o idle s t (filled o idle s).link)
frame_stands most table h g o s said t held wait is seats number bound conn =
    let go = framed_goes_on s.conn t said is in
    let k = framed_keeps s.conn t said (go_on_opens h.conn s.conn held.conn go) is in
    let alive = alive_served s.conn.ending s.conn.tunnels s.ports (go_alive s.conn go) held.served in
    whole_stands most table table h g o idle s t (filled o idle s).link held (λ key port at. at) seats number (bound ∙ still_bound most table h s held wait) k.0 k.2
    (served_any t.ending t.tunnels s.ports (alive ∙ sym k.3)) conn
