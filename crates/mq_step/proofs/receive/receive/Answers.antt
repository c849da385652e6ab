use Rattle.std.proofs.Common.{rules, ◌≡◌, ℕ, ◌+◌, suc, List, length, slice_get, Result, Ok, Err, refl, sym, ap, subst, ◌∙◌, arith}
use Rattle.std.specs.Vec.{vec_len}
use Rattle.mq_wire.specs.declared.NoMemory.{NoMemory}
use Rattle.mq_talk.specs.Mails.{Inboxes}
use Rattle.mq_talk.specs.Offices.{Seen}
use Rattle.mq_machine.specs.Acting.{binder}
use Rattle.mq_held.specs.declared.held.Held.{Held as HeldBy}
use Rattle.mq_held.specs.declared.held.PortSeat.{PortSeat}
use Rattle.mq_step.specs.Notes.{SteppedWith, Quiet, stepped_by}
use Rattle.mq_step.specs.Holds.{IsHeld}
use Rattle.mq_step.specs.Sights.{SeesPorts}
use Rattle.mq_step.specs.Gives.{Gives, Waited, ReceivesWait, receives_of, receive_alone}
use Rattle.mq_step.proofs.Others.{keeps_both}
use Rattle.mq_step.proofs.Trying.{mid}
use Rattle.mq_step.proofs.Stepping.{known_then}
use Rattle.mq_step.proofs.Passing.{PassedTo, passed_none, passed_next, there_at, counts_now, sees_mid, seat_gives, all_waited, err_gives}
use Rattle.mq_step.proofs.Noting.{loud_by}
use Rattle.mq_step.proofs.receive.receive.Goals as goal

pub loop-place-init : goal.loop-place-init
loop-place-init g c = record {
  rooms = c.requires.rooms;
  rest = refl;
  stays = refl;
  still = λ s held wait. held;
  apart = c.requires.known.1.apart;
  calm = (refl, refl, refl);
  inboxes = c.requires.inboxes;
  mail = (refl, refl, refl);
  actor = refl;
  others = λ key port at other. (at, other);
  sound = λ is. is;
  balanced = λ is. is;
  passed = passed_none g.P.P.Port.holds g.P.P.Port.past g.P.P.Port.counts c.args.table.now.table c.args.held.now.ports.items;
}

pub receive_at-requires-clause-known : goal.receive_at-requires-clause-known
receive_at-requires-clause-known g c =
    let k = c.requires.known in
    let i = c.loop-place.invariant in
    let seen = g.O.Office.seen c.args.office.now in
    let now = g.O.Office.seen c.loop-place.office in
    (k.0, i.still k.0 k.1 k.3, known_then seen now seen.actor now.actor k.0 k.2 i.calm.0 i.actor, k.3)

pub receive_at-requires-clause-rooms : goal.receive_at-requires-clause-rooms
receive_at-requires-clause-rooms g c = c.loop-place.invariant.rooms

pub receive_at-requires-clause-inboxes : goal.receive_at-requires-clause-inboxes
receive_at-requires-clause-inboxes g c = c.loop-place.invariant.inboxes

pub receive_at-requires-clause-pump : goal.receive_at-requires-clause-pump
receive_at-requires-clause-pump g c = c.requires.pump ∙ ap (λ (seen : Seen). seen.config.workers) (sym c.loop-place.invariant.calm.0)

pub returns-in_err-stepped-clause-gives : goal.returns-in_err-stepped-clause-gives
returns-in_err-stepped-clause-gives g c = λ o n so sn s held wait setup.
    let old = c.args.held.now in
    let mid_held = c.loop-place.held in
    let table = c.args.table.now.table in
    let most = g.P.P.Port.most in
    let holds = g.P.P.Port.holds in
    let counts = g.P.P.Port.counts in
    let i = c.loop-place.invariant in
    let len : vec_len old.ports ≡ length old.ports.items = search rules in
    let end = c.len-place-end.ensures in
    let lt = c.loop-place-test.true in
    let seat = there_at old.ports.items c.loop-place.place (omega (arith, len, end, lt)) in
    let there = ap (λ (xs : List PortSeat). slice_get xs c.loop-place.place) i.stays ∙ seat.1 in
    let new = c.receive_at.new.held in
    let after = c.receive_at.new.table in
    let office = c.receive_at.new.office in
    let pc = counts_now most holds g.P.P.Port.past counts table c.loop-place.table.table old o s c.loop-place.place held so.of_table.ports i.passed in
    let sees = sees_mid most holds g.P.P.Port.past counts table c.loop-place.table.table old o s c.loop-place.place held so.of_table.ports i.passed g.L.Link.holds g.L.Link.counts
    (binder g.P.Ports.holds g.P.Ports.faults c.loop-place.table.ports) mid_held (ap (λ h. h.number) i.rest) (ap (λ h. h.link) i.rest) i.stays so.of_link (so.of_table.binds_are ∙ sym i.calm.1) in
    let E : Seen → Type 0 = λ x. Gives setup (receive_alone seat.0.tunnel) (ReceivesWait seat.0.tunnel) (mid o o.link_counts pc) n x (g.O.Office.seen office) (g.M.Mail.boxes c.args.mail.now) (g.M.Mail.boxes c.receive_at.new.mail) (IsHeld most after.table new) s (Err c.in_err-stepped.field-0.0) in
    let B : Inboxes → Type 0 = λ x. Gives setup (receive_alone seat.0.tunnel) (ReceivesWait seat.0.tunnel) (mid o o.link_counts pc) n (g.O.Office.seen c.loop-place.office) (g.O.Office.seen office) x (g.M.Mail.boxes c.receive_at.new.mail) (IsHeld most after.table new) s (Err c.in_err-stepped.field-0.0) in
    let gives = subst E i.calm.0 (subst B i.calm.2 (c.in_err-stepped.ensures.gives (mid o o.link_counts pc) n sees sn s (i.still s held wait) wait setup seat.0 there)) in
    err_gives setup o n (g.O.Office.seen c.args.office.now) (g.O.Office.seen office) (g.M.Mail.boxes c.args.mail.now) (g.M.Mail.boxes c.receive_at.new.mail) (IsHeld most after.table new) s c.in_err-stepped.field-0.0 c.from_residual.result c.receive_at.new.told c.from_residual.ensures.0
    (seat_gives most holds g.P.P.Port.past counts table c.loop-place.table.table old o s c.loop-place.place held so.of_table.ports i.passed seat.0 seat.1 setup n (g.O.Office.seen c.args.office.now) (g.O.Office.seen office) (g.M.Mail.boxes c.args.mail.now) (g.M.Mail.boxes c.receive_at.new.mail)
    (IsHeld most after.table new) (Err c.in_err-stepped.field-0.0) (λ is. absurd cc) gives)

pub returns-in_err-stepped-clause-rest : goal.returns-in_err-stepped-clause-rest
returns-in_err-stepped-clause-rest g c = c.in_err-stepped.ensures.rest ∙ ap (λ (h : HeldBy g.row.L.Denot). record h { conn = c.receive_at.new.held.conn; ports = c.receive_at.new.held.ports; bound = c.receive_at.new.held.bound }) c.loop-place.invariant.rest

pub returns-in_err-stepped-clause-actor : goal.returns-in_err-stepped-clause-actor
returns-in_err-stepped-clause-actor g c = c.in_err-stepped.ensures.actor ∙ c.loop-place.invariant.actor

pub returns-in_err-stepped-clause-others : goal.returns-in_err-stepped-clause-others
returns-in_err-stepped-clause-others g c = keeps_both c.args.held.now c.loop-place.held c.receive_at.new.held c.args.table.now.table c.loop-place.table.table c.receive_at.new.table.table c.loop-place.invariant.others c.in_err-stepped.ensures.others

pub returns-in_err-stepped-clause-balanced : goal.returns-in_err-stepped-clause-balanced
returns-in_err-stepped-clause-balanced g c = λ is. c.in_err-stepped.ensures.balanced (c.loop-place.invariant.balanced is)

pub returns-in_default : goal.returns-in_default
returns-in_default g c = record {
  gives = λ o n so sn s held wait setup.
      let old = c.args.held.now in
      let mid_held = c.loop-place.held in
      let table = c.args.table.now.table in
      let most = g.P.P.Port.most in
      let holds = g.P.P.Port.holds in
      let counts = g.P.P.Port.counts in
      let i = c.loop-place.invariant in
      let len : vec_len old.ports ≡ length old.ports.items = search rules in
      let end = c.len-place-end.ensures in
      let lt = c.loop-place-test.true in
      let seat = there_at old.ports.items c.loop-place.place (omega (arith, len, end, lt)) in
      let there = ap (λ (xs : List PortSeat). slice_get xs c.loop-place.place) i.stays ∙ seat.1 in
      let new = c.receive_at.new.held in
      let after = c.receive_at.new.table in
      let office = c.receive_at.new.office in
      let pc = counts_now most holds g.P.P.Port.past counts table c.loop-place.table.table old o s c.loop-place.place held so.of_table.ports i.passed in
      let sees = sees_mid most holds g.P.P.Port.past counts table c.loop-place.table.table old o s c.loop-place.place held so.of_table.ports i.passed g.L.Link.holds g.L.Link.counts
      (binder g.P.Ports.holds g.P.Ports.faults c.loop-place.table.ports) mid_held (ap (λ h. h.number) i.rest) (ap (λ h. h.link) i.rest) i.stays so.of_link (so.of_table.binds_are ∙ sym i.calm.1) in
      let E : Seen → Type 0 = λ x. Gives setup (receive_alone seat.0.tunnel) (ReceivesWait seat.0.tunnel) (mid o o.link_counts pc) n x (g.O.Office.seen office) (g.M.Mail.boxes c.args.mail.now) (g.M.Mail.boxes c.receive_at.new.mail) (IsHeld most after.table new) s (Ok (stepped_by c.in_ok-stepped.stepped c.receive_at.new.told)) in
      let B : Inboxes → Type 0 = λ x. Gives setup (receive_alone seat.0.tunnel) (ReceivesWait seat.0.tunnel) (mid o o.link_counts pc) n (g.O.Office.seen c.loop-place.office) (g.O.Office.seen office) x (g.M.Mail.boxes c.receive_at.new.mail) (IsHeld most after.table new) s (Ok (stepped_by c.in_ok-stepped.stepped c.receive_at.new.told)) in
      let gives = subst E i.calm.0 (subst B i.calm.2 (c.in_ok-stepped.ensures.gives (mid o o.link_counts pc) n sees sn s (i.still s held wait) wait setup seat.0 there)) in
      seat_gives most holds g.P.P.Port.past counts table c.loop-place.table.table old o s c.loop-place.place held so.of_table.ports i.passed seat.0 seat.1 setup n (g.O.Office.seen c.args.office.now) (g.O.Office.seen office) (g.M.Mail.boxes c.args.mail.now) (g.M.Mail.boxes c.receive_at.new.mail)
      (IsHeld most after.table new) (Ok (stepped_by c.in_ok-stepped.stepped c.receive_at.new.told)) (λ is. loud_by c.in_ok-stepped.stepped c.receive_at.new.told c.in_default.not-Quiet (same_ok (stepped_by c.in_ok-stepped.stepped c.receive_at.new.told) Quiet is)) gives;
  rest = c.in_ok-stepped.ensures.rest ∙ ap (λ (h : HeldBy g.row.L.Denot). record h { conn = c.receive_at.new.held.conn; ports = c.receive_at.new.held.ports; bound = c.receive_at.new.held.bound }) c.loop-place.invariant.rest;
  ends = λ is. c.in_ok-stepped.ensures.ends is ∙ c.loop-place.invariant.stays;
  rooms = c.in_ok-stepped.ensures.rooms;
  stays = λ is. absurd (c.in_default.not-Quiet is);
  still = λ is. absurd (c.in_default.not-Quiet is);
  apart = c.in_ok-stepped.ensures.apart;
  calm = λ is. absurd (c.in_default.not-Quiet is);
  actor = c.in_ok-stepped.ensures.actor ∙ c.loop-place.invariant.actor;
  others = keeps_both c.args.held.now c.loop-place.held c.receive_at.new.held c.args.table.now.table c.loop-place.table.table c.receive_at.new.table.table c.loop-place.invariant.others c.in_ok-stepped.ensures.others;
  sound = λ is. c.in_ok-stepped.ensures.sound (c.loop-place.invariant.sound is);
  mail = (c.in_ok-stepped.ensures.mail.0 ∙ c.loop-place.invariant.mail.0, c.in_ok-stepped.ensures.mail.1 ∙ c.loop-place.invariant.mail.1, c.in_ok-stepped.ensures.mail.2 ∙ c.loop-place.invariant.mail.2);
  inboxes = c.in_ok-stepped.ensures.inboxes;
  balanced = λ is. c.in_ok-stepped.ensures.balanced (c.loop-place.invariant.balanced is);
} where
  same_ok : (a b : SteppedWith) → ◌≡◌ {A = Result SteppedWith NoMemory} (Ok a) (Ok b) → a ≡ b
  same_ok a b is = cc

pub loop-place-preserved : goal.loop-place-preserved
loop-place-preserved g c =
    let old = c.args.held.now in
    let holds = g.P.P.Port.holds in
    let past = g.P.P.Port.past in
    let counts = g.P.P.Port.counts in
    let table = c.args.table.now.table in
    let e = c.in_ok-stepped.ensures in
    let i = c.loop-place.invariant in
    let quiet = c.in-Quiet.is in
    let len : vec_len old.ports ≡ length old.ports.items = search rules in
    let end = c.len-place-end.ensures in
    let lt = c.loop-place-test.true in
    let seat = there_at old.ports.items c.loop-place.place (omega (arith, len, end, lt)) in
    let there = ap (λ (xs : List PortSeat). slice_get xs c.loop-place.place) i.stays ∙ seat.1 in
    let P : ℕ → Type 0 = λ k. PassedTo holds past counts table c.receive_at.new.table.table k old.ports.items in
    let next : suc c.loop-place.place ≡ c.loop-place.place + 1 = omega arith in
    let calm = e.calm quiet in
    record {
      rooms = e.rooms;
      rest = e.rest ∙ ap (λ (h : HeldBy g.row.L.Denot). record h { conn = c.receive_at.new.held.conn; ports = c.receive_at.new.held.ports; bound = c.receive_at.new.held.bound }) c.loop-place.invariant.rest;
      stays = e.stays quiet ∙ i.stays;
      still = λ s held wait. e.still quiet s (i.still s held wait) wait;
      apart = e.apart;
      calm = (calm.0 ∙ i.calm.0, calm.1 ∙ i.calm.1, calm.2 ∙ i.calm.2);
      mail = (e.mail.0 ∙ i.mail.0, e.mail.1 ∙ i.mail.1, e.mail.2 ∙ i.mail.2);
      inboxes = e.inboxes;
      actor = e.actor ∙ i.actor;
      others = keeps_both c.args.held.now c.loop-place.held c.receive_at.new.held c.args.table.now.table c.loop-place.table.table c.receive_at.new.table.table c.loop-place.invariant.others e.others;
      sound = λ is. e.sound (i.sound is);
      balanced = λ is. e.balanced (i.balanced is);
      passed = subst P next (passed_next holds past counts table c.loop-place.table.table c.receive_at.new.table.table c.loop-place.place old.ports.items seat.0 c.requires.known.1.apart seat.1
          (e.passed quiet seat.0 there) i.passed);
    }

pub returns-clause-gives : goal.returns-clause-gives
returns-clause-gives g c = λ o n so sn s held wait setup.
    let old = c.args.held.now in
    let i = c.loop-place.invariant in
    let most = g.P.P.Port.most in
    let holds = g.P.P.Port.holds in
    let counts = g.P.P.Port.counts in
    let table = c.args.table.now.table in
    let after = c.loop-place.table.table in
    let seen = g.O.Office.seen c.args.office.now in
    let len : vec_len old.ports ≡ length old.ports.items = search rules in
    let end = c.len-place-end.ensures in
    let out = c.loop-place-test.false in
    let P : List PortSeat → Type 0 = λ xs. SeesPorts holds counts after n xs in
    let mail = g.M.Mail.boxes c.args.mail.now in
    let W : Seen → Type 0 = λ x. Waited receives_of o n seen x mail (g.M.Mail.boxes c.loop-place.mail) s in
    let V : Inboxes → Type 0 = λ x. Waited receives_of o n seen seen mail x s in (
      subst W (sym i.calm.0) (subst V (sym i.calm.2) (all_waited most holds g.P.P.Port.past counts table after old o s c.loop-place.place held so.of_table.ports i.passed g.L.Link.holds g.L.Link.counts c.loop-place.held n seen mail
          (omega (arith, len, end, out)) (ap (λ h. h.number) i.rest) (ap (λ h. h.link) i.rest) so.of_link sn.of_link (subst P i.stays sn.of_table.ports)
          (sn.of_table.binds_are ∙ i.calm.1 ∙ sym so.of_table.binds_are))),
      i.still s held wait,
    )

pub returns-clause-rest : goal.returns-clause-rest
returns-clause-rest g c = c.loop-place.invariant.rest

pub returns-clause-rooms : goal.returns-clause-rooms
returns-clause-rooms g c = c.loop-place.invariant.rooms

pub returns-clause-stays : goal.returns-clause-stays
returns-clause-stays g c = λ is. c.loop-place.invariant.stays

pub returns-clause-still : goal.returns-clause-still
returns-clause-still g c = λ is. c.loop-place.invariant.still

pub returns-clause-apart : goal.returns-clause-apart
returns-clause-apart g c = c.loop-place.invariant.apart

pub returns-clause-calm : goal.returns-clause-calm
returns-clause-calm g c = λ is. c.loop-place.invariant.calm

pub returns-clause-actor : goal.returns-clause-actor
returns-clause-actor g c = c.loop-place.invariant.actor

pub returns-clause-others : goal.returns-clause-others
returns-clause-others g c = c.loop-place.invariant.others

pub returns-clause-balanced : goal.returns-clause-balanced
returns-clause-balanced g c = c.loop-place.invariant.balanced

pub returns-in_err-stepped-clause-mail : goal.returns-in_err-stepped-clause-mail
returns-in_err-stepped-clause-mail g c =
    let e = c.in_err-stepped.ensures in
    let i = c.loop-place.invariant in
    (e.mail.0 ∙ i.mail.0, e.mail.1 ∙ i.mail.1, e.mail.2 ∙ i.mail.2)

pub returns-in_err-stepped-clause-inboxes : goal.returns-in_err-stepped-clause-inboxes
returns-in_err-stepped-clause-inboxes g c = c.in_err-stepped.ensures.inboxes

pub returns-clause-mail : goal.returns-clause-mail
returns-clause-mail g c = c.loop-place.invariant.mail

pub returns-clause-inboxes : goal.returns-clause-inboxes
returns-clause-inboxes g c = c.loop-place.invariant.inboxes
