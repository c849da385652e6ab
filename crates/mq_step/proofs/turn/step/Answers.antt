use Rattle.std.proofs.Common.{rules, ◌≡◌, ◌∙◌, Result, Ok, Err, sym, ap, subst}
use Rattle.mq_wire.specs.declared.NoMemory.{NoMemory}
use Rattle.mq_machine.specs.Turn.{tries_of}
use Rattle.mq_machine.specs.Acting.{binder}
use Rattle.mq_step.specs.declared.stepped.Stepped.{Stepped}
use Rattle.mq_step.specs.declared.stepped.Stepped.TheVariants.{Quiet}
use Rattle.mq_step.specs.Notes.{SteppedWith, stepped_by, stepped_with}
use Rattle.mq_step.specs.Notes as with
use Rattle.mq_step.specs.Holds.{IsHeld}
use Rattle.mq_step.specs.Wanted.{ActGives}
use Rattle.mq_step.specs.Gives.{Anything}
use Rattle.mq_step.proofs.Others.{keeps_both}
use Rattle.mq_step.proofs.Trying.{mid}
use Rattle.mq_step.proofs.Moving.{gives_err}
use Rattle.mq_step.proofs.Standing.{same_apart}
use Rattle.mq_step.proofs.Seeing.{sight_of, sight_sees}
use Rattle.mq_step.proofs.Stepping.{silent, want_waits, want_sight, quiet_gives, act_gives, linked, linked_held, known_then}
use Rattle.mq_step.proofs.Still.{Acts, quiet_stands, still_then}
use Rattle.mq_step.proofs.Noting.{loud_by}
use Rattle.mq_step.proofs.turn.step.Goals as goal

pub try_frame-requires-clause-known : goal.try_frame-requires-clause-known
try_frame-requires-clause-known g c =
    let k = c.requires.known in
    let old = c.args.held.now in
    let new = c.act.new.held in
    let apart = k.1.apart in
    let stays = c.in_ok-stepped.ensures.stays c.in-Quiet.is in
    let o = sight_of g.P.P.Port.holds g.P.P.Port.counts (binder g.P.Ports.holds g.P.Ports.faults c.args.table.now.ports) c.args.table.now.table old.ports.items silent in
    let m = sight_of g.P.P.Port.holds g.P.P.Port.counts (binder g.P.Ports.holds g.P.Ports.faults c.act.new.table.ports) c.act.new.table.table new.ports.items silent in
    let A : Stepped → Type 0 = λ r. ActGives o m (g.O.Office.seen c.args.office.now) (g.O.Office.seen c.act.new.office) (g.M.Mail.boxes c.args.mail.now) (g.M.Mail.boxes c.act.new.mail) (IsHeld g.P.P.Port.most c.act.new.table.table new) k.0 (Ok (stepped_by r c.act.new.told)) in
    let gives = subst A c.in-Quiet.is (c.in_ok-stepped.ensures.gives o m
    (sight_sees g.P.P.Port.holds g.P.P.Port.counts (binder g.P.Ports.holds g.P.Ports.faults c.args.table.now.ports) c.args.table.now.table old.ports.items silent apart)
    (sight_sees g.P.P.Port.holds g.P.P.Port.counts (binder g.P.Ports.holds g.P.Ports.faults c.act.new.table.ports) c.act.new.table.table new.ports.items silent (same_apart old.ports.items new.ports.items stays apart)) k.0 k.1) in (
      k.0,
      gives.1,
      known_then (g.O.Office.seen c.args.office.now) (g.O.Office.seen c.act.new.office) (g.O.Office.seen c.args.office.now).actor (g.O.Office.seen c.act.new.office).actor k.0 k.2 gives.0.seen_is c.act.ensures.actor,
      want_waits o m k.0 (g.O.Office.seen c.args.office.now) (g.O.Office.seen c.act.new.office) (g.M.Mail.boxes c.args.mail.now) (g.M.Mail.boxes c.act.new.mail) gives.0,
    )

pub returns-in-Quiet-clause-gives : goal.returns-in-Quiet-clause-gives
returns-in-Quiet-clause-gives g c = λ o n so sn s held.
    let old = c.args.held.now in
    let new = c.act.new.held in
    let seen = g.O.Office.seen c.args.office.now in
    let seen_mid = g.O.Office.seen c.act.new.office in
    let mail = g.M.Mail.boxes c.args.mail.now in
    let mail_mid = g.M.Mail.boxes c.act.new.mail in
    let apart = held.apart in
    let e = c.in_ok-stepped.ensures in
    let rest = e.rest in
    let m = sight_of g.P.P.Port.holds g.P.P.Port.counts (binder g.P.Ports.holds g.P.Ports.faults c.act.new.table.ports) c.act.new.table.table new.ports.items silent in
    let sm = sight_sees g.P.P.Port.holds g.P.P.Port.counts (binder g.P.Ports.holds g.P.Ports.faults c.act.new.table.ports) c.act.new.table.table new.ports.items silent (same_apart old.ports.items new.ports.items (e.stays c.in-Quiet.is) apart) in
    let A : Stepped → Type 0 = λ r. ActGives o m seen seen_mid mail mail_mid (IsHeld g.P.P.Port.most c.act.new.table.table new) s (Ok (stepped_by r c.act.new.told)) in
    let gives = subst A c.in-Quiet.is (e.gives o m so.of_table sm s held) in
    let sees = want_sight g.L.Link.holds g.L.Link.counts g.P.P.Port.most g.P.P.Port.holds g.P.P.Port.counts (binder g.P.Ports.holds g.P.Ports.faults c.args.table.now.ports) (binder g.P.Ports.holds g.P.Ports.faults c.act.new.table.ports) c.args.table.now.table c.act.new.table.table
    old new o m seen seen_mid mail mail_mid s so (ap (λ h. h.number) rest) (ap (λ h. h.link) rest) gives.1 gives.0 sm in
    quiet_gives g.P.P.Port.most c.args.table.now.table old c.args.setup.now o m n seen seen_mid (g.O.Office.seen c.try_frame.new.office) mail mail_mid (g.M.Mail.boxes c.try_frame.new.mail) (IsHeld g.P.P.Port.most c.try_frame.new.table.table c.try_frame.new.held) s (stepped_with c.try_frame.result c.try_frame.new.told) held gives.0
    (c.try_frame.ensures.gives (mid o o.link_counts m.port_counts) n sees sn s gives.1 (want_waits o m s seen seen_mid mail mail_mid gives.0))

pub returns-in-Quiet-clause-others : goal.returns-in-Quiet-clause-others
returns-in-Quiet-clause-others g c =
    keeps_both c.args.held.now c.act.new.held c.try_frame.new.held c.args.table.now.table c.act.new.table.table c.try_frame.new.table.table c.act.ensures.others
    c.try_frame.ensures.others

pub returns-in-Quiet-clause-still : goal.returns-in-Quiet-clause-still
returns-in-Quiet-clause-still g c =
    let old = c.args.held.now in
    let new = c.act.new.held in
    let most = g.P.P.Port.most in
    let holds = g.P.P.Port.holds in
    let counts = g.P.P.Port.counts in
    let seen = g.O.Office.seen c.args.office.now in
    let seen_mid = g.O.Office.seen c.act.new.office in
    let mail = g.M.Mail.boxes c.args.mail.now in
    let mail_mid = g.M.Mail.boxes c.act.new.mail in
    let table = c.args.table.now in
    let between = c.act.new.table in
    let binds = binder g.P.Ports.holds g.P.Ports.faults table.ports in
    let binds_mid = binder g.P.Ports.holds g.P.Ports.faults between.ports in
    let e = c.in_ok-stepped.ensures in
    still_then most table.table between.table c.try_frame.new.table.table old new c.try_frame.new.held c.try_frame.result
    (λ s held.
    let A : Stepped → Type 0 = λ r. Acts most holds counts binds binds_mid table.table between.table old new seen seen_mid mail mail_mid s (Ok (stepped_by r c.act.new.told)) in
    quiet_stands most holds counts binds binds_mid table.table between.table old new seen seen_mid mail mail_mid s held (e.stays c.in-Quiet.is)
    (subst A c.in-Quiet.is (λ o n so sn. e.gives o n so sn s held)))
    c.try_frame.ensures.still

pub returns-in_err-stepped-clause-gives : goal.returns-in_err-stepped-clause-gives
returns-in_err-stepped-clause-gives g c = λ o n so sn s held.
    let old = c.args.held.now in
    let new = c.act.new.held in
    let rest = c.act.ensures.rest in
    let same : n.link new.number ≡ o.link s.conn.number = sn.of_link.link_is ∙ ap g.L.Link.holds (ap (λ h. h.link) rest) ∙ sym so.of_link.link_is ∙ ap o.link (sym held.number) in
    gives_err c.args.setup.now tries_of Anything o n (g.O.Office.seen c.args.office.now) (g.O.Office.seen c.act.new.office) (g.M.Mail.boxes c.args.mail.now) (g.M.Mail.boxes c.act.new.mail) (IsHeld g.P.P.Port.most c.act.new.table.table new) s c.from_residual.result c.act.new.told c.from_residual.ensures.0
    (λ refused. act_gives g.P.P.Port.most c.act.new.table.table new o n s c.args.setup.now (g.O.Office.seen c.args.office.now) (g.O.Office.seen c.act.new.office) (g.M.Mail.boxes c.args.mail.now) (g.M.Mail.boxes c.act.new.mail) (Err refused) same (λ is. absurd cc)
    (c.in_err-stepped.ensures.gives o n so.of_table sn.of_table (linked o s) (linked_held g.P.P.Port.most c.args.table.now.table old o s held)))

pub returns-in_default : goal.returns-in_default
returns-in_default g c = record {
  gives = λ o n so sn s held.
      let old = c.args.held.now in
      let new = c.act.new.held in
      let rest = c.act.ensures.rest in
      let same : n.link new.number ≡ o.link s.conn.number = sn.of_link.link_is ∙ ap g.L.Link.holds (ap (λ h. h.link) rest) ∙ sym so.of_link.link_is ∙ ap o.link (sym held.number) in
      act_gives g.P.P.Port.most c.act.new.table.table new o n s c.args.setup.now (g.O.Office.seen c.args.office.now) (g.O.Office.seen c.act.new.office) (g.M.Mail.boxes c.args.mail.now) (g.M.Mail.boxes c.act.new.mail) (Ok (stepped_by c.in_ok-stepped.stepped c.act.new.told)) same
      (λ is. loud_by c.in_ok-stepped.stepped c.act.new.told c.in_default.not-Quiet (same_ok (stepped_by c.in_ok-stepped.stepped c.act.new.told) with.Quiet is))
      (c.in_ok-stepped.ensures.gives o n so.of_table sn.of_table (linked o s) (linked_held g.P.P.Port.most c.args.table.now.table old o s held));
  rest = search rules;
  ends = c.in_ok-stepped.ensures.ends;
  rooms = search rules;
  stays = λ is. absurd (c.in_default.not-Quiet is);
  still = λ is. absurd (c.in_default.not-Quiet is);
  apart = c.in_ok-stepped.ensures.apart;
  calm = λ is. absurd (c.in_default.not-Quiet is);
  actor = search rules;
  sound = c.in_ok-stepped.ensures.sound;
  mail = c.in_ok-stepped.ensures.mail;
  inboxes = c.in_ok-stepped.ensures.inboxes;
  others = search rules;
  balanced = search rules;
} where
  same_ok : (a b : SteppedWith) → ◌≡◌ {A = Result SteppedWith NoMemory} (Ok a) (Ok b) → a ≡ b
  same_ok a b is = cc
