use Rattle.std.proofs.Common.{Bool, Ok, ap, subst}
use Rattle.mq_machine.specs.State as machine
use Rattle.mq_conn.specs.Conns.{IsConn}
use Rattle.mq_held.specs.Frames.{FrameGives}
use Rattle.mq_machine.specs.Acting.{binder}
use Rattle.mq_step.specs.Holds.{IsHeld}
use Rattle.mq_step.specs.Wanted.{SendsWait}
use Rattle.mq_step.specs.Gives.{from_frame}
use Rattle.mq_step.proofs.Wanting.{mailed}
use Rattle.mq_step.proofs.Others.{keeps_from}
use Rattle.mq_step.proofs.Moving.{Moves, moved_held, gives_err}
use Rattle.mq_step.proofs.Stepping.{link_rest, same_sight, frame_starves, framed_gives, frame_waits}
use Rattle.mq_step.proofs.Still.{Still, still_from}
use Rattle.mq_step.proofs.Standing.{same_apart}
use Rattle.mq_step.specs.Notes.{stepped_with}
use Rattle.mq_held.specs.Notes.{note_by}
use Rattle.mq_step.proofs.turn.try_frame.Goals as goal

pub returns-in_err-frame-clause-gives : goal.returns-in_err-frame-clause-gives
returns-in_err-frame-clause-gives g c = λ o n so sn s held wait.
    let old = c.args.held.now in
    let new = c.frame.new.self in
    let e = c.in_err-frame.ensures in
    let x : Moves g.L.Link.holds g.L.Link.past g.L.Link.counts g.P.P.Port.most g.P.P.Port.holds g.P.P.Port.counts (binder g.P.Ports.holds g.P.Ports.faults c.args.table.now.ports) c.args.table.now.table old new o n s =
    record { held = held; wait = wait; rest = link_rest old new e.rest; sees = so; sees_after = sn } in
    gives_err c.args.setup.now from_frame SendsWait o n (g.O.Office.seen c.args.office.now) (g.O.Office.seen c.args.office.now) (g.M.Mail.boxes c.args.mail.now) (g.M.Mail.boxes c.args.mail.now) (IsHeld g.P.P.Port.most c.args.table.now.table new) s c.from_residual.result c.frame.new.told c.from_residual.ensures.0
    (λ refused. frame_starves g.L.Link.holds g.L.Link.past g.L.Link.counts g.P.P.Port.most g.P.P.Port.holds g.P.P.Port.counts (binder g.P.Ports.holds g.P.Ports.faults c.args.table.now.ports) c.args.table.now.table old new o n s x (ap (λ h. h.link) e.rest)
    c.args.setup.now (g.O.Office.seen c.args.office.now) (mailed (g.O.Office.seen c.args.office.now) (g.M.Mail.count c.args.mail.now) (g.M.Mail.boxes c.args.mail.now) c.requires.inboxes) refused (e.gives s.conn held.conn))

pub returns-then-branch-clause-gives : goal.returns-then-branch-clause-gives
returns-then-branch-clause-gives g c = λ o n so sn s held wait.
    let old = c.args.held.now in
    let new = c.frame.new.self in
    let e = c.in_ok-frame.ensures in
    let x : Moves g.L.Link.holds g.L.Link.past g.L.Link.counts g.P.P.Port.most g.P.P.Port.holds g.P.P.Port.counts (binder g.P.Ports.holds g.P.Ports.faults c.args.table.now.ports) c.args.table.now.table old new o n s =
    record { held = held; wait = wait; rest = link_rest old new e.rest; sees = so; sees_after = sn } in
    let F : Bool → Type 0 = λ did. FrameGives (IsConn new.conn) s.conn (Ok (note_by did c.frame.new.told)) in
    framed_gives g.L.Link.holds g.L.Link.past g.L.Link.counts g.P.P.Port.most g.P.P.Port.holds g.P.P.Port.counts (binder g.P.Ports.holds g.P.Ports.faults c.args.table.now.ports) c.args.table.now.table old new o n s x (ap (λ h. h.link) e.rest)
    c.args.setup.now (g.O.Office.seen c.args.office.now) (mailed (g.O.Office.seen c.args.office.now) (g.M.Mail.count c.args.mail.now) (g.M.Mail.boxes c.args.mail.now) c.requires.inboxes) c.frame.new.told (e.told c.if-branch.true) (subst F c.if-branch.true (e.gives s.conn held.conn))

pub returns-clause-gives : goal.returns-clause-gives
returns-clause-gives g c = λ o n so sn s held wait.
    let old = c.args.held.now in
    let new = c.frame.new.self in
    let e = c.in_ok-frame.ensures in
    let F : Bool → Type 0 = λ did. FrameGives (IsConn new.conn) s.conn (Ok (note_by did c.frame.new.told)) in
    let none = subst F c.if-branch.false (e.gives s.conn held.conn) in
    frame_waits c.args.setup.now o n (g.O.Office.seen c.args.office.now) (g.O.Office.seen c.try_write.new.office) (g.M.Mail.boxes c.args.mail.now) (g.M.Mail.boxes c.try_write.new.mail) (IsHeld g.P.P.Port.most c.try_write.new.table.table c.try_write.new.held) s (stepped_with c.try_write.result c.try_write.new.told) none.0
    (c.try_write.ensures.gives o n (same_sight g.L.Link.holds g.L.Link.counts g.P.P.Port.holds g.P.P.Port.counts (binder g.P.Ports.holds g.P.Ports.faults c.args.table.now.ports) c.args.table.now.table old new o so e.rest) sn s
    (moved_held g.P.P.Port.most c.args.table.now.table old new s held wait (link_rest old new e.rest) none.1) wait)

pub returns-clause-others : goal.returns-clause-others
returns-clause-others g c =
    let rest = c.in_ok-frame.ensures.rest in
    keeps_from c.args.held.now c.frame.new.self c.try_write.new.held c.args.table.now.table c.try_write.new.table.table
    (ap (λ h. h.ports.items) rest) (ap (λ h. h.bound) rest) c.try_write.ensures.others

pub returns-clause-still : goal.returns-clause-still
returns-clause-still g c =
    let old = c.args.held.now in
    let new = c.frame.new.self in
    let most = g.P.P.Port.most in
    let table = c.args.table.now.table in
    let e = c.in_ok-frame.ensures in
    let F : machine.Held → Bool → Type 0 = λ s did. FrameGives (IsConn new.conn) s.conn (Ok (note_by did c.frame.new.told)) in
    let moves : Still most table table old new = λ s held wait.
    let none = subst (F s) c.if-branch.false (e.gives s.conn held.conn) in
    moved_held most table old new s held wait (link_rest old new e.rest) none.1 in
    still_from most table c.try_write.new.table.table old new c.try_write.new.held c.try_write.result moves c.try_write.ensures.still

pub returns-in_err-frame-clause-apart : goal.returns-in_err-frame-clause-apart
returns-in_err-frame-clause-apart g c =
    same_apart c.args.held.now.ports.items c.frame.new.self.ports.items (ap (λ h. h.ports.items) c.in_err-frame.ensures.rest) c.requires.known.1.apart

pub returns-then-branch-clause-apart : goal.returns-then-branch-clause-apart
returns-then-branch-clause-apart g c =
    same_apart c.args.held.now.ports.items c.frame.new.self.ports.items (ap (λ h. h.ports.items) c.in_ok-frame.ensures.rest) c.requires.known.1.apart
