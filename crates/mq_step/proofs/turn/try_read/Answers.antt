use Rattle.std.proofs.Common.{Ok, ap, subst}
use Rattle.mq_conn.specs.Conns.{IsConn}
use Rattle.mq_held.specs.declared.went.Went.{Went}
use Rattle.mq_held.specs.Links.{calls_of, ReadGives}
use Rattle.mq_machine.specs.Acting.{binder}
use Rattle.mq_step.specs.Holds.{IsHeld}
use Rattle.mq_step.specs.Gives.{WritesWait, from_read}
use Rattle.mq_step.proofs.Wanting.{mailed}
use Rattle.mq_step.proofs.Others.{keeps_from}
use Rattle.mq_step.proofs.Trying.{mid}
use Rattle.mq_step.proofs.Failing.{fallen}
use Rattle.mq_step.proofs.Pieces.{read_holds}
use Rattle.mq_step.proofs.Moving.{Moves, fallen_held, moved_held, moved_known, moved_sight, moved_table, gives_err}
use Rattle.mq_step.proofs.Incoming.{read_starves, read_gives, read_fails_gives, read_waits_gives}
use Rattle.mq_step.proofs.Still.{Still, still_from, fallen_still}
use Rattle.mq_step.proofs.Standing.{same_apart}
use Rattle.mq_step.specs.Notes.{stepped_with}
use Rattle.mq_held.specs.Notes.{went_by}
use Rattle.mq_step.proofs.turn.try_read.Goals as goal

pub returns-in_err-read-clause-gives : goal.returns-in_err-read-clause-gives
returns-in_err-read-clause-gives g c = λ o n so sn s held wait.
    let old = c.args.held.now in
    let new = c.read.new.self in
    let e = c.in_err-read.ensures in
    let x : Moves g.L.Link.holds g.L.Link.past g.L.Link.counts g.P.P.Port.most g.P.P.Port.holds g.P.P.Port.counts (binder g.P.Ports.holds g.P.Ports.faults c.args.table.now.ports) c.args.table.now.table old new o n s =
    record { held = held; wait = wait; rest = e.rest; sees = so; sees_after = sn } in
    gives_err c.args.setup.now from_read WritesWait o n (g.O.Office.seen c.args.office.now) (g.O.Office.seen c.args.office.now) (g.M.Mail.boxes c.args.mail.now) (g.M.Mail.boxes c.args.mail.now) (IsHeld g.P.P.Port.most c.args.table.now.table new) s c.from_residual.result c.read.new.told c.from_residual.ensures.0
    (λ refused. read_starves g.L.Link.holds g.L.Link.past g.L.Link.counts g.P.P.Port.most g.P.P.Port.holds g.P.P.Port.counts (binder g.P.Ports.holds g.P.Ports.faults c.args.table.now.ports) c.args.table.now.table old new o n s x c.args.setup.now (g.O.Office.seen c.args.office.now) (mailed (g.O.Office.seen c.args.office.now) (g.M.Mail.count c.args.mail.now) (g.M.Mail.boxes c.args.mail.now) c.requires.inboxes) refused (e.gives s.conn held.conn held.number))

pub act-requires : goal.act-requires
act-requires g c =
    let k = c.requires.known in
    let setup = c.args.setup.now in
    let W : Went → Type 0 = λ w. ReadGives setup (calls_of g.L.Link.holds g.L.Link.past g.L.Link.counts c.args.held.now.link c.read.new.self.link) (IsConn c.read.new.self.conn) k.0.conn (Ok (went_by w c.read.new.told)) in
    let gives = subst W c.in-Failed.is (c.in_ok-read.ensures.gives k.0.conn k.1.conn k.1.number) in
    record { known = moved_known g.P.P.Port.most c.args.table.now.table c.args.held.now c.read.new.self k.0 (g.O.Office.seen c.args.office.now) (g.O.Office.seen c.args.office.now).actor k.1 k.2 k.3 c.in_ok-read.ensures.rest gives.2; inboxes = c.requires.inboxes; pump = c.requires.pump }

pub receive-requires-clause-known : goal.receive-requires-clause-known
receive-requires-clause-known g c =
    let k = c.requires.known in
    let setup = c.args.setup.now in
    let W : Went → Type 0 = λ w. ReadGives setup (calls_of g.L.Link.holds g.L.Link.past g.L.Link.counts c.args.held.now.link c.read.new.self.link) (IsConn c.read.new.self.conn) k.0.conn (Ok (went_by w c.read.new.told)) in
    let gives = subst W c.in-Waits.is (c.in_ok-read.ensures.gives k.0.conn k.1.conn k.1.number) in
    (k.0, moved_held g.P.P.Port.most c.args.table.now.table c.args.held.now c.read.new.self k.0 k.1 k.3 c.in_ok-read.ensures.rest gives.1, k.2, k.3)

pub returns-in-Did-clause-gives : goal.returns-in-Did-clause-gives
returns-in-Did-clause-gives g c = λ o n so sn s held wait.
    let old = c.args.held.now in
    let new = c.read.new.self in
    let e = c.in_ok-read.ensures in
    let setup = c.args.setup.now in
    let x : Moves g.L.Link.holds g.L.Link.past g.L.Link.counts g.P.P.Port.most g.P.P.Port.holds g.P.P.Port.counts (binder g.P.Ports.holds g.P.Ports.faults c.args.table.now.ports) c.args.table.now.table old new o n s =
    record { held = held; wait = wait; rest = e.rest; sees = so; sees_after = sn } in
    let W : Went → Type 0 = λ w. ReadGives setup (calls_of g.L.Link.holds g.L.Link.past g.L.Link.counts old.link new.link) (IsConn new.conn) s.conn (Ok (went_by w c.read.new.told)) in
    read_gives g.L.Link.holds g.L.Link.past g.L.Link.counts g.P.P.Port.most g.P.P.Port.holds g.P.P.Port.counts (binder g.P.Ports.holds g.P.Ports.faults c.args.table.now.ports) c.args.table.now.table old new o n s x setup (g.O.Office.seen c.args.office.now) (mailed (g.O.Office.seen c.args.office.now) (g.M.Mail.count c.args.mail.now) (g.M.Mail.boxes c.args.mail.now) c.requires.inboxes) c.read.new.told (subst W c.in-Did.is (e.gives s.conn held.conn held.number))

pub returns-in-Failed-clause-gives : goal.returns-in-Failed-clause-gives
returns-in-Failed-clause-gives g c = λ o n so sn s held wait.
    let old = c.args.held.now in
    let new = c.read.new.self in
    let e = c.in_ok-read.ensures in
    let setup = c.args.setup.now in
    let W : Went → Type 0 = λ w. ReadGives setup (calls_of g.L.Link.holds g.L.Link.past g.L.Link.counts old.link new.link) (IsConn new.conn) s.conn (Ok (went_by w c.read.new.told)) in
    let gives = subst W c.in-Failed.is (e.gives s.conn held.conn held.number) in
    read_fails_gives g.L.Link.holds g.L.Link.past g.L.Link.counts g.P.P.Port.most g.P.P.Port.holds g.P.P.Port.counts (binder g.P.Ports.holds g.P.Ports.faults c.args.table.now.ports) (binder g.P.Ports.holds g.P.Ports.faults c.act.new.table.ports) c.args.table.now.table c.act.new.table.table
    old new c.act.new.held o n s setup (g.O.Office.seen c.args.office.now) (g.O.Office.seen c.act.new.office) (g.M.Mail.boxes c.args.mail.now) (g.M.Mail.boxes c.act.new.mail) (stepped_with c.act.result c.act.new.told) held wait so sn e.rest c.act.ensures.rest gives
    (λ l is. c.act.ensures.gives o n (moved_table g.P.P.Port.holds g.P.P.Port.counts (binder g.P.Ports.holds g.P.Ports.faults c.args.table.now.ports) c.args.table.now.table old new o so.of_table e.rest) sn.of_table (fallen s l) is)

pub returns-in-Waits-clause-gives : goal.returns-in-Waits-clause-gives
returns-in-Waits-clause-gives g c = λ o n so sn s held wait.
    let old = c.args.held.now in
    let new = c.read.new.self in
    let e = c.in_ok-read.ensures in
    let setup = c.args.setup.now in
    let W : Went → Type 0 = λ w. ReadGives setup (calls_of g.L.Link.holds g.L.Link.past g.L.Link.counts old.link new.link) (IsConn new.conn) s.conn (Ok (went_by w c.read.new.told)) in
    let gives = subst W c.in-Waits.is (e.gives s.conn held.conn held.number) in
    let calls = calls_of g.L.Link.holds g.L.Link.past g.L.Link.counts old.link new.link in
    let m = mid o (λ i. g.L.Link.counts new.link) o.port_counts in
    read_waits_gives g.L.Link.holds g.L.Link.past g.L.Link.counts o n old new s setup (g.O.Office.seen c.args.office.now) (g.O.Office.seen c.receive.new.office) (g.M.Mail.boxes c.args.mail.now) (g.M.Mail.boxes c.receive.new.mail)
    (IsHeld g.P.P.Port.most c.receive.new.table.table c.receive.new.held) (stepped_with c.receive.result c.receive.new.told) held.number so.of_link gives.0
    (c.receive.ensures.gives m n (moved_sight g.L.Link.holds g.L.Link.past g.L.Link.counts g.P.P.Port.holds g.P.P.Port.counts (binder g.P.Ports.holds g.P.Ports.faults c.args.table.now.ports) c.args.table.now.table old new o so e.rest (read_holds calls s.conn gives.0)) sn s
    (moved_held g.P.P.Port.most c.args.table.now.table old new s held wait e.rest gives.1) wait setup)

pub returns-in-Failed-clause-others : goal.returns-in-Failed-clause-others
returns-in-Failed-clause-others g c =
    let rest = c.in_ok-read.ensures.rest in
    keeps_from c.args.held.now c.read.new.self c.act.new.held c.args.table.now.table c.act.new.table.table
    (ap (λ h. h.ports.items) rest) (ap (λ h. h.bound) rest) c.act.ensures.others

pub returns-in-Waits-clause-others : goal.returns-in-Waits-clause-others
returns-in-Waits-clause-others g c =
    let rest = c.in_ok-read.ensures.rest in
    keeps_from c.args.held.now c.read.new.self c.receive.new.held c.args.table.now.table c.receive.new.table.table
    (ap (λ h. h.ports.items) rest) (ap (λ h. h.bound) rest) c.receive.ensures.others

pub returns-in-Failed-clause-still : goal.returns-in-Failed-clause-still
returns-in-Failed-clause-still g c =
    let k = c.requires.known in
    let s = k.0 in
    let old = c.args.held.now in
    let new = c.read.new.self in
    let fin = c.act.new.held in
    let most = g.P.P.Port.most in
    let table = c.args.table.now in
    let after = c.act.new.table in
    let e = c.in_ok-read.ensures in
    let setup = c.args.setup.now in
    let W : Went → Type 0 = λ w. ReadGives setup (calls_of g.L.Link.holds g.L.Link.past g.L.Link.counts old.link new.link) (IsConn new.conn) s.conn (Ok (went_by w c.read.new.told)) in
    let gives = subst W c.in-Failed.is (e.gives s.conn k.1.conn k.1.number) in
    let fell = fallen_held most table.table old new s s.link k.1 k.3 e.rest gives.2 in
    fallen_still most g.P.P.Port.holds g.P.P.Port.counts (binder g.P.Ports.holds g.P.Ports.faults table.ports) (binder g.P.Ports.holds g.P.Ports.faults after.ports) table.table after.table new fin
    (g.O.Office.seen c.args.office.now) (g.O.Office.seen c.act.new.office) (g.M.Mail.boxes c.args.mail.now) (g.M.Mail.boxes c.act.new.mail) s c.act.result c.act.new.told (Still most table.table after.table old fin) fell c.act.ensures.stays
    (λ o n so sn. c.act.ensures.gives o n so sn (fallen s s.link) fell)

pub returns-in-Waits-clause-still : goal.returns-in-Waits-clause-still
returns-in-Waits-clause-still g c =
    let old = c.args.held.now in
    let new = c.read.new.self in
    let most = g.P.P.Port.most in
    let table = c.args.table.now.table in
    let e = c.in_ok-read.ensures in
    let setup = c.args.setup.now in
    let moves : Still most table table old new = λ s held wait.
    let W : Went → Type 0 = λ w. ReadGives setup (calls_of g.L.Link.holds g.L.Link.past g.L.Link.counts old.link new.link) (IsConn new.conn) s.conn (Ok (went_by w c.read.new.told)) in
    let gives = subst W c.in-Waits.is (e.gives s.conn held.conn held.number) in
    moved_held most table old new s held wait e.rest gives.1 in
    still_from most table c.receive.new.table.table old new c.receive.new.held c.receive.result moves c.receive.ensures.still

pub returns-in_err-read-clause-apart : goal.returns-in_err-read-clause-apart
returns-in_err-read-clause-apart g c =
    same_apart c.args.held.now.ports.items c.read.new.self.ports.items (ap (λ h. h.ports.items) c.in_err-read.ensures.rest) c.requires.known.1.apart

pub returns-in-Did-clause-apart : goal.returns-in-Did-clause-apart
returns-in-Did-clause-apart g c =
    same_apart c.args.held.now.ports.items c.read.new.self.ports.items (ap (λ h. h.ports.items) c.in_ok-read.ensures.rest) c.requires.known.1.apart
