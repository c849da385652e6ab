use Rattle.std.proofs.Common.{refl}
use Rattle.mq_machine.specs.Acting.{binder}
use Rattle.mq_held.specs.Notes.{note_with}
use Rattle.mq_actor.specs.Seen.{Words, Moment}
use Rattle.mq_actor.proofs.Plain.{plain_by}
use Rattle.mq_actor.proofs.Returning.{stands_by}
use Rattle.mq_actor.proofs.actor.Actor.step_into.Goals as goal

pub returns-clause-stands : goal.returns-clause-stands
returns-clause-stands g c =
    let self = c.args.self.now in
    let s = c.step_into.new in
    let words : Words g.row.L.Denot g.row.P-P.Denot = record { most = g.P.P.Port.most; link = g.L.Link.holds; link_counts = g.L.Link.counts; port = g.P.P.Port.holds; port_counts = g.P.P.Port.counts } in
    let old : Moment g.row.L.Denot g.row.P-P.Denot =
    record { conns = self.ring.conns.items; table = self.table.table; binds = binder g.P.Ports.holds g.P.Ports.faults self.table.ports; seen = g.O.Office.seen c.args.office.now; boxes = g.M.Mail.boxes c.args.mail.now } in
    let new : Moment g.row.L.Denot g.row.P-P.Denot =
    record { conns = s.self.conns.items; table = s.table.table; binds = binder g.P.Ports.holds g.P.Ports.faults s.table.ports; seen = g.O.Office.seen s.office; boxes = g.M.Mail.boxes s.mail } in
    stands_by words self.ring old refl (g.M.Mail.count c.args.mail.now) c.requires.office c.requires.inboxes s.self new (note_with c.step_into.result c.step_into.new.told)
    c.step_into.ensures.gives c.step_into.ensures.sights

pub returns-clause-plain : goal.returns-clause-plain
returns-clause-plain g c =
    let self = c.args.self.now in
    let s = c.step_into.new in
    let words : Words g.row.L.Denot g.row.P-P.Denot = record { most = g.P.P.Port.most; link = g.L.Link.holds; link_counts = g.L.Link.counts; port = g.P.P.Port.holds; port_counts = g.P.P.Port.counts } in
    let old : Moment g.row.L.Denot g.row.P-P.Denot =
    record { conns = self.ring.conns.items; table = self.table.table; binds = binder g.P.Ports.holds g.P.Ports.faults self.table.ports; seen = g.O.Office.seen c.args.office.now; boxes = g.M.Mail.boxes c.args.mail.now } in
    let new : Moment g.row.L.Denot g.row.P-P.Denot =
    record { conns = s.self.conns.items; table = s.table.table; binds = binder g.P.Ports.holds g.P.Ports.faults s.table.ports; seen = g.O.Office.seen s.office; boxes = g.M.Mail.boxes s.mail } in
    plain_by words self.ring old refl (g.M.Mail.count c.args.mail.now) c.requires.office c.requires.inboxes s.self new (note_with c.step_into.result c.step_into.new.told)
    c.step_into.ensures.gives c.step_into.ensures.sights
