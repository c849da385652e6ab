use Rattle.std.proofs.Common.{◌≡◌, true, Option, Some, Result, refl, sym, subst}
use Rattle.mq_wire.specs.declared.NoMemory.{NoMemory}
use Rattle.mq_talk.specs.declared.note.Note.{Note}
use Rattle.mq_talk.specs.Mails.{Boxes}
use Rattle.mq_machine.specs.State.{Orders, Worker}
use Rattle.mq_machine.specs.Acting.{Outside, Known, binder}
use Rattle.mq_actor.specs.Holds.{IsWorker}
use Rattle.mq_actor.specs.Plain.{AlwaysTells, PlainStep}
use Rattle.mq_actor.specs.Seen.{Words, Moment}
use Rattle.mq_actor.specs.Steps.{sight}
use Rattle.mq_actor.specs.Told.{TellsRing}
use Rattle.mq_actor.proofs.Returning.{Promise}
use Rattle.mq_actor.proofs.actor.Actor.step.Goals as goal

pub returns-clause-gives : goal.returns-clause-gives
returns-clause-gives g c =
    let self = c.args.self.now in
    let s = c.step_into-did.new in
    let words : Words g.row.L.Denot g.row.P-P.Denot = record { most = g.P.P.Port.most; link = g.L.Link.holds; link_counts = g.L.Link.counts; port = g.P.P.Port.holds; port_counts = g.P.P.Port.counts } in
    let old : Moment g.row.L.Denot g.row.P-P.Denot =
    record { conns = self.ring.conns.items; table = self.table.table; binds = binder g.P.Ports.holds g.P.Ports.faults self.table.ports; seen = g.O.Office.seen c.args.office.now; boxes = g.M.Mail.boxes c.args.mail.now } in
    let new : Moment g.row.L.Denot g.row.P-P.Denot =
    record { conns = s.self.ring.conns.items; table = s.self.table.table; binds = binder g.P.Ports.holds g.P.Ports.faults s.self.table.ports; seen = g.O.Office.seen s.office; boxes = g.M.Mail.boxes s.mail } in
    let R : Result (Option Note) NoMemory → Type 0 = λ r. Promise words self.ring old refl (g.M.Mail.count c.args.mail.now) c.requires.office c.requires.inboxes s.self.ring new r in
    subst R (sym c.note_with.ensures) c.step_into-did.ensures.gives

pub returns-clause-plain : goal.returns-clause-plain
returns-clause-plain g c =
    let self = c.args.self.now in
    let s = c.step_into-did.new in
    let words : Words g.row.L.Denot g.row.P-P.Denot = record { most = g.P.P.Port.most; link = g.L.Link.holds; link_counts = g.L.Link.counts; port = g.P.P.Port.holds; port_counts = g.P.P.Port.counts } in
    let boxes_of = g.M.Mail.boxes in
    let seen_of = g.O.Office.seen in
    let R : Result (Option Note) NoMemory → Type 0 = λ r. AlwaysTells g.L.Link.holds → AlwaysTells g.P.P.Port.holds → (o : Outside) (w : Worker) (boxes : Boxes) (orders : Orders)
    → IsWorker g.P.P.Port.most self.table.table self.ring w → TellsRing words self.table.table self.ring w
    → Known (sight o (seen_of c.args.office.now) (boxes_of c.args.mail.now)) w → (seen_of c.args.office.now).is_whole ≡ true → (boxes_of c.args.mail.now).told ≡ Some boxes
    → PlainStep words orders boxes
    (record { ring = self.ring; table = self.table.table; binds = binder g.P.Ports.holds g.P.Ports.faults self.table.ports; seen = seen_of c.args.office.now; boxes = boxes_of c.args.mail.now })
    (record { ring = s.self.ring; table = s.self.table.table; binds = binder g.P.Ports.holds g.P.Ports.faults s.self.table.ports; seen = seen_of s.office; boxes = boxes_of s.mail }) w r in
    subst R (sym c.note_with.ensures) c.step_into-did.ensures.plain
