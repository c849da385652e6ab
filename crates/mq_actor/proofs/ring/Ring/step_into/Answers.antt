use Rattle.std.proofs.Common.{◌∙◌, ℕ, true, false, Option, Some, None, Ok, Err, refl, sym, subst}
use Rattle.mq_talk.specs.declared.note.Note.{Note}
use Rattle.mq_machine.specs.Acting.{binder}
use Rattle.mq_actor.specs.declared.ring.Ring.{Ring}
use Rattle.mq_actor.specs.Holds.{HaveOwnPorts}
use Rattle.mq_actor.specs.Passing.{PassGives, AreKnown, is_in_part}
use Rattle.mq_actor.specs.Seats.{AcceptGives, InboxGives}
use Rattle.mq_actor.specs.Seen.{Words, Moment}
use Rattle.mq_held.specs.Notes.{note_with}
use Rattle.mq_actor.proofs.Noting.{note_is, none_is, popped_none, popped_some, missed_none, note_err}
use Rattle.mq_actor.proofs.Returning.{told_promise, begun, from_begun, among, err_promise, known_conns, known_later, accept_refused, accept_did, pop_did, upper_stopped, accept_refused_later, accept_did_later, pop_did_later, lower_gives}
use Rattle.mq_actor.proofs.Returning.{accept_refused_sights, accept_did_sights, pop_did_sights, upper_stopped_sights, accept_refused_later_sights}
use Rattle.mq_actor.proofs.Returning.{accept_did_later_sights, pop_did_later_sights, lower_sights, pump_one, inboxes_one, pump_two, inboxes_two, told_later, seat_later}
use Rattle.mq_actor.proofs.Asking.{asked_once}
use Rattle.mq_actor.proofs.Placing.{fitting}
use Rattle.mq_actor.specs.Ended.{conn_numbers, offer_numbers}
use Rattle.mq_actor.proofs.Leaving.{AllLeft, idle_left, accept_left, refused_left, pop_left, passed_left, did_left, starved_left, pass_left}
use Rattle.mq_actor.proofs.ring.Ring.step_into.Goals as goal

pub returns-in_err-accept-clause-gives : goal.returns-in_err-accept-clause-gives
returns-in_err-accept-clause-gives g c =
    let self = c.args.self.now in
    let words : Words g.row.L.Denot g.row.P-P.Denot = record { most = g.P.P.Port.most; link = g.L.Link.holds; link_counts = g.L.Link.counts; port = g.P.P.Port.holds; port_counts = g.P.P.Port.counts } in
    let old : Moment g.row.L.Denot g.row.P-P.Denot =
    record { conns = self.conns.items; table = c.args.table.now.table; binds = binder g.P.Ports.holds g.P.Ports.faults c.args.table.now.ports; seen = g.O.Office.seen c.args.office.now; boxes = g.M.Mail.boxes c.args.mail.now } in
    let count = g.M.Mail.count c.args.mail.now in
    err_promise words self old refl count c.requires.office c.requires.inboxes c.accept.new.self old c.in_err-accept.field-0.0 (note_with c.from_residual.result c.accept.new.told) (note_err c.from_residual.result c.accept.new.told c.from_residual.ensures.0)
    (accept_refused words self old refl count c.requires.office c.requires.inboxes c.accept.new.self c.in_err-accept.field-0.0 (from_begun self c.forget.new.self c.accept.new.self (Err c.in_err-accept.field-0.0) c.forget.ensures c.in_err-accept.ensures.gives))

pub returns-then-branch-clause-gives : goal.returns-then-branch-clause-gives
returns-then-branch-clause-gives g c =
    let self = c.args.self.now in
    let said = note_is c.in_ok-accept.field-0 c.accept.new.told c.if-branch.true (c.in_ok-accept.ensures.told c.if-branch.true) in
    let words : Words g.row.L.Denot g.row.P-P.Denot = record { most = g.P.P.Port.most; link = g.L.Link.holds; link_counts = g.L.Link.counts; port = g.P.P.Port.holds; port_counts = g.P.P.Port.counts } in
    let old : Moment g.row.L.Denot g.row.P-P.Denot =
    record { conns = self.conns.items; table = c.args.table.now.table; binds = binder g.P.Ports.holds g.P.Ports.faults c.args.table.now.ports; seen = g.O.Office.seen c.args.office.now; boxes = g.M.Mail.boxes c.args.mail.now } in
    let count = g.M.Mail.count c.args.mail.now in
    let A : Option Note → Type 0 = λ z. AcceptGives true c.forget.new.self c.accept.new.self (Ok z) in
    told_promise words self old refl count c.requires.office c.requires.inboxes c.accept.new.self old c.accept.new.told said.0 said.2
    (accept_did words self old refl count c.requires.office c.requires.inboxes c.accept.new.self said.0 (from_begun self c.forget.new.self c.accept.new.self (Ok (Some said.0)) c.forget.ensures (subst A said.1 c.in_ok-accept.ensures.gives)))

pub returns-then-pop-clause-gives : goal.returns-then-pop-clause-gives
returns-then-pop-clause-gives g c =
    let self = c.args.self.now in
    let said = popped_some _ _ _ true c.accept.new.self c.pop.new.self c.pop.result c.pop.new.told _ c.if-pop.true (c.pop.ensures.told c.if-pop.true) c.pop.ensures.gives in
    let words : Words g.row.L.Denot g.row.P-P.Denot = record { most = g.P.P.Port.most; link = g.L.Link.holds; link_counts = g.L.Link.counts; port = g.P.P.Port.holds; port_counts = g.P.P.Port.counts } in
    let old : Moment g.row.L.Denot g.row.P-P.Denot =
    record { conns = self.conns.items; table = c.args.table.now.table; binds = binder g.P.Ports.holds g.P.Ports.faults c.args.table.now.ports; seen = g.O.Office.seen c.args.office.now; boxes = g.M.Mail.boxes c.args.mail.now } in
    let count = g.M.Mail.count c.args.mail.now in
    let A : Option Note → Type 0 = λ z. AcceptGives true c.forget.new.self c.accept.new.self (Ok z) in
    let first = from_begun self c.forget.new.self c.accept.new.self (Ok None) c.forget.ensures (subst A (none_is c.in_ok-accept.field-0 c.accept.new.told c.if-branch.false) c.in_ok-accept.ensures.gives) in
    told_promise words self old refl count c.requires.office c.requires.inboxes c.pop.new.self (record old { boxes = g.M.Mail.boxes c.pop.new.mail }) c.pop.new.told said.0 said.1
    (pop_did words self old refl count c.requires.office c.requires.inboxes c.accept.new.self c.pop.new.self said.0 (g.M.Mail.boxes c.pop.new.mail) (g.M.Mail.actor c.args.mail.now) c.requires.mail first said.2)

pub pass-requires-clause-known : goal.pass-requires-clause-known
pass-requires-clause-known g c =
    let self = c.args.self.now in
    let words : Words g.row.L.Denot g.row.P-P.Denot = record { most = g.P.P.Port.most; link = g.L.Link.holds; link_counts = g.L.Link.counts; port = g.P.P.Port.holds; port_counts = g.P.P.Port.counts } in
    let old : Moment g.row.L.Denot g.row.P-P.Denot =
    record { conns = self.conns.items; table = c.args.table.now.table; binds = binder g.P.Ports.holds g.P.Ports.faults c.args.table.now.ports; seen = g.O.Office.seen c.args.office.now; boxes = g.M.Mail.boxes c.args.mail.now } in
    let count = g.M.Mail.count c.args.mail.now in
    let A : Option Note → Type 0 = λ z. AcceptGives true c.forget.new.self c.accept.new.self (Ok z) in
    let first = from_begun self c.forget.new.self c.accept.new.self (Ok None) c.forget.ensures (subst A (none_is c.in_ok-accept.field-0 c.accept.new.told c.if-branch.false) c.in_ok-accept.ensures.gives) in
    let k = c.requires.known in
    let P : Ring g.row.L.Denot → Type 0 = λ z. AreKnown words (record { conns = z.conns.items; table = old.table; binds = old.binds; seen = old.seen; boxes = g.M.Mail.boxes c.pop.new.mail }) in
    subst P (sym ((popped_none _ _ _ true c.accept.new.self c.pop.new.self c.pop.result c.pop.new.told _ c.if-pop.false c.pop.ensures.gives).0 ∙ first.0)) (known_conns words self old refl count c.requires.office c.requires.inboxes k.0 k.1 c.requires.sound k.2 k.3)

pub pass-requires-clause-ports : goal.pass-requires-clause-ports
pass-requires-clause-ports g c =
    let self = c.args.self.now in
    let words : Words g.row.L.Denot g.row.P-P.Denot = record { most = g.P.P.Port.most; link = g.L.Link.holds; link_counts = g.L.Link.counts; port = g.P.P.Port.holds; port_counts = g.P.P.Port.counts } in
    let old : Moment g.row.L.Denot g.row.P-P.Denot =
    record { conns = self.conns.items; table = c.args.table.now.table; binds = binder g.P.Ports.holds g.P.Ports.faults c.args.table.now.ports; seen = g.O.Office.seen c.args.office.now; boxes = g.M.Mail.boxes c.args.mail.now } in
    let count = g.M.Mail.count c.args.mail.now in
    let A : Option Note → Type 0 = λ z. AcceptGives true c.forget.new.self c.accept.new.self (Ok z) in
    let first = from_begun self c.forget.new.self c.accept.new.self (Ok None) c.forget.ensures (subst A (none_is c.in_ok-accept.field-0 c.accept.new.told c.if-branch.false) c.in_ok-accept.ensures.gives) in
    let k = c.requires.known in
    let P : Ring g.row.L.Denot → Type 0 = λ z. HaveOwnPorts z.conns.items in
    subst P (sym ((popped_none _ _ _ true c.accept.new.self c.pop.new.self c.pop.result c.pop.new.told _ c.if-pop.false c.pop.ensures.gives).0 ∙ first.0)) k.2.ports

pub pass-requires-clause-pump : goal.pass-requires-clause-pump
pass-requires-clause-pump g c =
    let self = c.args.self.now in
    let words : Words g.row.L.Denot g.row.P-P.Denot = record { most = g.P.P.Port.most; link = g.L.Link.holds; link_counts = g.L.Link.counts; port = g.P.P.Port.holds; port_counts = g.P.P.Port.counts } in
    let old : Moment g.row.L.Denot g.row.P-P.Denot =
    record { conns = self.conns.items; table = c.args.table.now.table; binds = binder g.P.Ports.holds g.P.Ports.faults c.args.table.now.ports; seen = g.O.Office.seen c.args.office.now; boxes = g.M.Mail.boxes c.args.mail.now } in
    let count = g.M.Mail.count c.args.mail.now in
    let A : Option Note → Type 0 = λ z. AcceptGives true c.forget.new.self c.accept.new.self (Ok z) in
    let first = from_begun self c.forget.new.self c.accept.new.self (Ok None) c.forget.ensures (subst A (none_is c.in_ok-accept.field-0 c.accept.new.told c.if-branch.false) c.in_ok-accept.ensures.gives) in
    let popped = (popped_none _ _ _ true c.accept.new.self c.pop.new.self c.pop.result c.pop.new.told _ c.if-pop.false c.pop.ensures.gives) in
    let k = c.requires.known in
    pump_one words self old refl count c.requires.office c.requires.inboxes c.accept.new.self c.pop.new.self (g.M.Mail.boxes c.pop.new.mail) (g.M.Mail.actor c.args.mail.now) c.requires.mail first popped k.0 k.1 k.2 k.3

pub pass-requires-clause-inboxes : goal.pass-requires-clause-inboxes
pass-requires-clause-inboxes g c =
    let self = c.args.self.now in
    let words : Words g.row.L.Denot g.row.P-P.Denot = record { most = g.P.P.Port.most; link = g.L.Link.holds; link_counts = g.L.Link.counts; port = g.P.P.Port.holds; port_counts = g.P.P.Port.counts } in
    let old : Moment g.row.L.Denot g.row.P-P.Denot =
    record { conns = self.conns.items; table = c.args.table.now.table; binds = binder g.P.Ports.holds g.P.Ports.faults c.args.table.now.ports; seen = g.O.Office.seen c.args.office.now; boxes = g.M.Mail.boxes c.args.mail.now } in
    let count = g.M.Mail.count c.args.mail.now in
    let A : Option Note → Type 0 = λ z. AcceptGives true c.forget.new.self c.accept.new.self (Ok z) in
    let first = from_begun self c.forget.new.self c.accept.new.self (Ok None) c.forget.ensures (subst A (none_is c.in_ok-accept.field-0 c.accept.new.told c.if-branch.false) c.in_ok-accept.ensures.gives) in
    let popped = (popped_none _ _ _ true c.accept.new.self c.pop.new.self c.pop.result c.pop.new.told _ c.if-pop.false c.pop.ensures.gives) in
    let k = c.requires.known in
    inboxes_one words self old refl count c.requires.office c.requires.inboxes c.accept.new.self c.pop.new.self (g.M.Mail.boxes c.pop.new.mail) (g.M.Mail.actor c.args.mail.now) c.requires.mail first popped (g.M.Mail.count c.pop.new.mail) c.pop.ensures.count k.0 k.1 k.3

pub returns-in_err-pass-clause-gives : goal.returns-in_err-pass-clause-gives
returns-in_err-pass-clause-gives g c =
    let self = c.args.self.now in
    let words : Words g.row.L.Denot g.row.P-P.Denot = record { most = g.P.P.Port.most; link = g.L.Link.holds; link_counts = g.L.Link.counts; port = g.P.P.Port.holds; port_counts = g.P.P.Port.counts } in
    let old : Moment g.row.L.Denot g.row.P-P.Denot =
    record { conns = self.conns.items; table = c.args.table.now.table; binds = binder g.P.Ports.holds g.P.Ports.faults c.args.table.now.ports; seen = g.O.Office.seen c.args.office.now; boxes = g.M.Mail.boxes c.args.mail.now } in
    let count = g.M.Mail.count c.args.mail.now in
    let A : Option Note → Type 0 = λ z. AcceptGives true c.forget.new.self c.accept.new.self (Ok z) in
    let first = from_begun self c.forget.new.self c.accept.new.self (Ok None) c.forget.ensures (subst A (none_is c.in_ok-accept.field-0 c.accept.new.told c.if-branch.false) c.in_ok-accept.ensures.gives) in
    let popped = (popped_none _ _ _ true c.accept.new.self c.pop.new.self c.pop.result c.pop.new.told _ c.if-pop.false c.pop.ensures.gives) in
    let boxes_one = g.M.Mail.boxes c.pop.new.mail in
    let new : Moment g.row.L.Denot g.row.P-P.Denot =
    record { conns = c.pass.new.self.conns.items; table = c.pass.new.table.table; binds = binder g.P.Ports.holds g.P.Ports.faults c.pass.new.table.ports; seen = g.O.Office.seen c.pass.new.office; boxes = g.M.Mail.boxes c.pass.new.mail } in
    err_promise words self old refl count c.requires.office c.requires.inboxes c.pass.new.self new c.in_err-pass.field-0.0 (note_with c.from_residual-in_err-pass.result c.pass.new.told) (note_err c.from_residual-in_err-pass.result c.pass.new.told c.from_residual-in_err-pass.ensures.0)
    (upper_stopped words self old refl count c.requires.office c.requires.inboxes c.accept.new.self c.pop.new.self boxes_one (g.M.Mail.actor c.args.mail.now) c.requires.mail first popped c.pass.new.self new (Err c.in_err-pass.field-0.0)
    c.in_err-pass.ensures.gives c.in_err-pass.ensures.ports c.in_err-pass.ensures.rooms (fitting _ _ _ (c.in_err-pass.ensures.sound c.requires.sound) c.in_err-pass.ensures.inboxes))

pub returns-then-branch-2-clause-gives : goal.returns-then-branch-2-clause-gives
returns-then-branch-2-clause-gives g c =
    let self = c.args.self.now in
    let said = note_is c.in_ok-pass.field-0 c.pass.new.told c.if-branch-2.true (c.in_ok-pass.ensures.told c.if-branch-2.true) in
    let words : Words g.row.L.Denot g.row.P-P.Denot = record { most = g.P.P.Port.most; link = g.L.Link.holds; link_counts = g.L.Link.counts; port = g.P.P.Port.holds; port_counts = g.P.P.Port.counts } in
    let old : Moment g.row.L.Denot g.row.P-P.Denot =
    record { conns = self.conns.items; table = c.args.table.now.table; binds = binder g.P.Ports.holds g.P.Ports.faults c.args.table.now.ports; seen = g.O.Office.seen c.args.office.now; boxes = g.M.Mail.boxes c.args.mail.now } in
    let count = g.M.Mail.count c.args.mail.now in
    let A : Option Note → Type 0 = λ z. AcceptGives true c.forget.new.self c.accept.new.self (Ok z) in
    let first = from_begun self c.forget.new.self c.accept.new.self (Ok None) c.forget.ensures (subst A (none_is c.in_ok-accept.field-0 c.accept.new.told c.if-branch.false) c.in_ok-accept.ensures.gives) in
    let popped = (popped_none _ _ _ true c.accept.new.self c.pop.new.self c.pop.result c.pop.new.told _ c.if-pop.false c.pop.ensures.gives) in
    let boxes_one = g.M.Mail.boxes c.pop.new.mail in
    let new : Moment g.row.L.Denot g.row.P-P.Denot =
    record { conns = c.pass.new.self.conns.items; table = c.pass.new.table.table; binds = binder g.P.Ports.holds g.P.Ports.faults c.pass.new.table.ports; seen = g.O.Office.seen c.pass.new.office; boxes = g.M.Mail.boxes c.pass.new.mail } in
    let U : Option Note → Type 0 = λ z. PassGives words true c.pop.new.self c.pass.new.self (among c.pop.new.self.conns.items (g.M.Mail.boxes c.pop.new.mail) old) new (Ok z) in
    told_promise words self old refl count c.requires.office c.requires.inboxes c.pass.new.self new c.pass.new.told said.0 said.2
    (upper_stopped words self old refl count c.requires.office c.requires.inboxes c.accept.new.self c.pop.new.self boxes_one (g.M.Mail.actor c.args.mail.now) c.requires.mail first popped c.pass.new.self new (Ok (Some said.0))
    (subst U said.1 c.in_ok-pass.ensures.gives) c.in_ok-pass.ensures.ports c.in_ok-pass.ensures.rooms (fitting _ _ _ (c.in_ok-pass.ensures.sound c.requires.sound) c.in_ok-pass.ensures.inboxes))

pub returns-in_err-accept-2-clause-gives : goal.returns-in_err-accept-2-clause-gives
returns-in_err-accept-2-clause-gives g c =
    let self = c.args.self.now in
    let words : Words g.row.L.Denot g.row.P-P.Denot = record { most = g.P.P.Port.most; link = g.L.Link.holds; link_counts = g.L.Link.counts; port = g.P.P.Port.holds; port_counts = g.P.P.Port.counts } in
    let old : Moment g.row.L.Denot g.row.P-P.Denot =
    record { conns = self.conns.items; table = c.args.table.now.table; binds = binder g.P.Ports.holds g.P.Ports.faults c.args.table.now.ports; seen = g.O.Office.seen c.args.office.now; boxes = g.M.Mail.boxes c.args.mail.now } in
    let count = g.M.Mail.count c.args.mail.now in
    let A : Option Note → Type 0 = λ z. AcceptGives true c.forget.new.self c.accept.new.self (Ok z) in
    let first = from_begun self c.forget.new.self c.accept.new.self (Ok None) c.forget.ensures (subst A (none_is c.in_ok-accept.field-0 c.accept.new.told c.if-branch.false) c.in_ok-accept.ensures.gives) in
    let popped = (popped_none _ _ _ true c.accept.new.self c.pop.new.self c.pop.result c.pop.new.told _ c.if-pop.false c.pop.ensures.gives) in
    let boxes_one = g.M.Mail.boxes c.pop.new.mail in
    let mid : Moment g.row.L.Denot g.row.P-P.Denot =
    record { conns = c.pass.new.self.conns.items; table = c.pass.new.table.table; binds = binder g.P.Ports.holds g.P.Ports.faults c.pass.new.table.ports; seen = g.O.Office.seen c.pass.new.office; boxes = g.M.Mail.boxes c.pass.new.mail } in
    let U : Option Note → Type 0 = λ z. PassGives words true c.pop.new.self c.pass.new.self (among c.pop.new.self.conns.items (g.M.Mail.boxes c.pop.new.mail) old) mid (Ok z) in
    let upper = subst U (none_is c.in_ok-pass.field-0 c.pass.new.told c.if-branch-2.false) c.in_ok-pass.ensures.gives in
    let ports = c.in_ok-pass.ensures.ports in
    let rooms = c.in_ok-pass.ensures.rooms in
    err_promise words self old refl count c.requires.office c.requires.inboxes c.accept-2.new.self mid c.in_err-accept-2.field-0.0 (note_with c.from_residual-in_err-accept-2.result c.accept-2.new.told) (note_err c.from_residual-in_err-accept-2.result c.accept-2.new.told c.from_residual-in_err-accept-2.ensures.0)
    (accept_refused_later words self old refl count c.requires.office c.requires.inboxes c.accept.new.self c.pop.new.self boxes_one (g.M.Mail.actor c.args.mail.now) c.requires.mail first popped c.pass.new.self mid refl upper ports rooms c.accept-2.new.self c.in_err-accept-2.field-0.0 c.in_err-accept-2.ensures.gives)

pub returns-then-branch-3-clause-gives : goal.returns-then-branch-3-clause-gives
returns-then-branch-3-clause-gives g c =
    let self = c.args.self.now in
    let said = note_is c.in_ok-accept-2.field-0 c.accept-2.new.told c.if-branch-3.true (c.in_ok-accept-2.ensures.told c.if-branch-3.true) in
    let words : Words g.row.L.Denot g.row.P-P.Denot = record { most = g.P.P.Port.most; link = g.L.Link.holds; link_counts = g.L.Link.counts; port = g.P.P.Port.holds; port_counts = g.P.P.Port.counts } in
    let old : Moment g.row.L.Denot g.row.P-P.Denot =
    record { conns = self.conns.items; table = c.args.table.now.table; binds = binder g.P.Ports.holds g.P.Ports.faults c.args.table.now.ports; seen = g.O.Office.seen c.args.office.now; boxes = g.M.Mail.boxes c.args.mail.now } in
    let count = g.M.Mail.count c.args.mail.now in
    let A : Option Note → Type 0 = λ z. AcceptGives true c.forget.new.self c.accept.new.self (Ok z) in
    let first = from_begun self c.forget.new.self c.accept.new.self (Ok None) c.forget.ensures (subst A (none_is c.in_ok-accept.field-0 c.accept.new.told c.if-branch.false) c.in_ok-accept.ensures.gives) in
    let popped = (popped_none _ _ _ true c.accept.new.self c.pop.new.self c.pop.result c.pop.new.told _ c.if-pop.false c.pop.ensures.gives) in
    let boxes_one = g.M.Mail.boxes c.pop.new.mail in
    let mid : Moment g.row.L.Denot g.row.P-P.Denot =
    record { conns = c.pass.new.self.conns.items; table = c.pass.new.table.table; binds = binder g.P.Ports.holds g.P.Ports.faults c.pass.new.table.ports; seen = g.O.Office.seen c.pass.new.office; boxes = g.M.Mail.boxes c.pass.new.mail } in
    let U : Option Note → Type 0 = λ z. PassGives words true c.pop.new.self c.pass.new.self (among c.pop.new.self.conns.items (g.M.Mail.boxes c.pop.new.mail) old) mid (Ok z) in
    let upper = subst U (none_is c.in_ok-pass.field-0 c.pass.new.told c.if-branch-2.false) c.in_ok-pass.ensures.gives in
    let ports = c.in_ok-pass.ensures.ports in
    let rooms = c.in_ok-pass.ensures.rooms in
    let B : Option Note → Type 0 = λ z. AcceptGives false c.pass.new.self c.accept-2.new.self (Ok z) in
    told_promise words self old refl count c.requires.office c.requires.inboxes c.accept-2.new.self mid c.accept-2.new.told said.0 said.2
    (accept_did_later words self old refl count c.requires.office c.requires.inboxes c.accept.new.self c.pop.new.self boxes_one (g.M.Mail.actor c.args.mail.now) c.requires.mail first popped c.pass.new.self mid refl upper ports rooms c.accept-2.new.self said.0 (subst B said.1 c.in_ok-accept-2.ensures.gives))

pub returns-then-pop-2-clause-gives : goal.returns-then-pop-2-clause-gives
returns-then-pop-2-clause-gives g c =
    let self = c.args.self.now in
    let said = popped_some _ _ _ false c.accept-2.new.self c.pop-2.new.self c.pop-2.result c.pop-2.new.told _ c.if-pop-2.true (c.pop-2.ensures.told c.if-pop-2.true) c.pop-2.ensures.gives in
    let words : Words g.row.L.Denot g.row.P-P.Denot = record { most = g.P.P.Port.most; link = g.L.Link.holds; link_counts = g.L.Link.counts; port = g.P.P.Port.holds; port_counts = g.P.P.Port.counts } in
    let old : Moment g.row.L.Denot g.row.P-P.Denot =
    record { conns = self.conns.items; table = c.args.table.now.table; binds = binder g.P.Ports.holds g.P.Ports.faults c.args.table.now.ports; seen = g.O.Office.seen c.args.office.now; boxes = g.M.Mail.boxes c.args.mail.now } in
    let count = g.M.Mail.count c.args.mail.now in
    let A : Option Note → Type 0 = λ z. AcceptGives true c.forget.new.self c.accept.new.self (Ok z) in
    let first = from_begun self c.forget.new.self c.accept.new.self (Ok None) c.forget.ensures (subst A (none_is c.in_ok-accept.field-0 c.accept.new.told c.if-branch.false) c.in_ok-accept.ensures.gives) in
    let popped = (popped_none _ _ _ true c.accept.new.self c.pop.new.self c.pop.result c.pop.new.told _ c.if-pop.false c.pop.ensures.gives) in
    let boxes_one = g.M.Mail.boxes c.pop.new.mail in
    let mid : Moment g.row.L.Denot g.row.P-P.Denot =
    record { conns = c.pass.new.self.conns.items; table = c.pass.new.table.table; binds = binder g.P.Ports.holds g.P.Ports.faults c.pass.new.table.ports; seen = g.O.Office.seen c.pass.new.office; boxes = g.M.Mail.boxes c.pass.new.mail } in
    let U : Option Note → Type 0 = λ z. PassGives words true c.pop.new.self c.pass.new.self (among c.pop.new.self.conns.items (g.M.Mail.boxes c.pop.new.mail) old) mid (Ok z) in
    let upper = subst U (none_is c.in_ok-pass.field-0 c.pass.new.told c.if-branch-2.false) c.in_ok-pass.ensures.gives in
    let ports = c.in_ok-pass.ensures.ports in
    let rooms = c.in_ok-pass.ensures.rooms in
    let B : Option Note → Type 0 = λ z. AcceptGives false c.pass.new.self c.accept-2.new.self (Ok z) in
    let second = subst B (none_is c.in_ok-accept-2.field-0 c.accept-2.new.told c.if-branch-3.false) c.in_ok-accept-2.ensures.gives in
    let N : ℕ → ℕ → Type 0 = λ k i. InboxGives k mid.boxes i false c.accept-2.new.self c.pop-2.new.self (Some said.0) (g.M.Mail.boxes c.pop-2.new.mail) in
    let gives = subst (λ k. N k (g.M.Mail.actor c.args.mail.now)) (c.in_ok-pass.ensures.mail.1 ∙ c.pop.ensures.count) (subst (λ i. N (g.M.Mail.count c.pass.new.mail) i) (c.in_ok-pass.ensures.mail.0 ∙ c.pop.ensures.actor) said.2) in
    told_promise words self old refl count c.requires.office c.requires.inboxes c.pop-2.new.self (record mid { boxes = g.M.Mail.boxes c.pop-2.new.mail }) c.pop-2.new.told said.0 said.1
    (pop_did_later words self old refl count c.requires.office c.requires.inboxes c.accept.new.self c.pop.new.self boxes_one (g.M.Mail.actor c.args.mail.now) c.requires.mail first popped c.pass.new.self mid refl upper ports rooms c.accept-2.new.self second c.pop-2.new.self said.0 (g.M.Mail.boxes c.pop-2.new.mail) gives)

pub pass-requires-2-clause-known : goal.pass-requires-2-clause-known
pass-requires-2-clause-known g c =
    let self = c.args.self.now in
    let words : Words g.row.L.Denot g.row.P-P.Denot = record { most = g.P.P.Port.most; link = g.L.Link.holds; link_counts = g.L.Link.counts; port = g.P.P.Port.holds; port_counts = g.P.P.Port.counts } in
    let old : Moment g.row.L.Denot g.row.P-P.Denot =
    record { conns = self.conns.items; table = c.args.table.now.table; binds = binder g.P.Ports.holds g.P.Ports.faults c.args.table.now.ports; seen = g.O.Office.seen c.args.office.now; boxes = g.M.Mail.boxes c.args.mail.now } in
    let count = g.M.Mail.count c.args.mail.now in
    let A : Option Note → Type 0 = λ z. AcceptGives true c.forget.new.self c.accept.new.self (Ok z) in
    let first = from_begun self c.forget.new.self c.accept.new.self (Ok None) c.forget.ensures (subst A (none_is c.in_ok-accept.field-0 c.accept.new.told c.if-branch.false) c.in_ok-accept.ensures.gives) in
    let popped = (popped_none _ _ _ true c.accept.new.self c.pop.new.self c.pop.result c.pop.new.told _ c.if-pop.false c.pop.ensures.gives) in
    let boxes_one = g.M.Mail.boxes c.pop.new.mail in
    let mid : Moment g.row.L.Denot g.row.P-P.Denot =
    record { conns = c.pass.new.self.conns.items; table = c.pass.new.table.table; binds = binder g.P.Ports.holds g.P.Ports.faults c.pass.new.table.ports; seen = g.O.Office.seen c.pass.new.office; boxes = g.M.Mail.boxes c.pass.new.mail } in
    let U : Option Note → Type 0 = λ z. PassGives words true c.pop.new.self c.pass.new.self (among c.pop.new.self.conns.items (g.M.Mail.boxes c.pop.new.mail) old) mid (Ok z) in
    let upper = subst U (none_is c.in_ok-pass.field-0 c.pass.new.told c.if-branch-2.false) c.in_ok-pass.ensures.gives in
    let ports = c.in_ok-pass.ensures.ports in
    let rooms = c.in_ok-pass.ensures.rooms in
    let B : Option Note → Type 0 = λ z. AcceptGives false c.pass.new.self c.accept-2.new.self (Ok z) in
    let second = subst B (none_is c.in_ok-accept-2.field-0 c.accept-2.new.told c.if-branch-3.false) c.in_ok-accept-2.ensures.gives in
    let N : ℕ → ℕ → Type 0 = λ k i. InboxGives k mid.boxes i false c.accept-2.new.self c.pop-2.new.self None (g.M.Mail.boxes c.pop-2.new.mail) in
    let popped_later = subst (λ k. N k (g.M.Mail.actor c.args.mail.now)) (c.in_ok-pass.ensures.mail.1 ∙ c.pop.ensures.count) (subst (λ i. N (g.M.Mail.count c.pass.new.mail) i) (c.in_ok-pass.ensures.mail.0 ∙ c.pop.ensures.actor) (popped_none _ _ _ false c.accept-2.new.self c.pop-2.new.self c.pop-2.result c.pop-2.new.told _ c.if-pop-2.false c.pop-2.ensures.gives)) in
    let k = c.requires.known in
    let P : Ring g.row.L.Denot → Type 0 = λ z. AreKnown words (record { conns = z.conns.items; table = mid.table; binds = mid.binds; seen = mid.seen; boxes = g.M.Mail.boxes c.pop-2.new.mail }) in
    subst P (sym (popped_later.0 ∙ second.0)) (known_later words self old refl count c.requires.office c.requires.inboxes c.accept.new.self c.pop.new.self boxes_one (g.M.Mail.actor c.args.mail.now) c.requires.mail first popped c.pass.new.self mid refl upper ports rooms (known_conns words self old refl count c.requires.office c.requires.inboxes k.0 k.1 c.requires.sound k.2 k.3))

pub pass-requires-2-clause-ports : goal.pass-requires-2-clause-ports
pass-requires-2-clause-ports g c =
    let self = c.args.self.now in
    let words : Words g.row.L.Denot g.row.P-P.Denot = record { most = g.P.P.Port.most; link = g.L.Link.holds; link_counts = g.L.Link.counts; port = g.P.P.Port.holds; port_counts = g.P.P.Port.counts } in
    let old : Moment g.row.L.Denot g.row.P-P.Denot =
    record { conns = self.conns.items; table = c.args.table.now.table; binds = binder g.P.Ports.holds g.P.Ports.faults c.args.table.now.ports; seen = g.O.Office.seen c.args.office.now; boxes = g.M.Mail.boxes c.args.mail.now } in
    let count = g.M.Mail.count c.args.mail.now in
    let A : Option Note → Type 0 = λ z. AcceptGives true c.forget.new.self c.accept.new.self (Ok z) in
    let first = from_begun self c.forget.new.self c.accept.new.self (Ok None) c.forget.ensures (subst A (none_is c.in_ok-accept.field-0 c.accept.new.told c.if-branch.false) c.in_ok-accept.ensures.gives) in
    let popped = (popped_none _ _ _ true c.accept.new.self c.pop.new.self c.pop.result c.pop.new.told _ c.if-pop.false c.pop.ensures.gives) in
    let boxes_one = g.M.Mail.boxes c.pop.new.mail in
    let mid : Moment g.row.L.Denot g.row.P-P.Denot =
    record { conns = c.pass.new.self.conns.items; table = c.pass.new.table.table; binds = binder g.P.Ports.holds g.P.Ports.faults c.pass.new.table.ports; seen = g.O.Office.seen c.pass.new.office; boxes = g.M.Mail.boxes c.pass.new.mail } in
    let U : Option Note → Type 0 = λ z. PassGives words true c.pop.new.self c.pass.new.self (among c.pop.new.self.conns.items (g.M.Mail.boxes c.pop.new.mail) old) mid (Ok z) in
    let upper = subst U (none_is c.in_ok-pass.field-0 c.pass.new.told c.if-branch-2.false) c.in_ok-pass.ensures.gives in
    let ports = c.in_ok-pass.ensures.ports in
    let rooms = c.in_ok-pass.ensures.rooms in
    let B : Option Note → Type 0 = λ z. AcceptGives false c.pass.new.self c.accept-2.new.self (Ok z) in
    let second = subst B (none_is c.in_ok-accept-2.field-0 c.accept-2.new.told c.if-branch-3.false) c.in_ok-accept-2.ensures.gives in
    let N : ℕ → ℕ → Type 0 = λ k i. InboxGives k mid.boxes i false c.accept-2.new.self c.pop-2.new.self None (g.M.Mail.boxes c.pop-2.new.mail) in
    let popped_later = subst (λ k. N k (g.M.Mail.actor c.args.mail.now)) (c.in_ok-pass.ensures.mail.1 ∙ c.pop.ensures.count) (subst (λ i. N (g.M.Mail.count c.pass.new.mail) i) (c.in_ok-pass.ensures.mail.0 ∙ c.pop.ensures.actor) (popped_none _ _ _ false c.accept-2.new.self c.pop-2.new.self c.pop-2.result c.pop-2.new.told _ c.if-pop-2.false c.pop-2.ensures.gives)) in
    let P : Ring g.row.L.Denot → Type 0 = λ z. HaveOwnPorts z.conns.items in
    subst P (sym (popped_later.0 ∙ second.0)) ports

pub pass-requires-2-clause-pump : goal.pass-requires-2-clause-pump
pass-requires-2-clause-pump g c =
    let self = c.args.self.now in
    let words : Words g.row.L.Denot g.row.P-P.Denot = record { most = g.P.P.Port.most; link = g.L.Link.holds; link_counts = g.L.Link.counts; port = g.P.P.Port.holds; port_counts = g.P.P.Port.counts } in
    let old : Moment g.row.L.Denot g.row.P-P.Denot =
    record { conns = self.conns.items; table = c.args.table.now.table; binds = binder g.P.Ports.holds g.P.Ports.faults c.args.table.now.ports; seen = g.O.Office.seen c.args.office.now; boxes = g.M.Mail.boxes c.args.mail.now } in
    let count = g.M.Mail.count c.args.mail.now in
    let A : Option Note → Type 0 = λ z. AcceptGives true c.forget.new.self c.accept.new.self (Ok z) in
    let first = from_begun self c.forget.new.self c.accept.new.self (Ok None) c.forget.ensures (subst A (none_is c.in_ok-accept.field-0 c.accept.new.told c.if-branch.false) c.in_ok-accept.ensures.gives) in
    let popped = (popped_none _ _ _ true c.accept.new.self c.pop.new.self c.pop.result c.pop.new.told _ c.if-pop.false c.pop.ensures.gives) in
    let boxes_one = g.M.Mail.boxes c.pop.new.mail in
    let mid : Moment g.row.L.Denot g.row.P-P.Denot =
    record { conns = c.pass.new.self.conns.items; table = c.pass.new.table.table; binds = binder g.P.Ports.holds g.P.Ports.faults c.pass.new.table.ports; seen = g.O.Office.seen c.pass.new.office; boxes = g.M.Mail.boxes c.pass.new.mail } in
    let U : Option Note → Type 0 = λ z. PassGives words true c.pop.new.self c.pass.new.self (among c.pop.new.self.conns.items (g.M.Mail.boxes c.pop.new.mail) old) mid (Ok z) in
    let upper = subst U (none_is c.in_ok-pass.field-0 c.pass.new.told c.if-branch-2.false) c.in_ok-pass.ensures.gives in
    let ports = c.in_ok-pass.ensures.ports in
    let rooms = c.in_ok-pass.ensures.rooms in
    let B : Option Note → Type 0 = λ z. AcceptGives false c.pass.new.self c.accept-2.new.self (Ok z) in
    let second = subst B (none_is c.in_ok-accept-2.field-0 c.accept-2.new.told c.if-branch-3.false) c.in_ok-accept-2.ensures.gives in
    let N : ℕ → ℕ → Type 0 = λ k i. InboxGives k mid.boxes i false c.accept-2.new.self c.pop-2.new.self None (g.M.Mail.boxes c.pop-2.new.mail) in
    let popped_later = subst (λ k. N k (g.M.Mail.actor c.args.mail.now)) (c.in_ok-pass.ensures.mail.1 ∙ c.pop.ensures.count) (subst (λ i. N (g.M.Mail.count c.pass.new.mail) i) (c.in_ok-pass.ensures.mail.0 ∙ c.pop.ensures.actor) (popped_none _ _ _ false c.accept-2.new.self c.pop-2.new.self c.pop-2.result c.pop-2.new.told _ c.if-pop-2.false c.pop-2.ensures.gives)) in
    let k = c.requires.known in
    pump_two words self old refl count c.requires.office c.requires.inboxes c.accept.new.self c.pop.new.self boxes_one (g.M.Mail.actor c.args.mail.now) c.requires.mail first popped c.pass.new.self mid refl upper ports rooms c.accept-2.new.self second c.pop-2.new.self (g.M.Mail.boxes c.pop-2.new.mail) popped_later k.0 k.1 k.2 k.3

pub pass-requires-2-clause-inboxes : goal.pass-requires-2-clause-inboxes
pass-requires-2-clause-inboxes g c =
    let self = c.args.self.now in
    let words : Words g.row.L.Denot g.row.P-P.Denot = record { most = g.P.P.Port.most; link = g.L.Link.holds; link_counts = g.L.Link.counts; port = g.P.P.Port.holds; port_counts = g.P.P.Port.counts } in
    let old : Moment g.row.L.Denot g.row.P-P.Denot =
    record { conns = self.conns.items; table = c.args.table.now.table; binds = binder g.P.Ports.holds g.P.Ports.faults c.args.table.now.ports; seen = g.O.Office.seen c.args.office.now; boxes = g.M.Mail.boxes c.args.mail.now } in
    let count = g.M.Mail.count c.args.mail.now in
    let A : Option Note → Type 0 = λ z. AcceptGives true c.forget.new.self c.accept.new.self (Ok z) in
    let first = from_begun self c.forget.new.self c.accept.new.self (Ok None) c.forget.ensures (subst A (none_is c.in_ok-accept.field-0 c.accept.new.told c.if-branch.false) c.in_ok-accept.ensures.gives) in
    let popped = (popped_none _ _ _ true c.accept.new.self c.pop.new.self c.pop.result c.pop.new.told _ c.if-pop.false c.pop.ensures.gives) in
    let boxes_one = g.M.Mail.boxes c.pop.new.mail in
    let mid : Moment g.row.L.Denot g.row.P-P.Denot =
    record { conns = c.pass.new.self.conns.items; table = c.pass.new.table.table; binds = binder g.P.Ports.holds g.P.Ports.faults c.pass.new.table.ports; seen = g.O.Office.seen c.pass.new.office; boxes = g.M.Mail.boxes c.pass.new.mail } in
    let U : Option Note → Type 0 = λ z. PassGives words true c.pop.new.self c.pass.new.self (among c.pop.new.self.conns.items (g.M.Mail.boxes c.pop.new.mail) old) mid (Ok z) in
    let upper = subst U (none_is c.in_ok-pass.field-0 c.pass.new.told c.if-branch-2.false) c.in_ok-pass.ensures.gives in
    let ports = c.in_ok-pass.ensures.ports in
    let rooms = c.in_ok-pass.ensures.rooms in
    let B : Option Note → Type 0 = λ z. AcceptGives false c.pass.new.self c.accept-2.new.self (Ok z) in
    let second = subst B (none_is c.in_ok-accept-2.field-0 c.accept-2.new.told c.if-branch-3.false) c.in_ok-accept-2.ensures.gives in
    let N : ℕ → ℕ → Type 0 = λ k i. InboxGives k mid.boxes i false c.accept-2.new.self c.pop-2.new.self None (g.M.Mail.boxes c.pop-2.new.mail) in
    let popped_later = subst (λ k. N k (g.M.Mail.actor c.args.mail.now)) (c.in_ok-pass.ensures.mail.1 ∙ c.pop.ensures.count) (subst (λ i. N (g.M.Mail.count c.pass.new.mail) i) (c.in_ok-pass.ensures.mail.0 ∙ c.pop.ensures.actor) (popped_none _ _ _ false c.accept-2.new.self c.pop-2.new.self c.pop-2.result c.pop-2.new.told _ c.if-pop-2.false c.pop-2.ensures.gives)) in
    inboxes_two words self old refl count c.requires.office c.requires.inboxes c.accept.new.self c.pop.new.self boxes_one (g.M.Mail.actor c.args.mail.now) c.requires.mail first popped c.pass.new.self mid refl upper ports rooms c.accept-2.new.self second c.pop-2.new.self (g.M.Mail.boxes c.pop-2.new.mail) popped_later (g.M.Mail.count c.pass.new.mail) (g.M.Mail.count c.pop-2.new.mail) c.pop-2.ensures.count c.in_ok-pass.ensures.inboxes

pub returns-clause-gives : goal.returns-clause-gives
returns-clause-gives g c =
    let self = c.args.self.now in
    let words : Words g.row.L.Denot g.row.P-P.Denot = record { most = g.P.P.Port.most; link = g.L.Link.holds; link_counts = g.L.Link.counts; port = g.P.P.Port.holds; port_counts = g.P.P.Port.counts } in
    let old : Moment g.row.L.Denot g.row.P-P.Denot =
    record { conns = self.conns.items; table = c.args.table.now.table; binds = binder g.P.Ports.holds g.P.Ports.faults c.args.table.now.ports; seen = g.O.Office.seen c.args.office.now; boxes = g.M.Mail.boxes c.args.mail.now } in
    let count = g.M.Mail.count c.args.mail.now in
    let A : Option Note → Type 0 = λ z. AcceptGives true c.forget.new.self c.accept.new.self (Ok z) in
    let first = from_begun self c.forget.new.self c.accept.new.self (Ok None) c.forget.ensures (subst A (none_is c.in_ok-accept.field-0 c.accept.new.told c.if-branch.false) c.in_ok-accept.ensures.gives) in
    let popped = (popped_none _ _ _ true c.accept.new.self c.pop.new.self c.pop.result c.pop.new.told _ c.if-pop.false c.pop.ensures.gives) in
    let boxes_one = g.M.Mail.boxes c.pop.new.mail in
    let mid : Moment g.row.L.Denot g.row.P-P.Denot =
    record { conns = c.pass.new.self.conns.items; table = c.pass.new.table.table; binds = binder g.P.Ports.holds g.P.Ports.faults c.pass.new.table.ports; seen = g.O.Office.seen c.pass.new.office; boxes = g.M.Mail.boxes c.pass.new.mail } in
    let U : Option Note → Type 0 = λ z. PassGives words true c.pop.new.self c.pass.new.self (among c.pop.new.self.conns.items (g.M.Mail.boxes c.pop.new.mail) old) mid (Ok z) in
    let upper = subst U (none_is c.in_ok-pass.field-0 c.pass.new.told c.if-branch-2.false) c.in_ok-pass.ensures.gives in
    let ports = c.in_ok-pass.ensures.ports in
    let rooms = c.in_ok-pass.ensures.rooms in
    let B : Option Note → Type 0 = λ z. AcceptGives false c.pass.new.self c.accept-2.new.self (Ok z) in
    let second = subst B (none_is c.in_ok-accept-2.field-0 c.accept-2.new.told c.if-branch-3.false) c.in_ok-accept-2.ensures.gives in
    let N : ℕ → ℕ → Type 0 = λ k i. InboxGives k mid.boxes i false c.accept-2.new.self c.pop-2.new.self None (g.M.Mail.boxes c.pop-2.new.mail) in
    let popped_later = subst (λ k. N k (g.M.Mail.actor c.args.mail.now)) (c.in_ok-pass.ensures.mail.1 ∙ c.pop.ensures.count) (subst (λ i. N (g.M.Mail.count c.pass.new.mail) i) (c.in_ok-pass.ensures.mail.0 ∙ c.pop.ensures.actor) (popped_none _ _ _ false c.accept-2.new.self c.pop-2.new.self c.pop-2.result c.pop-2.new.told _ c.if-pop-2.false c.pop-2.ensures.gives)) in
    let new : Moment g.row.L.Denot g.row.P-P.Denot =
    record { conns = c.pass-2.new.self.conns.items; table = c.pass-2.new.table.table; binds = binder g.P.Ports.holds g.P.Ports.faults c.pass-2.new.table.ports; seen = g.O.Office.seen c.pass-2.new.office; boxes = g.M.Mail.boxes c.pass-2.new.mail } in
    lower_gives words self old refl count c.requires.office c.requires.inboxes c.accept.new.self c.pop.new.self boxes_one (g.M.Mail.actor c.args.mail.now) c.requires.mail first popped c.pass.new.self mid refl upper ports rooms c.accept-2.new.self second c.pop-2.new.self (g.M.Mail.boxes c.pop-2.new.mail) popped_later
    c.pass-2.new.self new (note_with c.pass-2.result c.pass-2.new.told) refl c.pass-2.ensures.gives c.pass-2.ensures.ports c.pass-2.ensures.rooms (fitting _ _ _ (c.pass-2.ensures.sound (c.in_ok-pass.ensures.sound c.requires.sound)) c.pass-2.ensures.inboxes)

pub returns-clause-asked : goal.returns-clause-asked
returns-clause-asked g c quiet =
    let self = c.args.self.now in
    let words : Words g.row.L.Denot g.row.P-P.Denot = record { most = g.P.P.Port.most; link = g.L.Link.holds; link_counts = g.L.Link.counts; port = g.P.P.Port.holds; port_counts = g.P.P.Port.counts } in
    let old : Moment g.row.L.Denot g.row.P-P.Denot =
    record { conns = self.conns.items; table = c.args.table.now.table; binds = binder g.P.Ports.holds g.P.Ports.faults c.args.table.now.ports; seen = g.O.Office.seen c.args.office.now; boxes = g.M.Mail.boxes c.args.mail.now } in
    let count = g.M.Mail.count c.args.mail.now in
    let A : Option Note → Type 0 = λ z. AcceptGives true c.forget.new.self c.accept.new.self (Ok z) in
    let first = from_begun self c.forget.new.self c.accept.new.self (Ok None) c.forget.ensures (subst A (none_is c.in_ok-accept.field-0 c.accept.new.told c.if-branch.false) c.in_ok-accept.ensures.gives) in
    let popped = (popped_none _ _ _ true c.accept.new.self c.pop.new.self c.pop.result c.pop.new.told _ c.if-pop.false c.pop.ensures.gives) in
    let boxes_one = g.M.Mail.boxes c.pop.new.mail in
    let mid : Moment g.row.L.Denot g.row.P-P.Denot =
    record { conns = c.pass.new.self.conns.items; table = c.pass.new.table.table; binds = binder g.P.Ports.holds g.P.Ports.faults c.pass.new.table.ports; seen = g.O.Office.seen c.pass.new.office; boxes = g.M.Mail.boxes c.pass.new.mail } in
    let U : Option Note → Type 0 = λ z. PassGives words true c.pop.new.self c.pass.new.self (among c.pop.new.self.conns.items (g.M.Mail.boxes c.pop.new.mail) old) mid (Ok z) in
    let upper = subst U (none_is c.in_ok-pass.field-0 c.pass.new.told c.if-branch-2.false) c.in_ok-pass.ensures.gives in
    let ports = c.in_ok-pass.ensures.ports in
    let rooms = c.in_ok-pass.ensures.rooms in
    let B : Option Note → Type 0 = λ z. AcceptGives false c.pass.new.self c.accept-2.new.self (Ok z) in
    let second = subst B (none_is c.in_ok-accept-2.field-0 c.accept-2.new.told c.if-branch-3.false) c.in_ok-accept-2.ensures.gives in
    asked_once c.accept.new.self.next_seat c.accept-2.new.self.next_seat old.boxes.told mid.boxes.told (g.M.Mail.missed c.args.mail.now) (g.M.Mail.missed c.pop.new.mail)
    (g.M.Mail.missed c.pass.new.mail) (g.M.Mail.missed c.pop-2.new.mail) (g.M.Mail.missed c.pass-2.new.mail) (missed_none (is_in_part true c.accept.new.self.next_seat 1) c.pop.result c.pop.new.told old.boxes.told (g.M.Mail.missed c.args.mail.now) (g.M.Mail.missed c.pop.new.mail) c.if-pop.false c.pop.ensures.missed) c.in_ok-pass.ensures.mail.2
    (seat_later words self old refl count c.requires.office c.requires.inboxes c.accept.new.self c.pop.new.self boxes_one (g.M.Mail.actor c.args.mail.now) c.requires.mail first popped c.pass.new.self mid refl upper ports rooms c.accept-2.new.self second)
    (told_later words self old refl count c.requires.office c.requires.inboxes c.accept.new.self c.pop.new.self boxes_one (g.M.Mail.actor c.args.mail.now) c.requires.mail first popped c.pass.new.self mid refl upper ports rooms)
    (missed_none (is_in_part false c.accept-2.new.self.next_seat 1) c.pop-2.result c.pop-2.new.told mid.boxes.told (g.M.Mail.missed c.pass.new.mail) (g.M.Mail.missed c.pop-2.new.mail) c.if-pop-2.false c.pop-2.ensures.missed) c.pass-2.ensures.mail.2

pub returns-in_err-accept-clause-sights : goal.returns-in_err-accept-clause-sights
returns-in_err-accept-clause-sights g c =
    let self = c.args.self.now in
    let words : Words g.row.L.Denot g.row.P-P.Denot = record { most = g.P.P.Port.most; link = g.L.Link.holds; link_counts = g.L.Link.counts; port = g.P.P.Port.holds; port_counts = g.P.P.Port.counts } in
    let old : Moment g.row.L.Denot g.row.P-P.Denot =
    record { conns = self.conns.items; table = c.args.table.now.table; binds = binder g.P.Ports.holds g.P.Ports.faults c.args.table.now.ports; seen = g.O.Office.seen c.args.office.now; boxes = g.M.Mail.boxes c.args.mail.now } in
    let count = g.M.Mail.count c.args.mail.now in
    accept_refused_sights words self old refl count c.requires.office c.requires.inboxes c.accept.new.self c.in_err-accept.field-0.0 (from_begun self c.forget.new.self c.accept.new.self (Err c.in_err-accept.field-0.0) c.forget.ensures c.in_err-accept.ensures.gives)

pub returns-then-branch-clause-sights : goal.returns-then-branch-clause-sights
returns-then-branch-clause-sights g c =
    let self = c.args.self.now in
    let said = note_is c.in_ok-accept.field-0 c.accept.new.told c.if-branch.true (c.in_ok-accept.ensures.told c.if-branch.true) in
    let words : Words g.row.L.Denot g.row.P-P.Denot = record { most = g.P.P.Port.most; link = g.L.Link.holds; link_counts = g.L.Link.counts; port = g.P.P.Port.holds; port_counts = g.P.P.Port.counts } in
    let old : Moment g.row.L.Denot g.row.P-P.Denot =
    record { conns = self.conns.items; table = c.args.table.now.table; binds = binder g.P.Ports.holds g.P.Ports.faults c.args.table.now.ports; seen = g.O.Office.seen c.args.office.now; boxes = g.M.Mail.boxes c.args.mail.now } in
    let count = g.M.Mail.count c.args.mail.now in
    let A : Option Note → Type 0 = λ z. AcceptGives true c.forget.new.self c.accept.new.self (Ok z) in
    accept_did_sights words self old refl count c.requires.office c.requires.inboxes c.accept.new.self said.0 (from_begun self c.forget.new.self c.accept.new.self (Ok (Some said.0)) c.forget.ensures (subst A said.1 c.in_ok-accept.ensures.gives))

pub returns-then-pop-clause-sights : goal.returns-then-pop-clause-sights
returns-then-pop-clause-sights g c =
    let self = c.args.self.now in
    let said = popped_some _ _ _ true c.accept.new.self c.pop.new.self c.pop.result c.pop.new.told _ c.if-pop.true (c.pop.ensures.told c.if-pop.true) c.pop.ensures.gives in
    let words : Words g.row.L.Denot g.row.P-P.Denot = record { most = g.P.P.Port.most; link = g.L.Link.holds; link_counts = g.L.Link.counts; port = g.P.P.Port.holds; port_counts = g.P.P.Port.counts } in
    let old : Moment g.row.L.Denot g.row.P-P.Denot =
    record { conns = self.conns.items; table = c.args.table.now.table; binds = binder g.P.Ports.holds g.P.Ports.faults c.args.table.now.ports; seen = g.O.Office.seen c.args.office.now; boxes = g.M.Mail.boxes c.args.mail.now } in
    let count = g.M.Mail.count c.args.mail.now in
    let A : Option Note → Type 0 = λ z. AcceptGives true c.forget.new.self c.accept.new.self (Ok z) in
    let first = from_begun self c.forget.new.self c.accept.new.self (Ok None) c.forget.ensures (subst A (none_is c.in_ok-accept.field-0 c.accept.new.told c.if-branch.false) c.in_ok-accept.ensures.gives) in
    pop_did_sights words self old refl count c.requires.office c.requires.inboxes c.accept.new.self c.pop.new.self said.0 (g.M.Mail.boxes c.pop.new.mail) (g.M.Mail.actor c.args.mail.now) c.requires.mail first said.2

pub returns-in_err-pass-clause-sights : goal.returns-in_err-pass-clause-sights
returns-in_err-pass-clause-sights g c =
    let self = c.args.self.now in
    let words : Words g.row.L.Denot g.row.P-P.Denot = record { most = g.P.P.Port.most; link = g.L.Link.holds; link_counts = g.L.Link.counts; port = g.P.P.Port.holds; port_counts = g.P.P.Port.counts } in
    let old : Moment g.row.L.Denot g.row.P-P.Denot =
    record { conns = self.conns.items; table = c.args.table.now.table; binds = binder g.P.Ports.holds g.P.Ports.faults c.args.table.now.ports; seen = g.O.Office.seen c.args.office.now; boxes = g.M.Mail.boxes c.args.mail.now } in
    let count = g.M.Mail.count c.args.mail.now in
    let A : Option Note → Type 0 = λ z. AcceptGives true c.forget.new.self c.accept.new.self (Ok z) in
    let first = from_begun self c.forget.new.self c.accept.new.self (Ok None) c.forget.ensures (subst A (none_is c.in_ok-accept.field-0 c.accept.new.told c.if-branch.false) c.in_ok-accept.ensures.gives) in
    let popped = (popped_none _ _ _ true c.accept.new.self c.pop.new.self c.pop.result c.pop.new.told _ c.if-pop.false c.pop.ensures.gives) in
    let boxes_one = g.M.Mail.boxes c.pop.new.mail in
    let new : Moment g.row.L.Denot g.row.P-P.Denot =
    record { conns = c.pass.new.self.conns.items; table = c.pass.new.table.table; binds = binder g.P.Ports.holds g.P.Ports.faults c.pass.new.table.ports; seen = g.O.Office.seen c.pass.new.office; boxes = g.M.Mail.boxes c.pass.new.mail } in
    upper_stopped_sights words self old refl count c.requires.office c.requires.inboxes c.accept.new.self c.pop.new.self boxes_one (g.M.Mail.actor c.args.mail.now) c.requires.mail first popped c.pass.new.self new (Err c.in_err-pass.field-0.0)
    c.in_err-pass.ensures.gives c.in_err-pass.ensures.ports c.in_err-pass.ensures.rooms

pub returns-then-branch-2-clause-sights : goal.returns-then-branch-2-clause-sights
returns-then-branch-2-clause-sights g c =
    let self = c.args.self.now in
    let said = note_is c.in_ok-pass.field-0 c.pass.new.told c.if-branch-2.true (c.in_ok-pass.ensures.told c.if-branch-2.true) in
    let words : Words g.row.L.Denot g.row.P-P.Denot = record { most = g.P.P.Port.most; link = g.L.Link.holds; link_counts = g.L.Link.counts; port = g.P.P.Port.holds; port_counts = g.P.P.Port.counts } in
    let old : Moment g.row.L.Denot g.row.P-P.Denot =
    record { conns = self.conns.items; table = c.args.table.now.table; binds = binder g.P.Ports.holds g.P.Ports.faults c.args.table.now.ports; seen = g.O.Office.seen c.args.office.now; boxes = g.M.Mail.boxes c.args.mail.now } in
    let count = g.M.Mail.count c.args.mail.now in
    let A : Option Note → Type 0 = λ z. AcceptGives true c.forget.new.self c.accept.new.self (Ok z) in
    let first = from_begun self c.forget.new.self c.accept.new.self (Ok None) c.forget.ensures (subst A (none_is c.in_ok-accept.field-0 c.accept.new.told c.if-branch.false) c.in_ok-accept.ensures.gives) in
    let popped = (popped_none _ _ _ true c.accept.new.self c.pop.new.self c.pop.result c.pop.new.told _ c.if-pop.false c.pop.ensures.gives) in
    let boxes_one = g.M.Mail.boxes c.pop.new.mail in
    let new : Moment g.row.L.Denot g.row.P-P.Denot =
    record { conns = c.pass.new.self.conns.items; table = c.pass.new.table.table; binds = binder g.P.Ports.holds g.P.Ports.faults c.pass.new.table.ports; seen = g.O.Office.seen c.pass.new.office; boxes = g.M.Mail.boxes c.pass.new.mail } in
    let U : Option Note → Type 0 = λ z. PassGives words true c.pop.new.self c.pass.new.self (among c.pop.new.self.conns.items (g.M.Mail.boxes c.pop.new.mail) old) new (Ok z) in
    upper_stopped_sights words self old refl count c.requires.office c.requires.inboxes c.accept.new.self c.pop.new.self boxes_one (g.M.Mail.actor c.args.mail.now) c.requires.mail first popped c.pass.new.self new (Ok (Some said.0))
    (subst U said.1 c.in_ok-pass.ensures.gives) c.in_ok-pass.ensures.ports c.in_ok-pass.ensures.rooms

pub returns-in_err-accept-2-clause-sights : goal.returns-in_err-accept-2-clause-sights
returns-in_err-accept-2-clause-sights g c =
    let self = c.args.self.now in
    let words : Words g.row.L.Denot g.row.P-P.Denot = record { most = g.P.P.Port.most; link = g.L.Link.holds; link_counts = g.L.Link.counts; port = g.P.P.Port.holds; port_counts = g.P.P.Port.counts } in
    let old : Moment g.row.L.Denot g.row.P-P.Denot =
    record { conns = self.conns.items; table = c.args.table.now.table; binds = binder g.P.Ports.holds g.P.Ports.faults c.args.table.now.ports; seen = g.O.Office.seen c.args.office.now; boxes = g.M.Mail.boxes c.args.mail.now } in
    let count = g.M.Mail.count c.args.mail.now in
    let A : Option Note → Type 0 = λ z. AcceptGives true c.forget.new.self c.accept.new.self (Ok z) in
    let first = from_begun self c.forget.new.self c.accept.new.self (Ok None) c.forget.ensures (subst A (none_is c.in_ok-accept.field-0 c.accept.new.told c.if-branch.false) c.in_ok-accept.ensures.gives) in
    let popped = (popped_none _ _ _ true c.accept.new.self c.pop.new.self c.pop.result c.pop.new.told _ c.if-pop.false c.pop.ensures.gives) in
    let boxes_one = g.M.Mail.boxes c.pop.new.mail in
    let mid : Moment g.row.L.Denot g.row.P-P.Denot =
    record { conns = c.pass.new.self.conns.items; table = c.pass.new.table.table; binds = binder g.P.Ports.holds g.P.Ports.faults c.pass.new.table.ports; seen = g.O.Office.seen c.pass.new.office; boxes = g.M.Mail.boxes c.pass.new.mail } in
    let U : Option Note → Type 0 = λ z. PassGives words true c.pop.new.self c.pass.new.self (among c.pop.new.self.conns.items (g.M.Mail.boxes c.pop.new.mail) old) mid (Ok z) in
    let upper = subst U (none_is c.in_ok-pass.field-0 c.pass.new.told c.if-branch-2.false) c.in_ok-pass.ensures.gives in
    let ports = c.in_ok-pass.ensures.ports in
    let rooms = c.in_ok-pass.ensures.rooms in
    accept_refused_later_sights words self old refl count c.requires.office c.requires.inboxes c.accept.new.self c.pop.new.self boxes_one (g.M.Mail.actor c.args.mail.now) c.requires.mail first popped c.pass.new.self mid refl upper ports rooms c.accept-2.new.self c.in_err-accept-2.field-0.0 c.in_err-accept-2.ensures.gives

pub returns-then-branch-3-clause-sights : goal.returns-then-branch-3-clause-sights
returns-then-branch-3-clause-sights g c =
    let self = c.args.self.now in
    let said = note_is c.in_ok-accept-2.field-0 c.accept-2.new.told c.if-branch-3.true (c.in_ok-accept-2.ensures.told c.if-branch-3.true) in
    let words : Words g.row.L.Denot g.row.P-P.Denot = record { most = g.P.P.Port.most; link = g.L.Link.holds; link_counts = g.L.Link.counts; port = g.P.P.Port.holds; port_counts = g.P.P.Port.counts } in
    let old : Moment g.row.L.Denot g.row.P-P.Denot =
    record { conns = self.conns.items; table = c.args.table.now.table; binds = binder g.P.Ports.holds g.P.Ports.faults c.args.table.now.ports; seen = g.O.Office.seen c.args.office.now; boxes = g.M.Mail.boxes c.args.mail.now } in
    let count = g.M.Mail.count c.args.mail.now in
    let A : Option Note → Type 0 = λ z. AcceptGives true c.forget.new.self c.accept.new.self (Ok z) in
    let first = from_begun self c.forget.new.self c.accept.new.self (Ok None) c.forget.ensures (subst A (none_is c.in_ok-accept.field-0 c.accept.new.told c.if-branch.false) c.in_ok-accept.ensures.gives) in
    let popped = (popped_none _ _ _ true c.accept.new.self c.pop.new.self c.pop.result c.pop.new.told _ c.if-pop.false c.pop.ensures.gives) in
    let boxes_one = g.M.Mail.boxes c.pop.new.mail in
    let mid : Moment g.row.L.Denot g.row.P-P.Denot =
    record { conns = c.pass.new.self.conns.items; table = c.pass.new.table.table; binds = binder g.P.Ports.holds g.P.Ports.faults c.pass.new.table.ports; seen = g.O.Office.seen c.pass.new.office; boxes = g.M.Mail.boxes c.pass.new.mail } in
    let U : Option Note → Type 0 = λ z. PassGives words true c.pop.new.self c.pass.new.self (among c.pop.new.self.conns.items (g.M.Mail.boxes c.pop.new.mail) old) mid (Ok z) in
    let upper = subst U (none_is c.in_ok-pass.field-0 c.pass.new.told c.if-branch-2.false) c.in_ok-pass.ensures.gives in
    let ports = c.in_ok-pass.ensures.ports in
    let rooms = c.in_ok-pass.ensures.rooms in
    let B : Option Note → Type 0 = λ z. AcceptGives false c.pass.new.self c.accept-2.new.self (Ok z) in
    accept_did_later_sights words self old refl count c.requires.office c.requires.inboxes c.accept.new.self c.pop.new.self boxes_one (g.M.Mail.actor c.args.mail.now) c.requires.mail first popped c.pass.new.self mid refl upper ports rooms c.accept-2.new.self said.0 (subst B said.1 c.in_ok-accept-2.ensures.gives)

pub returns-then-pop-2-clause-sights : goal.returns-then-pop-2-clause-sights
returns-then-pop-2-clause-sights g c =
    let self = c.args.self.now in
    let said = popped_some _ _ _ false c.accept-2.new.self c.pop-2.new.self c.pop-2.result c.pop-2.new.told _ c.if-pop-2.true (c.pop-2.ensures.told c.if-pop-2.true) c.pop-2.ensures.gives in
    let words : Words g.row.L.Denot g.row.P-P.Denot = record { most = g.P.P.Port.most; link = g.L.Link.holds; link_counts = g.L.Link.counts; port = g.P.P.Port.holds; port_counts = g.P.P.Port.counts } in
    let old : Moment g.row.L.Denot g.row.P-P.Denot =
    record { conns = self.conns.items; table = c.args.table.now.table; binds = binder g.P.Ports.holds g.P.Ports.faults c.args.table.now.ports; seen = g.O.Office.seen c.args.office.now; boxes = g.M.Mail.boxes c.args.mail.now } in
    let count = g.M.Mail.count c.args.mail.now in
    let A : Option Note → Type 0 = λ z. AcceptGives true c.forget.new.self c.accept.new.self (Ok z) in
    let first = from_begun self c.forget.new.self c.accept.new.self (Ok None) c.forget.ensures (subst A (none_is c.in_ok-accept.field-0 c.accept.new.told c.if-branch.false) c.in_ok-accept.ensures.gives) in
    let popped = (popped_none _ _ _ true c.accept.new.self c.pop.new.self c.pop.result c.pop.new.told _ c.if-pop.false c.pop.ensures.gives) in
    let boxes_one = g.M.Mail.boxes c.pop.new.mail in
    let mid : Moment g.row.L.Denot g.row.P-P.Denot =
    record { conns = c.pass.new.self.conns.items; table = c.pass.new.table.table; binds = binder g.P.Ports.holds g.P.Ports.faults c.pass.new.table.ports; seen = g.O.Office.seen c.pass.new.office; boxes = g.M.Mail.boxes c.pass.new.mail } in
    let U : Option Note → Type 0 = λ z. PassGives words true c.pop.new.self c.pass.new.self (among c.pop.new.self.conns.items (g.M.Mail.boxes c.pop.new.mail) old) mid (Ok z) in
    let upper = subst U (none_is c.in_ok-pass.field-0 c.pass.new.told c.if-branch-2.false) c.in_ok-pass.ensures.gives in
    let ports = c.in_ok-pass.ensures.ports in
    let rooms = c.in_ok-pass.ensures.rooms in
    let B : Option Note → Type 0 = λ z. AcceptGives false c.pass.new.self c.accept-2.new.self (Ok z) in
    let second = subst B (none_is c.in_ok-accept-2.field-0 c.accept-2.new.told c.if-branch-3.false) c.in_ok-accept-2.ensures.gives in
    let N : ℕ → ℕ → Type 0 = λ k i. InboxGives k mid.boxes i false c.accept-2.new.self c.pop-2.new.self (Some said.0) (g.M.Mail.boxes c.pop-2.new.mail) in
    let gives = subst (λ k. N k (g.M.Mail.actor c.args.mail.now)) (c.in_ok-pass.ensures.mail.1 ∙ c.pop.ensures.count) (subst (λ i. N (g.M.Mail.count c.pass.new.mail) i) (c.in_ok-pass.ensures.mail.0 ∙ c.pop.ensures.actor) said.2) in
    pop_did_later_sights words self old refl count c.requires.office c.requires.inboxes c.accept.new.self c.pop.new.self boxes_one (g.M.Mail.actor c.args.mail.now) c.requires.mail first popped c.pass.new.self mid refl upper ports rooms c.accept-2.new.self second c.pop-2.new.self said.0 (g.M.Mail.boxes c.pop-2.new.mail) gives

pub returns-clause-sights : goal.returns-clause-sights
returns-clause-sights g c =
    let self = c.args.self.now in
    let words : Words g.row.L.Denot g.row.P-P.Denot = record { most = g.P.P.Port.most; link = g.L.Link.holds; link_counts = g.L.Link.counts; port = g.P.P.Port.holds; port_counts = g.P.P.Port.counts } in
    let old : Moment g.row.L.Denot g.row.P-P.Denot =
    record { conns = self.conns.items; table = c.args.table.now.table; binds = binder g.P.Ports.holds g.P.Ports.faults c.args.table.now.ports; seen = g.O.Office.seen c.args.office.now; boxes = g.M.Mail.boxes c.args.mail.now } in
    let count = g.M.Mail.count c.args.mail.now in
    let A : Option Note → Type 0 = λ z. AcceptGives true c.forget.new.self c.accept.new.self (Ok z) in
    let first = from_begun self c.forget.new.self c.accept.new.self (Ok None) c.forget.ensures (subst A (none_is c.in_ok-accept.field-0 c.accept.new.told c.if-branch.false) c.in_ok-accept.ensures.gives) in
    let popped = (popped_none _ _ _ true c.accept.new.self c.pop.new.self c.pop.result c.pop.new.told _ c.if-pop.false c.pop.ensures.gives) in
    let boxes_one = g.M.Mail.boxes c.pop.new.mail in
    let mid : Moment g.row.L.Denot g.row.P-P.Denot =
    record { conns = c.pass.new.self.conns.items; table = c.pass.new.table.table; binds = binder g.P.Ports.holds g.P.Ports.faults c.pass.new.table.ports; seen = g.O.Office.seen c.pass.new.office; boxes = g.M.Mail.boxes c.pass.new.mail } in
    let U : Option Note → Type 0 = λ z. PassGives words true c.pop.new.self c.pass.new.self (among c.pop.new.self.conns.items (g.M.Mail.boxes c.pop.new.mail) old) mid (Ok z) in
    let upper = subst U (none_is c.in_ok-pass.field-0 c.pass.new.told c.if-branch-2.false) c.in_ok-pass.ensures.gives in
    let ports = c.in_ok-pass.ensures.ports in
    let rooms = c.in_ok-pass.ensures.rooms in
    let B : Option Note → Type 0 = λ z. AcceptGives false c.pass.new.self c.accept-2.new.self (Ok z) in
    let second = subst B (none_is c.in_ok-accept-2.field-0 c.accept-2.new.told c.if-branch-3.false) c.in_ok-accept-2.ensures.gives in
    let N : ℕ → ℕ → Type 0 = λ k i. InboxGives k mid.boxes i false c.accept-2.new.self c.pop-2.new.self None (g.M.Mail.boxes c.pop-2.new.mail) in
    let popped_later = subst (λ k. N k (g.M.Mail.actor c.args.mail.now)) (c.in_ok-pass.ensures.mail.1 ∙ c.pop.ensures.count) (subst (λ i. N (g.M.Mail.count c.pass.new.mail) i) (c.in_ok-pass.ensures.mail.0 ∙ c.pop.ensures.actor) (popped_none _ _ _ false c.accept-2.new.self c.pop-2.new.self c.pop-2.result c.pop-2.new.told _ c.if-pop-2.false c.pop-2.ensures.gives)) in
    let new : Moment g.row.L.Denot g.row.P-P.Denot =
    record { conns = c.pass-2.new.self.conns.items; table = c.pass-2.new.table.table; binds = binder g.P.Ports.holds g.P.Ports.faults c.pass-2.new.table.ports; seen = g.O.Office.seen c.pass-2.new.office; boxes = g.M.Mail.boxes c.pass-2.new.mail } in
    lower_sights words self old refl count c.requires.office c.requires.inboxes c.accept.new.self c.pop.new.self boxes_one (g.M.Mail.actor c.args.mail.now) c.requires.mail first popped c.pass.new.self mid refl upper ports rooms c.accept-2.new.self second c.pop-2.new.self (g.M.Mail.boxes c.pop-2.new.mail) popped_later
    c.pass-2.new.self new (note_with c.pass-2.result c.pass-2.new.told) refl c.pass-2.ensures.gives c.pass-2.ensures.ports c.pass-2.ensures.rooms

-- ---- which connection left

pub returns-in_err-accept-clause-left : goal.returns-in_err-accept-clause-left
returns-in_err-accept-clause-left g c =
    let self = c.args.self.now in
    let conns = conn_numbers self in
    let offers = offer_numbers self in
    let start : AllLeft conns offers (begun self) = record { none = refl; numbers = refl; offered = refl } in
    refused_left conns offers true (begun self) c.accept.new.self c.in_err-accept.field-0.0 (from_begun self c.forget.new.self c.accept.new.self (Err c.in_err-accept.field-0.0) c.forget.ensures c.in_err-accept.ensures.gives) start

pub returns-then-branch-clause-left : goal.returns-then-branch-clause-left
returns-then-branch-clause-left g c =
    let self = c.args.self.now in
    let said = note_is c.in_ok-accept.field-0 c.accept.new.told c.if-branch.true (c.in_ok-accept.ensures.told c.if-branch.true) in
    let conns = conn_numbers self in
    let offers = offer_numbers self in
    let start : AllLeft conns offers (begun self) = record { none = refl; numbers = refl; offered = refl } in
    let A : Option Note → Type 0 = λ z. AcceptGives true c.forget.new.self c.accept.new.self (Ok z) in
    accept_left conns offers true (begun self) c.accept.new.self said.0 (from_begun self c.forget.new.self c.accept.new.self (Ok (Some said.0)) c.forget.ensures (subst A said.1 c.in_ok-accept.ensures.gives)) start

pub returns-then-pop-clause-left : goal.returns-then-pop-clause-left
returns-then-pop-clause-left g c =
    let self = c.args.self.now in
    let said = popped_some _ _ _ true c.accept.new.self c.pop.new.self c.pop.result c.pop.new.told _ c.if-pop.true (c.pop.ensures.told c.if-pop.true) c.pop.ensures.gives in
    let conns = conn_numbers self in
    let offers = offer_numbers self in
    let start : AllLeft conns offers (begun self) = record { none = refl; numbers = refl; offered = refl } in
    let A : Option Note → Type 0 = λ z. AcceptGives true c.forget.new.self c.accept.new.self (Ok z) in
    let first = from_begun self c.forget.new.self c.accept.new.self (Ok None) c.forget.ensures (subst A (none_is c.in_ok-accept.field-0 c.accept.new.told c.if-branch.false) c.in_ok-accept.ensures.gives) in
    let accepted = idle_left conns offers (begun self) c.accept.new.self first.0 start in
    pop_left conns offers _ _ _ _ true c.accept.new.self c.pop.new.self said.0 said.2 accepted

pub returns-in_err-pass-clause-left : goal.returns-in_err-pass-clause-left
returns-in_err-pass-clause-left g c =
    let self = c.args.self.now in
    let conns = conn_numbers self in
    let offers = offer_numbers self in
    let start : AllLeft conns offers (begun self) = record { none = refl; numbers = refl; offered = refl } in
    let words : Words g.row.L.Denot g.row.P-P.Denot = record { most = g.P.P.Port.most; link = g.L.Link.holds; link_counts = g.L.Link.counts; port = g.P.P.Port.holds; port_counts = g.P.P.Port.counts } in
    let old : Moment g.row.L.Denot g.row.P-P.Denot =
    record { conns = self.conns.items; table = c.args.table.now.table; binds = binder g.P.Ports.holds g.P.Ports.faults c.args.table.now.ports; seen = g.O.Office.seen c.args.office.now; boxes = g.M.Mail.boxes c.args.mail.now } in
    let A : Option Note → Type 0 = λ z. AcceptGives true c.forget.new.self c.accept.new.self (Ok z) in
    let first = from_begun self c.forget.new.self c.accept.new.self (Ok None) c.forget.ensures (subst A (none_is c.in_ok-accept.field-0 c.accept.new.told c.if-branch.false) c.in_ok-accept.ensures.gives) in
    let accepted = idle_left conns offers (begun self) c.accept.new.self first.0 start in
    let popped = idle_left conns offers c.accept.new.self c.pop.new.self (popped_none _ _ _ true c.accept.new.self c.pop.new.self c.pop.result c.pop.new.told _ c.if-pop.false c.pop.ensures.gives).0 accepted in
    let new : Moment g.row.L.Denot g.row.P-P.Denot =
    record { conns = c.pass.new.self.conns.items; table = c.pass.new.table.table; binds = binder g.P.Ports.holds g.P.Ports.faults c.pass.new.table.ports; seen = g.O.Office.seen c.pass.new.office; boxes = g.M.Mail.boxes c.pass.new.mail } in
    starved_left words conns offers true c.pop.new.self c.pass.new.self (among c.pop.new.self.conns.items (g.M.Mail.boxes c.pop.new.mail) old) new refl popped c.in_err-pass.field-0.0 c.in_err-pass.ensures.gives

pub returns-then-branch-2-clause-left : goal.returns-then-branch-2-clause-left
returns-then-branch-2-clause-left g c =
    let self = c.args.self.now in
    let said = note_is c.in_ok-pass.field-0 c.pass.new.told c.if-branch-2.true (c.in_ok-pass.ensures.told c.if-branch-2.true) in
    let conns = conn_numbers self in
    let offers = offer_numbers self in
    let start : AllLeft conns offers (begun self) = record { none = refl; numbers = refl; offered = refl } in
    let words : Words g.row.L.Denot g.row.P-P.Denot = record { most = g.P.P.Port.most; link = g.L.Link.holds; link_counts = g.L.Link.counts; port = g.P.P.Port.holds; port_counts = g.P.P.Port.counts } in
    let old : Moment g.row.L.Denot g.row.P-P.Denot =
    record { conns = self.conns.items; table = c.args.table.now.table; binds = binder g.P.Ports.holds g.P.Ports.faults c.args.table.now.ports; seen = g.O.Office.seen c.args.office.now; boxes = g.M.Mail.boxes c.args.mail.now } in
    let A : Option Note → Type 0 = λ z. AcceptGives true c.forget.new.self c.accept.new.self (Ok z) in
    let first = from_begun self c.forget.new.self c.accept.new.self (Ok None) c.forget.ensures (subst A (none_is c.in_ok-accept.field-0 c.accept.new.told c.if-branch.false) c.in_ok-accept.ensures.gives) in
    let accepted = idle_left conns offers (begun self) c.accept.new.self first.0 start in
    let popped = idle_left conns offers c.accept.new.self c.pop.new.self (popped_none _ _ _ true c.accept.new.self c.pop.new.self c.pop.result c.pop.new.told _ c.if-pop.false c.pop.ensures.gives).0 accepted in
    let mid : Moment g.row.L.Denot g.row.P-P.Denot =
    record { conns = c.pass.new.self.conns.items; table = c.pass.new.table.table; binds = binder g.P.Ports.holds g.P.Ports.faults c.pass.new.table.ports; seen = g.O.Office.seen c.pass.new.office; boxes = g.M.Mail.boxes c.pass.new.mail } in
    let U : Option Note → Type 0 = λ z. PassGives words true c.pop.new.self c.pass.new.self (among c.pop.new.self.conns.items (g.M.Mail.boxes c.pop.new.mail) old) mid (Ok z) in
    did_left words conns offers true c.pop.new.self c.pass.new.self (among c.pop.new.self.conns.items (g.M.Mail.boxes c.pop.new.mail) old) mid refl popped said.0 (subst U said.1 c.in_ok-pass.ensures.gives)

pub returns-in_err-accept-2-clause-left : goal.returns-in_err-accept-2-clause-left
returns-in_err-accept-2-clause-left g c =
    let self = c.args.self.now in
    let conns = conn_numbers self in
    let offers = offer_numbers self in
    let start : AllLeft conns offers (begun self) = record { none = refl; numbers = refl; offered = refl } in
    let words : Words g.row.L.Denot g.row.P-P.Denot = record { most = g.P.P.Port.most; link = g.L.Link.holds; link_counts = g.L.Link.counts; port = g.P.P.Port.holds; port_counts = g.P.P.Port.counts } in
    let old : Moment g.row.L.Denot g.row.P-P.Denot =
    record { conns = self.conns.items; table = c.args.table.now.table; binds = binder g.P.Ports.holds g.P.Ports.faults c.args.table.now.ports; seen = g.O.Office.seen c.args.office.now; boxes = g.M.Mail.boxes c.args.mail.now } in
    let A : Option Note → Type 0 = λ z. AcceptGives true c.forget.new.self c.accept.new.self (Ok z) in
    let first = from_begun self c.forget.new.self c.accept.new.self (Ok None) c.forget.ensures (subst A (none_is c.in_ok-accept.field-0 c.accept.new.told c.if-branch.false) c.in_ok-accept.ensures.gives) in
    let accepted = idle_left conns offers (begun self) c.accept.new.self first.0 start in
    let popped = idle_left conns offers c.accept.new.self c.pop.new.self (popped_none _ _ _ true c.accept.new.self c.pop.new.self c.pop.result c.pop.new.told _ c.if-pop.false c.pop.ensures.gives).0 accepted in
    let mid : Moment g.row.L.Denot g.row.P-P.Denot =
    record { conns = c.pass.new.self.conns.items; table = c.pass.new.table.table; binds = binder g.P.Ports.holds g.P.Ports.faults c.pass.new.table.ports; seen = g.O.Office.seen c.pass.new.office; boxes = g.M.Mail.boxes c.pass.new.mail } in
    let U : Option Note → Type 0 = λ z. PassGives words true c.pop.new.self c.pass.new.self (among c.pop.new.self.conns.items (g.M.Mail.boxes c.pop.new.mail) old) mid (Ok z) in
    let passed = passed_left words conns offers true c.pop.new.self c.pass.new.self (among c.pop.new.self.conns.items (g.M.Mail.boxes c.pop.new.mail) old) mid refl popped refl (subst U (none_is c.in_ok-pass.field-0 c.pass.new.told c.if-branch-2.false) c.in_ok-pass.ensures.gives) in
    refused_left conns offers false c.pass.new.self c.accept-2.new.self c.in_err-accept-2.field-0.0 c.in_err-accept-2.ensures.gives passed

pub returns-then-branch-3-clause-left : goal.returns-then-branch-3-clause-left
returns-then-branch-3-clause-left g c =
    let self = c.args.self.now in
    let said = note_is c.in_ok-accept-2.field-0 c.accept-2.new.told c.if-branch-3.true (c.in_ok-accept-2.ensures.told c.if-branch-3.true) in
    let conns = conn_numbers self in
    let offers = offer_numbers self in
    let start : AllLeft conns offers (begun self) = record { none = refl; numbers = refl; offered = refl } in
    let words : Words g.row.L.Denot g.row.P-P.Denot = record { most = g.P.P.Port.most; link = g.L.Link.holds; link_counts = g.L.Link.counts; port = g.P.P.Port.holds; port_counts = g.P.P.Port.counts } in
    let old : Moment g.row.L.Denot g.row.P-P.Denot =
    record { conns = self.conns.items; table = c.args.table.now.table; binds = binder g.P.Ports.holds g.P.Ports.faults c.args.table.now.ports; seen = g.O.Office.seen c.args.office.now; boxes = g.M.Mail.boxes c.args.mail.now } in
    let A : Option Note → Type 0 = λ z. AcceptGives true c.forget.new.self c.accept.new.self (Ok z) in
    let first = from_begun self c.forget.new.self c.accept.new.self (Ok None) c.forget.ensures (subst A (none_is c.in_ok-accept.field-0 c.accept.new.told c.if-branch.false) c.in_ok-accept.ensures.gives) in
    let accepted = idle_left conns offers (begun self) c.accept.new.self first.0 start in
    let popped = idle_left conns offers c.accept.new.self c.pop.new.self (popped_none _ _ _ true c.accept.new.self c.pop.new.self c.pop.result c.pop.new.told _ c.if-pop.false c.pop.ensures.gives).0 accepted in
    let mid : Moment g.row.L.Denot g.row.P-P.Denot =
    record { conns = c.pass.new.self.conns.items; table = c.pass.new.table.table; binds = binder g.P.Ports.holds g.P.Ports.faults c.pass.new.table.ports; seen = g.O.Office.seen c.pass.new.office; boxes = g.M.Mail.boxes c.pass.new.mail } in
    let U : Option Note → Type 0 = λ z. PassGives words true c.pop.new.self c.pass.new.self (among c.pop.new.self.conns.items (g.M.Mail.boxes c.pop.new.mail) old) mid (Ok z) in
    let passed = passed_left words conns offers true c.pop.new.self c.pass.new.self (among c.pop.new.self.conns.items (g.M.Mail.boxes c.pop.new.mail) old) mid refl popped refl (subst U (none_is c.in_ok-pass.field-0 c.pass.new.told c.if-branch-2.false) c.in_ok-pass.ensures.gives) in
    let B : Option Note → Type 0 = λ z. AcceptGives false c.pass.new.self c.accept-2.new.self (Ok z) in
    accept_left conns offers false c.pass.new.self c.accept-2.new.self said.0 (subst B said.1 c.in_ok-accept-2.ensures.gives) passed

pub returns-then-pop-2-clause-left : goal.returns-then-pop-2-clause-left
returns-then-pop-2-clause-left g c =
    let self = c.args.self.now in
    let said = popped_some _ _ _ false c.accept-2.new.self c.pop-2.new.self c.pop-2.result c.pop-2.new.told _ c.if-pop-2.true (c.pop-2.ensures.told c.if-pop-2.true) c.pop-2.ensures.gives in
    let conns = conn_numbers self in
    let offers = offer_numbers self in
    let start : AllLeft conns offers (begun self) = record { none = refl; numbers = refl; offered = refl } in
    let words : Words g.row.L.Denot g.row.P-P.Denot = record { most = g.P.P.Port.most; link = g.L.Link.holds; link_counts = g.L.Link.counts; port = g.P.P.Port.holds; port_counts = g.P.P.Port.counts } in
    let old : Moment g.row.L.Denot g.row.P-P.Denot =
    record { conns = self.conns.items; table = c.args.table.now.table; binds = binder g.P.Ports.holds g.P.Ports.faults c.args.table.now.ports; seen = g.O.Office.seen c.args.office.now; boxes = g.M.Mail.boxes c.args.mail.now } in
    let A : Option Note → Type 0 = λ z. AcceptGives true c.forget.new.self c.accept.new.self (Ok z) in
    let first = from_begun self c.forget.new.self c.accept.new.self (Ok None) c.forget.ensures (subst A (none_is c.in_ok-accept.field-0 c.accept.new.told c.if-branch.false) c.in_ok-accept.ensures.gives) in
    let accepted = idle_left conns offers (begun self) c.accept.new.self first.0 start in
    let popped = idle_left conns offers c.accept.new.self c.pop.new.self (popped_none _ _ _ true c.accept.new.self c.pop.new.self c.pop.result c.pop.new.told _ c.if-pop.false c.pop.ensures.gives).0 accepted in
    let mid : Moment g.row.L.Denot g.row.P-P.Denot =
    record { conns = c.pass.new.self.conns.items; table = c.pass.new.table.table; binds = binder g.P.Ports.holds g.P.Ports.faults c.pass.new.table.ports; seen = g.O.Office.seen c.pass.new.office; boxes = g.M.Mail.boxes c.pass.new.mail } in
    let U : Option Note → Type 0 = λ z. PassGives words true c.pop.new.self c.pass.new.self (among c.pop.new.self.conns.items (g.M.Mail.boxes c.pop.new.mail) old) mid (Ok z) in
    let passed = passed_left words conns offers true c.pop.new.self c.pass.new.self (among c.pop.new.self.conns.items (g.M.Mail.boxes c.pop.new.mail) old) mid refl popped refl (subst U (none_is c.in_ok-pass.field-0 c.pass.new.told c.if-branch-2.false) c.in_ok-pass.ensures.gives) in
    let B : Option Note → Type 0 = λ z. AcceptGives false c.pass.new.self c.accept-2.new.self (Ok z) in
    let second = subst B (none_is c.in_ok-accept-2.field-0 c.accept-2.new.told c.if-branch-3.false) c.in_ok-accept-2.ensures.gives in
    let accepted_later = idle_left conns offers c.pass.new.self c.accept-2.new.self second.0 passed in
    pop_left conns offers _ _ _ _ false c.accept-2.new.self c.pop-2.new.self said.0 said.2 accepted_later

pub returns-clause-left : goal.returns-clause-left
returns-clause-left g c =
    let self = c.args.self.now in
    let conns = conn_numbers self in
    let offers = offer_numbers self in
    let start : AllLeft conns offers (begun self) = record { none = refl; numbers = refl; offered = refl } in
    let words : Words g.row.L.Denot g.row.P-P.Denot = record { most = g.P.P.Port.most; link = g.L.Link.holds; link_counts = g.L.Link.counts; port = g.P.P.Port.holds; port_counts = g.P.P.Port.counts } in
    let old : Moment g.row.L.Denot g.row.P-P.Denot =
    record { conns = self.conns.items; table = c.args.table.now.table; binds = binder g.P.Ports.holds g.P.Ports.faults c.args.table.now.ports; seen = g.O.Office.seen c.args.office.now; boxes = g.M.Mail.boxes c.args.mail.now } in
    let A : Option Note → Type 0 = λ z. AcceptGives true c.forget.new.self c.accept.new.self (Ok z) in
    let first = from_begun self c.forget.new.self c.accept.new.self (Ok None) c.forget.ensures (subst A (none_is c.in_ok-accept.field-0 c.accept.new.told c.if-branch.false) c.in_ok-accept.ensures.gives) in
    let accepted = idle_left conns offers (begun self) c.accept.new.self first.0 start in
    let popped = idle_left conns offers c.accept.new.self c.pop.new.self (popped_none _ _ _ true c.accept.new.self c.pop.new.self c.pop.result c.pop.new.told _ c.if-pop.false c.pop.ensures.gives).0 accepted in
    let mid : Moment g.row.L.Denot g.row.P-P.Denot =
    record { conns = c.pass.new.self.conns.items; table = c.pass.new.table.table; binds = binder g.P.Ports.holds g.P.Ports.faults c.pass.new.table.ports; seen = g.O.Office.seen c.pass.new.office; boxes = g.M.Mail.boxes c.pass.new.mail } in
    let U : Option Note → Type 0 = λ z. PassGives words true c.pop.new.self c.pass.new.self (among c.pop.new.self.conns.items (g.M.Mail.boxes c.pop.new.mail) old) mid (Ok z) in
    let passed = passed_left words conns offers true c.pop.new.self c.pass.new.self (among c.pop.new.self.conns.items (g.M.Mail.boxes c.pop.new.mail) old) mid refl popped refl (subst U (none_is c.in_ok-pass.field-0 c.pass.new.told c.if-branch-2.false) c.in_ok-pass.ensures.gives) in
    let B : Option Note → Type 0 = λ z. AcceptGives false c.pass.new.self c.accept-2.new.self (Ok z) in
    let second = subst B (none_is c.in_ok-accept-2.field-0 c.accept-2.new.told c.if-branch-3.false) c.in_ok-accept-2.ensures.gives in
    let accepted_later = idle_left conns offers c.pass.new.self c.accept-2.new.self second.0 passed in
    let popped_later = idle_left conns offers c.accept-2.new.self c.pop-2.new.self (popped_none _ _ _ false c.accept-2.new.self c.pop-2.new.self c.pop-2.result c.pop-2.new.told _ c.if-pop-2.false c.pop-2.ensures.gives).0 accepted_later in
    let new : Moment g.row.L.Denot g.row.P-P.Denot =
    record { conns = c.pass-2.new.self.conns.items; table = c.pass-2.new.table.table; binds = binder g.P.Ports.holds g.P.Ports.faults c.pass-2.new.table.ports; seen = g.O.Office.seen c.pass-2.new.office; boxes = g.M.Mail.boxes c.pass-2.new.mail } in
    pass_left words conns offers false c.pop-2.new.self c.pass-2.new.self (among c.pop-2.new.self.conns.items (g.M.Mail.boxes c.pop-2.new.mail) mid) new refl popped_later refl (note_with c.pass-2.result c.pass-2.new.told) c.pass-2.ensures.gives
