use Rattle.std.proofs.Common.{false, refl}
use Rattle.mq_machine.specs.Acting.{binder}
use Rattle.mq_machine.specs.Want.{Said, want_of}
use Rattle.mq_step.proofs.Binding.{Stays, held_back, sinks_alone}
use Rattle.mq_step.proofs.Cores.{hands_starve}
use Rattle.mq_step.proofs.Filling.{none_changed}
use Rattle.mq_step.proofs.Telling.{hands_can, hands_unbound}
use Rattle.mq_step.proofs.Wanting.{mailed}
use Rattle.mq_step.proofs.want.act_now.Goals as goal

pub returns-in-Ok-clause-gives : goal.returns-in-Ok-clause-gives
returns-in-Ok-clause-gives g c = λ o n so sn s held. c.answer.ensures.gives o n so sn s held (c.in-Ok.ensures s.conn held.conn).is

pub returns-in-Ok-clause-closes : goal.returns-in-Ok-clause-closes
returns-in-Ok-clause-closes g c = λ s held tunnel closes. c.answer.ensures.closes s held (c.in-Ok.ensures s.conn held.conn).is tunnel closes

pub returns-in-Err-clause-gives : goal.returns-in-Err-clause-gives
returns-in-Err-clause-gives g c = λ o n so sn s held orders.
    let seen = g.O.Office.seen c.args.office.now in
    let m = mailed seen (g.M.Mail.count c.args.mail.now) (g.M.Mail.boxes c.args.mail.now) c.requires.inboxes in
    let old = c.args.held.now in
    let new = record old { conn = c.fail.new.self } in
    let table = c.args.table.now.table in
    let binds = binder g.P.Ports.holds g.P.Ports.faults c.args.table.now.ports in
    let hands = c.in-Err.ensures s.conn held.conn in
    let stays : Stays g.P.P.Port.most g.P.P.Port.holds g.P.P.Port.counts binds binds table table old new o n s =
    record { held = held; keeps = none_changed table; seats = refl; number = refl; sees = so; sees_after = sn } in
    let x = sinks_alone g.P.P.Port.most g.P.P.Port.holds g.P.P.Port.counts binds binds table table old new o n s stays seen m orders (want_of s.conn) Said false refl
    (hands_can (want_of s.conn) hands) (hands_starve (want_of s.conn) hands)
    (hands_unbound g.P.P.Port.most table old.ports.items (want_of s.conn) old.bound hands held.bound)
    (c.fail.ensures.memory s.conn held.conn refl) (refl, refl, refl) (held_back g.P.P.Port.most g.P.P.Port.holds g.P.P.Port.counts binds binds table table old new o n s stays refl) in
    (x.left_is, x.starves, x.stands_for, x.told_is)
