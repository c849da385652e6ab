use Rattle.mq_talk.specs.declared.book.Reply.TheVariants as reply
use Rattle.mq_conn.proofs.Hearing.{hears_err, hears_nothing, leaves_both, leaves_due}
use Rattle.mq_conn.proofs.Valuing.{hears_assigned}
use Rattle.std.proofs.Common.{ap, ◌∷◌, ◌∙◌}
use Rattle.mq_machine.specs.declared.act.Due.{Due}
use Rattle.mq_conn.proofs.conn.Conn.assigned.Goals as goal

pub returns-in_default-assigns-clause-hears : goal.returns-in_default-assigns-clause-hears
returns-in_default-assigns-clause-hears c = λ after gives.
    hears_nothing c.args.self.now c.take.new.self after (reply.Assigned c.args.list c.args.at) tt (leaves_due c.args.self.now c.take.new.self c.take.ensures.keeps) gives

pub returns-in_err-note-clause-hears : goal.returns-in_err-note-clause-hears
returns-in_err-note-clause-hears c =
    hears_err c.args.self.now c.assign.new.self (reply.Assigned c.args.list c.args.at) c.from_residual.result c.from_residual.ensures.0 (λ after gives.
    hears_nothing c.args.self.now c.assign.new.self after (reply.Assigned c.args.list c.args.at) tt
    (leaves_both c.args.self.now c.take.new.self c.assign.new.self (leaves_due c.args.self.now c.take.new.self c.take.ensures.keeps) c.in_err-note.ensures) gives)

pub returns-clause-hears : goal.returns-clause-hears
returns-clause-hears c =
    let old = c.args.self.now in
    let mid = c.take.new.self in
    let took = c.in-Some.ensures.took in
    let a = c.in-Some-assigns.ensures in
    hears_assigned old mid c.assign.new.self c.settle.new.self c.in-Some-assigns.stream a.0 c.args.list c.args.at c.in_ok-note.note c.take.ensures.keeps took.0
    (took.1 ∙ ap (λ (d : Due). d ∷ mid.due) a.1) a.2 c.in_ok-note.ensures c.settle.ensures
