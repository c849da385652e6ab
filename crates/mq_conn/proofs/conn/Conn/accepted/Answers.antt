use Rattle.mq_talk.specs.declared.book.Reply.TheVariants as reply
use Rattle.mq_conn.proofs.Hearing.{hears_nothing, leaves_due}
use Rattle.mq_conn.proofs.Valuing.{hears_accepted}
use Rattle.std.proofs.Common.{ap, ◌∷◌, ◌∙◌}
use Rattle.mq_machine.specs.declared.act.Due.{Due}
use Rattle.mq_conn.proofs.conn.Conn.accepted.Goals as goal

pub returns-in_default-advertises-clause-hears : goal.returns-in_default-advertises-clause-hears
returns-in_default-advertises-clause-hears c = λ after gives.
    hears_nothing c.args.self.now c.take.new.self after (reply.Accepted c.args.yes c.args.at) tt (leaves_due c.args.self.now c.take.new.self c.take.ensures.keeps) gives

pub returns-clause-hears : goal.returns-clause-hears
returns-clause-hears c =
    let old = c.args.self.now in
    let mid = c.take.new.self in
    let took = c.in-Some.ensures.took in
    let a = c.in-Some-advertises.ensures in
    let live = c.in-Some-live.ensures in
    hears_accepted old mid c.settle.new.self c.in-Some-advertises.stream c.in-Some-live.tunnel a.0 c.args.yes c.args.at live.0 c.take.ensures.keeps took.0
    (took.1 ∙ ap (λ (d : Due). d ∷ mid.due) a.1) a.2 live.1 live.2 c.settle.ensures
