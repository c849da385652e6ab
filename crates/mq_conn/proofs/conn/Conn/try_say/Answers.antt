use Rattle.std.proofs.Common.{◌∷◌, ap, ◌∙◌}
use Rattle.mq_conn.specs.Acts.{saying_act}
use Rattle.mq_machine.specs.declared.act.Due.{Due}
use Rattle.mq_machine.specs.Want.{Said}
use Rattle.mq_conn.specs.declared.conn.Conn.{Conn}
use Rattle.mq_conn.proofs.Answering.{acts}
use Rattle.mq_conn.proofs.conn.Conn.try_say.Goals as goal

pub returns-clause-answers : goal.returns-clause-answers
returns-clause-answers c =
    let old = c.args.self.now in
    let mid = c.take.new.self in
    let b = c.in-Some-saying_of.saying in
    let took = c.in-Some.ensures.took in
    let none = ap (λ (x : Conn). x.first) c.take.ensures.keeps ∙ took.0 in
    acts old mid c.say_so.new.self c.settle.new.self (saying_act b) (Said) c.in_ok-note.note c.take.ensures.keeps took.0 (took.1 ∙ ap (λ (d : Due). d ∷ mid.due) c.in-Some-saying_of.ensures)
    (λ ts. tt) (c.in_ok-note.ensures none) c.settle.ensures
