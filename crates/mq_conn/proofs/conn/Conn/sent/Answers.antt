use Rattle.std.proofs.Common.{◌∷◌, ap, ◌∙◌}
use Rattle.mq_machine.specs.declared.act.Due.{Due}
use Rattle.mq_machine.specs.declared.act.StreamAct.TheVariants as stream
use Rattle.mq_machine.specs.Want.{Put}
use Rattle.mq_conn.proofs.Answering.{puts_note, stays}
use Rattle.mq_conn.proofs.conn.Conn.sent.Goals as goal

pub returns : goal.returns
returns c =
    let old = c.args.self.now in
    let mid = c.take.new.self in
    let told = c.in-Some-payload_of in
    let p = told.sending in
    let took = c.in-Some.ensures.took in
    let live = c.in-Some-live.ensures in
    let said = c.put_note-note.result in
    stays old mid c.settle.new.self p.stream (stream.Payload p.n p.payload) live.0 (Put c.args.outcome c.args.limit) said c.take.ensures.keeps took.0 (took.1 ∙ ap (λ (d : Due). d ∷ mid.due) told.ensures)
    (λ ts. tt) live.1 (puts_note c.args.outcome c.args.limit c.in-Some-live.id p.n p.payload said live.0 live.2 c.put_note-note.ensures) c.settle.ensures
