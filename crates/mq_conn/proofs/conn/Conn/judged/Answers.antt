use Rattle.std.proofs.Common.{◌∷◌, ap, ◌∙◌}
use Rattle.mq_machine.specs.declared.act.Act.TheVariants as act
use Rattle.mq_machine.specs.declared.act.StreamAct.TheVariants as stream
use Rattle.mq_machine.specs.declared.act.Due.{Due}
use Rattle.mq_machine.specs.Want.{Judged}
use Rattle.mq_conn.specs.Conns.{tunnels_of}
use Rattle.mq_conn.proofs.Answering.{acts}
use Rattle.mq_conn.proofs.Parcels.{judges}
use Rattle.mq_conn.proofs.Standing.{found_stream}
use Rattle.mq_conn.specs.declared.conn.Conn.{Conn}
use Rattle.mq_conn.proofs.conn.Conn.judged.Goals as goal

pub returns : goal.returns
returns c =
    let old = c.args.self.now in
    let mid = c.take.new.self in
    let p = c.in-Some-packet_of.judging in
    let told = c.in-Some-packet_of.ensures in
    let took = c.in-Some.ensures.took in
    let live = c.in-Some-live.ensures in
    let j = c.args.judged in
    let none = ap (λ (k : Conn). k.first) c.take.ensures.keeps ∙ took.0 in
    acts old mid c.judge-note.new.self c.settle.new.self (act.OfStream p.stream (stream.Packet p.n p.packet told.0)) (Judged j.verdict j.at) c.judge-note.result c.take.ensures.keeps took.0
    (took.1 ∙ ap (λ (d : Due). d ∷ mid.due) told.1) (λ ts. tt)
    (judges mid c.judge-note.new.self p.stream c.in-Some-live.id p told.0 j c.judge-note.result live.0 live.1 live.2 (found_stream p.stream (tunnels_of mid.tunnels.items) live.0 live.1) none c.judge-note.ensures) c.settle.ensures
