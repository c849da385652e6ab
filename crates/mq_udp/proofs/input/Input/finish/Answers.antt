use Rattle.std.proofs.Common.{◌<◌, length, arith, sym}
use Rattle.std.proofs.lemmas.Bool.{eqb-false}
use Rattle.mq_udp.proofs.Cutting.{ends}
use Rattle.mq_udp.proofs.input.Input.finish.Goals as goal

pub returns : goal.returns
returns c = λ text r.
    let some : 0 < length c.args.self.now.begun.items = omega (arith, eqb-false _ 0 (sym c.if-is_empty.ensures)) in
    ends c.args.self.now c.end_line.new.self text c.end_line.result r some (c.end_line.ensures.reads text r) c.end_line.ensures.ends
