use Rattle.std.proofs.Common.{◌<◌, arith}
use Rattle.mq_huff.proofs.Rules.{stepped_at}
use Rattle.mq_huff.proofs.steps.step_at.Goals as goal
use Rattle.mq_huff.proofs.steps.step_at.Goals.{then-symbol-lt-END_OF_STRING, else-symbol-lt-END_OF_STRING+then-symbol-eq-END_OF_STRING, else-symbol-lt-END_OF_STRING+else-symbol-eq-END_OF_STRING}

pub returns : goal.returns
returns c =
    let state_fits : c.args.state < 256 = omega arith in
    let four_fits : c.args.four < 16 = omega arith in
    let s = stepped_at c.args.state c.args.four c.from.result c.from-2.result state_fits four_fits c.from.ensures c.from-2.ensures in
    elim c.if-symbol-lt-END_OF_STRING.branch [
      | then-symbol-lt-END_OF_STRING w ↦ rw w.ended-is (s.met w.if-symbol-lt-END_OF_STRING.true)
      | else-symbol-lt-END_OF_STRING+then-symbol-eq-END_OF_STRING w ↦ rw w.ended-is (s.end w.if-symbol-eq-END_OF_STRING.true)
      | else-symbol-lt-END_OF_STRING+else-symbol-eq-END_OF_STRING w ↦ rw w.ended-is (s.none w.if-symbol-lt-END_OF_STRING.false w.if-symbol-eq-END_OF_STRING.false)
    ]
