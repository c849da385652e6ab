use Rattle.mq_target.proofs.Outlines.{no_pair, pair_cut}
use Rattle.mq_target.proofs.outline.pair_outline.Goals as goal

pub returns-in-None : goal.returns-in-None
returns-in-None c = λ order h. no_pair c.args.kind order c.args.pair.now c.args.rest.now c.in-None.ensures h

pub returns-in-None-order_of : goal.returns-in-None-order_of
returns-in-None-order_of c = λ order h.
    let same = pair_cut c.cut_once.ensures c.args.kind order c.args.pair.now c.args.rest.now c.in-Some.first.now c.in-Some.second.now c.in-Some.ensures h in
    c.in-None-order_of.ensures order same.0 same.1
