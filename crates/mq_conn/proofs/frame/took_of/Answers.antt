use Rattle.mq_conn.proofs.Framing.{took_all, took_part}
use Rattle.mq_conn.proofs.frame.took_of.Goals as goal

pub returns-then-left-count : goal.returns-then-left-count
returns-then-left-count c =
    let e = c.in-Some.ensures in
    took_part c.args.id c.args.count c.in-Some.left c.args.waiting.now c.advance.new.self e.0 e.1 e.2 e.3 c.if-left-count.true c.advance.ensures

pub returns-in-None : goal.returns-in-None
returns-in-None c = c.in-None.ensures.0

pub returns-in-Some-pop : goal.returns-in-Some-pop
returns-in-Some-pop c =
    let e = c.in-Some.ensures in
    let p = c.in-Some-pop.ensures in
    took_all c.args.id c.args.count p.0 c.in-Some.left c.args.waiting.now c.pop.new.self e.0 e.1 c.in-Some-pop.last c.whole.result e.2 e.3 c.if-left-count.false p.1 c.whole.ensures
