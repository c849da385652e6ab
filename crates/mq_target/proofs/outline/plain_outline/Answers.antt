use Rattle.mq_target.proofs.Outlines.{no_plain, plain_unclosed, plain_cut, plain_around}
use Rattle.mq_target.proofs.outline.plain_outline.Goals as goal

pub returns-in-None : goal.returns-in-None
returns-in-None c = λ order between after h. no_plain c.args.kind order c.args.first.now between after c.args.rest.now c.in-None.ensures h

pub returns-in-None-cut : goal.returns-in-None-cut
returns-in-None-cut c = λ order between after h.
    plain_unclosed c.cut_once.ensures c.args.kind order c.args.first.now between after c.args.rest.now c.in-Some.between.now c.in-Some.behind.now c.in-Some.ensures c.in-None-cut.ensures h

pub returns-in-None-order_around : goal.returns-in-None-order_around
returns-in-None-order_around c = λ order between after h.
    let cut = plain_cut c.cut_once.ensures c.args.kind order c.args.first.now between after c.args.rest.now c.in-Some.between.now c.in-Some.behind.now c.in-Some-cut.second.now c.in-Some-cut.after.now c.in-Some.ensures c.in-Some-cut.ensures h in
    c.in-None-order_around.ensures order h.first_is cut.second_is
    (plain_around c.args.kind order c.args.first.now between after c.args.rest.now c.in-Some.between.now c.in-Some-cut.second.now c.in-Some-cut.after.now cut h)
