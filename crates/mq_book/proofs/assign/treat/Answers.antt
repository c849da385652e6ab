use Rattle.mq_book.proofs.Treating.{done_more}
use Rattle.mq_book.proofs.assign.treat.Goals as goal

pub loop-one-preserved : goal.loop-one-preserved
loop-one-preserved c =
    done_more c.args.setup.now.pool c.args.taken.items c.args.held.items c.args.asked.now c.loop-one.one-index _ c.loop-one.treated c.in_ok-treated.treated c.loop-one-test.true c.loop-one.invariant
    c.in_ok-treated.ensures
