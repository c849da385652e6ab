use Rattle.std.proofs.Common.{◌<◌, length, refl, ◌∙◌}
use borrow.Author.Tests.{ltb-true}
use Rattle.mq_world.proofs.Happening.{ended_there, ended_past}
use Rattle.mq_world.proofs.Stepping.{read_at}
use Rattle.mq_world.proofs.workers.Workers.worker_before_end.Goals as goal

pub returns-in-Err-clause-err : goal.returns-in-Err-clause-err
returns-in-Err-clause-err c = (ended_past c.args.self.now.links.items c.args.conn c.in-Err.ensures.err.0, c.in-Err.ensures.err.1)

pub returns-then-index-clause-err : goal.returns-then-index-clause-err
returns-then-index-clause-err c =
    let ts = c.args.self.now.links.items in
    let less : c.args.conn < length ts = ltb-true _ _ c.in-Ok.ensures.ok in
    let at = read_at ts c.args.conn c.index.result.now less c.index.ensures in
    (ended_there ts c.args.conn c.index.result.now at ∙ c.if-index.true, refl)

pub returns-else-index-clause-ok : goal.returns-else-index-clause-ok
returns-else-index-clause-ok c =
    let ts = c.args.self.now.links.items in
    let less : c.args.conn < length ts = ltb-true _ _ c.in-Ok.ensures.ok in
    let at = read_at ts c.args.conn c.index.result.now less c.index.ensures in
    ended_there ts c.args.conn c.index.result.now at ∙ c.if-index.false
