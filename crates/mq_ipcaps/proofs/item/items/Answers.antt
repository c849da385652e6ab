use Rattle.std.proofs.Common.{None, arith}
use Rattle.std.proofs.lemmas.Result.{err_from_is_err_and}
use Rattle.mq_ipcaps.specs.Reading.{items_of}
use Rattle.mq_ipcaps.proofs.Loop.{steps, faults, too_many, ends}
use Rattle.mq_ipcaps.proofs.item.items.Goals as goal

pub returns-then-len-MOST : goal.returns-then-len-MOST
returns-then-len-MOST g c = too_many g.T.Item.item_at g.T.Item.MOST c.loop-rest.list.items c.loop-rest.before c.loop-rest.rest.now (items_of g.T.Item.item_at g.T.Item.MOST None c.args.bytes.now) c.loop-rest.invariant (omega (arith, c.MOST.ensures)) (grind arith)

pub returns-in_err-item : goal.returns-in_err-item
returns-in_err-item g c =
    let p = err_from_is_err_and c.from_residual.result c.from_residual.ensures.1 in
    rw (p.1, p.2) (faults g.T.Item.item_at g.T.Item.MOST c.loop-rest.list.items c.loop-rest.before c.loop-rest.rest.now c.in_err-item.field-0.0 (items_of g.T.Item.item_at g.T.Item.MOST None c.args.bytes.now) c.loop-rest.invariant (omega (arith, c.MOST.ensures)) (grind arith) c.in_err-item.ensures)

pub loop-rest-preserved : goal.loop-rest-preserved
loop-rest-preserved g c = steps g.T.Item.item_at g.T.Item.MOST c.loop-rest.list.items c.push.new.self.items c.loop-rest.before c.loop-rest.rest.now c.in_ok-item.after.now c.in_ok-item.item (items_of g.T.Item.item_at g.T.Item.MOST None c.args.bytes.now) c.loop-rest.invariant (omega (arith, c.MOST.ensures)) (grind arith) c.in_ok-item.ensures c.in_ok-push.ensures.items

pub returns : goal.returns
returns g c = ends g.T.Item.item_at g.T.Item.MOST c.loop-rest.list.items c.loop-rest.before c.loop-rest.rest.now (items_of g.T.Item.item_at g.T.Item.MOST None c.args.bytes.now) c.loop-rest.invariant (grind arith)
