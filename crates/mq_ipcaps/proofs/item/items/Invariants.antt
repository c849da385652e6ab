use Rattle.std.proofs.Common.{None, length, ◌-◌}
use Rattle.mq_ipcaps.specs.Reading.{items_of}
use Rattle.mq_ipcaps.proofs.Loop.{GoesOn}
use Rattle.mq_ipcaps.proofs.item.items.Given as goal

abbrev pub invariant-loop-rest : goal.invariant-loop-rest
invariant-loop-rest g l = GoesOn g.T.Item.item_at g.T.Item.MOST l.list.items l.before l.rest (items_of g.T.Item.item_at g.T.Item.MOST None l.bytes)

abbrev pub decreases-loop-rest : goal.decreases-loop-rest
decreases-loop-rest g l = g.T.Item.MOST - length l.list.items
