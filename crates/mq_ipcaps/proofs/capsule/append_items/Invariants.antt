use Rattle.std.proofs.Common.{◌≡◌, ◌++◌, take}
use Rattle.std.specs.List.{flat_map}
use Rattle.mq_ipcaps.proofs.capsule.append_items.Given as goal

-- the items so far stand behind what stood there
abbrev pub invariant-loop-item : goal.invariant-loop-item
invariant-loop-item g l = l.out.items ≡ l.initial.out.items ++ flat_map g.T.Item.item_text (take l.item-index l.items)
