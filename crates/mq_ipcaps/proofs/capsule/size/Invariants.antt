use Rattle.std.proofs.Common.{◌≡◌, ◌*◌, ◌≤◌, length, take}
use Rattle.std.specs.List.{flat_map}
use Rattle.mq_ipcaps.proofs.capsule.size.Given as goal

-- the bytes of the items so far, at most forty each
abbrev pub invariant-loop-item : goal.invariant-loop-item
invariant-loop-item g l = record { counted : l.size ≡ length (flat_map g.T.Item.item_text (take l.item-index l.items)); small : l.size ≤ 40 * l.item-index }
