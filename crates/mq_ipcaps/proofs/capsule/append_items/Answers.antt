use Rattle.std.proofs.Common.{take, refl}
use Rattle.std.specs.List.{flat_map}
use Rattle.mq_ipcaps.proofs.Front.{kept, on_err}
use Rattle.mq_ipcaps.proofs.capsule.append_items.Goals as goal

pub returns-in_err-write-clause-err : goal.returns-in_err-write-clause-err
returns-in_err-write-clause-err g c =
    on_err _ _ (kept c.args.out.now.items (flat_map g.T.Item.item_text (take c.loop-item.item-index c.args.items.now)) c.loop-item.out.items c.write.new.out.items _ _ refl refl c.loop-item.invariant c.in_err-write.ensures.err)
