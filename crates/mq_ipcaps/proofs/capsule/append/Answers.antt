use Rattle.std.proofs.Common.{refl}
use Rattle.mq_wire.specs.Integer.{spelling_of}
use Rattle.mq_ipcaps.proofs.Front.{kept, on_err}
use Rattle.mq_ipcaps.proofs.capsule.append.Goals as goal

pub returns-in_err-append_items-clause-err : goal.returns-in_err-append_items-clause-err
returns-in_err-append_items-clause-err g c =
    let size = kept c.write_integer.new.out.items (spelling_of c.from-2.result) c.write_integer-2.new.out.items c.append_items.new.out.items _ _ refl refl c.in_ok-write_integer-2.ensures.ok c.in_err-append_items.ensures.err in
    on_err _ _ (kept c.args.out.now.items (spelling_of c.from.result) c.write_integer.new.out.items c.append_items.new.out.items _ _ refl refl c.in_ok-write_integer.ensures.ok size)
