use Rattle.std.proofs.Common.{◌++◌, take}
use Rattle.mq_hpack.specs.Encoder.{update, Appends, AreFields}
use Rattle.mq_hpack.proofs.encoder.write_block.Given as goal

-- the fields so far stand behind the new limit
abbrev pub invariant-loop-field : goal.invariant-loop-field
invariant-loop-field l = Appends (l.fn.out.items ++ update l.fn.owes_update) l.out.items (AreFields (take l.field-index l.fields))
