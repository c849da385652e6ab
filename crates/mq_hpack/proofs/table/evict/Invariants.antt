use Rattle.std.proofs.Common.{◌≡◌}
use Rattle.std.specs.List.{sum_by}
use Rattle.mq_hpack.specs.Table.{fitting, size_of}
use Rattle.mq_hpack.proofs.table.evict.Given as goal

abbrev pub invariant-loop-size : goal.invariant-loop-size
invariant-loop-size l = record {
  kept : fitting l.most l.fields.items ≡ fitting l.most l.initial.fields.items;
  counted : l.size ≡ sum_by size_of l.fields.items;
}

abbrev pub decreases-loop-size : goal.decreases-loop-size
decreases-loop-size l = l.size
