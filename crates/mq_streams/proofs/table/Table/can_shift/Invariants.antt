use Rattle.std.proofs.Common.{true}
use Rattle.std.specs.List.{AllWithin}
use Rattle.mq_streams.specs.Rows.{CanShift}
use Rattle.mq_streams.specs.declared.stream.Stream.{Stream}
use Rattle.mq_streams.proofs.table.Table.can_shift.Given as goal

-- all so far
abbrev pub invariant-loop-row : goal.invariant-loop-row
invariant-loop-row l = AllWithin (λ (row : Stream). CanShift l.value row true) l.row-items 0 l.row-index
