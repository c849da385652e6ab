use Rattle.std.proofs.Common.{sym, ◌∙◌}
use Rattle.mq_streams.proofs.table.Table.can_shift.Goals as goal

-- the row that can't
pub returns-then-not-can_shift : goal.returns-then-not-can_shift
returns-then-not-can_shift c =
    let value = c.as_slice-row-items.ensures.value in (
      c.loop-row.row-index,
      c.row-item.result,
      rw (← value) c.loop-row-test.true,
      rw (← value) (sym c.row-item.is),
      λ e s is. sym c.if-not-can_shift.true ∙ c.can_shift.ensures e s is,
    )
