-- A block comes to something.
use Rattle.std.specs.Prelude.{ℕ, List, Result}
use Rattle.mq_hpack.specs.declared.fault.HpackFault.{HpackFault}
use Rattle.mq_hpack.specs.declared.field.Field.{Field}
use Rattle.mq_hpack.specs.Table.{Table}
use Rattle.mq_hpack.specs.Block.{Reads}

-- from each table, all bytes come to fields and the table after them, or to a fault
abbrev pub IsReadable : Type 0
IsReadable = (t : Table) (bytes : List ℕ) → (r : Result (List Field × Table) HpackFault) × Reads t bytes r
