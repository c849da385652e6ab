-- A block has one reading.
use Rattle.std.specs.Prelude.{◌≡◌, ℕ, List, Result}
use Rattle.mq_hpack.specs.declared.fault.HpackFault.{HpackFault}
use Rattle.mq_hpack.specs.declared.field.Field.{Field}
use Rattle.mq_hpack.specs.Table.{Table}
use Rattle.mq_hpack.specs.Block.{Reads}

-- From a table, the same bytes come to the same: to the same fields and the same table after them, or to
-- the same fault, and never to both.
abbrev pub HasOneReading : Type 0
HasOneReading = (t : Table) (bytes : List ℕ) (a b : Result (List Field × Table) HpackFault) → Reads t bytes a → Reads t bytes b → a ≡ b
