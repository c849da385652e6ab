-- What an encoder writes is read back, whatever the table.
use Rattle.std.specs.Prelude.{ℕ, ◌^◌, ◌<◌, ◌≤◌, Bool, true, false, List, length, Ok, Err}
use Rattle.std.specs.List.{sum_by, AllByRecursion}
use Rattle.mq_hpack.specs.declared.field.Field.{Field}
use Rattle.mq_hpack.specs.declared.fault.HpackFault.TheVariants.{TooLarge}
use Rattle.mq_hpack.specs.Table.{Table, size_of, with_limit}
use Rattle.mq_hpack.specs.Block.{Reads}
use Rattle.mq_hpack.specs.Encoder.{IsEncoded}

-- the table after a block, which begins with the size update where it is owed
abbrev pub table_after : Bool → Table → Table
table_after true t = with_limit 0 t
table_after false t = t

-- fields that count no more than 16,384 are read as they are
abbrev pub IsReadBack : Type 0
IsReadBack = (t : Table) (owed : Bool) (fields : List Field) (bytes : List ℕ)
    → IsEncoded owed fields bytes → sum_by size_of fields ≤ 16384 → Reads t bytes (Ok (fields, table_after owed t))

-- an integer can spell the lengths
abbrev pub IsShort : Field → Type 0
IsShort f = (length f.name < 2 ^ 32) × (length f.value < 2 ^ 32)

-- and more fields are too large
abbrev pub IsReadTooLarge : Type 0
IsReadTooLarge = (t : Table) (owed : Bool) (fields : List Field) (bytes : List ℕ)
    → IsEncoded owed fields bytes → AllByRecursion IsShort fields → 16384 < sum_by size_of fields → Reads t bytes (Err TooLarge)
