-- How long a block is.
use Rattle.std.specs.Prelude.{ℕ, ◌+◌, ◌^◌, ◌<◌, ◌≤◌, Bool, List, length}
use Rattle.std.specs.List.{sum_by}
use Rattle.mq_hpack.specs.declared.field.Field.{Field}
use Rattle.mq_hpack.specs.Table.{size_of}
use Rattle.mq_hpack.specs.Encoder.{IsEncoded}

-- a block has no more bytes than its fields count, and one for the size update
abbrev pub IsNoLonger : Type 0
IsNoLonger = (owed : Bool) (fields : List Field) (bytes : List ℕ) → IsEncoded owed fields bytes → sum_by size_of fields < 2 ^ 32
    → length bytes ≤ sum_by size_of fields + 1
