-- A number that tells the names of the static table apart.
use Rattle.std.specs.Prelude.{ℕ, ◌+◌, ◌-◌, ◌*◌, ◌%◌, List, length, slice_index}

-- by the length of a name, and its first and last byte
unfoldable pub slot : List ℕ → ℕ
slot name = (length name + slice_index name 0 * 10 + slice_index name (length name - 1) * 4) % 256
