-- What is left of the bytes for writing.
use Rattle.std.specs.Prelude.{◌≡◌, ℕ, ◌+◌, List, ◌++◌, length, drop, vec_len}
use Rattle.mq_h2.specs.declared.owed.Owed.{Owed}

abbrev pub left : Owed → List ℕ
left owed = drop owed.written owed.bytes.items

-- these bytes were put behind the others
pub record Appends (bytes : List ℕ) (old new : Owed) : Type 0 where
  pub items : left new ≡ left old ++ bytes
  pub len : vec_len new.bytes ≡ vec_len old.bytes + length bytes
