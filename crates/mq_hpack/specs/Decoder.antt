-- What a decoder keeps from block to block, and what `block` answers.
use Rattle.std.specs.Prelude.{◌≡◌, ℕ, ◌⊎◌, List, Option, Some, None, Result, Ok, Err}
use Rattle.std.specs.List.{sum_by}
use Rattle.mq_hpack.specs.declared.fault.HpackFault.{HpackFault}
use Rattle.mq_hpack.specs.declared.field.Field.{Field}
use Rattle.mq_hpack.specs.Table.{Table, new_table, size_of}
use Rattle.mq_hpack.specs.Text.{Told}
use Rattle.mq_hpack.specs.Block.{Reads}

-- the table, and the fault that spent it
pub record State : Type 0 where
  pub table : Table
  pub spent : Option HpackFault

abbrev pub new_state : State
new_state = record { table = new_table; spent = None }

-- what the fields of its table count
abbrev pub held : State → ℕ
held s = sum_by size_of s.table.fields

-- A block read by a decoder that isn't spent. Each fault spends it, want of memory too.
abbrev pub Reading : Table → State → List ℕ → Result (List Field) HpackFault → Type 0
Reading t new bytes (Ok fields) = (new.spent ≡ None) × Reads t bytes (Ok (fields, new.table))
Reading t new bytes (Err fault) = (new.spent ≡ Some fault) × Told (Reads t bytes) (Err fault)

-- A spent decoder answers its fault again.
abbrev pub Answers : State → State → List ℕ → Result (List Field) HpackFault → Type 0
Answers old new bytes r = ((old.spent ≡ None) × Reading old.table new bytes r) ⊎ ((fault : HpackFault) × (old.spent ≡ Some fault) × (r ≡ Err fault) × (new ≡ old))
