-- The table of fields (RFC 7541, sections 2.3 and 4).
use Rattle.std.specs.Prelude.{◌≡◌, ℕ, ◌+◌, ◌-◌, zero, suc, List, [], ◌∷◌, ◌++◌, length, Option, Some, None, if◌then◌else◌, nat_le}
use Rattle.std.specs.Borrow.{Bor}
use Rattle.std.specs.List.{slice_get}
use Rattle.mq_hpack.specs.declared.field.Field.{Field}
use Rattle.mq_hpack.specs.Static.{static_fields}

-- what a field counts
abbrev pub size_of : Field → ℕ
size_of f = length f.name + length f.value + 32

-- the longest front of the list whose fields count no more than this
unfoldable pub fitting : ℕ → List Field → List Field
fitting limit [] = []
fitting limit (f ∷ fs) = if nat_le (size_of f) limit then f ∷ fitting (limit - size_of f) fs else []

-- the dynamic table: the most that its fields may count, and the fields, the newest first
pub record Table : Type 0 where
  pub limit : ℕ
  pub fields : List Field

abbrev pub new_table : Table
new_table = record { limit = 4096; fields = [] }

-- the table with one more field, or with another limit
abbrev pub with_field : Field → Table → Table
with_field f t = record { limit = t.limit; fields = fitting t.limit (f ∷ t.fields) }

abbrev pub with_limit : ℕ → Table → Table
with_limit n t = record { limit = n; fields = fitting n t.fields }

-- the field at an index: 1 to 61 in the static table, and from 62 on in the dynamic one
unfoldable pub field_at : Table → ℕ → Option Field
field_at t zero = None
field_at t (suc i) = slice_get (static_fields ++ t.fields) i

-- the name and the value that were found, or none
abbrev pub IsFound : Option Field → Option (Bor (List ℕ) × Bor (List ℕ)) → Type 0
IsFound None found = found ≡ None
IsFound (Some f) None = ⊥
IsFound (Some f) (Some p) = (p.0.now ≡ f.name) × (p.1.now ≡ f.value)
