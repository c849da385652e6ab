-- What the maps of fields stand for.
use Rattle.std.specs.Prelude.{◌≡◌, ℕ, ◌<◌, List, [], length, map}
use Rattle.http_header.specs.FieldName.{IsFieldName}
use Rattle.http_header.specs.FieldValue.{FieldValue, IsFieldValue, plain_value}
use Rattle.http_header.specs.HeaderMap.{Entries, append_all, value_count}
use Rattle.http_header.specs.Token.{lowercase}
use Rattle.mq_head.specs.declared.fields.Fields.{Fields}

-- a field as a map keeps it
abbrev pub kept : List ℕ × List ℕ → List ℕ × FieldValue
kept field = (lowercase field.0, plain_value field.1)

-- these are the fields that were kept
abbrev pub Keeps : Fields → List (List ℕ × List ℕ) → Type 0
Keeps fields list = fields.map ≡ append_all [] (map kept list)

-- a name and a value that a map keeps (RFC 9110, sections 5.1 and 5.5)
abbrev pub IsKeepable : List ℕ × List ℕ → Type 0
IsKeepable field = IsFieldName field.0 × IsFieldValue field.1

-- the map has fewer names and fewer values than so many
abbrev pub HasFewer : ℕ → Entries FieldValue → Type 0
HasFewer n fields = (length fields < n) × (value_count fields < n)

-- the bytes of values
abbrev pub bytes_of : List FieldValue → List (List ℕ)
bytes_of values = map (λ value. value.bytes) values
