-- The representations of a field block (RFC 7541, section 6).
use Rattle.std.specs.Prelude.{◌≡◌, ℕ, ◌<◌, ◌≤◌, zero, suc, List, [], ◌∷◌, Some, None, Result, Ok, Err, if◌then◌else◌, nat_le}
use Rattle.mq_hpack.specs.declared.fault.HpackFault.{HpackFault}
use Rattle.mq_hpack.specs.declared.fault.HpackFault.TheVariants.{Index, Update}
use Rattle.mq_hpack.specs.declared.field.Field.{Field}
use Rattle.mq_hpack.specs.declared.representation.Representation.{Representation}
use Rattle.mq_hpack.specs.declared.representation.Representation.TheVariants.{Plain, Stored, SizeUpdate}
use Rattle.mq_hpack.specs.Table.{Table, field_at}
use Rattle.mq_hpack.specs.Text.{Then, IsInteger, IsString}

-- the field at an index that was read
abbrev pub IsIndexed : Table → ℕ × List ℕ → Result (Representation × List ℕ) HpackFault → Type 0
IsIndexed t found (Ok x) = (f : Field) × (field_at t found.0 ≡ Some f) × (x ≡ (Plain f, found.1))
IsIndexed t found (Err fault) = (fault ≡ Index) × (field_at t found.0 ≡ None)

-- the name at an index, or behind an index of 0 as a string
abbrev pub IsNameAt : Table → ℕ → List ℕ → Result (List ℕ × List ℕ) HpackFault → Type 0
IsNameAt t zero bytes r = IsString bytes r
IsNameAt t (suc i) bytes (Ok x) = (f : Field) × (field_at t (suc i) ≡ Some f) × (x ≡ (f.name, bytes))
IsNameAt t (suc i) bytes (Err fault) = (fault ≡ Index) × (field_at t (suc i) ≡ None)

abbrev pub IsName : Table → ℕ → List ℕ → Result (List ℕ × List ℕ) HpackFault → Type 0
IsName t prefix bytes r = Then (IsInteger prefix bytes) (λ found. IsNameAt t found.0 found.1) r

-- the value behind a name, with the name
abbrev pub IsValue : List ℕ × List ℕ → Result (Field × List ℕ) HpackFault → Type 0
IsValue name (Ok x) = (x.0.name ≡ name.0) × IsString name.1 (Ok (x.0.value, x.1))
IsValue name (Err fault) = IsString name.1 (Err fault)

-- a name and a value, where the index of the name has so many bits
abbrev pub IsLiteral : Table → ℕ → List ℕ → Result (Field × List ℕ) HpackFault → Type 0
IsLiteral t prefix bytes r = Then (IsName t prefix bytes) IsValue r

-- a literal, as a representation
abbrev pub IsMade : (Field → Representation) → Field × List ℕ → Result (Representation × List ℕ) HpackFault → Type 0
IsMade form found (Ok x) = x ≡ (form found.0, found.1)
IsMade form found (Err fault) = ⊥

-- a size update, to at most 4,096 (section 6.3)
abbrev pub IsSizeUpdate : ℕ × List ℕ → Result (Representation × List ℕ) HpackFault → Type 0
IsSizeUpdate found (Ok x) = (found.0 ≤ 4096) × (x ≡ (SizeUpdate found.0, found.1))
IsSizeUpdate found (Err fault) = (4096 < found.0) × (fault ≡ Update)

-- a size update after a field (section 4.2)
abbrev pub IsLate : Result (Representation × List ℕ) HpackFault → Type 0
IsLate (Ok x) = ⊥
IsLate (Err fault) = fault ≡ Update

-- the representations, by the first bits of the first byte: 1, 01, 001, and 000
pub data Kind : Type 0 where
  Indexes Stores Updates Passes : Kind

abbrev pub kind_of : List ℕ → Kind
kind_of [] = Passes
kind_of (b ∷ bs) = if nat_le 128 b then Indexes else (if nat_le 64 b then Stores else (if nat_le 32 b then Updates else Passes))

-- A representation of this kind at the front, and the bytes after it, where the fields before it count so much.
abbrev pub IsOf : Kind → Table → ℕ → List ℕ → Result (Representation × List ℕ) HpackFault → Type 0
IsOf Indexes t total bytes r = Then (IsInteger 7 bytes) (IsIndexed t) r
IsOf Stores t total bytes r = Then (IsLiteral t 6 bytes) (IsMade Stored) r
IsOf Updates t zero bytes r = Then (IsInteger 5 bytes) IsSizeUpdate r
IsOf Updates t (suc n) bytes r = IsLate r
IsOf Passes t total bytes r = Then (IsLiteral t 4 bytes) (IsMade Plain) r

abbrev pub IsRepresentation : Table → ℕ → List ℕ → Result (Representation × List ℕ) HpackFault → Type 0
IsRepresentation t total bytes r = IsOf (kind_of bytes) t total bytes r
