-- What an encoder writes, which keeps no table of its own (RFC 7541, sections 5 and 6).
use Rattle.std.specs.Prelude.{◌≡◌, ℕ, ◌+◌, ◌-◌, ◌/◌, ◌%◌, ◌^◌, ◌<◌, ◌≤◌, ◌⊎◌, zero, suc, Bool, true, false, List, [], ◌∷◌, ◌++◌, length, Option, Some, None, if◌then◌else◌, nat_lt}
use Rattle.std.specs.List.{slice_get}
use Rattle.mq_huff.specs.Coded.{IsCoded, joined}
use Rattle.mq_hpack.specs.declared.field.Field.{Field}
use Rattle.mq_hpack.specs.Static.{static_fields}

-- a number in bytes of seven bits, the least first, of which all but the last have the top bit too
abbrev pub sevens : ℕ → ℕ → List ℕ
sevens zero n = n ∷ []
sevens (suc k) n = if nat_lt n 128 then n ∷ [] else (n % 128 + 128) ∷ sevens k (n / 128)

-- An integer whose first bits are the lowest ones of the first byte, so many of them (section 5.1). The
-- bits above them tell the representation.
unfoldable pub spelled : ℕ → ℕ → ℕ → List ℕ
spelled form prefix n =
    if nat_lt n (2 ^ prefix - 1) then (form + n) ∷ [] else (form + (2 ^ prefix - 1)) ∷ sevens n (n - (2 ^ prefix - 1))

-- how many bytes a text has in the Huffman code
abbrev pub coded_len : List ℕ → ℕ
coded_len text = (length (joined text) + 7) / 8

-- a text as it is, or in the Huffman code, exactly where that is shorter (section 5.2)
abbrev pub IsText : List ℕ → List ℕ → Type 0
IsText text bytes =
    ((length text ≤ coded_len text) × (bytes ≡ spelled 0 7 (length text) ++ text))
    ⊎ ((coded : List ℕ) × IsCoded text coded × (length coded < length text) × (bytes ≡ spelled 128 7 (length coded) ++ coded))

-- no field of the static table before this place is so
abbrev pub NoneBefore : ℕ → (Field → Type 0) → Type 0
NoneBefore at P = (k : ℕ) (g : Field) → k < at → slice_get static_fields k ≡ Some g → P g → ⊥

-- the least place of the static table, from 0 on, whose field is so
abbrev pub IsLeast : (Field → Type 0) → Option ℕ → Type 0
IsLeast P None = NoneBefore 61 P
IsLeast P (Some at) = (f : Field) × (slice_get static_fields at ≡ Some f) × P f × NoneBefore at P

-- By the least places of the field and of its name: an indexed field (section 6.1), or a literal that
-- isn't kept, with the index of the name or with a new name (section 6.2.2).
abbrev pub IsWritten : Field → Option ℕ → Option ℕ → List ℕ → Type 0
IsWritten f (Some at) named bytes = bytes ≡ spelled 128 7 (at + 1)
IsWritten f None (Some at) bytes = (value : List ℕ) × IsText f.value value × (bytes ≡ spelled 0 4 (at + 1) ++ value)
IsWritten f None None bytes =
    (name : List ℕ) × (value : List ℕ) × IsText f.name name × IsText f.value value × (bytes ≡ spelled 0 4 0 ++ (name ++ value))

pub record IsField (f : Field) (bytes : List ℕ) : Type 0 where
  pub whole : Option ℕ
  pub named : Option ℕ
  pub least_whole : IsLeast (λ g. g ≡ f) whole
  pub least_named : IsLeast (λ g. g.name ≡ f.name) named
  pub form : IsWritten f whole named bytes

-- the fields, one after another
abbrev pub AreFields : List Field → List ℕ → Type 0
AreFields [] bytes = bytes ≡ []
AreFields (f ∷ fs) bytes = (first : List ℕ) × (rest : List ℕ) × IsField f first × AreFields fs rest × (bytes ≡ first ++ rest)

-- the size update to 0 (section 6.3), where it is owed
abbrev pub update : Bool → List ℕ
update true = spelled 32 5 0
update false = []

-- A block of these fields, which begins with the size update where it is owed.
abbrev pub IsEncoded : Bool → List Field → List ℕ → Type 0
IsEncoded owed fields bytes = (rest : List ℕ) × AreFields fields rest × (bytes ≡ update owed ++ rest)

-- new is old with bytes behind it that are so
pub record Appends (old new : List ℕ) (R : List ℕ → Type 0) : Type 0 where
  pub written : List ℕ
  pub appended : new ≡ old ++ written
  pub are : R written
