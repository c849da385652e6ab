-- The bytes of a block, as one list (RFC 7541, sections 5 and 6).
use Rattle.std.specs.Prelude.{◌≡◌, ℕ, ◌+◌, Bool, true, false, List, [], ◌∷◌, ◌++◌, length, Option, Some, None, if◌then◌else◌, ◌==◌, ◌&&◌, nat_le}
use Rattle.std.specs.List.{AllByRecursion, flat_map, position_from}
use Rattle.mq_huff.specs.Coded.{AreBytes, coded_of}
use Rattle.mq_hpack.specs.declared.field.Field.{Field}
use Rattle.mq_hpack.specs.Static.{static_fields}
use Rattle.mq_hpack.specs.Encoder.{coded_len, spelled, update, IsEncoded}

-- a text as it is, or in the Huffman code, exactly where that is shorter (section 5.2)
abbrev pub string_of : List ℕ → List ℕ
string_of text =
    if nat_le (length text) (coded_len text) then spelled 0 7 (length text) ++ text
    else spelled 128 7 (length (coded_of text)) ++ coded_of text

abbrev pub same_bytes : List ℕ → List ℕ → Bool
same_bytes [] [] = true
same_bytes (a ∷ xs) (b ∷ ys) = (a == b) && same_bytes xs ys
same_bytes xs ys = false

abbrev pub same_name : Field → Field → Bool
same_name f g = same_bytes g.name f.name

abbrev pub same_field : Field → Field → Bool
same_field f g = same_bytes g.name f.name && same_bytes g.value f.value

-- by the least places of the field and of its name: an indexed field (section 6.1), or a literal that isn't kept, with
-- the index of the name or with a new name (section 6.2.2)
abbrev pub placed : Field → Option ℕ → Option ℕ → List ℕ
placed f (Some at) named = spelled 128 7 (at + 1)
placed f None (Some at) = spelled 0 4 (at + 1) ++ string_of f.value
placed f None None = spelled 0 4 0 ++ (string_of f.name ++ string_of f.value)

unfoldable pub field_text : Field → List ℕ
field_text f = placed f (position_from (same_field f) 0 static_fields) (position_from (same_name f) 0 static_fields)

-- the fields, one after another, behind the size update where it is owed
abbrev pub block_text : Bool → List Field → List ℕ
block_text owed fields = update owed ++ flat_map field_text fields

-- names and values are bytes
abbrev pub HasBytes : Field → Type 0
HasBytes f = AreBytes f.name × AreBytes f.value

-- that list is what an encoder writes, and no other bytes are
abbrev pub IsWrittenSo : Type 0
IsWrittenSo = (owed : Bool) (fields : List Field) → AllByRecursion HasBytes fields → IsEncoded owed fields (block_text owed fields)

abbrev pub IsWrittenOnce : Type 0
IsWrittenOnce = (owed : Bool) (fields : List Field) (bytes : List ℕ) → AreBytes bytes → IsEncoded owed fields bytes → bytes ≡ block_text owed fields
