-- The header of a frame (RFC 9113, section 4.1): a length of 24 bits, a type, flags, a reserved bit, and a
-- stream of 31 bits.
use Rattle.std.specs.Prelude.{ℕ, ◌^◌, ◌%◌, List, [], ◌∷◌, ◌++◌, take, drop, slice_index, Bool, true, false, not, ◌==◌, bit_and, unwrap_or}
use Rattle.std.specs.List.{slice_get}
use Rattle.std.specs.Int.{w32, from_be_bytes, to_be_bytes}
use Rattle.mq_frame.specs.declared.kind.Kind.{Kind}
use Rattle.mq_frame.specs.declared.kind.Kind.TheVariants as kinds
use Rattle.mq_frame.specs.declared.header.Header.{Header}

-- the types by their numbers (section 6)
abbrev pub known_kinds : List Kind
known_kinds = kinds.Data ∷ kinds.Headers ∷ kinds.Priority ∷ kinds.Reset ∷ kinds.Settings ∷ kinds.Push ∷ kinds.Ping ∷ kinds.GoAway ∷ kinds.Window ∷ kinds.Continuation ∷ []

abbrev pub kind_of : ℕ → Kind
kind_of byte = unwrap_or (slice_get known_kinds byte) (kinds.Unknown byte)

-- the number of a type
abbrev pub byte_of : Kind → ℕ
byte_of kinds.Data = 0
byte_of kinds.Headers = 1
byte_of kinds.Priority = 2
byte_of kinds.Reset = 3
byte_of kinds.Settings = 4
byte_of kinds.Push = 5
byte_of kinds.Ping = 6
byte_of kinds.GoAway = 7
byte_of kinds.Window = 8
byte_of kinds.Continuation = 9
byte_of (kinds.Unknown byte) = byte

-- types whose contents are read past
abbrev pub is_skipped : Kind → Bool
is_skipped kinds.Priority = true
is_skipped (kinds.Unknown byte) = true
is_skipped kind = false

abbrev pub is_set : ℕ → ℕ → Bool
is_set flags flag = not (bit_and flags flag == 0)

-- the header that the first nine bytes are
unfoldable pub header_of : List ℕ → Header
header_of bytes = record {
  length = from_be_bytes w32 (0 ∷ take 3 bytes);
  kind = kind_of (slice_index bytes 3);
  flags = slice_index bytes 4;
  stream = from_be_bytes w32 (take 4 (drop 5 bytes)) % 2 ^ 31;
}

-- the nine bytes of a header
abbrev pub header_text : ℕ → Kind → ℕ → ℕ → List ℕ
header_text length kind flags stream = drop 1 (to_be_bytes w32 length) ++ byte_of kind ∷ flags ∷ [] ++ to_be_bytes w32 stream
