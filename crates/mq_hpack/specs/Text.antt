-- String literals (RFC 7541, section 5.2), and readings, which come to a value or to the first fault.
use Rattle.std.specs.Prelude.{◌≡◌, ℕ, ◌<◌, ◌≤◌, ◌⊎◌, Bool, true, false, List, length, take, drop, slice_index, nat_le, Some, None, Result, Ok, Err}
use Rattle.mq_huff.specs.Coded.{IsCoded, MeetsEos, IsBadlyPadded}
use Rattle.mq_hpack.specs.declared.fault.HpackFault.{HpackFault}
use Rattle.mq_hpack.specs.declared.fault.HpackFault.TheVariants.{Index, Integer, Text, Update, TooLarge, NoMemory}
use Rattle.mq_hpack.specs.Integer.{integer_of}

-- the answer is so, but where memory ran out
abbrev pub Told : {A : Type 0} → (Result A HpackFault → Type 0) → Result A HpackFault → Type 0
Told R (Ok a) = R (Ok a)
Told R (Err Index) = R (Err Index)
Told R (Err Integer) = R (Err Integer)
Told R (Err Text) = R (Err Text)
Told R (Err Update) = R (Err Update)
Told R (Err TooLarge) = R (Err TooLarge)
Told R (Err NoMemory) = Unit {0}

-- one reading, and then another that goes on from its value
abbrev pub Then : {A B : Type 0} → (Result A HpackFault → Type 0) → (A → Result B HpackFault → Type 0) → Result B HpackFault → Type 0
Then {A} R S (Ok b) = (a : A) × R (Ok a) × S a (Ok b)
Then {A} R S (Err e) = R (Err e) ⊎ ((a : A) × R (Ok a) × S a (Err e))

-- an integer and the bytes after it
abbrev pub IsInteger : ℕ → List ℕ → Result (ℕ × List ℕ) HpackFault → Type 0
IsInteger prefix bytes (Ok found) = integer_of prefix bytes ≡ Some found
IsInteger prefix bytes (Err fault) = (fault ≡ Integer) × (integer_of prefix bytes ≡ None)

-- what these bytes spell, in the Huffman code or as they are
abbrev pub IsPlain : Bool → List ℕ → Result (List ℕ) HpackFault → Type 0
IsPlain true raw (Ok text) = IsCoded text raw
IsPlain false raw (Ok text) = text ≡ raw
IsPlain true raw (Err fault) = (fault ≡ Text) × (MeetsEos raw ⊎ IsBadlyPadded raw)
IsPlain false raw (Err fault) = ⊥

-- so many of the bytes, as text, and the bytes after them
abbrev pub IsLong : Bool → ℕ → List ℕ → Result (List ℕ × List ℕ) HpackFault → Type 0
IsLong coded n bytes (Ok found) = (n ≤ length bytes) × (found.1 ≡ drop n bytes) × IsPlain coded (take n bytes) (Ok found.0)
IsLong coded n bytes (Err fault) = ((length bytes < n) × (fault ≡ Text)) ⊎ ((n ≤ length bytes) × IsPlain coded (take n bytes) (Err fault))

-- the string at the front, and the bytes after it
abbrev pub IsString : List ℕ → Result (List ℕ × List ℕ) HpackFault → Type 0
IsString bytes r = Then (IsInteger 7 bytes) (λ found. IsLong (nat_le 128 (slice_index bytes 0)) found.0 found.1) r

-- the answer, seen by view, is so, but where memory ran out
abbrev pub Tells : {X A : Type 0} → (X → A) → (Result A HpackFault → Type 0) → Result X HpackFault → Type 0
Tells view R (Ok x) = R (Ok (view x))
Tells view R (Err fault) = Told R (Err fault)
