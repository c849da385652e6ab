-- The laws of the code.
use Rattle.std.specs.Prelude.{◌≡◌, ℕ, ◌+◌, ◌/◌, ◌≤◌, ◌⊎◌, Bool, List, ◌++◌, length}
use Rattle.mq_huff.specs.Code.{code_of}
use Rattle.mq_huff.specs.Coded.{IsCoded, MeetsEos, IsBadlyPadded, AreBytes, coded_of, joined}

-- no code begins another
abbrev pub IsPrefixFree : Type 0
IsPrefixFree = (s t : ℕ) (x y : List Bool) → s ≤ 256 → t ≤ 256 → code_of s ++ x ≡ code_of t ++ y → s ≡ t

-- any 30 bits begin with a code
abbrev pub IsComplete : Type 0
IsComplete = (bits : List Bool) → 30 ≤ length bits → (s : ℕ) × (rest : List Bool) × (s ≤ 256) × (bits ≡ code_of s ++ rest)

-- the same bytes are the code of one text
abbrev pub HaveOneReading : Type 0
HaveOneReading = (a b bytes : List ℕ) → IsCoded a bytes → IsCoded b bytes → a ≡ b

-- a text has one code
abbrev pub HaveOneCoding : Type 0
HaveOneCoding = (text a b : List ℕ) → AreBytes a → AreBytes b → IsCoded text a → IsCoded text b → a ≡ b

-- bytes that are the code of a text have no fault
abbrev pub HaveTextOrFault : Type 0
HaveTextOrFault = (text bytes : List ℕ) → IsCoded text bytes → MeetsEos bytes ⊎ IsBadlyPadded bytes → ⊥

-- no bytes have both faults
abbrev pub HaveOneFault : Type 0
HaveOneFault = (bytes : List ℕ) → MeetsEos bytes → IsBadlyPadded bytes → ⊥

-- all bytes are the code of a text, or have a fault
abbrev pub HaveAnAnswer : Type 0
HaveAnAnswer = (bytes : List ℕ) → ((text : List ℕ) × IsCoded text bytes) ⊎ (MeetsEos bytes ⊎ IsBadlyPadded bytes)

-- the code of a text as bytes is its code
abbrev pub IsTheCode : Type 0
IsTheCode = (text : List ℕ) → AreBytes text → IsCoded text (coded_of text) × AreBytes (coded_of text)

-- it is as long as its bits, in whole bytes
abbrev pub HasItsLength : Type 0
HasItsLength = (text coded : List ℕ) → IsCoded text coded → length coded ≡ (length (joined text) + 7) / 8
