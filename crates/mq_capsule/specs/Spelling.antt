-- Capsules by their spellings: an integer may take more bytes than it needs (RFC 9000, section 16).
use Rattle.std.specs.Prelude.{◌≡◌, ◌↔◌, ℕ, List, [], ◌∷◌, ◌++◌, length, Some}
use Rattle.mq_wire.specs.Integer.{int_of}
use Rattle.mq_capsule.specs.Capsule.{Capsule, AreCapsules}

-- the text is this integer, and no more
abbrev pub IsInteger : ℕ → List ℕ → Type 0
IsInteger n text = int_of text ≡ Some (n, length text)

-- the text is this capsule, and no more
pub record IsSpelling (capsule : Capsule) (text : List ℕ) : Type 0 where
  pub kind : List ℕ
  pub size : List ℕ
  pub text_is : text ≡ kind ++ (size ++ capsule.value)
  pub kind_is : IsInteger capsule.kind kind
  pub size_is : IsInteger (length capsule.value) size

-- the bytes are spellings of these capsules, joined, and then the rest
abbrev pub AreJoined : List ℕ → List Capsule → List ℕ → Type 0
AreJoined bytes [] rest = bytes ≡ rest
AreJoined bytes (capsule ∷ capsules) rest =
    (text : List ℕ) × (more : List ℕ) × (bytes ≡ text ++ more) × IsSpelling capsule text × AreJoined more capsules rest

-- the bytes don't begin with a capsule
abbrev pub BeginsWithNone : List ℕ → Type 0
BeginsWithNone bytes = (capsule : Capsule) (text more : List ℕ) → bytes ≡ text ++ more → IsSpelling capsule text → ⊥

-- the capsules of bytes are those that they spell, up to a rest that doesn't begin with one
abbrev pub AreSpelled : Type 0
AreSpelled = (bytes : List ℕ) (capsules : List Capsule) (rest : List ℕ)
    → AreCapsules bytes capsules rest ↔ (AreJoined bytes capsules rest × BeginsWithNone rest)
