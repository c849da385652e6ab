-- Capsules (RFC 9297, section 3.2): a type, a length, and a value of so many bytes.
use Rattle.std.specs.Prelude.{◌≡◌, ℕ, ◌+◌, List, [], ◌∷◌, length, take, drop, Option, Some, None, nat_lt, if◌then◌else◌, option_and_then}
use Rattle.mq_wire.specs.Integer.{int_of}
use Rattle.mq_capsule.specs.declared.head.Head.{Head}

infixl 10 ◌>>=◌
abbrev pub ◌>>=◌ : {A B : Type 0} → Option A → (A → Option B) → Option B
o >>= f = option_and_then f o

-- the type and the length at the front, where both are whole
unfoldable pub head_of : List ℕ → Option Head
head_of bytes = do
  kind ← int_of bytes
  size ← int_of (drop kind.1 bytes)
  Some (record { kind = kind.0; length = size.0; used = kind.1 + size.1 })

pub record Capsule : Type 0 where
  pub kind : ℕ
  pub value : List ℕ

-- the capsule behind a head, where its value is whole, and the number of its bytes
abbrev pub capsule_by : Head → List ℕ → Option (Capsule × ℕ)
capsule_by head bytes =
    if nat_lt (length bytes) (head.used + head.length) then None
    else Some (record { kind = head.kind; value = take head.length (drop head.used bytes) }, head.used + head.length)

-- the capsule at the front, where it is whole, and the number of its bytes
unfoldable pub capsule_of : List ℕ → Option (Capsule × ℕ)
capsule_of bytes = head_of bytes >>= λ head. capsule_by head bytes

-- The bytes are these capsules, one behind the other, and then a rest, at whose front no capsule is whole.
abbrev pub AreCapsules : List ℕ → List Capsule → List ℕ → Type 0
AreCapsules bytes [] rest = (capsule_of bytes ≡ None) × (rest ≡ bytes)
AreCapsules bytes (capsule ∷ capsules) rest =
    (used : ℕ) × (capsule_of bytes ≡ Some (capsule, used)) × AreCapsules (drop used bytes) capsules rest
