-- Decimal numbers.
use Rattle.std.specs.Prelude.{◌≡◌, ℕ, ◌<◌, ◌^◌, List, decimal}

-- the text is the decimal digits of n, without a sign or leading zeros
abbrev pub Spells : List ℕ → ℕ → Type 0
Spells text n = text ≡ decimal n

-- a text spells at most one number
abbrev pub IsReadAlone : Type 0
IsReadAlone = (text : List ℕ) (m n : ℕ) → m < 2 ^ 64 → n < 2 ^ 64 → Spells text m → Spells text n → m ≡ n
