-- How the parts of a line say values: words parted by one space, numbers in decimal without leading zeros, bytes in lower-case
-- hex.
use Rattle.std.specs.Prelude.{◌≡◌, ◌≢◌, ℕ, ◌<◌, ◌≤◌, ◌⊎◌, ◌==◌, List, [], ◌∷◌, ◌++◌, codes, decimal, if◌then◌else◌, All, Option, Some, None}
use Rattle.std.specs.List.{flat_map}
use Rattle.hex.specs.Hex.{encode_lower}

abbrev pub space : ℕ
space = 32

-- a part that says a value, a space, and what stands behind it
pub record Parted {A B : Type 0} (Is : List ℕ → A → Type 0) (Behind : A → List ℕ → B → Type 0) (text : List ℕ) (said : B) : Type 0 where
  pub part : List ℕ
  pub first : A
  pub rest : List ℕ
  pub is : text ≡ part ++ space ∷ rest
  pub says : Is part first
  pub behind : Behind first rest said

-- the text says a value, of which this is made
pub record Means {A B : Type 0} (Is : List ℕ → A → Type 0) (make : A → B) (text : List ℕ) (said : B) : Type 0 where
  pub value : A
  pub says : Is text value
  pub said_is : said ≡ make value

-- a number within these limits
pub record IsNumber (low high : ℕ) (text : List ℕ) (n : ℕ) : Type 0 where
  pub least : low ≤ n
  pub most : n ≤ high
  pub is : text ≡ decimal n

-- the number of a link, or of a tunnel
abbrev pub IsName : List ℕ → ℕ → Type 0
IsName text n = IsNumber 0 4294967295 text n

-- one or more bytes in hex
pub record IsHex (text bytes : List ℕ) : Type 0 where
  pub some : bytes ≢ []
  pub are : All (λ b. b < 256) bytes
  pub is : text ≡ encode_lower bytes

-- one byte in hex
pub record IsByte (text : List ℕ) (byte : ℕ) : Type 0 where
  pub small : byte < 256
  pub is : text ≡ encode_lower (byte ∷ [])

-- a byte that a text can say: CR, LF, or from 0x20 to 0x7e
abbrev pub IsSayable : ℕ → Type 0
IsSayable b = (b ≡ 13) ⊎ ((b ≡ 10) ⊎ ((32 ≤ b) × (b ≤ 126)))

-- how a text says a byte: as itself, or by an escape
abbrev pub said_byte : ℕ → List ℕ
said_byte b =
    if b == 13 then codes "\\r"
    else (if b == 10 then codes "\\n"
    else (if b == 92 then codes "\\\\" else b ∷ []))

-- one or more bytes as a text, to the end of the line
pub record IsText (text bytes : List ℕ) : Type 0 where
  pub some : bytes ≢ []
  pub are : All IsSayable bytes
  pub is : text ≡ flat_map said_byte bytes

-- a number within a limit, or a word in its place
abbrev pub IsNumberOr : List ℕ → ℕ → List ℕ → Option ℕ → Type 0
IsNumberOr word high text None = text ≡ word
IsNumberOr word high text (Some n) = IsNumber 0 high text n
