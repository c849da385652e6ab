-- Texts in the Huffman code, as bytes (RFC 7541, section 5.2).
use Rattle.std.specs.Prelude.{◌≡◌, ℕ, ◌+◌, ◌-◌, ◌*◌, ◌<◌, ◌≤◌, ◌⊎◌, Bool, true, false, List, [], ◌∷◌, ◌++◌, length, replicate}
use Rattle.std.specs.List.{All, Contains, flat_map}
use Rattle.mq_huff.specs.Code.{bits_of, code_of}

-- the bits of some bytes, the highest bit of each first
abbrev pub bits : List ℕ → List Bool
bits bytes = flat_map (bits_of 8) bytes

-- the codes of a text's bytes, joined
abbrev pub joined : List ℕ → List Bool
joined text = flat_map code_of text

-- each of them is a byte
abbrev pub AreBytes : List ℕ → Type 0
AreBytes text = All (λ b. b < 256) text

-- these bytes are the text's codes, and then ones up to a whole byte
pub record IsCoded (text bytes : List ℕ) : Type 0 where
  pub are_bytes : AreBytes text
  pub padding : ℕ
  pub short : padding < 8
  pub spelled : bits bytes ≡ joined text ++ replicate padding true

-- after the codes of some bytes the code of EOS stands there whole
pub record MeetsEos (bytes : List ℕ) : Type 0 where
  pub text : List ℕ
  pub rest : List Bool
  pub are_bytes : AreBytes text
  pub met : bits bytes ≡ joined text ++ code_of 256 ++ rest

-- no symbol's code begins these bits
abbrev pub BeginsWithNoCode : List Bool → Type 0
BeginsWithNoCode rest = (symbol : ℕ) (after : List Bool) → symbol ≤ 256 → rest ≡ code_of symbol ++ after → ⊥

-- what stands after the last code has eight or more bits, or a zero
pub record IsBadlyPadded (bytes : List ℕ) : Type 0 where
  pub text : List ℕ
  pub rest : List Bool
  pub are_bytes : AreBytes text
  pub spelled : bits bytes ≡ joined text ++ rest
  pub last : BeginsWithNoCode rest
  pub bad : (8 ≤ length rest) ⊎ Contains rest false

-- the number that some bits are behind others, the highest first
abbrev pub number_of : ℕ → List Bool → ℕ
number_of n [] = n
number_of n (true ∷ more) = number_of (n * 2 + 1) more
number_of n (false ∷ more) = number_of (n * 2) more

-- bits as bytes; the last one is filled up with ones
abbrev pub packed : List Bool → List ℕ
packed [] = []
packed (a ∷ b ∷ c ∷ d ∷ e ∷ f ∷ g ∷ h ∷ rest) = number_of 0 (a ∷ b ∷ c ∷ d ∷ e ∷ f ∷ g ∷ h ∷ []) ∷ packed rest
packed few = number_of 0 (few ++ replicate (8 - length few) true) ∷ []

-- the code of a text, in whole bytes
unfoldable pub coded_of : List ℕ → List ℕ
coded_of text = packed (joined text)
