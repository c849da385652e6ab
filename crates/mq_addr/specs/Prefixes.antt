-- The texts of prefixes (RFC 4632, section 3.1; RFC 4291, section 2.3).
use Rattle.std.specs.Prelude.{◌≡◌, ℕ, ◌≤◌, ◌⊎◌, List, ◌∷◌, ◌++◌, Result, Ok, Err}
use Rattle.mq_text.specs.Number.{Spells}
use Rattle.mq_addr.specs.declared.addr.AddrFault.{AddrFault}
use Rattle.mq_addr.specs.declared.addr.AddrFault.TheVariants.{Syntax, Bits}
use Rattle.mq_addr.specs.declared.prefix.Prefix.{Prefix}
use Rattle.mq_addr.specs.Addr.{IsAddrText}
use Rattle.mq_addr.specs.Block.{width, EndsInZeros}

-- `/`
abbrev pub slash : ℕ
slash = 47

-- an address alone, which has its full length
pub record IsAlone (text : List ℕ) (block : Prefix) : Type 0 where
  pub addr : IsAddrText text block.addr
  pub full : block.length ≡ width block.addr

-- an address, `/` and a length in decimal without leading zeros, up to the number of bits
pub record HasLength (text : List ℕ) (block : Prefix) : Type 0 where
  pub front : List ℕ
  pub digits : List ℕ
  pub is : text ≡ front ++ slash ∷ digits
  pub addr : IsAddrText front block.addr
  pub length : Spells digits block.length
  pub fits : block.length ≤ width block.addr

-- the text has the form of this prefix, whatever the bits past its length
abbrev pub IsPrefixForm : List ℕ → Prefix → Type 0
IsPrefixForm text block = IsAlone text block ⊎ HasLength text block

-- the text writes this prefix
abbrev pub IsPrefixText : List ℕ → Prefix → Type 0
IsPrefixText text block = IsPrefixForm text block × EndsInZeros block

-- The answer is the prefix that the text writes; Bits where it has the form of one with a bit set past the length;
-- Syntax where it has the form of none.
abbrev pub ReadsPrefix : List ℕ → Result Prefix AddrFault → Type 0
ReadsPrefix text (Ok block) = IsPrefixText text block
ReadsPrefix text (Err Bits) = (block : Prefix) × IsPrefixForm text block × ¬ (EndsInZeros block)
ReadsPrefix text (Err Syntax) = (block : Prefix) → ¬ (IsPrefixForm text block)

-- a text has the form of at most one prefix
abbrev pub HasOnePrefix : Type 0
HasOnePrefix = (text : List ℕ) (a b : Prefix) → IsPrefixForm text a → IsPrefixForm text b → a ≡ b
