-- Blocks as sets of addresses (RFC 4632, section 3.1).
use Rattle.std.specs.Prelude.{◌≡◌, ℕ, ◌-◌, ◌/◌, ◌%◌, ◌^◌, ◌≤◌}
use Rattle.mq_addr.specs.declared.addr.Addr.{Addr}
use Rattle.mq_addr.specs.declared.addr.Addr.TheVariants.{V4, V6}
use Rattle.mq_addr.specs.declared.prefix.Prefix.{Prefix}

-- how many bits an address of this version has
abbrev pub width : Addr → ℕ
width (V4 bits) = 32
width (V6 bits) = 128

-- the number that the bytes spell
abbrev pub bits_of : Addr → ℕ
bits_of (V4 bits) = bits
bits_of (V6 bits) = bits

abbrev pub SameVersion : Addr → Addr → Type 0
SameVersion (V4 a) (V4 b) = Unit {0}
SameVersion (V6 a) (V6 b) = Unit {0}
SameVersion (V4 a) (V6 b) = ⊥
SameVersion (V6 a) (V4 b) = ⊥

-- how many bits follow the length
abbrev pub free_bits : Prefix → ℕ
free_bits block = width block.addr - block.length

-- the first bits of an address, without so many at its end
abbrev pub first_bits : ℕ → Addr → ℕ
first_bits free a = bits_of a / 2 ^ free

-- the block of one address
abbrev pub alone : Addr → Prefix
alone a = record { addr = a; length = width a }

-- the address is one of the block: it agrees with it up to the length
pub record IsIn (block : Prefix) (a : Addr) : Type 0 where
  pub version : SameVersion block.addr a
  pub agrees : first_bits (free_bits block) a ≡ first_bits (free_bits block) block.addr

-- some address is in both blocks
abbrev pub Overlap : Prefix → Prefix → Type 0
Overlap a b = (x : Addr) × IsIn a x × IsIn b x

-- no bit past the length is set
abbrev pub EndsInZeros : Prefix → Type 0
EndsInZeros block = bits_of block.addr % 2 ^ free_bits block ≡ 0

-- a prefix as every parser gives it: the length fits the version, and no bit past it is set
pub record IsPrefix (block : Prefix) : Type 0 where
  pub fits : block.length ≤ width block.addr
  pub zeros : EndsInZeros block
