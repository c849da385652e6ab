-- Blocks inside blocks, and free blocks.
use Rattle.std.specs.Prelude.{◌≡◌, ℕ, ◌<◌, ◌≤◌, ◌^◌, ◌↔◌, List, Option, Some, None}
use Rattle.std.specs.List.{Any, All}
use Rattle.mq_addr.specs.declared.addr.Addr.{Addr}
use Rattle.mq_addr.specs.declared.addr.Addr.TheVariants.{V4, V6}
use Rattle.mq_addr.specs.declared.prefix.Prefix.{Prefix}
use Rattle.mq_addr.specs.Block.{width, bits_of, free_bits, IsIn, Overlap, IsPrefix}

abbrev pub version_of : Addr → ℕ
version_of (V4 bits) = 4
version_of (V6 bits) = 6

-- every address of the part is in the whole
abbrev pub IsWithin : Prefix → Prefix → Type 0
IsWithin part whole = (a : Addr) → IsIn part a → IsIn whole a

-- a block lies in another exactly where no more bits follow its length, and its own address is in the other
abbrev pub IsWithinByBits : Type 0
IsWithinByBits = (part whole : Prefix) → IsWithin part whole ↔ ((free_bits part ≤ free_bits whole) × IsIn whole part.addr)

-- the block lies in one block of the pool, and has no address of a taken one
pub record IsFree (pool taken : List Prefix) (block : Prefix) : Type 0 where
  pub inside : Any (λ whole. IsWithin block whole) pool
  pub apart : All (λ other. ¬ (Overlap other block)) taken

-- a prefix of this version and length
pub record IsOf (version length : ℕ) (block : Prefix) : Type 0 where
  pub prefix : IsPrefix block
  pub fits : bits_of block.addr < 2 ^ width block.addr
  pub version_is : version_of block.addr ≡ version
  pub length_is : block.length ≡ length

-- the one of these blocks that starts first, or None where there is none
abbrev pub IsLeast : (Prefix → Type 0) → Option Prefix → Type 0
IsLeast P (Some block) = P block × ((other : Prefix) → P other → bits_of block.addr ≤ bits_of other.addr)
IsLeast P None = (other : Prefix) → ¬ (P other)

-- the free block of this version and length that starts first, or None where none of them is free
abbrev pub IsLeastFree : List Prefix → List Prefix → ℕ → ℕ → Option Prefix → Type 0
IsLeastFree pool taken version length found = IsLeast (λ block. IsOf version length block × IsFree pool taken block) found
