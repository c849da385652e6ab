-- What the search of one block of a pool looks for.
use Rattle.std.specs.Prelude.{◌≡◌, ℕ, ◌-◌, ◌/◌, ◌%◌, ◌^◌, ◌<◌, ◌≤◌, ◌⊎◌, cond, nat_le, slice_index_or, List, Option, Some, None}
use Rattle.std.specs.List.{All}
use Rattle.mq_addr.specs.declared.prefix.Prefix.{Prefix}
use Rattle.mq_addr.specs.Block.{width, bits_of, free_bits, first_bits, Overlap}
use Rattle.mq_addr.specs.Aligned.{after}
use Rattle.mq_addr.specs.Cover.{version_of, IsWithin, IsOf}
use Rattle.mq_pool.specs.declared.search.Try.{Try}
use Rattle.mq_pool.specs.declared.search.Try.TheVariants.{Free, Behind, End}

-- the version and the length go together
abbrev pub IsFormat : ℕ → ℕ → Type 0
IsFormat version length = ((version ≡ 4) × (length ≤ 32)) ⊎ ((version ≡ 6) × (length ≤ 128))

-- of two finds the one that starts first
abbrev pub earlier : Option Prefix → Option Prefix → Option Prefix
earlier None b = b
earlier (Some a) None = Some a
earlier (Some a) (Some b) = cond (nat_le (bits_of a.addr) (bits_of b.addr)) (Some a) (Some b)

-- a free block of this version and length in one block of the pool
pub record IsHere (whole : Prefix) (taken : List Prefix) (version length : ℕ) (block : Prefix) : Type 0 where
  pub of : IsOf version length block
  pub within : IsWithin block whole
  pub apart : All (λ other. ¬ (Overlap other block)) taken

-- the same in one of the first so many
pub record IsAmong (pool taken : List Prefix) (version length count : ℕ) (block : Prefix) : Type 0 where
  pub place : ℕ
  pub whole : Prefix
  pub counted : place < count
  pub is : slice_index_or pool place whole ≡ whole
  pub here : IsHere whole taken version length block

-- a block of this length in the whole that has no address of a taken one
pub record IsSpare (whole : Prefix) (taken : List Prefix) (length : ℕ) (block : Prefix) : Type 0 where
  pub of : IsOf (version_of whole.addr) length block
  pub within : IsWithin block whole
  pub apart : All (λ other. ¬ (Overlap other block)) taken

-- a block of this length may start there in the whole
pub record IsStart (whole : Prefix) (length at : ℕ) : Type 0 where
  pub length_fits : length ≤ width whole.addr
  pub smaller : width whole.addr - length ≤ free_bits whole
  pub fits : at < 2 ^ width whole.addr
  pub even : at % 2 ^ (width whole.addr - length) ≡ 0
  pub inside : at / 2 ^ free_bits whole ≡ first_bits (free_bits whole) whole.addr

-- the start behind a block of so many bits, where the whole goes on
abbrev pub IsBehind : Prefix → ℕ → ℕ → Try → Type 0
IsBehind whole at bits (Behind next) = (next ≡ after at bits) × (next < after at (free_bits whole))
IsBehind whole at bits End = after at (free_bits whole) ≤ after at bits
IsBehind whole at bits (Free block) = ⊥

-- no spare block starts from here on before that
abbrev pub NoneBefore : Prefix → List Prefix → ℕ → ℕ → ℕ → Type 0
NoneBefore whole taken length at next = (other : Prefix) → IsSpare whole taken length other → at ≤ bits_of other.addr → next ≤ bits_of other.addr

-- The block that starts here is spare; or none is spare before the next start; or none is from here on.
abbrev pub IsTry : Prefix → List Prefix → ℕ → ℕ → Try → Type 0
IsTry whole taken length at (Free block) = IsSpare whole taken length block × (bits_of block.addr ≡ at)
IsTry whole taken length at (Behind next) = (at < next) × IsStart whole length next × NoneBefore whole taken length at next
IsTry whole taken length at End = (other : Prefix) → IsSpare whole taken length other → at ≤ bits_of other.addr → ⊥
