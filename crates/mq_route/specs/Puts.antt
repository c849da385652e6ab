-- One range put into a list of maximal intervals.
use Rattle.std.specs.Prelude.{◌≡◌, ℕ, ◌+◌, ◌<◌, ◌⊎◌, ◌↔◌, slice_index_or, ◌==◌, ◌&&◌, ◌||◌, nat_lt, nat_le, cond, Bool, List, [], ◌∷◌, Option, Some, None}
use Rattle.mq_addr.specs.declared.addr.Addr.{Addr}
use Rattle.mq_addr.specs.declared.prefix.Prefix.{Prefix}
use Rattle.mq_addr.specs.declared.range.Range.{Range}
use Rattle.mq_addr.specs.Block.{bits_of}
use Rattle.mq_addr.specs.Cover.{version_of}
use Rattle.mq_addr.specs.Ranges.{IsRange, InRange, AreMaximal, Has, InScope, met}

-- the lower, and the higher, of two addresses of one version
abbrev pub lower : Addr → Addr → Addr
lower a b = cond (nat_le (bits_of a) (bits_of b)) a b

abbrev pub higher : Addr → Addr → Addr
higher a b = cond (nat_le (bits_of a) (bits_of b)) b a

-- the range from the first address of both to the last
abbrev pub hull : Range → Range → Range
hull r s = record { first = lower r.first s.first; last = higher r.last s.last; protocol = r.protocol }

-- A range met with an area and a protocol is one range, or nothing is in it.
abbrev pub IsClip : Range → Option Prefix → Option ℕ → Option Range → Type 0
IsClip r area asked (Some part) =
    IsRange part × ((protocol : ℕ) (a : Addr) → (InScope area a × (met asked r.protocol ≡ Some protocol) × InRange r a) ↔ ((part.protocol ≡ protocol) × InRange part a))
IsClip r area asked None = (protocol : ℕ) (a : Addr) → InScope area a → met asked r.protocol ≡ Some protocol → InRange r a → ⊥

-- the one is before the other in a list of maximal intervals: they don't touch
abbrev pub precedes : Range → Range → Bool
precedes r s =
    nat_lt (version_of r.first) (version_of s.first)
    || ((version_of r.first == version_of s.first)
    && (nat_lt r.protocol s.protocol || ((r.protocol == s.protocol) && nat_lt (bits_of r.last + 1) (bits_of s.first))))

-- a range put into a list of maximal intervals: what it touches is joined to it
abbrev pub put : Range → List Range → List Range
put h [] = h ∷ []
put h (r ∷ rs) = cond (precedes h r) (h ∷ r ∷ rs) (cond (precedes r h) (r ∷ put h rs) (put (hull h r) rs))

-- what two ranges have in common, for the protocol of the second
abbrev pub IsPart : Range → Range → Option Range → Type 0
IsPart r s (Some part) = IsRange part × (part.protocol ≡ s.protocol) × ((a : Addr) → (InRange r a × InRange s a) ↔ InRange part a)
IsPart r s None = (a : Addr) → InRange r a → InRange s a → ⊥

-- what a range adds to a meet
abbrev pub Adds : Range → Option Prefix → Option ℕ → ℕ → Addr → Type 0
Adds r area asked protocol a = InScope area a × (met asked r.protocol ≡ Some protocol) × InRange r a

-- a list of maximal intervals with what a range adds
pub record IsMore (list : List Range) (r : Range) (area : Option Prefix) (asked : Option ℕ) (new : List Range) : Type 0 where
  pub maximal : AreMaximal list → AreMaximal new
  pub has : AreMaximal list → (protocol : ℕ) (a : Addr) → Has new protocol a → Has list protocol a ⊎ Adds r area asked protocol a
  pub gets : AreMaximal list → (protocol : ℕ) (a : Addr) → Has list protocol a ⊎ Adds r area asked protocol a → Has new protocol a

-- one of the first so many ranges adds the address
pub record IsMetBelow (ranges : List Range) (area : Option Prefix) (asked : Option ℕ) (count protocol : ℕ) (a : Addr) : Type 0 where
  pub place : ℕ
  pub range : Range
  pub counted : place < count
  pub is : slice_index_or ranges place range ≡ range
  pub adds : Adds range area asked protocol a

-- the meet of the first so many ranges
pub record IsMeetBelow (ranges : List Range) (area : Option Prefix) (asked : Option ℕ) (count : ℕ) (list : List Range) : Type 0 where
  pub maximal : AreMaximal list
  pub has : (protocol : ℕ) (a : Addr) → Has list protocol a → IsMetBelow ranges area asked count protocol a
  pub gets : (protocol : ℕ) (a : Addr) → IsMetBelow ranges area asked count protocol a → Has list protocol a
