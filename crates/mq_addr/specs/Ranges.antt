-- Ranges of addresses for a protocol, in the order of a route advertisement (RFC 9484, section 4.7.3).
use Rattle.std.specs.Prelude.{◌≡◌, ℕ, ◌+◌, ◌<◌, ◌≤◌, ◌⊎◌, ◌↔◌, ◌==◌, ◌||◌, cond, List, Option, Some, None}
use Rattle.std.specs.List.{Any, All, AllPairs}
use Rattle.mq_addr.specs.declared.addr.Addr.{Addr}
use Rattle.mq_addr.specs.declared.addr.Addr.TheVariants.{V4, V6}
use Rattle.mq_addr.specs.declared.prefix.Prefix.{Prefix}
use Rattle.mq_addr.specs.declared.range.Range.{Range}
use Rattle.mq_addr.specs.Block.{bits_of, SameVersion, IsIn}
use Rattle.mq_addr.specs.Cover.{version_of}

-- both ends are of one version, the first not above the last
pub record IsRange (r : Range) : Type 0 where
  pub version : SameVersion r.first r.last
  pub rising : bits_of r.first ≤ bits_of r.last

-- the address is one of the range
pub record InRange (r : Range) (a : Addr) : Type 0 where
  pub version : SameVersion r.first a
  pub low : bits_of r.first ≤ bits_of a
  pub high : bits_of a ≤ bits_of r.last

-- the number of ICMP in this version (IANA, Assigned Internet Protocol Numbers)
abbrev pub icmp_of : Addr → ℕ
icmp_of (V4 bits) = 1
icmp_of (V6 bits) = 58

-- protocol 0 allows all, another allows itself, and ICMP is always allowed (RFC 9484, section 4.7.3)
abbrev pub Allows : Range → ℕ → Type 0
Allows r protocol = (r.protocol ≡ 0) ⊎ (r.protocol ≡ protocol) ⊎ (protocol ≡ icmp_of r.first)

-- a range of the list has the address and allows the protocol
abbrev pub Leads : List Range → Addr → ℕ → Type 0
Leads ranges a protocol = Any (λ r. InRange r a × Allows r protocol) ranges

-- some address is in both ranges, whatever their protocols
abbrev pub RangesMeet : Range → Range → Type 0
RangesMeet r s = (a : Addr) × InRange r a × InRange s a

-- some address is in a range of each list
abbrev pub ListsMeet : List Range → List Range → Type 0
ListsMeet rs ss = Any (λ r. Any (λ s. RangesMeet r s) ss) rs

-- every address of the range is in the block
abbrev pub IsInside : Range → Prefix → Type 0
IsInside r block = (a : Addr) → InRange r a → IsIn block a

-- by version, then by protocol; at equal version and protocol the one ends before the other begins, and `gap` addresses
-- stand between them
abbrev pub Precedes : ℕ → Range → Range → Type 0
Precedes gap r s =
    (version_of r.first < version_of s.first)
    ⊎ ((version_of r.first ≡ version_of s.first) × (r.protocol < s.protocol))
    ⊎ ((version_of r.first ≡ version_of s.first) × (r.protocol ≡ s.protocol) × (bits_of r.last + gap < bits_of s.first))

pub record IsOrdered (ranges : List Range) : Type 0 where
  pub ranges_are : All IsRange ranges
  pub ordered : AllPairs (Precedes 0) ranges

-- ordered, and no two of one version and protocol touch: each is a maximal interval
pub record AreMaximal (ranges : List Range) : Type 0 where
  pub ranges_are : All IsRange ranges
  pub apart : AllPairs (Precedes 1) ranges

-- What a range of its own protocol is for in a request for one protocol, or for all: a range for all is for that one, and
-- a range of another protocol for none.
abbrev pub met : Option ℕ → ℕ → Option ℕ
met None own = Some own
met (Some asked) own = cond (own == 0 || own == asked) (Some asked) None

-- without a block, every address is in the area
abbrev pub InScope : Option Prefix → Addr → Type 0
InScope None a = Unit {0}
InScope (Some block) a = IsIn block a

-- the list has the address in a range of this very protocol
abbrev pub Has : List Range → ℕ → Addr → Type 0
Has ranges protocol a = Any (λ r. (r.protocol ≡ protocol) × InRange r a) ranges

-- the address is in the area, and a range has it that is for this protocol in the request
abbrev pub IsMetAt : List Range → Option Prefix → Option ℕ → ℕ → Addr → Type 0
IsMetAt ranges area asked protocol a = InScope area a × Any (λ r. (met asked r.protocol ≡ Some protocol) × InRange r a) ranges

-- the ranges met with an area and a protocol: for each version and protocol value the addresses in maximal intervals
pub record IsMeet (ranges : List Range) (area : Option Prefix) (asked : Option ℕ) (out : List Range) : Type 0 where
  pub maximal : AreMaximal out
  pub same : (protocol : ℕ) (a : Addr) → Has out protocol a ↔ IsMetAt ranges area asked protocol a
