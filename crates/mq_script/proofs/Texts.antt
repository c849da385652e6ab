-- Texts that are no addresses and no prefixes.
use Rattle.std.proofs.Common.{◌≢◌, ℕ, List, codes, subst, Option, Some, None, Err}
use Rattle.mq_addr.specs.declared.addr.Addr.{Addr}
use Rattle.mq_addr.specs.declared.addr.AddrFault.{AddrFault}
use Rattle.mq_addr.specs.declared.addr.AddrFault.TheVariants as fault
use Rattle.mq_addr.specs.declared.prefix.Prefix.{Prefix}
use Rattle.mq_addr.specs.Block.{EndsInZeros}
use Rattle.mq_addr.specs.Prefixes.{HasOnePrefix, IsPrefixText, ReadsPrefix}
use Rattle.mq_addr.specs.declared.range.Range.{Range}
use Rattle.mq_addr.specs.Addr.{HasAddrBytes, HasOneAddr, IsAddrText, ReadsAddr}
use Rattle.mq_addr.specs.Ranges.{IsRange}
use Rattle.mq_text.specs.Cut.{IsCutOnce}
use Rattle.mq_talk.specs.Config.{HasNoZero}
use Rattle.mq_play.specs.Settings.{IsBlock, IsRoute, IsShare}
use Rattle.mq_play.proofs.reading.Singles.{IsRangeText, range_once}

pub no_addr : (text : List ℕ) (why : AddrFault) → ReadsAddr text (Err why) → (addr : Addr) → IsAddrText text addr → ⊥
no_addr text fault.Syntax h addr is = h addr is
no_addr text fault.Bits h addr is = h

pub no_prefix : HasOnePrefix → (text : List ℕ) (why : AddrFault) → ReadsPrefix text (Err why) → (block : Prefix) → IsPrefixText text block → ⊥
no_prefix one text fault.Syntax h block k = h block k.0
no_prefix one text fault.Bits h block k = h.2 (subst EndsInZeros (one text block h.0 k.0 h.1) k.1)

-- the text is neither `*` nor a prefix
pub no_block : HasOnePrefix → (text : List ℕ) (why : AddrFault) → text ≢ codes "*" → ReadsPrefix text (Err why) → (block : Option Prefix) → IsBlock text block → ⊥
no_block one text why other h None k = other k
no_block one text why other h (Some block) k = no_prefix one text why h block k

-- the prefix that the text writes has an all-zero address
pub no_share : HasOnePrefix → (text : List ℕ) (block : Prefix) → IsPrefixText text block → (HasNoZero block → ⊥) → (other : Prefix) → IsShare text other → ⊥
no_share one text block is zero other h = zero (subst HasNoZero (one text other block h.0.0 is.0) h.1)

-- the range that the text writes is none
pub no_range : IsCutOnce → HasAddrBytes → HasOneAddr → (text : List ℕ) (range : Range) → IsRangeText text range → (IsRange range → ⊥) → (other : Range) → IsRoute text other → ⊥
no_range once bytes one text range is bad other h = bad (subst IsRange (range_once once bytes one text other range h.0 is) h.1)
