-- Areas as sets of addresses: a block, or all addresses of both versions.
use Rattle.std.specs.Prelude.{Option, Some, None}
use Rattle.mq_addr.specs.declared.addr.Addr.{Addr}
use Rattle.mq_addr.specs.declared.prefix.Prefix.{Prefix}
use Rattle.mq_addr.specs.Block.{IsIn}

-- where there is no block, every address is in the area
abbrev pub InArea : Option Prefix → Addr → Type 0
InArea None a = Unit {0}
InArea (Some block) a = IsIn block a

-- every address of the part is in the whole
abbrev pub Covers : Option Prefix → Option Prefix → Type 0
Covers whole part = (a : Addr) → InArea part a → InArea whole a
