-- No block has the addresses of both versions.
use Rattle.std.proofs.Common.{Some, None}
use Rattle.mq_addr.specs.declared.addr.Addr.{Addr}
use Rattle.mq_addr.specs.declared.addr.Addr.TheVariants.{V4, V6}
use Rattle.mq_addr.specs.declared.prefix.Prefix.{Prefix}
use Rattle.mq_addr.specs.Block.{SameVersion}
use Rattle.mq_policy.specs.Areas.{Covers}

other_version : (a : Addr) → (b : Addr) × ¬ (SameVersion a b)
other_version (V4 bits) = (V6 0, λ h. h)
other_version (V6 bits) = (V4 0, λ h. h)

pub not_all : (block : Prefix) → Covers (Some block) None → ⊥
not_all block h = let other = other_version block.addr in other.1 (h other.0 tt).version
