-- What an operator may configure.
use Rattle.std.specs.Prelude.{◌≤◌, ◌⊎◌, ◌++◌, length}
use Rattle.std.specs.List.{Any, All, AllPairs}
use Rattle.mq_addr.specs.declared.addr.Addr.{Addr}
use Rattle.mq_addr.specs.declared.addr.Addr.TheVariants.{V4, V6}
use Rattle.mq_addr.specs.declared.prefix.Prefix.{Prefix}
use Rattle.mq_addr.specs.Block.{IsIn, Overlap}
use Rattle.mq_addr.specs.Ranges.{IsOrdered}
use Rattle.mq_talk.specs.declared.book.Config.{Config}

-- the block has the all-zero address of neither version
pub record HasNoZero (block : Prefix) : Type 0 where
  pub v4 : ¬ (IsIn block (V4 0))
  pub v6 : ¬ (IsIn block (V6 0))

-- At most 16 blocks each, which have no address in common and don't have the all-zero address, by which a client asks for
-- any; and at most 32 routes, in order.
pub record IsConfig (config : Config) : Type 0 where
  pub few_pools : length config.pool ≤ 16
  pub few_reaches : length config.reach ≤ 16
  pub few_routes : length config.routes ≤ 32
  pub apart : AllPairs (λ a b. ¬ (Overlap a b)) (config.pool ++ config.reach)
  pub no_zero : All HasNoZero (config.pool ++ config.reach)
  pub ordered : IsOrdered config.routes

-- the address is one that the proxy gives or leads to
abbrev pub IsOurs : Config → Addr → Type 0
IsOurs config a = Any (λ block. IsIn block a) config.pool ⊎ Any (λ block. IsIn block a) config.reach
