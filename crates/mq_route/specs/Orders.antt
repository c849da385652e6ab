-- A range behind others. Only the crate's own functions cite this.
use Rattle.std.specs.Prelude.{List}
use Rattle.std.specs.List.{All}
use Rattle.mq_addr.specs.declared.range.Range.{Range}
use Rattle.mq_addr.specs.Ranges.{IsRange, Precedes}

-- it is a range, and each of these comes before it
pub record MayFollow (before : List Range) (range : Range) : Type 0 where
  pub is_range : IsRange range
  pub behind : All (λ other. Precedes 0 other range) before
