-- What the writers are given (RFC 9484, section 4.7).
use Rattle.std.specs.Prelude.{◌≢◌, ◌<◌, ◌≤◌, List, length}
use Rattle.std.specs.List.{All}
use Rattle.mq_addr.specs.declared.entry.Asked.{Asked}
use Rattle.mq_addr.specs.declared.entry.Given.{Given}
use Rattle.mq_addr.specs.declared.range.Range.{Range}
use Rattle.mq_addr.specs.Ranges.{IsOrdered}

-- at least one entry and at most 16, none with Request ID 0
pub record IsRequest (list : List Asked) : Type 0 where
  pub some : 0 < length list
  pub few : length list ≤ 16
  pub ids : All (λ entry. entry.id ≢ 0) list

-- at most 32 entries
abbrev pub IsAssignment : List Given → Type 0
IsAssignment list = length list ≤ 32

-- at most 32 ranges, in order
pub record AreRoutes (ranges : List Range) : Type 0 where
  pub few : length ranges ≤ 32
  pub ordered : IsOrdered ranges
