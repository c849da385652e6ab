-- Which calls of an object in memory are to fail: those of these numbers, counted from 0.
use Rattle.std.specs.Prelude.{◌==◌, ℕ, Bool, List}
use Rattle.std.specs.List.{list_any}
use Rattle.mq_outside.specs.Counts.{risen}

pub record Calls : Type 0 where
  pub fails : List ℕ
  -- how many calls were made
  pub made : ℕ

abbrev pub no_calls : List ℕ → Calls
no_calls fails = record { fails = fails; made = 0 }

-- the next call is to fail
abbrev pub is_listed : Calls → Bool
is_listed calls = list_any (λ n. n == calls.made) calls.fails

-- one more call was made
abbrev pub called : Calls → Calls
called calls = record calls { made = risen calls.made }
