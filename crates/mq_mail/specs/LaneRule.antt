-- The rule of a lane's queue: what was put is what was taken and what waits. One pass at most may put, and it has the
-- list of what was put. The same for takes.
use Rattle.std.specs.Prelude.{◌≡◌, ℕ, Bool, true, List, ◌++◌}
use mathlib.Core.Option.{some}
use lib.ListN.{get_elem?}
use Rattle.mq_mail.specs.declared.lane_rule.Hand.{Hand}

abbrev pub hand : {T : Type 0} → Bool → Bool → List T → List T → List T → Hand T
hand puts takes put taken told = record { puts = puts; takes = takes; put = put; taken = taken; told = told }

-- the items begin with these
pub record StartsWith {T : Type 0} (items front : List T) : Type 0 where
  pub rest : List T
  pub is : items ≡ front ++ rest

-- what one pass knows of all that was put and taken
pub record Fits {T : Type 0} (putter taker : ℕ) (put taken : List T) (pass : ℕ) (v : Hand T) : Type 0 where
  pub puts : v.puts ≡ true → (pass ≡ putter) × (v.put ≡ put)
  pub takes : v.takes ≡ true → (pass ≡ taker) × (v.taken ≡ taken)
  pub told : StartsWith put v.told

pub record IsInOrder {T : Type 0} (items : List T) (views : List (Hand T)) : Type 0 where
  pub putter : ℕ
  pub taker : ℕ
  pub put : List T
  pub taken : List T
  pub whole : put ≡ taken ++ items
  pub fits : (pass : ℕ) (v : Hand T) → get_elem? views pass ≡ some v → Fits putter taker put taken pass v
