-- What a clause says of a lane and its two ends.
use Rattle.std.specs.Prelude.{◌≡◌, ℕ, List, length, ◌++◌}
use Rattle.atomic_table.specs.Seated.{TableId}

-- which lane it is
abbrev pub LaneId : Type 0
LaneId = TableId

-- the most items that wait in it
abbrev pub room_of : LaneId → ℕ
room_of lane = lane.slots

-- the end that puts: of which lane it is, and what it has put
pub record Putter (T : Type 0) : Type 0 where
  pub lane : LaneId
  pub put : List T

-- the end that takes: of which lane it is, what it has taken, and what it was last told was put
pub record Taker (T : Type 0) : Type 0 where
  pub lane : LaneId
  pub taken : List T
  pub told : List T

-- a note of what was put
pub record Noted (T : Type 0) : Type 0 where
  pub lane : LaneId
  pub put : List T

-- at one moment so many items waited: what had been put was what had been taken and these
pub record HasWaiting {T : Type 0} (count : ℕ) (put : List T) : Type 0 where
  pub taken : List T
  pub waiting : List T
  pub size : length waiting ≡ count
  pub whole : put ≡ taken ++ waiting
