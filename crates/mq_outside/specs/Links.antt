-- What a link holds, where it tells it, and what its calls answer then; what it gave and took; and its counts.
use Rattle.std.specs.Prelude.{◌≡◌, ℕ, ◌-◌, ◌^◌, ◌<◌, ◌≤◌, min, Bool, true, false, List, [], ◌∷◌, ◌++◌, length, take, drop, Option, Some, None}
use Rattle.mq_outside.specs.declared.LinkGot.{LinkGot}
use Rattle.mq_outside.specs.declared.LinkGot.TheVariants as got
use Rattle.mq_outside.specs.declared.LinkPut.{LinkPut}
use Rattle.mq_outside.specs.declared.LinkPut.TheVariants as put
use Rattle.mq_outside.specs.Counts.{risen, LinkCounts}

-- what arrived at a link and wasn't read, and what its next calls answer
pub record LinkHolds : Type 0 where
  -- as they arrived; none is empty
  pub pieces : List (List ℕ)
  pub is_ended : Bool
  -- how many bytes it takes from now on, where that is limited
  pub room : Option ℕ
  pub read_fails : Bool
  pub write_fails : Bool

abbrev pub empty_link : LinkHolds
empty_link = record { pieces = []; is_ended = false; room = None; read_fails = false; write_fails = false }

-- the most bytes that one call counts
unfoldable pub most_at_once : ℕ
most_at_once = 2 ^ 32 - 1

-- how many of so many bytes one call hands on, where the other side has room for so many
abbrev pub fitting : ℕ → ℕ → ℕ
fitting room size = min (min room size) most_at_once

-- ---- reads

-- what is left of a piece stands in front of the others
abbrev pub behind : List ℕ → List (List ℕ) → List (List ℕ)
behind [] others = others
behind (b ∷ bytes) others = (b ∷ bytes) ∷ others

-- a read gave the front of the first piece, as much of it as the buffer has room for
pub record ReadsPiece (holds : LinkHolds) (after : Option LinkHolds) (buffer : List ℕ) (count : ℕ) : Type 0 where
  pub first : List ℕ
  pub others : List (List ℕ)
  pub works : holds.read_fails ≡ false
  pub pieces_are : holds.pieces ≡ first ∷ others
  pub count_is : count ≡ fitting (length buffer) (length first)
  pub bytes_are : take count buffer ≡ take count first
  pub after_is : after ≡ Some (record holds { pieces = behind (drop count first) others })

-- one read into a buffer
abbrev pub LinkReads : Option LinkHolds → Option LinkHolds → List ℕ → LinkGot → Type 0
LinkReads None after buffer answer = after ≡ None
LinkReads (Some holds) after buffer (got.Bytes count) = ReadsPiece holds after buffer count
LinkReads (Some holds) after buffer got.NotNow =
    (holds.read_fails ≡ false) × (holds.pieces ≡ []) × (holds.is_ended ≡ false) × (after ≡ Some holds)
LinkReads (Some holds) after buffer got.End =
    (holds.read_fails ≡ false) × (holds.pieces ≡ []) × (holds.is_ended ≡ true) × (after ≡ Some holds)
LinkReads (Some holds) after buffer got.Failed =
    (holds.read_fails ≡ true) × (after ≡ Some (record holds { read_fails = false }))

-- what is read is at least one byte, and within the buffer
abbrev pub GivesSome : List ℕ → LinkGot → Type 0
GivesSome buffer (got.Bytes count) = (0 < count) × (count ≤ length buffer)
GivesSome buffer got.NotNow = Unit {0}
GivesSome buffer got.End = Unit {0}
GivesSome buffer got.Failed = Unit {0}

-- a count rises exactly where a read answered so
abbrev pub after_read : LinkCounts → LinkGot → LinkCounts
after_read counts (got.Bytes count) = counts
after_read counts got.NotNow = record counts { read_waits = risen counts.read_waits }
after_read counts got.End = counts
after_read counts got.Failed = record counts { faults = risen counts.faults }

-- ---- writes

-- how many of so many bytes are taken
abbrev pub taken_of : Option ℕ → ℕ → ℕ
taken_of None size = fitting size size
taken_of (Some room) size = fitting room size

abbrev pub room_left : Option ℕ → ℕ → Option ℕ
room_left None count = None
room_left (Some room) count = Some (room - count)

-- one write of some bytes
abbrev pub LinkWrites : Option LinkHolds → Option LinkHolds → List ℕ → LinkPut → Type 0
LinkWrites None after bytes answer = after ≡ None
LinkWrites (Some holds) after bytes (put.Took count) =
    (holds.write_fails ≡ false) × (count ≡ taken_of holds.room (length bytes)) × (after ≡ Some (record holds { room = room_left holds.room count }))
LinkWrites (Some holds) after bytes put.NotNow = (holds.write_fails ≡ false) × (holds.room ≡ Some 0) × (after ≡ Some holds)
LinkWrites (Some holds) after bytes put.Failed = (holds.write_fails ≡ true) × (after ≡ Some (record holds { write_fails = false }))

-- what is taken is at least one byte, and within what was handed in
abbrev pub LinkTakesSome : List ℕ → LinkPut → Type 0
LinkTakesSome bytes (put.Took count) = (0 < count) × (count ≤ length bytes)
LinkTakesSome bytes put.NotNow = Unit {0}
LinkTakesSome bytes put.Failed = Unit {0}

-- a count rises exactly where a write answered so
abbrev pub after_write : LinkCounts → LinkPut → LinkCounts
after_write counts (put.Took count) = counts
after_write counts put.NotNow = record counts { write_waits = risen counts.write_waits }
after_write counts put.Failed = record counts { faults = risen counts.faults }

-- ---- what it gave and took

-- the bytes that it gave and took, and whether it answered End, where it tells these
pub record LinkPast : Type 0 where
  pub gave : Option (List ℕ)
  pub took : Option (List ℕ)
  pub answered_end : Option Bool

abbrev pub and_then : Option (List ℕ) → List ℕ → Option (List ℕ)
and_then None bytes = None
and_then (Some earlier) bytes = Some (earlier ++ bytes)

abbrev pub marked : Option Bool → Option Bool
marked None = None
marked (Some was) = Some true

-- the past behind a read
abbrev pub past_read : LinkPast → List ℕ → LinkGot → LinkPast
past_read past buffer (got.Bytes count) = record past { gave = and_then past.gave (take count buffer) }
past_read past buffer got.NotNow = past
past_read past buffer got.End = record past { answered_end = marked past.answered_end }
past_read past buffer got.Failed = past

-- the past behind a write
abbrev pub past_written : LinkPast → List ℕ → LinkPut → LinkPast
past_written past bytes (put.Took count) = record past { took = and_then past.took (take count bytes) }
past_written past bytes put.NotNow = past
past_written past bytes put.Failed = past
