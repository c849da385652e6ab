-- The rows of the table of live streams.
use Rattle.std.specs.Prelude.{◌≡◌, ℕ, ◌+◌, ◌≤◌, ◌<◌, ◌∷◌, ◌++◌, [], pos, Bool, false, List, All}
use Rattle.std.specs.List.{AllPairs}
use Rattle.mq_streams.specs.Balance.{IsBalance, stays_within}
use Rattle.mq_streams.specs.declared.stream.Stream.{Stream}

-- the ids rise
abbrev pub Rise : List Stream → Type 0
Rise rows = AllPairs (λ a b. a.id < b.id) rows

-- no id is above the highest
abbrev pub AreUpTo : ℕ → List Stream → Type 0
AreUpTo highest rows = All (λ row. row.id ≤ highest) rows

-- whether the send window is within the largest where this is the initial size
abbrev pub CanShift : ℕ → Stream → Bool → Type 0
CanShift initial row answer = (extended sent : ℕ) → IsBalance row.balance extended sent → answer ≡ stays_within (initial + extended) sent

-- a row is added, of a stream of which nothing was said yet
pub record Opens (old new : List Stream) (id : ℕ) : Type 0 where
  pub row : Stream
  pub added : new ≡ old ++ row ∷ []
  pub id_is : row.id ≡ id
  pub ended : row.has_ended ≡ false
  pub room : row.receiving.room ≡ 65535
  pub consumed : row.receiving.consumed ≡ 0
  pub balance : row.balance ≡ pos 0
