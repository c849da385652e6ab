-- The data streams of a connection.
use Rattle.std.specs.Prelude.{◌≡◌, ◌≢◌, ℕ, ◌<◌, List, [], ◌∷◌, slice_get, Some}
use Rattle.mq_machine.specs.State.{Stream}
use Rattle.mq_front.specs.declared.data.DataStream.{DataStream}
use Rattle.mq_front.specs.Data.{IsStream}

abbrev pub AreStreams : List DataStream → List Stream → Type 0
AreStreams [] [] = Unit {0}
AreStreams [] (s ∷ ss) = ⊥
AreStreams (d ∷ ds) [] = ⊥
AreStreams (d ∷ ds) (s ∷ ss) = IsStream d s × AreStreams ds ss

-- the place is that of the first data stream of this number
pub record IsPlaceOf (streams : List DataStream) (id place : ℕ) (d : DataStream) : Type 0 where
  pub at : slice_get streams place ≡ Some d
  pub id_is : d.id ≡ id
  pub first : (other : ℕ) (before : DataStream) → other < place → slice_get streams other ≡ Some before → before.id ≢ id

abbrev pub HasNone : List DataStream → ℕ → Type 0
HasNone streams id = (place : ℕ) (d : DataStream) → slice_get streams place ≡ Some d → d.id ≢ id
