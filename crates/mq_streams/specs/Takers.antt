-- What becomes of DATA at its stream.
use Rattle.std.specs.Prelude.{◌≡◌, ℕ, ◌<◌, ◌∷◌, ◌⊎◌, length}
use Rattle.std.specs.List.{HoldsAt}
use Rattle.mq_streams.specs.History.{History, Arrived}
use Rattle.mq_streams.specs.Answers.{stream_count_of}
use Rattle.mq_streams.specs.Stand.{IsRow}
use Rattle.mq_streams.specs.declared.answers.Counted.{Counted}
use Rattle.mq_streams.specs.declared.answers.Counted.TheVariants as counted
use Rattle.mq_streams.specs.declared.stream.Stream.{Stream}
use Rattle.mq_streams.specs.declared.streams.Streams.{Streams}

-- the stream takes the DATA, and this becomes of its row
pub record Takes (streams : Streams) (h : History) (id size : ℕ) (taker : ℕ × Stream) : Type 0 where
  pub answer : stream_count_of id size h ≡ counted.Yes
  pub within : taker.0 < length streams.table.rows.items
  pub here : HoldsAt (λ row. row.id ≡ id) streams.table.rows.items taker.0
  pub id_is : taker.1.id ≡ id
  pub row : IsRow (Arrived id size ∷ h) id taker.1

-- the stream doesn't take it
pub record Declines (h : History) (id size : ℕ) (why : Counted) : Type 0 where
  pub answer : stream_count_of id size h ≡ why
  pub cause : (why ≡ counted.Ignored) ⊎ (why ≡ counted.OverStream)
