-- The states that reads and acts lead to.
use Rattle.std.specs.Prelude.{◌≡◌, ℕ, ◌+◌, ◌^◌, ◌<◌, ◌≤◌, List, length, take, Bool, true, All}
use Rattle.mq_hpack.specs.declared.field.Field.{Field}
use Rattle.mq_streams.specs.History.{total, arrived_on, consumed_on, is_live}
use Rattle.mq_h2.specs.declared.event.StreamEvent.{StreamEvent}
use Rattle.mq_h2.specs.State.{State, new_state, owed}
use Rattle.mq_h2.specs.Reading.{ReadTo}
use Rattle.mq_h2.specs.Acts.{FitsFrame, responds, data_room, sends, ends_stream, resets_stream, where_live, consumes, ends_act, writes}

-- The state is that of a new connection, or one that a read or an act leads to from such a state. Numbers and bytes have
-- no type here, so their bounds are said.
pub data IsReached : State → Type 0 where
  when_new : IsReached new_state
  by_reading : (s : State) (piece : List ℕ) (events : List StreamEvent) (t : State) → IsReached s → All (λ b. b < 2 ^ 8) piece → ReadTo s piece events t → IsReached t
  by_responding : (id : ℕ) (fields : List Field) (end : Bool) (s : State) → IsReached s → is_live id s.history ≡ true → FitsFrame fields s → IsReached (responds id fields end s)
  by_sending : (id : ℕ) (bytes : List ℕ) (count : ℕ) (s : State) → IsReached s → count ≡ data_room id (length bytes) s → IsReached (where_live id (sends id (take count bytes)) s)
  by_ending : (id : ℕ) (s : State) → IsReached s → IsReached (where_live id (ends_stream id) s)
  by_resetting : (id code : ℕ) (s : State) → IsReached s → code < 2 ^ 32 → IsReached (where_live id (resets_stream id code) s)
  by_consuming : (id count : ℕ) (s : State) → IsReached s → total (consumed_on id) s.history + count ≤ total (arrived_on id) s.history → IsReached (consumes id count s)
  by_ending_act : (s : State) → IsReached s → IsReached (ends_act s)
  by_writing : (count : ℕ) (s : State) → IsReached s → count ≤ length (owed s) → IsReached (writes count s)
