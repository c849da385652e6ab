-- What each call leads to is reached.
use Rattle.std.proofs.Common.{◌≡◌, ℕ, ◌+◌, ◌^◌, ◌<◌, ◌≤◌, List, length, take}
use Rattle.mq_streams.specs.History.{total, arrived_on, consumed_on}
use Rattle.mq_h2.specs.State.{State, new_state, owed}
use Rattle.mq_h2.specs.Acts.{data_room, sends, ends_stream, resets_stream, where_live, consumes, ends_act, writes}
use Rattle.mq_h2.specs.Reached.{IsReached, when_new, by_sending, by_ending, by_resetting, by_consuming, by_ending_act, by_writing}

pub as_new : IsReached new_state
as_new = when_new

pub sent : (id : ℕ) (bytes : List ℕ) (count : ℕ) (s : State) → IsReached s → count ≡ data_room id (length bytes) s → IsReached (where_live id (sends id (take count bytes)) s)
sent id bytes count s is few = by_sending id bytes count s is few

pub ended : (id : ℕ) (s : State) → IsReached s → IsReached (where_live id (ends_stream id) s)
ended id s is = by_ending id s is

pub was_reset : (id code : ℕ) (s : State) → IsReached s → code < 2 ^ 32 → IsReached (where_live id (resets_stream id code) s)
was_reset id code s is small = by_resetting id code s is small

pub consumed : (id count : ℕ) (s : State) → IsReached s → total (consumed_on id) s.history + count ≤ total (arrived_on id) s.history → IsReached (consumes id count s)
consumed id count s is within = by_consuming id count s is within

pub acted : (s : State) → IsReached s → IsReached (ends_act s)
acted s is = by_ending_act s is

pub wrote : (count : ℕ) (s : State) → IsReached s → count ≤ length (owed s) → IsReached (writes count s)
wrote count s is within = by_writing count s is within
