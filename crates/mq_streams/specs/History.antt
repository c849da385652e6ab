-- What happens to the streams and the flow-control windows of a connection, as its server sees it
-- (RFC 9113, sections 5.1, 5.2 and 6.9).
use Rattle.std.specs.Prelude.{ℕ, ◌+◌, ◌==◌, List, [], ◌∷◌, ◌++◌, Bool, true, false, not, max, filter, if◌then◌else◌}
use Rattle.std.specs.List.{list_any}

-- One thing that happened. Sizes and amounts are in bytes. Stream 0 is the connection.
pub data Event : Type 0 where
  -- the client began a stream, by HEADERS
  Opened : (stream : ℕ) → Event
  -- it began one more than may be live, which is closed at once
  TurnedAway : (stream : ℕ) → Event
  -- DATA came for a stream
  Arrived : (stream size : ℕ) → Event
  -- DATA came that its stream doesn't take, which is consumed at once
  Discarded : (stream size : ℕ) → Event
  -- so much of the DATA that came was consumed
  Consumed : (stream size : ℕ) → Event
  -- a WINDOW_UPDATE was sent
  GivenBack : (stream amount : ℕ) → Event
  -- a WINDOW_UPDATE came
  Extended : (stream amount : ℕ) → Event
  -- SETTINGS_INITIAL_WINDOW_SIZE came
  Shifted : (value : ℕ) → Event
  -- so much DATA was sent
  Sent : (stream size : ℕ) → Event
  -- END_STREAM came
  Finished : (stream : ℕ) → Event
  -- the stream closed
  Dropped : (stream : ℕ) → Event

-- all that happened, the latest first
abbrev pub History : Type 0
History = List Event

-- the size of each window as it begins (RFC 9113, section 6.9.2)
abbrev pub first_window : ℕ
first_window = 65535

-- what the events add up to
abbrev pub total : (Event → ℕ) → History → ℕ
total share [] = 0
total share (event ∷ earlier) = share event + total share earlier

-- the DATA that counts in a stream's receive window
abbrev pub arrived_on : ℕ → Event → ℕ
arrived_on id (Arrived s n) = if s == id then n else 0
arrived_on id _ = 0

-- the DATA that counts in the connection's
abbrev pub arrived : Event → ℕ
arrived (Arrived s n) = n
arrived (Discarded s n) = n
arrived _ = 0

-- the DATA of a stream that was consumed, and all that was
abbrev pub consumed_on : ℕ → Event → ℕ
consumed_on id (Consumed s n) = if s == id then n else 0
consumed_on id _ = 0

abbrev pub consumed : Event → ℕ
consumed (Consumed s n) = n
consumed (Discarded s n) = n
consumed _ = 0

-- what was given back to the client on a stream, or on the connection
abbrev pub given_back_on : ℕ → Event → ℕ
given_back_on id (GivenBack s n) = if s == id then n else 0
given_back_on id _ = 0

-- what the client granted on a stream, or on the connection
abbrev pub extended_on : ℕ → Event → ℕ
extended_on id (Extended s n) = if s == id then n else 0
extended_on id _ = 0

-- the DATA that was sent on a stream, and all that was
abbrev pub sent_on : ℕ → Event → ℕ
sent_on id (Sent s n) = if s == id then n else 0
sent_on id _ = 0

abbrev pub sent : Event → ℕ
sent (Sent s n) = n
sent _ = 0

-- the initial size of the send windows of streams: the last that came (RFC 9113, section 6.9.2)
abbrev pub initial : History → ℕ
initial [] = first_window
initial (Shifted value ∷ earlier) = value
initial (_ ∷ earlier) = initial earlier

-- the highest id that was begun, or 0
abbrev pub highest : History → ℕ
highest [] = 0
highest (Opened s ∷ earlier) = max s (highest earlier)
highest (TurnedAway s ∷ earlier) = max s (highest earlier)
highest (_ ∷ earlier) = highest earlier

-- the ids of the live streams, in the order in which they began
abbrev pub live : History → List ℕ
live [] = []
live (Opened s ∷ earlier) = live earlier ++ s ∷ []
live (Dropped s ∷ earlier) = filter (λ id. not (id == s)) (live earlier)
live (_ ∷ earlier) = live earlier

abbrev pub is_live : ℕ → History → Bool
is_live id history = list_any (λ s. s == id) (live history)

-- the client has ended its side of the stream
abbrev pub has_finished : ℕ → History → Bool
has_finished id [] = false
has_finished id (Finished s ∷ earlier) = if s == id then true else has_finished id earlier
has_finished id (_ ∷ earlier) = has_finished id earlier
