-- What the server does on a connection of HTTP/2 beside reading.
use Rattle.std.specs.Prelude.{ℕ, ◌+◌, ◌≤◌, List, [], ◌∷◌, ◌++◌, length, min, Option, Some, None, Bool, true, false, nat_lt, if◌then◌else◌}
use Rattle.mq_frame.specs.declared.frame.Frame.TheVariants as frame
use Rattle.mq_frame.specs.Numbers.{max_frame_size}
use Rattle.mq_frame.specs.Writing.{spelling_of}
use Rattle.mq_hpack.specs.declared.field.Field.{Field}
use Rattle.mq_hpack.specs.Writing.{block_text}
use Rattle.mq_streams.specs.History.{Sent, Consumed, GivenBack, Dropped, is_live, has_finished}
use Rattle.mq_streams.specs.Answers.{room_of, next_update}
use Rattle.mq_h2.specs.Codes.{no_error}
use Rattle.mq_h2.specs.State.{State, owed, put, happens}

-- the server ends its side: where the client hasn't ended its own, it is asked to send no more (section 8.1)
abbrev pub ending_text : Bool → ℕ → List ℕ
ending_text true id = []
ending_text false id = spelling_of (frame.Reset id no_error)

abbrev pub ends : ℕ → State → State
ends id s = record s { out = s.out ++ ending_text (has_finished id s.history) id; history = Dropped id ∷ s.history }

abbrev pub ends_if : Bool → ℕ → State → State
ends_if true id s = ends id s
ends_if false id s = s

-- HEADERS with this block
abbrev pub with_headers : ℕ → List ℕ → Bool → State → State
with_headers id block end s =
    ends_if end id (record s { out = s.out ++ spelling_of (frame.Headers id block end true); owes_limit = false })

-- a response, whose block is that of these fields (section 8.1)
abbrev pub responds : ℕ → List Field → Bool → State → State
responds id fields end s = with_headers id (block_text s.owes_limit fields) end s

-- the block fits a frame
abbrev pub FitsFrame : List Field → State → Type 0
FitsFrame fields s = length (block_text s.owes_limit fields) ≤ max_frame_size

-- how many of so many bytes the next DATA frame of a live stream has
abbrev pub frame_room : ℕ → ℕ → State → ℕ
frame_room id count s = min (min count max_frame_size) (room_of id s.history)

-- how many of so many bytes one DATA frame of this stream can have now
abbrev pub data_room : ℕ → ℕ → State → ℕ
data_room id size s = if is_live id s.history then frame_room id size s else 0

-- DATA with these bytes, where there are some
abbrev pub sends : ℕ → List ℕ → State → State
sends id bytes s =
    if nat_lt 0 (length bytes)
    then record s { out = s.out ++ spelling_of (frame.Content id bytes (length bytes) false); history = Sent id (length bytes) ∷ s.history }
    else s

-- empty DATA with END_STREAM
abbrev pub ends_stream : ℕ → State → State
ends_stream id s = ends id (put (spelling_of (frame.Content id [] 0 true)) s)

-- RST_STREAM
abbrev pub resets_stream : ℕ → ℕ → State → State
resets_stream id code s = record s { out = s.out ++ spelling_of (frame.Reset id code); history = Dropped id ∷ s.history }

-- an act, only where its stream is live
abbrev pub where_live : ℕ → (State → State) → State → State
where_live id act s = if is_live id s.history then act s else s

-- DATA was consumed
abbrev pub consumes : ℕ → ℕ → State → State
consumes id count s = happens (Consumed id count) s

-- The end of an act: where nothing is owed, the next WINDOW_UPDATE is put (section 6.9).
abbrev pub gives_back : Option (ℕ × ℕ) → State → State
gives_back None s = s
gives_back (Some update) s =
    record s { out = s.out ++ spelling_of (frame.Window update.0 update.1); history = GivenBack update.0 update.1 ∷ s.history }

abbrev pub updates : List ℕ → State → State
updates [] s = gives_back (next_update s.history) s
updates (b ∷ bs) s = s

abbrev pub ends_act : State → State
ends_act s = updates (owed s) s

-- so many of the owed bytes were written
abbrev pub writes : ℕ → State → State
writes count s = record s { given = s.given + count }
