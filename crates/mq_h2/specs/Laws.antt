-- What holds of all reads.
use Rattle.std.specs.Prelude.{◌≡◌, ℕ, ◌+◌, ◌≤◌, ◌==◌, nat_lt, List, ◌++◌, count_by, Option, Some, None, Bool, true, false, ◌||◌}
use Rattle.std.specs.List.{flat_map}
use Rattle.mq_frame.specs.declared.frame.Frame.{Frame}
use Rattle.mq_frame.specs.Numbers.{max_frame_size}
use Rattle.mq_frame.specs.declared.place.Place.TheVariants.{First}
use Rattle.mq_frame.specs.Stream.{FramesOf}
use Rattle.mq_frame.specs.Writing.{spelling_of, AreWritten}
use Rattle.mq_hpack.specs.declared.field.Field.{Field}
use Rattle.mq_streams.specs.Answers.{send_window, connection_send_window}
use Rattle.mq_streams.specs.History.{total, arrived_on, consumed_on, highest}
use Rattle.mq_streams.specs.Windows.{PassesNoWindow}
use Rattle.mq_streams.specs.declared.answers.Began.{Began}
use Rattle.mq_streams.specs.declared.answers.Began.TheVariants as began
use Rattle.mq_h2.specs.declared.block.OpenBlock.{OpenBlock}
use Rattle.mq_h2.specs.declared.event.StreamEvent.{StreamEvent}
use Rattle.mq_h2.specs.Acts.{responds, data_room, sends, ends_stream, resets_stream, where_live, consumes, ends_act, writes}
use Rattle.mq_h2.specs.State.{State}
use Rattle.mq_h2.specs.Reading.{asks, told_in, ReadTo}
use Rattle.mq_h2.specs.Reached.{IsReached}
use Rattle.mq_h2.specs.Stand.{IsH2}
use Rattle.mq_h2.specs.declared.h2.H2.{H2}

-- a read gives one list of events, and leads to one state
abbrev pub IsOneRead : Type 0
IsOneRead = (s : State) (piece : List ℕ) (events others : List StreamEvent) (t u : State) → ReadTo s piece events t → ReadTo s piece others u → (events ≡ others) × (t ≡ u)

-- each read of each state gives events, and leads to a state
abbrev pub HasOutcome : Type 0
HasOutcome = (s : State) (piece : List ℕ) → (events : List StreamEvent) × (t : State) × ReadTo s piece events t

-- DATA that is sent has no more bytes than either window had, than a frame may have, and than were given (sections 4.2
-- and 6.9.1)
abbrev pub SendsWithin : Type 0
SendsWithin = (id size : ℕ) (s : State)
    → (data_room id size s ≤ send_window id s.history) × (data_room id size s ≤ connection_send_window s.history)
    × (data_room id size s ≤ max_frame_size) × (data_room id size s ≤ size)

-- in each state that a core stands for, all DATA that came and was sent so far was within its windows then, and what made a
-- window grow left it within the largest (section 6.9.1)
abbrev pub WindowsHold : Type 0
WindowsHold = (v : H2) (s : State) → IsH2 v s → PassesNoWindow s.history

-- What arrived on a stream and isn't consumed grows by what a read tells: the events that last tell the DATA that is still
-- to be consumed.
abbrev pub IsTold : Type 0
IsTold = (s : State) (piece : List ℕ) (events : List StreamEvent) (t : State) (id : ℕ) → ReadTo s piece events t
    → total (arrived_on id) t.history + total (consumed_on id) s.history ≡ total (arrived_on id) s.history + told_in id events + total (consumed_on id) t.history

-- whole frames were put for writing (section 4.1)
pub record PutsFrames (s t : State) : Type 0 where
  pub frames : List Frame
  pub put : t.out ≡ s.out ++ flat_map spelling_of frames

-- Each read and each act puts whole frames: so what is owed is what the last writing cut, and then whole frames.
pub record PutsWholeFrames : Type 0 where
  pub reads : (s : State) (piece : List ℕ) (events : List StreamEvent) (t : State) → ReadTo s piece events t → PutsFrames s t
  pub responds : (id : ℕ) (fields : List Field) (end : Bool) (s : State) → PutsFrames s (responds id fields end s)
  pub sends : (id : ℕ) (bytes : List ℕ) (s : State) → PutsFrames s (where_live id (sends id bytes) s)
  pub ends : (id : ℕ) (s : State) → PutsFrames s (where_live id (ends_stream id) s)
  pub resets : (id code : ℕ) (s : State) → PutsFrames s (where_live id (resets_stream id code) s)
  pub act : (s : State) → PutsFrames s (ends_act s)

-- All that was put for writing, from the connection's beginning on, is frames that can be written, none of which is an
-- error where it stands, and a reader of frames reads these and no others.
pub record IsReadBack (s : State) : Type 0 where
  pub frames : List Frame
  pub put : s.out ≡ flat_map spelling_of frames
  pub written : AreWritten First frames
  pub read : FramesOf s.out frames

-- in each state that reads and acts lead to
abbrev pub ReadsBack : Type 0
ReadsBack = (s : State) → IsReached s → IsReadBack s

-- the same, behind bytes that were put before, of which so many were written
abbrev pub over : List ℕ → ℕ → State → State
over out given s = record s { out = out ++ s.out; given = given }

-- the read does and puts the same without them
pub record ReadsAlone (out : List ℕ) (given : ℕ) (s : State) (piece : List ℕ) (events : List StreamEvent) (t : State) : Type 0 where
  pub alone : State
  pub reads : ReadTo s piece events alone
  pub is : t ≡ over out given alone

-- so a read does and puts the same whatever was put for writing before
abbrev pub ReadsApart : Type 0
ReadsApart = (out : List ℕ) (given : ℕ) (s : State) (piece : List ℕ) (events : List StreamEvent) (t : State)
    → ReadTo (over out given s) piece events t → ReadsAlone out given s piece events t

-- the header block, which began so on a stream, is the request of this one
abbrev pub asks_by : Began → ℕ → ℕ → Bool
asks_by began.Live stream id = stream == id
asks_by began.Refused stream id = false
asks_by began.Old stream id = false
asks_by began.BadId stream id = false

abbrev pub is_block_of : ℕ → Option OpenBlock → Bool
is_block_of id None = false
is_block_of id (Some b) = asks_by b.began b.stream id

-- The request of this stream may still come: its header block isn't whole, or its number is above those that the client began. None
-- comes where that is false; where it is true, the number may be one that can't begin a stream.
abbrev pub may_come : ℕ → State → Bool
may_come id s = is_block_of id s.block || nat_lt (highest s.history) id

abbrev pub one : Bool → ℕ
one true = 1
one false = 0

-- so a read tells at most one request of a stream, only where it may come, and then no other may
abbrev pub IsAskedOnce : Type 0
IsAskedOnce = (s : State) (piece : List ℕ) (events : List StreamEvent) (t : State) (id : ℕ) → ReadTo s piece events t
    → count_by (asks id) events + one (may_come id t) ≤ one (may_come id s)

-- and no act changes whose request may come
pub record KeepsAsked : Type 0 where
  pub responds : (stream : ℕ) (fields : List Field) (end : Bool) (s : State) (id : ℕ) → may_come id (where_live stream (responds stream fields end) s) ≡ may_come id s
  pub sends : (stream : ℕ) (bytes : List ℕ) (s : State) (id : ℕ) → may_come id (where_live stream (sends stream bytes) s) ≡ may_come id s
  pub ends : (stream : ℕ) (s : State) (id : ℕ) → may_come id (where_live stream (ends_stream stream) s) ≡ may_come id s
  pub resets : (stream code : ℕ) (s : State) (id : ℕ) → may_come id (where_live stream (resets_stream stream code) s) ≡ may_come id s
  pub consumes : (stream count : ℕ) (s : State) (id : ℕ) → may_come id (consumes stream count s) ≡ may_come id s
  pub act : (s : State) (id : ℕ) → may_come id (ends_act s) ≡ may_come id s
  pub writes : (count : ℕ) (s : State) (id : ℕ) → may_come id (writes count s) ≡ may_come id s
