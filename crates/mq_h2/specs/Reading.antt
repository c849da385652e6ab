-- One read of a connection of HTTP/2.
use Rattle.std.specs.Prelude.{◌≡◌, ℕ, ◌+◌, ◌==◌, List, [], ◌∷◌, ◌++◌, Bool, true, false, not, ◌&&◌, filter, if◌then◌else◌}
use Rattle.std.specs.List.{list_any}
use Rattle.mq_frame.specs.declared.frame.Frame.{Frame}
use Rattle.mq_frame.specs.Stream.{FramesOf}
use Rattle.mq_streams.specs.History.{History, Consumed}
use Rattle.mq_h2.specs.declared.event.StreamEvent.{StreamEvent}
use Rattle.mq_h2.specs.declared.event.StreamEvent.TheVariants.{Request, Malformed, Content, Reset, ConnectionError}
use Rattle.mq_h2.specs.State.{State}
use Rattle.mq_h2.specs.Frames.{DoAll}

-- the event is a request on this stream
abbrev pub asks : ℕ → StreamEvent → Bool
asks id (Request s fields end) = s == id
asks id (Malformed s code) = false
asks id (Content s bytes len end) = false
asks id (Reset s code) = false
asks id (ConnectionError code) = false

-- the stream was reset, by the client or for an error
abbrev pub resets : ℕ → StreamEvent → Bool
resets id (Request s fields end) = false
resets id (Malformed s code) = s == id
resets id (Content s bytes len end) = false
resets id (Reset s code) = s == id
resets id (ConnectionError code) = false

-- the stream's request was withdrawn in the read of these events: it came and its stream was reset
abbrev pub is_withdrawn : List StreamEvent → ℕ → Bool
is_withdrawn events id = list_any (asks id) events && list_any (resets id) events

-- Of a withdrawn request nothing is told, and nothing of its DATA and of the client's RST_STREAM. An error of the
-- stream is told.
abbrev pub lasts : List StreamEvent → StreamEvent → Bool
lasts events (Request s fields end) = not (is_withdrawn events s)
lasts events (Malformed s code) = true
lasts events (Content s bytes len end) = not (is_withdrawn events s)
lasts events (Reset s code) = not (is_withdrawn events s)
lasts events (ConnectionError code) = true

abbrev pub lasting : List StreamEvent → List StreamEvent
lasting events = filter (lasts events) events

-- the DATA of withdrawn requests is consumed
abbrev pub drained_by : List StreamEvent → StreamEvent → History → History
drained_by all (Request s fields end) h = h
drained_by all (Malformed s code) h = h
drained_by all (Content s bytes len end) h = if is_withdrawn all s then Consumed s len ∷ h else h
drained_by all (Reset s code) h = h
drained_by all (ConnectionError code) h = h

abbrev pub drained : List StreamEvent → List StreamEvent → History → History
drained all [] h = h
drained all (e ∷ es) h = drained all es (drained_by all e h)

-- DATA that these events tell on a stream
abbrev pub told_on : ℕ → StreamEvent → ℕ
told_on id (Request s fields end) = 0
told_on id (Malformed s code) = 0
told_on id (Content s bytes len end) = if s == id then len else 0
told_on id (Reset s code) = 0
told_on id (ConnectionError code) = 0

abbrev pub told_in : ℕ → List StreamEvent → ℕ
told_in id [] = 0
told_in id (e ∷ es) = told_on id e + told_in id es

-- The read of a piece: the frames that end in it do what they do, one after the other, and what is withdrawn in it
-- isn't told.
pub record Reads (s : State) (piece : List ℕ) (events : List StreamEvent) (t : State) : Type 0 where
  pub earlier : List Frame
  pub frames : List Frame
  pub were : FramesOf s.read earlier
  pub are : FramesOf (s.read ++ piece) (earlier ++ frames)
  pub told : List StreamEvent
  pub met : State
  pub did : DoAll frames s told met
  pub events_are : events ≡ lasting told
  pub state_is : t ≡ record met { read = s.read ++ piece; history = drained told told met.history }

-- behind an error of the connection nothing is read
abbrev pub ReadsWhile : Bool → State → List ℕ → List StreamEvent → State → Type 0
ReadsWhile true s piece events t = (events ≡ []) × (t ≡ s)
ReadsWhile false s piece events t = Reads s piece events t

abbrev pub ReadTo : State → List ℕ → List StreamEvent → State → Type 0
ReadTo s piece events t = ReadsWhile s.ended s piece events t
