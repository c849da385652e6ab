-- How capsules become DATA frames (RFC 9113, sections 4.2, 6.1 and 6.9).
use Rattle.std.specs.Prelude.{ℕ, zero, suc, List, [], ◌∷◌, ◌++◌, length, take, drop, min, Bool, true, false}
use Rattle.std.specs.List.{flat_map}
use Rattle.mq_frame.specs.declared.frame.Frame.TheVariants.{Content}
use Rattle.mq_frame.specs.Numbers.{max_frame_size}
use Rattle.mq_frame.specs.Writing.{spelling_of}
use Rattle.mq_streams.specs.History.{Sent}
use Rattle.mq_streams.specs.Answers.{room_of}
use Rattle.mq_client.specs.Asking.{stream}
use Rattle.mq_client.specs.Session.{Session, Stage, Greeting, Asked, Open}

-- the bytes in parts of 16,384 bytes, and a last one of what is left: at most so many parts
unfoldable pub parts : ℕ → List ℕ → List (List ℕ)
parts zero bytes = []
parts (suc n) [] = []
parts (suc n) (b ∷ bytes) = take max_frame_size (b ∷ bytes) ∷ parts n (drop max_frame_size (b ∷ bytes))

abbrev pub data_frame : List ℕ → List ℕ
data_frame bytes = spelling_of (Content stream bytes (length bytes) false)

-- DATA frames with these bytes
abbrev pub data_frames : List ℕ → List ℕ
data_frames bytes = flat_map data_frame (parts (length bytes) bytes)

-- how many of the bytes that wait both windows allow
abbrev pub sendable : Session → ℕ
sendable s = min (length s.waits) (room_of stream s.history)

-- these are framed
abbrev pub sends : Session → Session
sends s = record s {
  waits = drop (sendable s) s.waits;
  put = s.put ++ data_frames (take (sendable s) s.waits);
  history = Sent stream (sendable s) ∷ s.history;
}

-- in an opened tunnel alone
abbrev pub sends_at : Stage → Session → Session
sends_at (Greeting request) s = s
sends_at Asked s = s
sends_at (Open bytes) s = sends s

abbrev pub sends_open : Session → Session
sends_open s = sends_at s.stage s

-- nothing is framed behind the last event
abbrev pub sends_until : Bool → Session → Session
sends_until true s = s
sends_until false s = sends_open s

-- more bytes wait
abbrev pub waits_more : List ℕ → Session → Session
waits_more bytes s = record s { waits = s.waits ++ bytes }
