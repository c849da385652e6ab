-- The state of a client over HTTP/2.
use Rattle.std.specs.Prelude.{◌≡◌, ℕ, ◌+◌, List, [], ◌++◌, Bool}
use Rattle.mq_frame.specs.declared.frame.Frame.{Frame}
use Rattle.mq_frame.specs.Stream.{FramesOf}
use Rattle.mq_capsule.specs.Writing.{capsule_text, datagram}
use Rattle.mq_client.specs.declared.event.ClientEvent.{ClientEvent}
use Rattle.mq_client.specs.Session.{Session, session_begun, ended}
use Rattle.mq_client.specs.Sending.{waits_more, sends_until}
use Rattle.mq_client.specs.Frames.{DoAll}

pub record Talk : Type 0 where
  -- all bytes of the proxy, and all events that they brought
  pub came : List ℕ
  pub told : List ClientEvent
  pub session : Session

-- a client of this path and host that has read nothing
abbrev pub talk_begun : List ℕ → List ℕ → Talk
talk_begun path host = record { came = []; told = []; session = session_begun path host }

-- the last event was told
abbrev pub is_over : Talk → Bool
is_over s = ended s.told

-- A piece came, and brought these events: the frames that end in it did what they do, one after the other.
pub record ReadsFrames (s : Talk) (piece : List ℕ) (events : List ClientEvent) (t : Talk) : Type 0 where
  pub earlier : List Frame
  pub frames : List Frame
  pub were : FramesOf s.came earlier
  pub are : FramesOf (s.came ++ piece) (earlier ++ frames)
  pub after : Session
  pub did : DoAll (is_over s) frames s.session events after
  pub state_is : t ≡ record { came = s.came ++ piece; told = s.told ++ events; session = after }

-- A payload is sent: its capsule waits, and what the windows allow is framed.
abbrev pub session_sent : Bool → List ℕ → Session → Session
session_sent over payload s = sends_until over (waits_more (capsule_text (datagram payload)) s)

abbrev pub talk_sent : Talk → List ℕ → Talk
talk_sent s payload = record s { session = session_sent (is_over s) payload s.session }

-- so many of the owed bytes were written
abbrev pub session_wrote : ℕ → Session → Session
session_wrote count s = record s { written = s.written + count }

abbrev pub talk_wrote : Talk → ℕ → Talk
talk_wrote s count = record s { session = session_wrote count s.session }
