-- What holds of all bytes of a proxy, and of all reads.
use Rattle.std.specs.Prelude.{◌≡◌, ℕ, ◌≤◌, List, [], ◌++◌, length, true, false, ◌⊎◌}
use Rattle.std.specs.List.{list_any}
use Rattle.mq_streams.specs.Answers.{send_window, connection_send_window, room_of}
use Rattle.mq_client.specs.declared.event.ClientEvent.{ClientEvent}
use Rattle.mq_client.specs.Asking.{stream}
use Rattle.mq_client.specs.Events.{is_last}
use Rattle.mq_client.specs.Brings.{Brings}
use Rattle.mq_client.specs.Session.{Session, Stage, Greeting, Asked, Open, ended}
use Rattle.mq_client.specs.Sending.{sendable, sends}
use Rattle.mq_client.specs.Talk.{Talk, talk_begun, is_over, ReadsFrames, talk_sent, talk_wrote}
use Rattle.mq_client.specs.State.{State, Http1, Http2, told, Reads}

-- bytes bring one list of events
abbrev pub ToldOnce : Type 0
ToldOnce = (bytes : List ℕ) (events others : List ClientEvent) → Brings bytes events → Brings bytes others → events ≡ others

-- behind the last event no event comes
abbrev pub NothingFollows : Type 0
NothingFollows = (bytes more : List ℕ) (events : List ClientEvent) → Brings bytes events → list_any is_last events ≡ true
    → Brings (bytes ++ more) events

-- a read brings one list of events, and leads to one state
abbrev pub IsOneRead : Type 0
IsOneRead = (s : State) (piece : List ℕ) (events others : List ClientEvent) (t u : State) → Reads s piece events t → Reads s piece others u
    → (events ≡ others) × (t ≡ u)

-- what was told is what the bytes bring
abbrev pub IsTold : State → Type 0
IsTold (Http1 s) = Brings s.came s.told
IsTold (Http2 s) = Unit {0}

-- a read behind the last event brings none
abbrev pub TellsNoMore : Type 0
TellsNoMore = (s : State) (piece : List ℕ) (events : List ClientEvent) (t : State) → IsTold s → ended (told s) ≡ true → Reads s piece events t → events ≡ []

-- two pieces, one behind the other, bring what they bring as one
abbrev pub ReadsInPieces : Type 0
ReadsInPieces = (s : State) (piece more : List ℕ) (events later : List ClientEvent) (t u : State) → Reads s piece events t → Reads t more later u
    → Reads s (piece ++ more) (events ++ later) u

-- what is framed has no more bytes than either window had, and than waited (RFC 9113, section 6.9.1)
abbrev pub SendsWithin : Type 0
SendsWithin = (s : Session) → (sendable s ≤ send_window stream s.history) × (sendable s ≤ connection_send_window s.history) × (sendable s ≤ length s.waits)

-- and no byte waits that a window has room for
abbrev pub SendsAll : Type 0
SendsAll = (s : Session) → ((sends s).waits ≡ []) ⊎ (room_of stream (sends s).history ≡ 0)

-- in an open tunnel bytes wait only where a window has no room
abbrev pub WaitsFor : Stage → Session → Type 0
WaitsFor (Greeting request) s = Unit {0}
WaitsFor Asked s = Unit {0}
WaitsFor (Open bytes) s = (s.waits ≡ []) ⊎ (room_of stream s.history ≡ 0)

-- whatever is read and sent, up to the last event
pub record IsAlwaysSent : Type 0 where
  pub begins : (path host : List ℕ) → let s = (talk_begun path host).session in WaitsFor s.stage s
  pub reads : (s : Talk) (piece : List ℕ) (events : List ClientEvent) (t : Talk) → WaitsFor s.session.stage s.session → ReadsFrames s piece events t
      → ended events ≡ false → WaitsFor t.session.stage t.session
  pub sends : (s : Talk) (payload : List ℕ) → is_over s ≡ false → let t = (talk_sent s payload).session in WaitsFor t.stage t
  pub writes : (s : Talk) (count : ℕ) → WaitsFor s.session.stage s.session → let t = (talk_wrote s count).session in WaitsFor t.stage t
