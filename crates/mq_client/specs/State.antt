-- What a client is, seen from outside.
use Rattle.std.specs.Prelude.{◌≡◌, ℕ, List, [], ◌++◌, drop, Bool, true, false}
use Rattle.mq_client.specs.declared.event.ClientEvent.{ClientEvent}
use Rattle.mq_client.specs.Exchange.{Exchange, exchange_begun, exchange_fed, exchange_sent, exchange_wrote}
use Rattle.mq_client.specs.Brings.{Brings}
use Rattle.mq_client.specs.Talk.{Talk, talk_begun, ReadsFrames, talk_sent, talk_wrote}

-- in one of the two protocols
pub data State : Type 0 where
  Http1 : (s : Exchange) → State
  Http2 : (s : Talk) → State

-- all bytes of the proxy
abbrev pub came : State → List ℕ
came (Http1 s) = s.came
came (Http2 s) = s.came

-- all events that they brought
abbrev pub told : State → List ClientEvent
told (Http1 s) = s.told
told (Http2 s) = s.told

-- all that was put for writing
abbrev pub put : State → List ℕ
put (Http1 s) = s.put
put (Http2 s) = s.session.put

-- how many bytes of it were written
abbrev pub written : State → ℕ
written (Http1 s) = s.written
written (Http2 s) = s.session.written

-- what is to be written
abbrev pub owed : State → List ℕ
owed s = drop (written s) (put s)

-- the bytes of capsules that were sent and aren't framed yet: over HTTP/1.1 there is no such byte
abbrev pub waiting : State → List ℕ
waiting (Http1 s) = []
waiting (Http2 s) = s.session.waits

-- a client of this path and host that has read nothing
abbrev pub begun : Bool → List ℕ → List ℕ → State
begun false path host = Http1 (exchange_begun path host)
begun true path host = Http2 (talk_begun path host)

-- A piece came, and brought these events. Over HTTP/1.1, with the earlier ones, they are what all bytes bring.
abbrev pub Reads : State → List ℕ → List ClientEvent → State → Type 0
Reads (Http1 s) piece events t = Brings (s.came ++ piece) (s.told ++ events) × (t ≡ Http1 (exchange_fed s piece events))
Reads (Http2 s) piece events t = (u : Talk) × ReadsFrames s piece events u × (t ≡ Http2 u)

-- a payload was sent
abbrev pub sent : State → List ℕ → State
sent (Http1 s) payload = Http1 (exchange_sent s payload)
sent (Http2 s) payload = Http2 (talk_sent s payload)

-- so many bytes were written
abbrev pub wrote : State → ℕ → State
wrote (Http1 s) count = Http1 (exchange_wrote s count)
wrote (Http2 s) count = Http2 (talk_wrote s count)
