-- What a client over HTTP/1.1 is, seen from outside.
use Rattle.std.specs.Prelude.{ℕ, ◌+◌, List, [], ◌++◌, drop}
use Rattle.mq_capsule.specs.Writing.{capsule_text, datagram}
use Rattle.mq_client.specs.declared.event.ClientEvent.{ClientEvent}
use Rattle.mq_client.specs.Requests.{request_text}

-- all bytes of the proxy, all events that they brought, all that was put for writing, and how many bytes of it were written
pub record Exchange : Type 0 where
  pub came : List ℕ
  pub told : List ClientEvent
  pub put : List ℕ
  pub written : ℕ

-- what is to be written
abbrev pub exchange_owed : Exchange → List ℕ
exchange_owed s = drop s.written s.put

-- a client of this path and host that has read nothing
abbrev pub exchange_begun : List ℕ → List ℕ → Exchange
exchange_begun path host = record { came = []; told = []; put = request_text path host; written = 0 }

-- a piece came, and brought these events
abbrev pub exchange_fed : Exchange → List ℕ → List ClientEvent → Exchange
exchange_fed s piece events = record s { came = s.came ++ piece; told = s.told ++ events }

-- a payload was put
abbrev pub exchange_sent : Exchange → List ℕ → Exchange
exchange_sent s payload = record s { put = s.put ++ capsule_text (datagram payload) }

-- so many bytes were written
abbrev pub exchange_wrote : Exchange → ℕ → Exchange
exchange_wrote s count = record s { written = s.written + count }
