-- How far bytes were read, and what was told of them.
use Rattle.std.specs.Prelude.{◌≡◌, ℕ, ◌≤◌, true, false, List, [], ◌∷◌, ◌++◌, length, drop}
use Rattle.std.specs.List.{list_any}
use Rattle.mq_capsule.specs.declared.reader.Reader.{Reader}
use Rattle.mq_capsule.specs.Readers.{Stands}
use Rattle.mq_client.specs.declared.event.ClientEvent.{ClientEvent}
use Rattle.mq_client.specs.declared.event.ClientEvent.TheVariants.{Opened}
use Rattle.mq_client.specs.declared.reading.Reading.{Reading}
use Rattle.mq_client.specs.declared.reading.Reading.TheVariants.{Head, Data, Over, Spent}
use Rattle.mq_client.specs.declared.http1.Http1.{Http1}
use Rattle.mq_client.specs.Heads.{IsAnswered}
use Rattle.mq_client.specs.Events.{is_last}
use Rattle.mq_client.specs.Brings.{Brings, DataBrings, switching_protocols}
use Rattle.mq_client.specs.Exchange.{Exchange, exchange_owed}
use Rattle.mq_client.specs.Answers.{IsWaiting}

-- these bytes of a data stream were read, and these events told
abbrev pub IsAtData : Reading → List ℕ → List ClientEvent → Type 0
IsAtData (Head reader) bytes events = ⊥
IsAtData (Data reader) bytes events = Stands reader false bytes × DataBrings bytes events × (list_any is_last events ≡ false)
IsAtData Over bytes events = DataBrings bytes events × (list_any is_last events ≡ true)
IsAtData Spent bytes events = ⊥

-- a tunnel was opened, and its data stream read
pub record IsBehindHead (reading : Reading) (came : List ℕ) (told : List ClientEvent) : Type 0 where
  pub used : ℕ
  pub events : List ClientEvent
  pub answered : IsAnswered came switching_protocols used
  pub told_is : told ≡ Opened ∷ events
  pub at : IsAtData reading (drop used came) events

-- these bytes of the proxy were read, and these events told
abbrev pub IsReading : Reading → List ℕ → List ClientEvent → Type 0
IsReading (Head reader) came told = IsWaiting reader came × (told ≡ [])
IsReading (Data reader) came told = IsBehindHead (Data reader) came told
IsReading Over came told = Brings came told × (list_any is_last told ≡ true)
IsReading Spent came told = ⊥

-- a piece of a data stream leads there, and what it brings was told
abbrev pub ReadsData : Reader → List ℕ → List ClientEvent → List ClientEvent → Reading → Type 0
ReadsData old piece before after new = (later : List ClientEvent) × (after ≡ before ++ later)
    × ((bytes : List ℕ) (events : List ClientEvent) → IsAtData (Data old) bytes events → IsAtData new (bytes ++ piece) (events ++ later))

-- a piece leads there, and what it brings was told
abbrev pub Reads : Reading → List ℕ → List ClientEvent → List ClientEvent → Reading → Type 0
Reads old piece before after new = (later : List ClientEvent) × (after ≡ before ++ later)
    × ((came : List ℕ) (told : List ClientEvent) → IsReading old came told → IsReading new (came ++ piece) (told ++ later))

-- a client over HTTP/1.1
pub record IsHttp1 (one : Http1) (s : Exchange) : Type 0 where
  pub reading : IsReading one.reading s.came s.told
  pub owed_is : one.owed ≡ exchange_owed s
  pub within : s.written ≤ length s.put
