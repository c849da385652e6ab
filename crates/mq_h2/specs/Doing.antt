-- What the functions that do what frames do answer.
use Rattle.std.specs.Prelude.{◌≡◌, ℕ, ◌+◌, ◌*◌, ◌≤◌, ◌==◌, List, [], ◌∷◌, ◌++◌, length, take, vec_len, vec_capacity, Option, Some, None, Result, Ok, Err, Bool, true, false}
use Rattle.std.specs.List.{list_any}
use Rattle.mq_hpack.specs.declared.fault.HpackFault.{HpackFault}
use Rattle.mq_hpack.specs.declared.fault.HpackFault.TheVariants as fault
use Rattle.mq_hpack.specs.declared.field.Field.{Field}
use Rattle.mq_frame.specs.declared.frame.Frame.{Frame}
use Rattle.mq_wire.specs.declared.NoMemory as wire
use Rattle.mq_streams.specs.History.{History, Dropped, total, consumed_on, arrived_on, live}
use Rattle.mq_h2.specs.declared.parts.Core.{Core}
use Rattle.mq_h2.specs.declared.event.StreamEvent.{StreamEvent}
use Rattle.mq_h2.specs.declared.event.StreamEvent.TheVariants.{ConnectionError}
use Rattle.mq_h2.specs.declared.h2.Phase.{Phase}
use Rattle.mq_h2.specs.declared.h2.Phase.TheVariants.{Reading, Ended}
use Rattle.mq_h2.specs.declared.read.Read.{Read}
use Rattle.mq_h2.specs.declared.stop.Stop.{Stop}
use Rattle.mq_h2.specs.declared.stop.Stop.TheVariants.{Connection, NoMemory}
use Rattle.mq_h2.specs.Acts.{responds, data_room, sends, where_live}
use Rattle.mq_h2.specs.Codes.{fault_code}
use Rattle.mq_h2.specs.State.{State, with_history}
use Rattle.mq_h2.specs.Frames.{Did, breaks, DoAll}
use Rattle.mq_h2.specs.Reading.{is_withdrawn, lasting, drained, told_on, told_in}
use Rattle.mq_h2.specs.Stand.{Serves, Goes, HasRoom, end_room, least_room}
use Rattle.mq_h2.specs.Left.{left}

-- bytes were put for writing, and nothing else
pub record Puts (bytes : List ℕ) (old new : Core) : Type 0 where
  pub decoder : new.decoder ≡ old.decoder
  pub encoder : new.encoder ≡ old.encoder
  pub streams : new.streams ≡ old.streams
  pub block : new.block ≡ old.block
  pub owed : left new.owed ≡ left old.owed ++ bytes

-- why reading stops at a fault in a header block
abbrev pub stop_of : HpackFault → Stop
stop_of fault.NoMemory = NoMemory
stop_of fault.Index = Connection (fault_code fault.Index)
stop_of fault.Integer = Connection (fault_code fault.Integer)
stop_of fault.Text = Connection (fault_code fault.Text)
stop_of fault.Update = Connection (fault_code fault.Update)
stop_of fault.TooLarge = Connection (fault_code fault.TooLarge)

-- that, with what there is room for
pub record PutsWithin (bytes : List ℕ) (old new : Core) : Type 0 where
  pub puts : Puts bytes old new
  pub len : vec_len new.owed.bytes ≡ vec_len old.owed.bytes + length bytes
  pub capacity : vec_capacity old.owed.bytes ≤ vec_capacity new.owed.bytes

-- this was done, its events put behind others. An error of the connection is answered by its code, before GOAWAY is put.
abbrev pub Comes : Did → List StreamEvent → Result (Unit {0}) Stop → List StreamEvent → Core → Type 0
Comes did before (Ok done) after c = (after ≡ before ++ did.events) × Goes c did.after
Comes did before (Err (Connection code)) after c = (mid : State) × (did ≡ breaks code mid) × (after ≡ before) × Serves c mid
Comes did before (Err NoMemory) after c = Unit {0}

-- the same, of what is a relation
pub record Gave (R : List StreamEvent → State → Type 0) (before after : List StreamEvent) (c : Core) : Type 0 where
  pub given : List StreamEvent
  pub state : State
  pub so : R given state
  pub added : after ≡ before ++ given
  pub goes : Goes c state

pub record Broke (R : List StreamEvent → State → Type 0) (code : ℕ) (before after : List StreamEvent) (c : Core) : Type 0 where
  pub given : List StreamEvent
  pub mid : State
  pub so : R (given ++ ConnectionError code ∷ []) (breaks code mid).after
  pub added : after ≡ before ++ given
  pub serves : Serves c mid

abbrev pub ComesBy : (List StreamEvent → State → Type 0) → List StreamEvent → Result (Unit {0}) Stop → List StreamEvent → Core → Type 0
ComesBy R before (Ok done) after c = Gave R before after c
ComesBy R before (Err (Connection code)) after c = Broke R code before after c
ComesBy R before (Err NoMemory) after c = Unit {0}

-- the frames of a read were met, up to an error of the connection or not
abbrev pub Met : Bool → List Frame → State → List StreamEvent → State → Core → Type 0
Met true frames s told t c = DoAll frames s told t × (t.ended ≡ true) × Serves c t
Met false frames s told t c = DoAll frames s told t × Goes c t

abbrev pub Meets : List Frame → State → Result Bool wire.NoMemory → List StreamEvent → Core → Type 0
Meets frames s (Ok ended) told c = (t : State) × Met ended frames s told t c
Meets frames s (Err refused) told c = Unit {0}

-- there is one, and it is this
abbrev pub is_id : ℕ → Option ℕ → Bool
is_id id None = false
is_id id (Some s) = s == id

-- these are the streams whose requests are withdrawn
abbrev pub AreWithdrawn : List ℕ → List StreamEvent → Type 0
AreWithdrawn gone events = (id : ℕ) → list_any (λ g. g == id) gone ≡ is_withdrawn events id

-- the DATA that an event tells isn't consumed yet
abbrev pub IsHeld : StreamEvent → History → Type 0
IsHeld event h = (id : ℕ) → total (consumed_on id) h + told_on id event ≤ total (arrived_on id) h

-- the DATA that the events tell isn't consumed yet
pub record AreHeld (events : List StreamEvent) (h : History) : Type 0 where
  pub each : (id : ℕ) → total (consumed_on id) h + told_in id events ≤ total (arrived_on id) h

-- what reading needs isn't changed
pub record Keeps (old new : Core) : Type 0 where
  pub decoder : new.decoder ≡ old.decoder
  pub block : new.block ≡ old.block

-- it serves, and has room for what is put without memory
pub record IsReady (c : Core) (s : State) : Type 0 where
  pub serves : Serves c s
  pub room : HasRoom c s

-- there is room for RST_STREAM on this stream, and for the ends of the others
pub record CanClose (id : ℕ) (c : Core) (s : State) : Type 0 where
  pub serves : Serves c s
  pub room : vec_len c.owed.bytes + 13 + end_room * length (live (Dropped id ∷ s.history)) ≤ vec_capacity c.owed.bytes
  pub least : least_room ≤ vec_capacity c.owed.bytes

-- a response was put where the stream is live, or not
abbrev pub Responded : ℕ → List Field → Bool → State → Result (Unit {0}) wire.NoMemory → Core → Type 0
Responded id fields end s (Ok done) c = IsReady c (where_live id (responds id fields end) s)
Responded id fields end s (Err refused) c = IsReady c s

-- DATA was put, or not
abbrev pub SentData : ℕ → List ℕ → State → Result ℕ wire.NoMemory → Core → Type 0
SentData id bytes s (Ok count) c = (count ≡ data_room id (length bytes) s) × IsReady c (where_live id (sends id (take count bytes)) s)
SentData id bytes s (Err refused) c = IsReady c s

-- the frames of a read were done, and what they told that lasts; there is room for the end of each stream
pub record ReadFrames (frames : List Frame) (s : State) (events : List StreamEvent) (ended : Bool) (c : Core) : Type 0 where
  pub told : List StreamEvent
  pub met : State
  pub did : DoAll frames s told met
  pub events_are : events ≡ lasting told
  pub serves : Serves c (with_history (drained told told met.history) met)
  pub goes : ended ≡ false → Goes c (with_history (drained told told met.history) met)
  pub over : ended ≡ true → met.ended ≡ true

abbrev pub FramesRead : List Frame → State → Result Read wire.NoMemory → Core → Type 0
FramesRead frames s (Ok read) c = ReadFrames frames s read.events.items read.ended c
FramesRead frames s (Err refused) c = Unit {0}

-- the phase behind a read, that met an error of the connection or not
abbrev pub phase_behind : Bool → Phase
phase_behind true = Ended
phase_behind false = Reading
