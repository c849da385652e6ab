-- What the core of a connection stands for.
use Rattle.std.specs.Prelude.{◌≡◌, ℕ, ◌+◌, ◌*◌, ◌≤◌, List, length, true, false, None, Result, Ok, Err, vec_len, vec_capacity, ◌⊎◌}
use Rattle.std.specs.Option.{IsSome}
use Rattle.mq_wire.specs.declared.NoMemory as wire
use Rattle.mq_frame.specs.Readers.{Stands}
use Rattle.mq_frame.specs.Stream.{EndsInFrame}
use Rattle.mq_streams.specs.History.{live}
use Rattle.mq_streams.specs.Stand.{StandFor}
use Rattle.mq_h2.specs.declared.parts.Core.{Core}
use Rattle.mq_h2.specs.declared.event.StreamEvent.{StreamEvent}
use Rattle.mq_h2.specs.declared.h2.H2.{H2}
use Rattle.mq_h2.specs.declared.h2.Phase.{Phase}
use Rattle.mq_h2.specs.declared.h2.Phase.TheVariants.{Reading, Ended, Spent}
use Rattle.mq_h2.specs.State.{State, owed}
use Rattle.mq_h2.specs.Reading.{ReadTo}
use Rattle.mq_h2.specs.Reached.{IsReached}
use Rattle.mq_h2.specs.Left.{left}

-- the parts that serve whether or not more is read
pub record Serves (c : Core) (s : State) : Type 0 where
  pub encoder : c.encoder ≡ s.owes_limit
  pub streams : StandFor c.streams s.history
  pub given : s.given ≤ length s.out
  pub owed_is : left c.owed ≡ owed s

-- and those that read, but for the header block
pub record Decodes (c : Core) (s : State) : Type 0 where
  pub serves : Serves c s
  pub decoder : c.decoder ≡ record { table = s.table; spent = None }
  pub on : s.ended ≡ false

-- and all
pub record Goes (c : Core) (s : State) : Type 0 where
  pub decodes : Decodes c s
  pub block : c.block ≡ s.block

abbrev pub IsPhase : Phase → H2 → State → Type 0
IsPhase Reading v s = Stands v.frames s.read × Goes v.core s
IsPhase Ended v s = (s.ended ≡ true) × Serves v.core s
IsPhase Spent v s = ⊥

-- the room that is kept for the end of each live stream: empty DATA with END_STREAM, and RST_STREAM
abbrev pub end_room : ℕ
end_room = 22

-- and that for a hundred of them with a WINDOW_UPDATE, which is put where nothing is owed
abbrev pub least_room : ℕ
least_room = 2213

-- there is room for what is put without memory
pub record HasRoom (c : Core) (s : State) : Type 0 where
  pub room : vec_len c.owed.bytes + end_room * length (live s.history) ≤ vec_capacity c.owed.bytes
  pub least : least_room ≤ vec_capacity c.owed.bytes

-- the core stands for this state, to which its calls led
pub record IsH2 (v : H2) (s : State) : Type 0 where
  pub phase : IsPhase v.phase v s
  pub room : HasRoom v.core s
  pub reached : IsReached s

-- memory ran out while it read
abbrev pub IsSpent : H2 → Type 0
IsSpent v = v.phase ≡ Spent

-- a read, or being refused memory for it
abbrev pub Feeds : State → List ℕ → Result (List StreamEvent) wire.NoMemory → H2 → Type 0
Feeds s piece (Ok events) v = (t : State) × ReadTo s piece events t × IsH2 v t
Feeds s piece (Err refused) v = IsSpent v

-- a frame or a header block was begun and isn't whole
abbrev pub IsBegun : State → Type 0
IsBegun s = (s.ended ≡ false) × (EndsInFrame s.read ⊎ IsSome s.block)
