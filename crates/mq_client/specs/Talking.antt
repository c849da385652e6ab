-- What the core over HTTP/2 stands for.
use Rattle.std.specs.Prelude.{◌≡◌, ◌≤◌, ℕ, Bool, true, false, List, ◌++◌, length, drop, None}
use Rattle.mq_capsule.specs.Readers as capsules
use Rattle.mq_capsule.specs.declared.item.Item.{Item}
use Rattle.mq_capsule.specs.declared.reader.Reader.{Reader}
use Rattle.mq_frame.specs.Readers.{Stands}
use Rattle.mq_streams.specs.History.{is_live}
use Rattle.mq_streams.specs.Stand.{StandFor}
use Rattle.mq_client.specs.declared.event.ClientEvent.{ClientEvent}
use Rattle.mq_client.specs.declared.http2.Http2.{Http2}
use Rattle.mq_client.specs.declared.http2.Phase.{Phase}
use Rattle.mq_client.specs.declared.http2.Phase.TheVariants.{Reading, Over, Spent}
use Rattle.mq_client.specs.declared.stage.Stage as code
use Rattle.mq_client.specs.declared.stage.Stage.TheVariants as stage
use Rattle.mq_client.specs.declared.parts.Parts.{Parts}
use Rattle.mq_client.specs.Asking.{stream}
use Rattle.mq_client.specs.Session.{Session, Stage, Greeting, Asked, Open, ended}
use Rattle.mq_client.specs.Talk.{Talk, is_over}
use Rattle.mq_client.specs.Frames.{Did, Says, told_of}

-- as far as the tunnel has come
abbrev pub IsStage : code.Stage → Stage → Type 0
IsStage (stage.Greeting request) (Greeting bytes) = request ≡ bytes
IsStage (stage.Greeting request) Asked = ⊥
IsStage (stage.Greeting request) (Open bytes) = ⊥
IsStage stage.Asked (Greeting bytes) = ⊥
IsStage stage.Asked Asked = Unit {0}
IsStage stage.Asked (Open bytes) = ⊥
IsStage (stage.Open reader) (Greeting bytes) = ⊥
IsStage (stage.Open reader) Asked = ⊥
IsStage (stage.Open reader) (Open bytes) = capsules.Stands reader false bytes

-- the parts that serve whether or not more is read
pub record Serves (c : Parts) (s : Session) : Type 0 where
  pub streams : StandFor c.streams s.history
  pub live : is_live stream s.history ≡ true
  pub waits_are : c.waits ≡ s.waits
  pub owed_is : c.owed ≡ drop s.written s.put
  pub within : s.written ≤ length s.put

-- and those that read, but for the header block
pub record Decodes (c : Parts) (s : Session) : Type 0 where
  pub serves : Serves c s
  pub decoder : c.decoder ≡ record { table = s.table; spent = None }
  pub stage_is : IsStage c.stage s.stage

-- and all
pub record Goes (c : Parts) (s : Session) : Type 0 where
  pub decodes : Decodes c s
  pub block : c.block ≡ s.block

-- behind the last event nothing is read
abbrev pub Leads : Bool → Parts → Session → Type 0
Leads true c s = Serves c s
Leads false c s = Goes c s

-- this was done, its events told behind others
pub record Comes (did : Did) (before after : List ClientEvent) (over : Bool) (c : Parts) : Type 0 where
  pub added : after ≡ before ++ did.events
  pub over_is : over ≡ ended did.events
  pub leads : Leads over c did.after

-- the same, of what is a relation
pub record Gave (R : List ClientEvent → Session → Type 0) (before after : List ClientEvent) (over : Bool) (c : Parts) : Type 0 where
  pub given : List ClientEvent
  pub state : Session
  pub so : R given state
  pub added : after ≡ before ++ given
  pub over_is : over ≡ ended given
  pub leads : Leads over c state

-- bytes of a data stream were read behind the earlier ones, and what they bring was told
pub record ReadsBytes (earlier bytes : List ℕ) (end : Bool) (before after : List ClientEvent) (over : Bool) (reader : Reader) : Type 0 where
  pub later : List Item
  pub says : Says earlier bytes later
  pub added : after ≡ before ++ told_of later end
  pub over_is : over ≡ ended (told_of later end)
  pub stands : capsules.Stands reader false (earlier ++ bytes)

abbrev pub IsPhase : Phase → Http2 → Talk → Type 0
IsPhase Reading two s = Stands two.frames s.came × Goes two.parts s.session × (is_over s ≡ false)
IsPhase Over two s = Serves two.parts s.session × (is_over s ≡ true)
IsPhase Spent two s = ⊥

-- a client over HTTP/2
abbrev pub IsHttp2 : Http2 → Talk → Type 0
IsHttp2 two s = IsPhase two.phase two s

abbrev pub phase_behind : Bool → Phase
phase_behind true = Over
phase_behind false = Reading
