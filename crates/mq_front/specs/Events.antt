-- What the events of a read of HTTP/2 ask for, as it is put into the list of what is due.
use Rattle.std.specs.Prelude.{◌≡◌, ◌⊎◌, ℕ, Bool, slice_set, List, [], ◌∷◌, ◌++◌}
use Rattle.mq_h2.specs.declared.event.StreamEvent as http2
use Rattle.mq_h2.specs.Reading.{ReadTo}
use Rattle.mq_h2.specs.Stand.{IsH2}
use Rattle.mq_h2.specs.State as h2
use Rattle.mq_talk.specs.declared.goal.Goal.{Goal}
use Rattle.mq_machine.specs.declared.act.Due.{Due}
use Rattle.mq_machine.specs.declared.act.Due.TheVariants as due
use Rattle.mq_machine.specs.declared.setup.Setup.{Setup}
use Rattle.mq_machine.specs.Reading.{StreamEvent, EventBrings, EventsBring, EventAsks, EventsAsk, ended_acts, goal_act}
use Rattle.mq_machine.specs.State.{Stream, Tunnel}
use Rattle.mq_front.specs.declared.data.DataStream.{DataStream}
use Rattle.mq_front.specs.declared.http2.Http2.{Http2}
use Rattle.mq_front.specs.Data.{Takes}
use Rattle.mq_front.specs.Limits.{AllMayBeDue}
use Rattle.mq_front.specs.Streams.{AreStreams, HasNone, IsPlaceOf}

-- ---- only the crate's own functions cite these words, up to the next line of this kind

-- Contents of the data stream of this number: what they ask for was put, or nothing where there is none.
abbrev pub Contains : ℕ → ℕ → List ℕ → Bool → List Due → List Due → List DataStream → List DataStream → Type 0
Contains mtu id bytes ends before after old new =
    ((place : ℕ) × (d : DataStream) × (e : DataStream) × IsPlaceOf old id place d × (new ≡ slice_set old place e) × Takes mtu d bytes ends before after e)
    ⊎ (HasNone old id × (new ≡ old) × (after ≡ before))

-- a request that leads there: its port is to be bound or its tunnel opens, and its data stream begins
pub record Leads (id : ℕ) (goal : Goal) (ends : Bool) (before after : List Due) (old new : List DataStream) : Type 0 where
  pub after_is : after ≡ before ++ due.Do (goal_act id goal) ∷ ended_acts id ends
  pub stand : (streams : List Stream) → AreStreams old streams → AreStreams new (streams ++ record { id = id; goal = goal; bytes = [] } ∷ [])

-- ---- what events ask for

-- what one event asks for was put
pub record PutsEvent (setup : Setup) (ts : List Tunnel) (told : http2.StreamEvent) (streams : List Stream) (before after : List Due) (new : List DataStream) : Type 0 where
  pub event : StreamEvent
  pub acts : List Due
  pub others : List Stream
  pub brings : EventBrings setup told event
  pub asks : EventAsks setup.mtu ts streams event acts others
  pub may : AllMayBeDue acts
  pub after_is : after ≡ before ++ acts
  pub stand : AreStreams new others

-- whatever the data streams were
abbrev pub EventTo : Setup → List Tunnel → http2.StreamEvent → List Due → List Due → List DataStream → List DataStream → Type 0
EventTo setup ts told before after old new =
    (streams : List Stream) → AreStreams old streams → PutsEvent setup ts told streams before after new

-- what events ask for was put, one after the other
pub record PutsAll (setup : Setup) (ts : List Tunnel) (told : List http2.StreamEvent) (streams : List Stream) (before after : List Due) (new : List DataStream) : Type 0 where
  pub events : List StreamEvent
  pub acts : List Due
  pub others : List Stream
  pub brings : EventsBring setup told events
  pub asks : EventsAsk setup.mtu ts streams events acts others
  pub may : AllMayBeDue acts
  pub after_is : after ≡ before ++ acts
  pub stand : AreStreams new others

abbrev pub EventsTo : Setup → List Tunnel → List http2.StreamEvent → List Due → List Due → List DataStream → List DataStream → Type 0
EventsTo setup ts told before after old new =
    (streams : List Stream) → AreStreams old streams → PutsAll setup ts told streams before after new

-- the core's state and the data streams that a front stands for
pub record IsHttp2 (f : Http2) (h : h2.State) (streams : List Stream) : Type 0 where
  pub core : IsH2 f.h2 h
  pub streams_are : AreStreams f.streams.items streams

-- One read: what its frames do, and what that asks for.
pub record FramesReadTo (setup : Setup) (ts : List Tunnel) (h : h2.State) (streams : List Stream) (piece : List ℕ) (before after : List Due) (new : Http2) : Type 0 where
  pub told : List http2.StreamEvent
  pub next : h2.State
  pub reads : ReadTo h piece told next
  pub core : IsH2 new.h2 next
  pub puts : PutsAll setup ts told streams before after new.streams.items

abbrev pub ReadsFrames : Setup → List Tunnel → List ℕ → List Due → List Due → Http2 → Http2 → Type 0
ReadsFrames setup ts piece before after old new =
    (h : h2.State) (streams : List Stream) → IsHttp2 old h streams → FramesReadTo setup ts h streams piece before after new
