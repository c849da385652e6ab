-- What a client over HTTP/2 tells of all bytes of its proxy: what the data stream of the tunnel brings (RFC 9298, section 5).
use Rattle.std.specs.Prelude.{◌≡◌, ℕ, List, [], ◌∷◌, ◌++◌, true, false}
use Rattle.std.specs.List.{flat_map}
use Rattle.mq_capsule.specs.declared.item.Item.{Item}
use Rattle.mq_capsule.specs.Items.{ItemsOf}
use Rattle.mq_frame.specs.declared.frame.Frame.{Frame}
use Rattle.mq_frame.specs.Stream.{FramesOf}
use Rattle.mq_client.specs.declared.event.ClientEvent.{ClientEvent}
use Rattle.mq_client.specs.declared.event.ClientEvent.TheVariants.{Opened}
use Rattle.mq_client.specs.Events.{is_last, events_of}
use Rattle.mq_client.specs.Framed.{contents}
use Rattle.mq_client.specs.Session.{Stage, Greeting, Asked, Open, ended}
use Rattle.mq_client.specs.Talk.{Talk, talk_begun, ReadsFrames, talk_sent, talk_wrote}

-- the bytes of the data stream that were read
abbrev pub read_of : Stage → List ℕ
read_of (Greeting request) = []
read_of Asked = []
read_of (Open bytes) = bytes

-- at most one event, behind which none comes
abbrev pub IsLast : List ClientEvent → Type 0
IsLast [] = Unit {0}
IsLast (e ∷ events) = (is_last e ≡ true) × (events ≡ [])

-- Before the tunnel is opened a last event alone is told; then that it is opened, what its data stream brings, and at most a last
-- event more.
abbrev pub Tells : Stage → List ClientEvent → Type 0
Tells (Greeting request) told = IsLast told
Tells Asked told = IsLast told
Tells (Open bytes) told =
    (items : List Item) × (last : List ClientEvent) × ItemsOf false bytes items × IsLast last × (told ≡ Opened ∷ (events_of items ++ last))

-- The data stream is the contents of the DATA frames among these frames, all of them unless the last event was told.
pub record TellsOf (frames : List Frame) (told : List ClientEvent) (stage : Stage) : Type 0 where
  pub rest : List ℕ
  pub read : flat_map contents frames ≡ read_of stage ++ rest
  pub whole : ended told ≡ false → rest ≡ []
  pub tells : Tells stage told

pub record IsToldOf (s : Talk) : Type 0 where
  pub frames : List Frame
  pub are : FramesOf s.came frames
  pub of : TellsOf frames s.told s.session.stage

-- that is so, whatever is read and sent
pub record IsAlwaysTold : Type 0 where
  pub begins : (path host : List ℕ) → IsToldOf (talk_begun path host)
  pub reads : (s : Talk) (piece : List ℕ) (events : List ClientEvent) (t : Talk) → IsToldOf s → ReadsFrames s piece events t → IsToldOf t
  pub sends : (s : Talk) (payload : List ℕ) → IsToldOf s → IsToldOf (talk_sent s payload)
  pub writes : (s : Talk) (count : ℕ) → IsToldOf s → IsToldOf (talk_wrote s count)
