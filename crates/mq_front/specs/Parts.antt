-- What the functions below the calls of a front do. Only the crate's own functions cite these words.
use Rattle.std.specs.Prelude.{◌≡◌, ℕ, ◌<◌, Bool, List, [], ◌∷◌, ◌++◌, take, Option, Some, None, Result, Ok, Err, if◌then◌else◌}
use Rattle.mq_h2.specs.State as h2
use Rattle.mq_head.specs.declared.step.HeadStep.{HeadStep}
use Rattle.mq_head.specs.declared.step.HeadStep.TheVariants.{More}
use Rattle.mq_head.specs.Steps.{IsStep}
use Rattle.mq_talk.specs.declared.goal.Goal.{Goal}
use Rattle.mq_talk.specs.declared.note.Why.{Why}
use Rattle.mq_talk.specs.declared.note.Why.TheVariants as why
use Rattle.mq_wire.specs.declared.NoMemory.{NoMemory}
use Rattle.mq_machine.specs.declared.act.Due.{Due}
use Rattle.mq_machine.specs.declared.setup.Setup.{Setup}
use Rattle.mq_machine.specs.Reading.{EventsAsk, EndsBy, HeadBrings, Other, StreamEvent, content_of, opening_of, preface}
use Rattle.mq_machine.specs.State as machine
use Rattle.mq_machine.specs.State.{Stream, Tunnel, OverHttp1}
use Rattle.mq_front.specs.declared.front.Front.{Front}
use Rattle.mq_front.specs.declared.front.Front.TheVariants as front
use Rattle.mq_front.specs.declared.http1.Http1.{Http1 as One}
use Rattle.mq_front.specs.declared.http2.Http2.{Http2 as Many}
use Rattle.mq_front.specs.Fronts.{IsHttp1, OverFrames, ReadsTo}
use Rattle.mq_front.specs.Limits.{AllMayBeDue}

-- ---- HTTP/1.1

-- more bytes of the data stream, if there is one: what they ask for was put
pub record ReadsOn (mtu : ℕ) (ts : List Tunnel) (streams : List Stream) (owed bytes : List ℕ) (before after : List Due) (new : One) : Type 0 where
  pub acts : List Due
  pub others : List Stream
  pub asks : EventsAsk mtu ts streams (content_of bytes) acts others
  pub may : AllMayBeDue acts
  pub after_is : after ≡ before ++ acts
  pub stands : IsHttp1 new others owed

-- whatever was read of it before
abbrev pub ReadsData : ℕ → One → List ℕ → List Due → List Due → One → Type 0
ReadsData mtu old bytes before after new = (ts : List Tunnel) (streams : List Stream) (owed : List ℕ) → IsHttp1 old streams owed → ReadsOn mtu ts streams owed bytes before after new

-- the first bytes of the data stream that leads there
abbrev pub ReadsFirst : ℕ → Goal → List ℕ → List Due → List Due → One → Type 0
ReadsFirst mtu goal bytes before after new =
    (ts : List Tunnel) → ReadsOn mtu ts (record { id = 0; goal = goal; bytes = [] } ∷ []) [] bytes before after new

-- the answer to bytes of a head led to HTTP/1.1, and what they ask for was put
pub record LedTo (setup : Setup) (ts : List Tunnel) (known bytes : List ℕ) (before after : List Due) (new : One) : Type 0 where
  pub events : List StreamEvent
  pub acts : List Due
  pub others : List Stream
  pub brings : HeadBrings setup known bytes events OverHttp1
  pub asks : EventsAsk setup.mtu ts [] events acts others
  pub may : AllMayBeDue acts
  pub after_is : after ≡ before ++ acts
  pub stands : IsHttp1 new others []

-- where they wait for more bytes nothing was put
abbrev pub AnswersHead : Setup → HeadStep → List ℕ → List Due → List Due → Option One → Type 0
AnswersHead setup step bytes before after None = (step ≡ More) × (after ≡ before)
AnswersHead setup step bytes before after (Some new) =
    (ts : List Tunnel) (known : List ℕ) → IsStep known bytes step → LedTo setup ts known bytes before after new

-- why the end of the link closes the tunnel: inside a capsule, or between two
abbrev pub EndsData : One → Why → Type 0
EndsData one reason = (streams : List Stream) (owed : List ℕ) → IsHttp1 one streams owed
    → (inside : Bool) × EndsBy OverHttp1 streams inside × (reason ≡ (if inside then why.Truncated else why.End))

-- ---- the first bytes

-- a part of a head of HTTP/1.1 came
abbrev pub IsInHead : Front → Type 0
IsInHead (front.Preface count) = ⊥
IsInHead (front.Head reader) = Unit {0}
IsInHead (front.Http1 one) = ⊥
IsInHead (front.Http2 many) = ⊥

-- bytes behind a part of the preface
abbrev pub ReadsBehind : Setup → List Tunnel → ℕ → List ℕ → List Due → List Due → Front → Type 0
ReadsBehind setup ts count piece before after new =
    count < 24 → ReadsTo setup ts (machine.Head (take count preface)) [] [] piece before after new

-- where they are no preface with that part
abbrev pub ReadsOther : Setup → ℕ → List ℕ → List Due → List Due → Front → Type 0
ReadsOther setup count piece before after new = opening_of (take count preface ++ piece) ≡ Other → (ts : List Tunnel) → ReadsBehind setup ts count piece before after new

-- ---- HTTP/2

-- what an act leads to was put
abbrev pub HasPutFrames : Many → h2.State → List Stream → List ℕ → Type 0
HasPutFrames new h streams owed = OverFrames new (record h { out = [] }) streams (owed ++ h.out)

-- an act that leads there, or is refused memory and does nothing
abbrev pub PutsFrames : Many → Result (Unit {0}) NoMemory → h2.State → h2.State → List Stream → List ℕ → Type 0
PutsFrames new (Ok done) old h streams owed = HasPutFrames new h streams owed
PutsFrames new (Err refused) old h streams owed = OverFrames new old streams owed
