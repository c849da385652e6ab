-- What the front end of a connection stands for, and what its calls do.
use Rattle.std.specs.Prelude.{◌≡◌, ℕ, ◌+◌, ◌<◌, ◌≤◌, Bool, List, [], ◌∷◌, ◌++◌, take, length, Option, None, Some, if◌then◌else◌, Result, Ok, Err}
use Rattle.mq_h2.specs.State as h2
use Rattle.mq_head.specs.Reader.{IsHeadOf}
use Rattle.mq_streams.specs.History.{total, arrived_on, consumed_on}
use Rattle.mq_talk.specs.declared.note.End.{End}
use Rattle.mq_talk.specs.declared.note.End.TheVariants as end
use Rattle.mq_talk.specs.declared.note.Why.{Why}
use Rattle.mq_talk.specs.declared.note.Why.TheVariants as why
use Rattle.mq_wire.specs.declared.NoMemory.{NoMemory}
use Rattle.mq_machine.specs.declared.act.Due.{Due}
use Rattle.mq_machine.specs.declared.setup.Setup.{Setup}
use Rattle.mq_machine.specs.Done.{closing, is_begun}
use Rattle.mq_machine.specs.Putting.{Putting}
use Rattle.mq_machine.specs.Reading.{Brings, EventsAsk, StreamEvent, Other, opening_of, preface, EndsBy}
use Rattle.mq_machine.specs.State as machine
use Rattle.mq_machine.specs.State.{Stream, Tunnel, OverHttp1, OverHttp2}
use Rattle.mq_machine.specs.Steps.{frame_size, framing}
use Rattle.mq_front.specs.declared.data.DataStream.{DataStream}
use Rattle.mq_front.specs.declared.finish.Finish.{Finish}
use Rattle.mq_front.specs.declared.finish.Finish.TheVariants.{Ends, Closes}
use Rattle.mq_front.specs.declared.front.Front.{Front}
use Rattle.mq_front.specs.declared.front.Front.TheVariants.{Preface, Head, Http1, Http2}
use Rattle.mq_front.specs.declared.http1.Http1.{Http1 as One}
use Rattle.mq_front.specs.declared.http2.Http2.{Http2 as Many}
use Rattle.mq_front.specs.Data.{IsStream}
use Rattle.mq_front.specs.Events.{IsHttp2}
use Rattle.mq_front.specs.Limits.{AllMayBeDue}

-- ---- what it stands for

-- The data stream of HTTP/1.1, on stream 0: there is none where its request was refused, or its tunnel closed.
abbrev pub IsData : Option DataStream → List Stream → Type 0
IsData None streams = streams ≡ []
IsData (Some d) streams = (s : Stream) × (streams ≡ s ∷ []) × (s.id ≡ 0) × IsStream d s

abbrev pub IsHttp1 : One → List Stream → List ℕ → Type 0
IsHttp1 one streams owed = IsData one.stream streams × (owed ≡ one.owed)

-- The state of its core, but for what was put and given: that stands in the connection.
pub record OverFrames (many : Many) (h : h2.State) (streams : List Stream) (owed : List ℕ) : Type 0 where
  pub core : h2.State
  pub stands : IsHttp2 many core streams
  pub is : h ≡ record core { out = []; given = 0 }
  pub owed_is : owed ≡ h2.owed core

-- how far the bytes were read, the data streams, and the bytes that are owed
abbrev pub IsFront : Front → machine.Front → List Stream → List ℕ → Type 0
IsFront (Preface count) (machine.Head bytes) streams owed = (count < 24) × (bytes ≡ take count preface) × (streams ≡ []) × (owed ≡ [])
IsFront (Preface count) OverHttp1 streams owed = ⊥
IsFront (Preface count) (OverHttp2 h) streams owed = ⊥
IsFront (Head reader) (machine.Head bytes) streams owed = IsHeadOf reader bytes × (opening_of bytes ≡ Other) × (streams ≡ []) × (owed ≡ [])
IsFront (Head reader) OverHttp1 streams owed = ⊥
IsFront (Head reader) (OverHttp2 h) streams owed = ⊥
IsFront (Http1 one) (machine.Head bytes) streams owed = ⊥
IsFront (Http1 one) OverHttp1 streams owed = IsHttp1 one streams owed
IsFront (Http1 one) (OverHttp2 h) streams owed = ⊥
IsFront (Http2 many) (machine.Head bytes) streams owed = ⊥
IsFront (Http2 many) OverHttp1 streams owed = ⊥
IsFront (Http2 many) (OverHttp2 h) streams owed = OverFrames many h streams owed

-- ---- what calls do

-- behind an act that puts this
abbrev pub HasPut : Front → Putting → List Stream → List ℕ → Type 0
HasPut new put streams owed = IsFront new put.front streams (owed ++ put.text)

-- an act that puts this, or is refused memory and does nothing
abbrev pub Puts : Front → Result (Unit {0}) NoMemory → machine.Front → Putting → List Stream → List ℕ → Type 0
Puts new (Ok done) old put streams owed = HasPut new put streams owed
Puts new (Err refused) old put streams owed = IsFront new old streams owed

-- A read: what it brings and asks for, within the limits of the book, and how far the bytes were read then.
pub record ReadsTo (setup : Setup) (ts : List Tunnel) (f : machine.Front) (streams : List Stream) (owed piece : List ℕ) (before after : List Due) (new : Front) : Type 0 where
  pub events : List StreamEvent
  pub text : List ℕ
  pub front : machine.Front
  pub acts : List Due
  pub others : List Stream
  pub brings : Brings setup f piece events text front
  pub asks : EventsAsk setup.mtu ts streams events acts others
  pub may : AllMayBeDue acts
  pub after_is : after ≡ before ++ acts
  pub stands : IsFront new front others (owed ++ text)

-- however far the bytes were read before
abbrev pub Reads : Setup → List Tunnel → List ℕ → List Due → List Due → Front → Front → Type 0
Reads setup ts piece before after old new = (f : machine.Front) (streams : List Stream) (owed : List ℕ) → IsFront old f streams owed
    → ReadsTo setup ts f streams owed piece before after new

-- the stream of a closed tunnel, of which a part of a capsule was framed or wasn't
abbrev pub Closed : Front → machine.Front → ℕ → Bool → Why → Option End → List Stream → List ℕ → Type 0
Closed new f stream begun reason ends streams owed =
    (t : Tunnel) → t.stream ≡ stream → is_begun t.waiting ≡ begun → HasPut new (closing f t reason) streams owed × (ends ≡ (closing f t reason).ending)

-- as many of these bytes as one frame may have now
pub record Framed (new : Front) (f : machine.Front) (stream count : ℕ) (bytes : List ℕ) (streams : List Stream) (owed : List ℕ) : Type 0 where
  pub count_is : count ≡ frame_size f stream (length bytes)
  pub put : HasPut new (framing f stream (take count bytes)) streams owed

abbrev pub Frames : Front → Result ℕ NoMemory → machine.Front → ℕ → List ℕ → List Stream → List ℕ → Type 0
Frames new (Ok count) f stream bytes streams owed = Framed new f stream count bytes streams owed
Frames new (Err refused) f stream bytes streams owed = IsFront new f streams owed

-- so many bytes of DATA arrived and aren't consumed
abbrev pub CanSpend : machine.Front → ℕ → ℕ → Type 0
CanSpend (machine.Head bytes) stream size = Unit {0}
CanSpend OverHttp1 stream size = Unit {0}
CanSpend (OverHttp2 h) stream size = total (consumed_on stream) h.history + size ≤ total (arrived_on stream) h.history

-- ---- the end of the link

-- what it does, inside a capsule, frame or header block or not
abbrev pub finish_of : machine.Front → Bool → Finish
finish_of (machine.Head []) inside = Ends end.Done
finish_of (machine.Head (b ∷ bytes)) inside = Ends end.Truncated
finish_of OverHttp1 inside = Closes (if inside then why.Truncated else why.End)
finish_of (OverHttp2 h) inside = Ends (if inside then end.Truncated else end.Done)

abbrev pub Finishes : machine.Front → List Stream → Finish → Type 0
Finishes f streams finish = (inside : Bool) × EndsBy f streams inside × (finish ≡ finish_of f inside)
