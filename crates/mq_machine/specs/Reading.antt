-- What a read brings: events in order, which become acts one after the other.
use Rattle.std.specs.Prelude.{◌≡◌, ℕ, ◌+◌, ◌==◌, ◌⊎◌, Bool, true, false, List, [], ◌∷◌, ◌++◌, codes, length, drop, find, nat_lt, if◌then◌else◌, Option, Some, None}
use Rattle.std.specs.List.{list_any}
use Rattle.mq_addr.specs.declared.kind.Kind.{Kind}
use Rattle.mq_addr.specs.declared.kind.Kind.TheVariants as kind
use Rattle.mq_addr.specs.declared.entry.Asked.{Asked}
use Rattle.mq_addr.specs.declared.entry.Given.{Given}
use Rattle.mq_addr.specs.declared.range.Range.{Range}
use Rattle.mq_addr.specs.declared.range.Flow.{Flow}
use Rattle.mq_capsule.specs.declared.item.Item.{Item}
use Rattle.mq_capsule.specs.declared.item.Item.TheVariants as item
use Rattle.mq_capsule.specs.Items.{ItemsOf, EndsInside}
use Rattle.mq_h2.specs.declared.event.StreamEvent as http2
use Rattle.mq_h2.specs.declared.event.StreamEvent.TheVariants as frame_event
use Rattle.mq_h2.specs.Reading.{ReadTo}
use Rattle.mq_h2.specs.Stand.{IsBegun}
use Rattle.mq_h2.specs.State as h2
use Rattle.mq_head.specs.declared.step.HeadStep.{HeadStep}
use Rattle.mq_head.specs.declared.step.HeadStep.TheVariants.{More, Upgrade, Refuse}
use Rattle.mq_head.specs.Steps.{IsStep}
use Rattle.mq_hpack.specs.declared.field.Field.{Field}
use Rattle.mq_policy.specs.Decisions.{Decides}
use Rattle.mq_policy.specs.declared.decision.Decision.{Decision}
use Rattle.mq_policy.specs.declared.decision.Decision.TheVariants.{Go, Denied, UnknownName}
use Rattle.mq_talk.specs.declared.goal.Goal.{Goal}
use Rattle.mq_talk.specs.declared.goal.Goal.TheVariants as goal
use Rattle.mq_talk.specs.declared.note.Why.TheVariants as why
use Rattle.mq_talk.specs.declared.place.Cause.TheVariants as cause
use Rattle.mq_target.specs.declared.target.Matched.{Matched}
use Rattle.mq_target.specs.declared.target.Matched.TheVariants.{No, Bad, Yes}
use Rattle.mq_target.specs.declared.template.Template.{Template}
use Rattle.mq_target.specs.Matching.{Matches}
use Rattle.mq_machine.specs.declared.act.Act.{Act}
use Rattle.mq_machine.specs.declared.act.Act.TheVariants as act
use Rattle.mq_machine.specs.declared.act.StreamAct.{StreamAct}
use Rattle.mq_machine.specs.declared.act.StreamAct.TheVariants as stream
use Rattle.mq_machine.specs.declared.act.Due.{Due}
use Rattle.mq_machine.specs.declared.act.Due.TheVariants as due
use Rattle.mq_machine.specs.declared.setup.Setup.{Setup}
use Rattle.mq_talk.specs.Packets.{flow_of}
use Rattle.mq_machine.specs.Words.{assigned_of, asked_of, ranges_of}
use Rattle.mq_machine.specs.Http2 as request
use Rattle.mq_machine.specs.Settle.{settle}
use Rattle.mq_machine.specs.State.{Conn, Stream, Tunnel, Front, Head, OverHttp1, OverHttp2, kind_of}
use Rattle.mq_machine.specs.Steps.{can_read}

-- ---- requests

-- what a request comes to by the rules that need no bind and no book
pub data Meaning : Type 0 where
  Leads : (goal : Goal) → Meaning
  Refused : (status rule : ℕ) → Meaning

abbrev pub decided : Decision → Meaning
decided (Go goal) = Leads goal
decided UnknownName = Refused 502 0
decided (Denied rule) = Refused 403 rule

abbrev pub MatchedMeans : Setup → Matched → Meaning → Type 0
MatchedMeans setup No meaning = meaning ≡ Refused 404 0
MatchedMeans setup Bad meaning = meaning ≡ Refused 400 0
MatchedMeans setup (Yes target) meaning = (decision : Decision) × Decides setup.policy target decision × (meaning ≡ decided decision)

-- the template of a kind's requests (RFC 9298, section 2; RFC 9484, section 3)
abbrev pub template_of : Setup → Kind → Template
template_of setup kind.Udp = setup.udp
template_of setup kind.Ip = setup.ip

-- what a path of this kind comes to
abbrev pub PathMeans : Setup → Kind → List ℕ → Meaning → Type 0
PathMeans setup kind path meaning = (matched : Matched) × Matches (template_of setup kind) path matched × MatchedMeans setup matched meaning

-- What the request of a kind comes to, or one for no tunnel.
abbrev pub KindMeans : Setup → Option Kind → List ℕ → Meaning → Type 0
KindMeans setup None path meaning = meaning ≡ Refused 501 0
KindMeans setup (Some kind) path meaning = PathMeans setup kind path meaning

-- what the fields of a request of HTTP/2 come to
abbrev pub FieldsMean : Setup → List Field → Meaning → Type 0
FieldsMean setup fields meaning = KindMeans setup (request.kind_of fields) (request.path_of fields) meaning

-- ---- events

-- What a read brings, stream by stream, in the order of the bytes that complete it. Of a request that is reset in the same
-- read nothing is left.
pub data StreamEvent : Type 0 where
  Request : (stream : ℕ) (meaning : Meaning) (ends : Bool) → StreamEvent
  -- a stream error, with its code
  Malformed : (stream code : ℕ) → StreamEvent
  -- the contents of a DATA frame, which has so many bytes in all, where the protocol has frames
  Content : (stream : ℕ) (bytes : List ℕ) (size : Option ℕ) (ends : Bool) → StreamEvent
  Reset : (stream : ℕ) → StreamEvent
  ConnectionError : (code : ℕ) → StreamEvent

-- ---- capsules

-- the longest payload of UDP
abbrev pub max_udp : ℕ
max_udp = 65527

-- what is known of the tunnel of a stream: its kind, the largest packet, and how many payloads came before
abbrev pub udp_act : ℕ → List ℕ → StreamAct
udp_act n payload = if nat_lt max_udp (length payload) then stream.Close why.Malformed else stream.Payload n payload

abbrev pub flow_act : ℕ → ℕ → List ℕ → Option Flow → StreamAct
flow_act mtu n packet None = stream.Drop n cause.BadHeader
flow_act mtu n packet (Some flow) = if nat_lt mtu (length packet) then stream.Drop n cause.TooLong else stream.Packet n packet flow

abbrev pub payload_act : Kind → ℕ → ℕ → List ℕ → StreamAct
payload_act kind.Udp mtu n payload = udp_act n payload
payload_act kind.Ip mtu n payload = flow_act mtu n payload (flow_of payload)

abbrev pub too_long_act : Kind → ℕ → StreamAct
too_long_act kind.Udp n = stream.Close why.Malformed
too_long_act kind.Ip n = stream.Drop n cause.TooLong

abbrev pub in_context : ℕ → ℕ → StreamAct → StreamAct
in_context context n act = if context == 0 then act else stream.Drop n cause.UnknownContext

abbrev pub some_or_malformed : {A : Type 0} → (A → List StreamAct) → Option A → List StreamAct
some_or_malformed f None = stream.Close why.Malformed ∷ []
some_or_malformed f (Some a) = f a

-- a well-formed ADDRESS_ASSIGN assigns nothing
abbrev pub value_acts : ℕ → List ℕ → List StreamAct
value_acts kind value =
    if kind == 1 then some_or_malformed (λ (list : List Given). []) (assigned_of value)
    else (if kind == 2 then some_or_malformed (λ (list : List Asked). stream.Assign list ∷ []) (asked_of value)
    else some_or_malformed (λ (ranges : List Range). stream.Advertise ranges ∷ []) (ranges_of value))

abbrev pub item_acts : Kind → ℕ → ℕ → Item → List StreamAct
item_acts kind mtu n (item.Datagram context payload) = in_context context n (payload_act kind mtu n payload) ∷ []
item_acts kind mtu n (item.TooLongDatagram context size) = in_context context n (too_long_act kind n) ∷ []
item_acts kind mtu n (item.Control type value) = value_acts type value
item_acts kind mtu n (item.Bad fault) = stream.Close why.Malformed ∷ []

abbrev pub is_payload : Item → Bool
is_payload (item.Datagram context payload) = true
is_payload (item.TooLongDatagram context size) = true
is_payload (item.Control type value) = false
is_payload (item.Bad fault) = false

-- how many payloads these items are
abbrev pub payload_count : List Item → ℕ
payload_count [] = 0
payload_count (i ∷ items) = (if is_payload i then 1 else 0) + payload_count items

abbrev pub is_close : StreamAct → Bool
is_close (stream.Close reason) = true
is_close act = false

-- behind a close nothing is asked
abbrev pub then_acts : List StreamAct → List StreamAct → List StreamAct
then_acts acts more = acts ++ (if list_any is_close acts then [] else more)

-- what the items of a data stream ask for, from payload n on
abbrev pub acts_of : Kind → ℕ → ℕ → List Item → List StreamAct
acts_of kind mtu n [] = []
acts_of kind mtu n (i ∷ items) = then_acts (item_acts kind mtu n i) (acts_of kind mtu (n + (if is_payload i then 1 else 0)) items)

abbrev pub on_stream : ℕ → List StreamAct → List Due
on_stream id [] = []
on_stream id (a ∷ acts) = due.Do (act.OfStream id a) ∷ on_stream id acts

-- control capsules are those of tunnels for IP packets
abbrev pub has_values : Goal → Bool
has_values (goal.Udp addr port) = false
has_values (goal.Ip area protocol) = true

-- whether the data stream ends with these bytes, and where
abbrev pub EndsWith : Goal → List ℕ → Bool → List StreamAct → Type 0
EndsWith goal bytes false acts = acts ≡ []
EndsWith goal bytes true acts =
    (EndsInside (has_values goal) bytes × (acts ≡ stream.Close why.Truncated ∷ []))
    ⊎ ((EndsInside (has_values goal) bytes → ⊥) × (acts ≡ stream.Close why.End ∷ []))

-- What these bytes ask for behind the earlier ones of the data stream: what their items ask for, and then its end.
pub record BytesAsk (mtu : ℕ) (s : Stream) (bytes : List ℕ) (ends : Bool) (acts : List StreamAct) : Type 0 where
  pub before : List Item
  pub items : List Item
  pub last : List StreamAct
  pub was : ItemsOf (has_values s.goal) s.bytes before
  pub is : ItemsOf (has_values s.goal) (s.bytes ++ bytes) (before ++ items)
  pub ends_in : EndsWith s.goal (s.bytes ++ bytes) ends last
  pub acts_are : acts ≡ then_acts (acts_of (kind_of s.goal) mtu (payload_count before) items) last

-- ---- from events to acts

abbrev pub stream_of : List Stream → ℕ → Option Stream
stream_of streams id = find (λ (s : Stream). s.id == id) streams

abbrev pub more_bytes : ℕ → List ℕ → List Stream → List Stream
more_bytes id bytes [] = []
more_bytes id bytes (s ∷ streams) = if s.id == id then record s { bytes = s.bytes ++ bytes } ∷ streams else s ∷ more_bytes id bytes streams

abbrev pub mark_of : ℕ → Option ℕ → List Due
mark_of id None = []
mark_of id (Some size) = due.Spend id size ∷ []

-- a request that leads somewhere: a port is bound first where it is for UDP
abbrev pub goal_act : ℕ → Goal → Act
goal_act id (goal.Udp addr port) = act.Bind id (goal.Udp addr port)
goal_act id (goal.Ip area protocol) = act.Open id (goal.Ip area protocol)

-- where END_STREAM stands on the request, its data stream is empty and has ended
abbrev pub ended_acts : ℕ → Bool → List Due
ended_acts id false = []
ended_acts id true = due.Do (act.OfStream id (stream.Close why.End)) ∷ []

-- a stream error is told where the stream has no tunnel, and closes it where it has one
abbrev pub error_acts : ℕ → ℕ → Option Tunnel → List Due
error_acts id code None = due.Do (act.Reset id code) ∷ []
error_acts id code (Some t) = due.Do (act.OfStream id (stream.Close why.Malformed)) ∷ []

abbrev pub reset_acts : ℕ → Option Tunnel → List Due
reset_acts id None = []
reset_acts id (Some t) = due.Do (act.OfStream id (stream.Close why.Reset)) ∷ []

-- what the contents of a DATA frame ask for on this data stream, if that was asked for, and then its mark
abbrev pub ContentAsks : ℕ → ℕ → List ℕ → Option ℕ → Bool → Option Stream → List Due → Type 0
ContentAsks mtu id bytes size ends None acts = acts ≡ mark_of id size
ContentAsks mtu id bytes size ends (Some s) acts = (asked : List StreamAct) × BytesAsk mtu s bytes ends asked × (acts ≡ on_stream id asked ++ mark_of id size)

-- what an event of a connection with these tunnels and data streams asks for, and its data streams then
abbrev pub EventAsks : ℕ → List Tunnel → List Stream → StreamEvent → List Due → List Stream → Type 0
EventAsks mtu ts old (Request id (Refused status rule) ends) acts new = (acts ≡ due.Do (act.Refuse id status rule) ∷ []) × (new ≡ old)
EventAsks mtu ts old (Request id (Leads goal) ends) acts new =
    (acts ≡ due.Do (goal_act id goal) ∷ ended_acts id ends) × (new ≡ old ++ record { id = id; goal = goal; bytes = [] } ∷ [])
EventAsks mtu ts old (Malformed id code) acts new = (acts ≡ error_acts id code (find (λ (t : Tunnel). t.stream == id) ts)) × (new ≡ old)
EventAsks mtu ts old (Content id bytes size ends) acts new = ContentAsks mtu id bytes size ends (stream_of old id) acts × (new ≡ more_bytes id bytes old)
EventAsks mtu ts old (Reset id) acts new = (acts ≡ reset_acts id (find (λ (t : Tunnel). t.stream == id) ts)) × (new ≡ old)
EventAsks mtu ts old (ConnectionError code) acts new = (acts ≡ due.Fault code ∷ []) × (new ≡ old)

abbrev pub EventsAsk : ℕ → List Tunnel → List Stream → List StreamEvent → List Due → List Stream → Type 0
EventsAsk mtu ts old [] acts new = (acts ≡ []) × (new ≡ old)
EventsAsk mtu ts old (e ∷ events) acts new =
    (here : List Due) × (mid : List Stream) × (later : List Due)
    × EventAsks mtu ts old e here mid × EventsAsk mtu ts mid events later new × (acts ≡ here ++ later)

-- ---- heads

-- the bytes of a head, and what they come to: nothing yet, a request with its data behind, or one that is refused
abbrev pub content_of : List ℕ → List StreamEvent
content_of [] = []
content_of (b ∷ bytes) = Content 0 (b ∷ bytes) None false ∷ []

-- what the answer to the bytes of a head brings: nothing yet, a refusal, or a request with its data behind
abbrev pub StepBrings : Setup → List ℕ → List ℕ → HeadStep → List StreamEvent → Front → Type 0
StepBrings setup before bytes More events front = (events ≡ []) × (front ≡ Head (before ++ bytes))
StepBrings setup before bytes (Refuse status) events front = (events ≡ Request 0 (Refused status 0) false ∷ []) × (front ≡ OverHttp1)
StepBrings setup before bytes (Upgrade kind path used) events front =
    (meaning : Meaning) × PathMeans setup kind path meaning × (events ≡ Request 0 meaning false ∷ content_of (drop used bytes)) × (front ≡ OverHttp1)

abbrev pub HeadBrings : Setup → List ℕ → List ℕ → List StreamEvent → Front → Type 0
HeadBrings setup before bytes events front = (step : HeadStep) × IsStep before bytes step × StepBrings setup before bytes step events front

-- ---- frames

-- what the core of HTTP/2 tells, with the meaning of a request
abbrev pub EventBrings : Setup → http2.StreamEvent → StreamEvent → Type 0
EventBrings setup (frame_event.Request id fields ends) e = (meaning : Meaning) × FieldsMean setup fields meaning × (e ≡ Request id meaning ends)
EventBrings setup (frame_event.Malformed id code) e = e ≡ Malformed id code
EventBrings setup (frame_event.Content id bytes size ends) e = e ≡ Content id bytes (Some size) ends
EventBrings setup (frame_event.Reset id code) e = e ≡ Reset id
EventBrings setup (frame_event.ConnectionError code) e = e ≡ ConnectionError code

abbrev pub EventsBring : Setup → List http2.StreamEvent → List StreamEvent → Type 0
EventsBring setup [] events = events ≡ []
EventsBring setup (f ∷ told) events = (e : StreamEvent) × (later : List StreamEvent) × EventBrings setup f e × EventsBring setup told later × (events ≡ e ∷ later)

-- the frames that end in these bytes bring events, put bytes, and lead on
pub record FramesBring (setup : Setup) (old : h2.State) (bytes : List ℕ) (events : List StreamEvent) (text : List ℕ) (new : Front) : Type 0 where
  pub told : List http2.StreamEvent
  pub next : h2.State
  pub reads : ReadTo old bytes told next
  pub brings : EventsBring setup told events
  pub text_is : text ≡ next.out
  pub new_is : new ≡ OverHttp2 (record next { out = [] })

-- ---- the preface of HTTP/2

-- what the first bytes of a connection are: a part of the preface, the whole with frames behind it, or those of HTTP/1.1
pub data Opening : Type 0 where
  Part : Opening
  Whole : (frames : List ℕ) → Opening
  Other : Opening

-- these bytes where those are awaited
abbrev pub opening_by : List ℕ → List ℕ → Opening
opening_by [] bytes = Whole bytes
opening_by (a ∷ awaited) [] = Part
opening_by (a ∷ awaited) (b ∷ bytes) = if a == b then opening_by awaited bytes else Other

-- the client's preface (RFC 9113, section 3.4)
abbrev pub preface : List ℕ
preface = codes "PRI * HTTP/2.0\r\n\r\nSM\r\n\r\n"

abbrev pub opening_of : List ℕ → Opening
opening_of bytes = opening_by preface bytes

-- A reader of heads is given nothing before it is decided that the bytes are no preface, and then all of them.
abbrev pub OtherBrings : Setup → Opening → List ℕ → List ℕ → List StreamEvent → Front → Type 0
OtherBrings setup Part before bytes events new = HeadBrings setup [] (before ++ bytes) events new
OtherBrings setup (Whole frames) before bytes events new = HeadBrings setup before bytes events new
OtherBrings setup Other before bytes events new = HeadBrings setup before bytes events new

abbrev pub OpeningBrings : Setup → Opening → List ℕ → List ℕ → List StreamEvent → List ℕ → Front → Type 0
OpeningBrings setup Part before bytes events text new = (events ≡ []) × (text ≡ []) × (new ≡ Head (before ++ bytes))
OpeningBrings setup (Whole frames) before bytes events text new = FramesBring setup h2.new_state frames events text new
OpeningBrings setup Other before bytes events text new = OtherBrings setup (opening_of before) before bytes events new × (text ≡ [])

-- One read: the events that it brings, in order, the bytes that are put with it, and how far the bytes were read then.
abbrev pub Brings : Setup → Front → List ℕ → List StreamEvent → List ℕ → Front → Type 0
Brings setup (Head before) bytes events text new = OpeningBrings setup (opening_of (before ++ bytes)) before bytes events text new
Brings setup OverHttp1 bytes events text new = (events ≡ content_of bytes) × (text ≡ []) × (new ≡ OverHttp1)
Brings setup (OverHttp2 h) bytes events text new = FramesBring setup h bytes events text new

-- The bytes of one more read are taken.
pub record TookNext (setup : Setup) (old : Conn) (bytes : List ℕ) (new : Conn) : Type 0 where
  pub events : List StreamEvent
  pub text : List ℕ
  pub front : Front
  pub acts : List Due
  pub streams : List Stream
  pub can : can_read old ≡ true
  pub brings : Brings setup old.front bytes events text front
  pub asks : EventsAsk setup.mtu old.tunnels old.streams events acts streams
  pub new_is : new ≡ settle (record old { front = front; streams = streams; due = acts; out = old.out ++ text })

-- whether a data stream ended inside a capsule
abbrev pub EndsIn : Option Stream → Bool → Type 0
EndsIn None inside = inside ≡ false
EndsIn (Some s) true = EndsInside (has_values s.goal) s.bytes
EndsIn (Some s) false = EndsInside (has_values s.goal) s.bytes → ⊥

-- whether frames ended inside a frame or a header block
abbrev pub EndsInFrames : h2.State → Bool → Type 0
EndsInFrames h true = IsBegun h
EndsInFrames h false = IsBegun h → ⊥

abbrev pub EndsBy : Front → List Stream → Bool → Type 0
EndsBy (Head bytes) streams inside = EndsIn (stream_of streams 0) inside
EndsBy OverHttp1 streams inside = EndsIn (stream_of streams 0) inside
EndsBy (OverHttp2 h) streams inside = EndsInFrames h inside

-- whether the bytes of a connection ended inside a capsule of HTTP/1.1, or a frame or header block of HTTP/2
abbrev pub EndsThere : Conn → Bool → Type 0
EndsThere c inside = EndsBy c.front c.streams inside
