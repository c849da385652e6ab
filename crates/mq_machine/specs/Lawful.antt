-- What holds of each connection that the machine leads to.
use Rattle.std.specs.Prelude.{◌≡◌, ◌≢◌, ℕ, ◌+◌, ◌≤◌, ◌==◌, Bool, true, false, List, [], ◌∷◌, drop, find, if◌then◌else◌, Option, Some, None, option_map}
use Rattle.std.specs.List.{AllByRecursion, list_any}
use Rattle.std.specs.Option.{is_some}
use Rattle.mq_h2.specs.Laws.{may_come}
use Rattle.mq_h2.specs.State as h2
use Rattle.mq_streams.specs.History.{total, arrived_on, consumed_on}
use Rattle.mq_addr.specs.declared.kind.Kind.{Kind}
use Rattle.mq_addr.specs.declared.kind.Kind.TheVariants as kind
use Rattle.mq_talk.specs.declared.book.Reply.TheVariants as reply
use Rattle.mq_talk.specs.declared.goal.Goal.{Goal}
use Rattle.mq_talk.specs.declared.goal.Goal.TheVariants as goal
use Rattle.mq_talk.specs.declared.note.End.{End}
use Rattle.mq_talk.specs.declared.note.From.{From}
use Rattle.mq_talk.specs.declared.note.Note.{Note}
use Rattle.mq_talk.specs.declared.note.Why.TheVariants as why
use Rattle.mq_talk.specs.Mails.{IsPacket}
use Rattle.mq_machine.specs.declared.act.Act.TheVariants as act
use Rattle.mq_machine.specs.declared.act.StreamAct.{StreamAct}
use Rattle.mq_machine.specs.declared.act.StreamAct.TheVariants as stream
use Rattle.mq_machine.specs.declared.act.Due.{Due}
use Rattle.mq_machine.specs.declared.act.Due.TheVariants as due
use Rattle.mq_machine.specs.Laws.{BeginsWithAct}
use Rattle.mq_machine.specs.declared.setup.Setup.{Setup}
use Rattle.mq_machine.specs.Done.{done}
use Rattle.mq_machine.specs.Reading.{TookNext}
use Rattle.mq_machine.specs.State.{Conn, new_conn, Front, Head, OverHttp1, OverHttp2, Stream, Tunnel, kind_of, tunnel_of}
use Rattle.mq_machine.specs.Steps.{can_read, finished, framed, given_up, port_failed, queued, settled_note, wrote}
use Rattle.mq_machine.specs.Want.{Answer, Replied, may_wait, want_of}

-- ---- what is due

abbrev pub IsOfUdp : Kind → Type 0
IsOfUdp kind.Udp = Unit {0}
IsOfUdp kind.Ip = ⊥

abbrev pub IsOfIp : Kind → Type 0
IsOfIp kind.Udp = ⊥
IsOfIp kind.Ip = Unit {0}

abbrev pub IsUdp : Goal → Type 0
IsUdp goal = IsOfUdp (kind_of goal)

-- a tunnel is live on this stream
abbrev pub has_on : List Tunnel → ℕ → Bool
has_on ts id = is_some (find (λ (t : Tunnel). t.stream == id) ts)

-- the kind of that tunnel
abbrev pub kind_on : List Tunnel → ℕ → Option Kind
kind_on ts id = option_map (λ (t : Tunnel). kind_of t.goal) (find (λ (t : Tunnel). t.stream == id) ts)

-- and of one on that stream
abbrev pub with_one : ℕ → Kind → (ℕ → Option Kind) → ℕ → Option Kind
with_one id kind live other = if id == other then Some kind else live other

-- what the data stream of a tunnel of this kind may ask for, or its packet's verdict: a push comes of that alone
abbrev pub IsAsked : Kind → StreamAct → Type 0
IsAsked kind (stream.Payload n payload) = IsOfUdp kind
IsAsked kind (stream.Packet n packet flow) = IsOfIp kind × IsPacket packet
IsAsked kind (stream.Push n to packet) = IsOfIp kind × IsPacket packet
IsAsked kind (stream.Drop n cause) = Unit {0}
IsAsked kind (stream.Assign asked) = IsOfIp kind
IsAsked kind (stream.Advertise ranges) = IsOfIp kind
IsAsked kind (stream.Close reason) = reason ≢ why.Conn

-- where a tunnel of that kind is live, and not where none is
abbrev pub IsAskedOf : Option Kind → StreamAct → Type 0
IsAskedOf None a = ⊥
IsAskedOf (Some kind) a = IsAsked kind a

-- What is asked of a stream is asked of its live tunnel, or comes behind the opening of that. No stream opens twice, and a port is
-- bound for UDP alone.
abbrev pub Follows : (ℕ → Option Kind) → List Due → Type 0
Follows live [] = Unit {0}
Follows live (due.Do (act.Bind id goal) ∷ rest) = (live id ≡ None) × IsUdp goal × Follows (with_one id (kind_of goal) live) rest
Follows live (due.Do (act.Open id goal) ∷ rest) = (live id ≡ None) × Follows (with_one id (kind_of goal) live) rest
Follows live (due.Do (act.Refuse id status rule) ∷ rest) = Follows live rest
Follows live (due.Do (act.Reset id code) ∷ rest) = Follows live rest
Follows live (due.Do (act.OfStream id a) ∷ rest) = IsAskedOf (live id) a × Follows live rest
Follows live (due.Spend id size ∷ rest) = Follows live rest
Follows live (due.Fault code ∷ rest) = Follows live rest

-- the opening in the book of a tunnel for UDP, whose port was bound before
abbrev pub is_open : Due → Bool
is_open (due.Do (act.Bind id goal)) = false
is_open (due.Do (act.Open id (goal.Udp addr port))) = true
is_open (due.Do (act.Open id (goal.Ip area protocol))) = false
is_open (due.Do (act.Refuse id status rule)) = false
is_open (due.Do (act.Reset id code)) = false
is_open (due.Do (act.OfStream id a)) = false
is_open (due.Spend id size) = false
is_open (due.Fault code) = false

-- the opening of any tunnel
abbrev pub is_opening : Due → Bool
is_opening (due.Do (act.Bind id goal)) = false
is_opening (due.Do (act.Open id goal)) = true
is_opening (due.Do (act.Refuse id status rule)) = false
is_opening (due.Do (act.Reset id code)) = false
is_opening (due.Do (act.OfStream id a)) = false
is_opening (due.Spend id size) = false
is_opening (due.Fault code) = false

-- none of these is one of a tunnel for UDP
abbrev pub NoOpens : List Due → Type 0
NoOpens dues = list_any is_open dues ≡ false

-- a tunnel is to open on this stream
abbrev pub begins_on : ℕ → Due → Bool
begins_on id (due.Do (act.Bind on goal)) = on == id
begins_on id (due.Do (act.Open on goal)) = on == id
begins_on id (due.Do (act.Refuse on status rule)) = false
begins_on id (due.Do (act.Reset on code)) = false
begins_on id (due.Do (act.OfStream on a)) = false
begins_on id (due.Spend on size) = false
begins_on id (due.Fault code) = false

-- the kind of the tunnel on this stream behind what is due, where it is this before
abbrev pub kind_behind : ℕ → List Due → Option Kind → Option Kind
kind_behind id [] kind = kind
kind_behind id (due.Do (act.Bind on goal) ∷ rest) kind = kind_behind id rest (if on == id then Some (kind_of goal) else kind)
kind_behind id (due.Do (act.Open on goal) ∷ rest) kind = kind_behind id rest (if on == id then Some (kind_of goal) else kind)
kind_behind id (due.Do (act.Refuse on status rule) ∷ rest) kind = kind_behind id rest kind
kind_behind id (due.Do (act.Reset on code) ∷ rest) kind = kind_behind id rest kind
kind_behind id (due.Do (act.OfStream on a) ∷ rest) kind = kind_behind id rest kind
kind_behind id (due.Spend on size ∷ rest) kind = kind_behind id rest kind
kind_behind id (due.Fault code ∷ rest) kind = kind_behind id rest kind

-- a data stream has its tunnel, of the kind of its goal, or one is to open for it
abbrev pub IsSeated : List Tunnel → List Due → Stream → Type 0
IsSeated ts dues s = kind_behind s.id dues (kind_on ts s.id) ≡ Some (kind_of s.goal)

-- while the connection isn't ending
abbrev pub AreSeated : Option End → List Tunnel → List Due → List Stream → Type 0
AreSeated None ts dues streams = AllByRecursion (IsSeated ts dues) streams
AreSeated (Some why) ts dues streams = Unit {0}

-- each tunnel has its stream for itself
abbrev pub Alone : List Tunnel → Type 0
Alone [] = Unit {0}
Alone (t ∷ ts) = (has_on ts t.stream ≡ false) × Alone ts

-- a tunnel has this number
abbrev pub has_number : List Tunnel → ℕ → Bool
has_number ts id = list_any (λ (t : Tunnel). t.id == id) ts

-- each tunnel has its number for itself
abbrev pub Numbered : List Tunnel → Type 0
Numbered [] = Unit {0}
Numbered (t ∷ ts) = (has_number ts t.id ≡ false) × Numbered ts

-- while the connection isn't ending
abbrev pub AreNumbered : Option End → List Tunnel → Type 0
AreNumbered None ts = Numbered ts
AreNumbered (Some why) ts = Unit {0}

-- the number of a tunnel that opens is new
abbrev pub IsFresh : List Tunnel → Answer → Type 0
IsFresh ts (Replied (reply.Opened tunnel routes)) = has_number ts tunnel ≡ false
IsFresh ts answer = Unit {0}

-- ---- how far the bytes were read

-- it is asked of the data stream of stream 0
abbrev pub IsOfZero : Due → Type 0
IsOfZero (due.Do (act.Bind id goal)) = ⊥
IsOfZero (due.Do (act.Open id goal)) = ⊥
IsOfZero (due.Do (act.Refuse id status rule)) = ⊥
IsOfZero (due.Do (act.Reset id code)) = ⊥
IsOfZero (due.Do (act.OfStream id a)) = id ≡ 0
IsOfZero (due.Spend id size) = ⊥
IsOfZero (due.Fault code) = ⊥

-- over HTTP/1.1 a request, and behind it what its data stream asks for
abbrev pub IsOneRequest : List Due → Type 0
IsOneRequest [] = Unit {0}
IsOneRequest (due.Do (act.Bind id goal) ∷ rest) = (id ≡ 0) × AllByRecursion IsOfZero rest
IsOneRequest (due.Do (act.Open id goal) ∷ rest) = (id ≡ 0) × AllByRecursion IsOfZero rest
IsOneRequest (due.Do (act.Refuse id status rule) ∷ rest) = (id ≡ 0) × AllByRecursion IsOfZero rest
IsOneRequest (due.Do (act.Reset id code) ∷ rest) = ⊥
IsOneRequest (due.Do (act.OfStream id a) ∷ rest) = (id ≡ 0) × AllByRecursion IsOfZero rest
IsOneRequest (due.Spend id size ∷ rest) = ⊥
IsOneRequest (due.Fault code ∷ rest) = ⊥

-- while it isn't ending, it has a tunnel where nothing is due
abbrev pub IsUsed : Option End → List Due → List Tunnel → Type 0
IsUsed None [] ts = has_on ts 0 ≡ true
IsUsed None (d ∷ dues) ts = Unit {0}
IsUsed (Some why) dues ts = Unit {0}

pub record Http1Fits (e : Option End) (ds : List Due) (ts : List Tunnel) (ss : List Stream) : Type 0 where
  pub due : IsOneRequest ds
  pub used : IsUsed e ds ts
  pub tunnels : AllByRecursion (λ (t : Tunnel). t.stream ≡ 0) ts
  pub streams : AllByRecursion (λ (s : Stream). s.id ≡ 0) ss

-- how many bytes of DATA of this stream are to be consumed as what is due is done
abbrev pub spends_on : ℕ → Due → ℕ
spends_on id (due.Do a) = 0
spends_on id (due.Spend on size) = if on == id then size else 0
spends_on id (due.Fault code) = 0

abbrev pub spends : ℕ → List Due → ℕ
spends id [] = 0
spends id (d ∷ dues) = spends_on id d + spends id dues

-- In HTTP/2 the request of a stream that has a tunnel, or is to have one, came, and no second one can. The DATA that is to be
-- consumed arrived.
pub record Http2Fits (h : h2.State) (ds : List Due) (ts : List Tunnel) : Type 0 where
  pub tunnels : AllByRecursion (λ (t : Tunnel). may_come t.stream h ≡ false) ts
  pub dues : (id : ℕ) → list_any (begins_on id) ds ≡ true → may_come id h ≡ false
  pub spends : (id : ℕ) → total (consumed_on id) h.history + spends id ds ≤ total (arrived_on id) h.history

abbrev pub Fits : Front → Option End → List Due → List Tunnel → List Stream → Type 0
Fits (Head bytes) e ds ts ss = (ds ≡ []) × (ts ≡ []) × (ss ≡ [])
Fits OverHttp1 e ds ts ss = Http1Fits e ds ts ss
Fits (OverHttp2 h) e ds ts ss = Http2Fits h ds ts

-- ---- all

-- once it is ending, nothing is due
abbrev pub IsOver : Option End → List Due → Type 0
IsOver None dues = Unit {0}
IsOver (Some why) dues = dues ≡ []

pub record Loose (e : Option End) (ds : List Due) (ts : List Tunnel) (ss : List Stream) (f : Front) : Type 0 where
  pub over : IsOver e ds
  pub follows : Follows (kind_on ts) ds
  pub opens : NoOpens (drop 1 ds)
  pub seated : AreSeated e ts ds ss
  pub alone : Alone ts
  pub numbered : AreNumbered e ts
  pub front : Fits f e ds ts ss

-- before the end of an act: marks may be in front
abbrev pub IsLoose : Conn → Type 0
IsLoose c = Loose c.ending c.due c.tunnels c.streams c.front

-- behind it an act is in front, or nothing
pub record IsLawful (c : Conn) : Type 0 where
  pub loose : IsLoose c
  pub settled : BeginsWithAct c.due

-- A connection is so at its beginning, and each step keeps that: an answer, a frame, a write, a read, the end and the failure of
-- its link, want of memory, what comes to a tunnel, and the failure of a port.
pub record StaysLawful : Type 0 where
  pub begins : (number actor : ℕ) → IsLawful (new_conn number actor)
  pub answers : (c d : Conn) (answer : Answer) (note : Note) → IsLawful c → IsFresh c.tunnels answer → done c answer ≡ Some (note, d) → IsLawful d
  pub frames : (c d : Conn) (note : Note) → IsLawful c → framed c ≡ Some (note, d) → IsLawful d
  pub writes : (c : Conn) (count : ℕ) → IsLawful c → IsLawful (wrote c count).1
  pub reads : (setup : Setup) (c d : Conn) (bytes : List ℕ) → IsLawful c → TookNext setup c bytes d → IsLawful d
  pub finishes : (c : Conn) (inside : Bool) → IsLawful c → can_read c ≡ true → IsLawful (finished c inside).1
  pub gives_up : (why : End) (c : Conn) → IsLawful c → IsLawful (given_up why c)
  pub queues : (c : Conn) (t : Tunnel) (from : From) (n : ℕ) (packet : List ℕ) → IsLawful c → IsLawful (settled_note (queued c t from n packet)).1
  pub port_fails : (c : Conn) (tunnel : ℕ) (t : Tunnel) → IsLawful c → tunnel_of c tunnel ≡ Some t → may_wait (want_of c) ≡ true → IsLawful (port_failed c t)
