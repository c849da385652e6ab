-- What the core of a connection stands for.
use Rattle.std.specs.Prelude.{◌≡◌, ◌≢◌, ℕ, ◌==◌, ◌≤◌, ◌<◌, ◌⊎◌, nat_lt, Bool, true, false, List, [], ◌∷◌, length, drop, find, map, vec_len, vec_capacity, Option, Some, None, Result, Ok, Err}
use Rattle.std.specs.List.{list_any}
use Rattle.std.specs.Option.{is_some}
use Rattle.mq_front.specs.declared.front.Front.{Front}
use Rattle.mq_front.specs.Fronts.{IsFront}
use Rattle.mq_front.specs.Limits.{AllMayBeDue}
use Rattle.mq_machine.specs.declared.act.Act.{Act}
use Rattle.mq_machine.specs.declared.act.Act.TheVariants as act
use Rattle.mq_machine.specs.declared.act.StreamAct.{StreamAct}
use Rattle.mq_machine.specs.declared.act.StreamAct.TheVariants as stream
use Rattle.mq_machine.specs.declared.act.Due.{Due}
use Rattle.mq_machine.specs.declared.act.Due.TheVariants as due
use Rattle.mq_machine.specs.Cores.{Answered, MayAnswer}
use Rattle.mq_machine.specs.Done.{done, stream_done}
use Rattle.mq_machine.specs.Lawful.{IsFresh, IsLawful, is_opening}
use Rattle.mq_machine.specs.Settle.{is_given_up}
use Rattle.mq_machine.specs.Silent.{tunnels_after}
use Rattle.mq_machine.specs.State as machine
use Rattle.mq_machine.specs.State.{Stream, Waiting, Head, OverHttp1, OverHttp2}
use Rattle.mq_machine.specs.Steps.{starved}
use Rattle.mq_machine.specs.Want.{Answer, Push, Pushed, Put, Replied, Send, want_of}
use Rattle.mq_outside.specs.declared.PortPut.{PortPut}
use Rattle.mq_outside.specs.declared.PortPut.TheVariants as put
use Rattle.mq_talk.specs.declared.book.Reply.{Reply}
use Rattle.mq_talk.specs.declared.book.Reply.TheVariants as reply
use Rattle.mq_talk.specs.declared.note.End.{End}
use Rattle.mq_talk.specs.declared.note.End.TheVariants as end
use Rattle.mq_talk.specs.declared.note.Note.{Note}
use Rattle.mq_talk.specs.declared.place.Parcel.{Parcel}
use Rattle.mq_wire.specs.declared.NoMemory.{NoMemory}
use Rattle.mq_conn.specs.declared.conn.Conn.{Conn}
use Rattle.mq_conn.specs.declared.conn.First.{First}
use Rattle.mq_conn.specs.declared.conn.First.TheVariants as first
use Rattle.mq_conn.specs.declared.conn.Tunnel.{Tunnel}

-- ---- what the fields stand for

-- the act that stands in front
abbrev pub act_of : First → Act
act_of (first.Open id goal) = act.Open id goal
act_of (first.Close id reason) = act.OfStream id (stream.Close reason)
act_of (first.Push id n to packet) = act.OfStream id (stream.Push n to packet)

abbrev pub behind : Option First → List Due → List Due
behind None dues = dues
behind (Some f) dues = due.Do (act_of f) ∷ dues

abbrev pub tunnel_is : Tunnel → machine.Tunnel
tunnel_is t = record { id = t.id; stream = t.stream; goal = t.goal; waiting = t.waiting }

abbrev pub tunnels_of : List Tunnel → List machine.Tunnel
tunnels_of ts = map tunnel_is ts

-- the live tunnel of a stream
abbrev pub find_on : Conn → ℕ → Option machine.Tunnel
find_on c id = find (λ (t : machine.Tunnel). t.stream == id) (tunnels_of c.tunnels.items)

-- what the core doesn't keep: all bytes put for writing and how many were given, and the bytes that were read
pub record Past : Type 0 where
  pub out : List ℕ
  pub given : ℕ
  pub front : machine.Front
  pub streams : List Stream

abbrev pub state : Conn → Past → machine.Conn
state c past = record {
  number = c.number;
  actor = c.actor;
  front = past.front;
  streams = past.streams;
  due = behind c.first c.due;
  out = past.out;
  given = past.given;
  is_finished = c.finished;
  ending = c.ending;
  tunnels = tunnels_of c.tunnels.items;
  next_tunnel = c.next_tunnel;
}

-- ---- what is true of them

-- nothing that was put stands in the front
abbrev pub PutsNothing : machine.Front → Type 0
PutsNothing (Head bytes) = Unit {0}
PutsNothing OverHttp1 = Unit {0}
PutsNothing (OverHttp2 h) = h.out ≡ []

-- how far the bytes were read, and what is owed; of a connection that was given up, nothing
abbrev pub IsRead : Option Front → Option End → machine.Front → List Stream → List ℕ → Type 0
IsRead None ending f streams owed = (is_given_up ending ≡ true) × PutsNothing f × (streams ≡ []) × (owed ≡ [])
IsRead (Some front) ending f streams owed = (is_given_up ending ≡ false) × IsFront front f streams owed

-- what will wait in the next tunnel that opens: nothing yet
abbrev pub IsSpare : Option (List Waiting) → Type 0
IsSpare None = Unit {0}
IsSpare (Some waiting) = waiting ≡ []

-- where a tunnel is to open, there is room for it and for what will wait in it
abbrev pub HasRoom : Option (List Waiting) → ℕ → ℕ → List Due → Type 0
HasRoom spare len capacity dues = list_any is_opening dues ≡ true → (is_some spare ≡ true) × (len < capacity)

-- What is due can be done: there is room for a tunnel that is to open, and the book is asked for nothing beyond its limits.
pub record IsReady (spare : Option (List Waiting)) (len capacity : ℕ) (f : Option First) (dues : List Due) : Type 0 where
  pub room : HasRoom spare len capacity (behind f dues)
  pub spare_is : IsSpare spare
  pub may : AllMayBeDue dues

-- The core stands for this state, whatever is true of that.
pub record Stands (c : Conn) (s : machine.Conn) : Type 0 where
  pub past : Past
  pub is : s ≡ state c past
  pub read : IsRead c.front c.ending past.front past.streams (drop past.given past.out)
  pub given : past.given ≤ length past.out
  pub ready : IsReady c.spare (vec_len c.tunnels) (vec_capacity c.tunnels) c.first c.due

-- The core stands for this lawful state.
pub record IsConn (c : Conn) (s : machine.Conn) : Type 0 where
  pub stands : Stands c s
  pub lawful : IsLawful s

-- ---- what calls promise

-- nothing is due, read or owed any more, and it is ending
abbrev pub GivesUp : Conn → End → Conn → Type 0
GivesUp old why new = new ≡ record old { front = None; first = None; due = []; ending = Some why }

-- refused memory, it stands for the connection that is ending with that
abbrev pub Starves : Conn → Conn → Type 0
Starves old new = (s : machine.Conn) → IsConn old s → IsConn new (starved s)

-- What a call leaves that was refused memory: all but what is read, owed and due, and but for room for more tunnels.
pub record Leaves (old new : Conn) : Type 0 where
  pub is : new ≡ record old { front = new.front; first = new.first; due = new.due; ending = new.ending; spare = new.spare; pump = new.pump; tunnels = new.tunnels }
  pub items : new.tunnels.items ≡ old.tunnels.items
  pub spare_is : IsSpare old.spare → IsSpare new.spare

abbrev pub Does : Conn → Conn → Answer → Note → Type 0
Does old new answer note = Answered (IsConn old) (IsConn new) answer note

-- an answer that is tried
abbrev pub Tries : Conn → Conn → Answer → Result Note NoMemory → Type 0
Tries old new answer (Ok note) = Does old new answer note
Tries old new answer (Err fault) = Leaves old new

-- one that may be refused memory
abbrev pub MayDo : Conn → Conn → Answer → Result Note NoMemory → Type 0
MayDo old new answer result = MayAnswer (IsConn old) (IsConn new) (Starves old new) answer result

-- whether a payload of this length may be told as sent or dropped, by what the port answers and the longest that it takes
abbrev pub CanPut : PortPut → ℕ → List ℕ → Type 0
CanPut answer limit payload = (nat_lt limit (length payload) ≡ true) ⊎ (answer ≢ put.NotNow)

-- the payload that it wants to send
abbrev pub IsPayload : Conn → List ℕ → Type 0
IsPayload c bytes = (s : machine.Conn) → IsConn c s → (tunnel n : ℕ) (payload : List ℕ) → want_of s ≡ Send tunnel n payload → bytes ≡ payload

-- a push whose packet was moved out
abbrev pub emptied_act : StreamAct → StreamAct
emptied_act (stream.Push n to packet) = stream.Push n to []
emptied_act a = a

abbrev pub emptied_due : Due → Due
emptied_due (due.Do (act.OfStream id a)) = due.Do (act.OfStream id (emptied_act a))
emptied_due d = d

abbrev pub emptied_dues : List Due → List Due
emptied_dues [] = []
emptied_dues (d ∷ dues) = emptied_due d ∷ dues

abbrev pub emptied : machine.Conn → machine.Conn
emptied s = record s { due = emptied_dues s.due }

-- It stands for this connection, but for the bytes of the push in front, which were moved out.
pub record IsLent (c : Conn) (s : machine.Conn) : Type 0 where
  pub stands : Stands c (emptied s)
  pub lawful : IsLawful s

-- the parcel that it wants to push, whose bytes are moved out until it is told what became of it
pub record GivesParcel (old new : Conn) (parcel : Parcel) : Type 0 where
  pub parcel_is : (s : machine.Conn) → IsConn old s → (wanted : Parcel) → want_of s ≡ Push wanted → parcel ≡ wanted
  pub lent : (s : machine.Conn) → IsConn old s → IsLent new s

-- what became of that parcel
abbrev pub TellsPush : Conn → Conn → Bool → Note → Type 0
TellsPush old new taken note = Answered (IsLent old) (IsConn new) (Pushed taken) note

-- the note of a payload that was given to the port
abbrev pub PutsNote : ℕ → ℕ → List ℕ → PortPut → ℕ → Note → Type 0
PutsNote id n payload answer limit said = CanPut answer limit payload → (x : machine.Conn) (t : machine.Tunnel) → t.id ≡ id
    → stream_done x t (stream.Payload n payload) (Put answer limit) ≡ Some (said, x)

-- once it was refused memory, it goes on to its own end alone
abbrev pub Refuses : Conn → Bool → Type 0
Refuses old done = (s : machine.Conn) → IsConn old s → s.ending ≡ Some end.NoMemory → done ≡ false

-- ---- what the book replied

-- Refused memory as it heard a reply, it is ending with that, and a tunnel that opened is one of its own.
abbrev pub heard : machine.Conn → Reply → machine.Conn
heard s said = record (starved s) { tunnels = tunnels_after (want_of s) (Replied said) s.tunnels }

abbrev pub HearsNone : Conn → Conn → Reply → Type 0
HearsNone old new said = (s : machine.Conn) → IsConn old s → is_some (done s (Replied said)) ≡ true → (said ≢ reply.Closed) × IsConn new (heard s said)

-- The reply is heard, in which the number of a tunnel that opens is new.
abbrev pub HearsOne : Conn → Conn → Reply → Note → Type 0
HearsOne old new said note = (s : machine.Conn) → IsConn old s → IsFresh s.tunnels (Replied said) → is_some (done s (Replied said)) ≡ true
    → (t : machine.Conn) × IsConn new t × (done s (Replied said) ≡ Some (note, t))

-- That its tunnel was closed takes no memory.
abbrev pub MayHear : Conn → Conn → Reply → Result Note NoMemory → Type 0
MayHear old new said (Ok note) = HearsOne old new said note
MayHear old new said (Err fault) = HearsNone old new said

-- that, before what is due is given up
abbrev pub Hears : Conn → Conn → Reply → Result Note NoMemory → Type 0
Hears old new said (Ok note) = HearsOne old new said note
Hears old new said (Err fault) = (after : Conn) → GivesUp new end.NoMemory after → HearsNone old after said
