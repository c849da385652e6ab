-- What calls promise on capsules that wait.
use Rattle.std.specs.Prelude.{◌≡◌, ◌≢◌, ℕ, ◌+◌, ◌<◌, ◌≤◌, Bool, true, false, List, [], ◌∷◌, length, take, drop, filter, find, nat_le, nat_lt, slice_get, slice_set, Option, Some, None, Result, Ok, Err}
use Rattle.std.specs.List.{list_any}
use Rattle.mq_addr.specs.declared.kind.Kind.{Kind}
use Rattle.mq_addr.specs.declared.kind.Kind.TheVariants as kind
use Rattle.mq_talk.specs.declared.note.From.{From}
use Rattle.mq_talk.specs.declared.note.From.TheVariants as source
use Rattle.mq_talk.specs.declared.note.Note.{Note}
use Rattle.mq_talk.specs.declared.note.Note.TheVariants as note
use Rattle.mq_talk.specs.declared.place.Cause.TheVariants as cause
use Rattle.mq_wire.specs.declared.NoMemory.{NoMemory}
use Rattle.mq_machine.specs.Putting.{putting}
use Rattle.mq_machine.specs.State as machine
use Rattle.mq_machine.specs.Reading.{EndsThere}
use Rattle.mq_machine.specs.State.{Waiting, kind_of, owed, tunnel_of}
use Rattle.mq_machine.specs.Words.{onward}
use Rattle.mq_machine.specs.Steps.{can_frame, can_read, finish_by, frame_size, framing, passed_on, queued, settled_note, whole_note}
use Rattle.mq_conn.specs.declared.conn.Conn.{Conn}
use Rattle.mq_conn.specs.declared.conn.Tunnel.{Tunnel}
use Rattle.mq_conn.specs.Conns.{IsConn, Leaves, Stands, tunnel_is, tunnels_of}

-- One that came through an inbox goes to a tunnel for IP packets alone.
abbrev pub comes_in : machine.Conn → Kind → machine.Tunnel → From → ℕ → List ℕ → Note × machine.Conn
comes_in s kind.Udp t from n packet = (note.Dropped from n cause.Gone, s)
comes_in s kind.Ip t from n packet = passed_on s t from n (onward packet)

-- and a datagram that its port received, to the tunnel of that
abbrev pub comes : machine.Conn → machine.Tunnel → From → ℕ → List ℕ → Note × machine.Conn
comes s t (source.Port port) n packet = settled_note (queued s t (source.Port port) n packet)
comes s t (source.Tunnel origin) n packet = comes_in s (kind_of t.goal) t (source.Tunnel origin) n packet
comes s t source.Net n packet = comes_in s (kind_of t.goal) t source.Net n packet

-- what comes to a tunnel, which may have closed on the way
abbrev pub delivered : machine.Conn → Option machine.Tunnel → From → ℕ → List ℕ → Note × machine.Conn
delivered s None from n packet = (note.Dropped from n cause.Gone, s)
delivered s (Some t) from n packet = comes s t from n packet

abbrev pub Delivers : Conn → Conn → From → ℕ → ℕ → List ℕ → Note → Type 0
Delivers old new from n tunnel packet said =
    (s : machine.Conn) → IsConn old s → (said ≡ (delivered s (tunnel_of s tunnel) from n packet).0) × IsConn new (delivered s (tunnel_of s tunnel) from n packet).1

-- ---- only the crate's own functions cite these words

-- the place is that of the first tunnel of this number
pub record IsPlaceOf (tunnels : List Tunnel) (id place : ℕ) (t : Tunnel) : Type 0 where
  pub at : slice_get tunnels place ≡ Some t
  pub id_is : t.id ≡ id
  pub first : (other : ℕ) (before : Tunnel) → other < place → slice_get tunnels other ≡ Some before → before.id ≢ id

abbrev pub HasNone : List Tunnel → ℕ → Type 0
HasNone tunnels id = (place : ℕ) (t : Tunnel) → slice_get tunnels place ≡ Some t → t.id ≢ id

-- a packet came to the tunnel at this place, which is the first of this number
abbrev pub QueuesAt : Conn → Conn → ℕ → ℕ → From → ℕ → List ℕ → Note → Type 0
QueuesAt old new place id from n packet said = (t : Tunnel) → IsPlaceOf old.tunnels.items id place t → (s : machine.Conn) → IsConn old s
    → (said ≡ (settled_note (queued s (tunnel_is t) from n packet)).0) × IsConn new (settled_note (queued s (tunnel_is t) from n packet)).1

-- one that came through an inbox
abbrev pub ComesInAt : Conn → Conn → ℕ → ℕ → From → ℕ → List ℕ → Note → Type 0
ComesInAt old new place id from n packet said = (t : Tunnel) → IsPlaceOf old.tunnels.items id place t → (s : machine.Conn) → IsConn old s
    → (said ≡ (comes_in s (kind_of t.goal) (tunnel_is t) from n packet).0) × IsConn new (comes_in s (kind_of t.goal) (tunnel_is t) from n packet).1

-- and one that goes on there
abbrev pub GoesOnAt : Conn → Conn → ℕ → ℕ → From → ℕ → List ℕ → Note → Type 0
GoesOnAt old new place id from n packet said = (t : Tunnel) → IsPlaceOf old.tunnels.items id place t → (s : machine.Conn) → IsConn old s
    → (said ≡ (passed_on s (tunnel_is t) from n (onward packet)).0) × IsConn new (passed_on s (tunnel_is t) from n (onward packet)).1

-- of the tunnels from the next number on, or of those before it
abbrev pub on_side : Bool → ℕ → List machine.Tunnel → List machine.Tunnel
on_side true from ts = filter (λ (t : machine.Tunnel). nat_le from t.id) ts
on_side false from ts = filter (λ (t : machine.Tunnel). nat_lt t.id from) ts

-- the first that can be framed, where the connection isn't ending
abbrev pub IsFirst : Conn → machine.Conn → Bool → Option ℕ → Type 0
IsFirst c s late None = find (can_frame s) (on_side late c.next_tunnel (tunnels_of c.tunnels.items)) ≡ None
IsFirst c s late (Some place) =
    (t : Tunnel) × (slice_get c.tunnels.items place ≡ Some t) × (find (can_frame s) (on_side late c.next_tunnel (tunnels_of c.tunnels.items)) ≡ Some (tunnel_is t))

abbrev pub IsNext : Conn → Bool → Option ℕ → Type 0
IsNext c late result = (s : machine.Conn) → IsConn c s → s.ending ≡ None → IsFirst c s late result

-- whether one of its tunnels can be framed, where it isn't ending
abbrev pub AnyCanFrame : Conn → Bool → Type 0
AnyCanFrame c result = (s : machine.Conn) → IsConn c s → s.ending ≡ None → result ≡ list_any (can_frame s) s.tunnels

-- so many bytes of what waits first in the tunnel at this place were put
pub record PutFirst (old new : Conn) (place count : ℕ) : Type 0 where
  pub t : Tunnel
  pub w : Waiting
  pub rest : List Waiting
  pub at : slice_get old.tunnels.items place ≡ Some t
  pub waits : t.waiting ≡ w ∷ rest
  pub keeps : new ≡ record old { front = new.front }
  pub put : (s : machine.Conn) → Stands old s → (count ≡ frame_size s.front t.stream (length (drop w.framed w.capsule)))
      × Stands new (putting s (framing s.front t.stream (take count (drop w.framed w.capsule))))

abbrev pub PutsFirst : Conn → Conn → ℕ → Result ℕ NoMemory → Type 0
PutsFirst old new place (Ok count) = PutFirst old new place count
PutsFirst old new place (Err fault) = Leaves old new

-- They are framed: all that was left, or a part of that.
abbrev pub took_note : Bool → Tunnel → Waiting → ℕ → Note
took_note true t w count = whole_note (tunnel_is t) w w.what
took_note false t w count = note.Part t.id count

abbrev pub took_waiting : Bool → Waiting → List Waiting → ℕ → List Waiting
took_waiting true w rest count = rest
took_waiting false w rest count = record w { framed = w.framed + count } ∷ rest

-- so many bytes of what waits first in the tunnel of this number were framed, where something waits
abbrev pub TookOf : List Waiting → List Waiting → ℕ → ℕ → Option Note → Type 0
TookOf old new id count None = old ≡ []
TookOf old new id count (Some said) = (t : Tunnel) (w : Waiting) (rest : List Waiting) → t.id ≡ id → old ≡ w ∷ rest
    → (said ≡ took_note (nat_le (length w.capsule) (w.framed + count)) t w count) × (new ≡ took_waiting (nat_le (length w.capsule) (w.framed + count)) w rest count)

pub record Takes (old new : Conn) (place count : ℕ) (t : Tunnel) (w : Waiting) (rest : List Waiting) (said : Note) : Type 0 where
  pub said_is : said ≡ took_note (nat_le (length w.capsule) (w.framed + count)) t w count
  pub items : new.tunnels.items ≡ slice_set old.tunnels.items place (record t { waiting = took_waiting (nat_le (length w.capsule) (w.framed + count)) w rest count })
  pub keeps : new ≡ record old { tunnels = new.tunnels; next_tunnel = t.id + 1 }

abbrev pub TookFirst : Conn → Conn → ℕ → ℕ → Option Note → Type 0
TookFirst old new place count None = (t : Tunnel) (w : Waiting) (rest : List Waiting) → slice_get old.tunnels.items place ≡ Some t → t.waiting ≡ w ∷ rest → ⊥
TookFirst old new place count (Some said) = (t : Tunnel) (w : Waiting) (rest : List Waiting) → slice_get old.tunnels.items place ≡ Some t → t.waiting ≡ w ∷ rest → Takes old new place count t w rest said

-- so many bytes were given to the link, before the end of the act
abbrev pub Gives : Conn → Conn → ℕ → Type 0
Gives old new count = (s : machine.Conn) → IsConn old s → count ≤ length (owed s) → Stands new (record s { given = s.given + count })

-- the link has ended, before the end of the act
abbrev pub LinkEnds : Conn → Conn → Type 0
LinkEnds old new = (s : machine.Conn) → IsConn old s → can_read s ≡ true → (inside : Bool) × EndsThere s inside × Stands new (finish_by (record s { is_finished = true }) s.front inside)
