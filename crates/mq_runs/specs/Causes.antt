-- Why a packet was dropped: what was so, in the state in which the note came, by the cause that it names.
use Rattle.std.specs.Prelude.{◌≡◌, ◌⊎◌, ◌+◌, ◌<◌, ◌≤◌, ℕ, true, false, List, ◌∷◌, length, slice_get, Some, None}
use Rattle.mq_addr.specs.declared.range.Flow.{Flow}
use Rattle.mq_capsule.specs.Writing.{capsule_text, datagram}
use Rattle.mq_talk.specs.declared.note.From.{From}
use Rattle.mq_talk.specs.declared.note.From.TheVariants as source
use Rattle.mq_talk.specs.declared.place.Cause.{Cause}
use Rattle.mq_talk.specs.declared.place.Cause.TheVariants as cause
use Rattle.mq_talk.specs.declared.place.Origin.TheVariants as origin
use Rattle.mq_talk.specs.declared.place.Parcel.{Parcel}
use Rattle.mq_talk.specs.declared.place.Place.{Place}
use Rattle.mq_talk.specs.declared.place.Verdict.{Verdict}
use Rattle.mq_talk.specs.declared.place.Verdict.TheVariants as verdict
use Rattle.mq_talk.specs.Judging.{IsJudged}
use Rattle.mq_talk.specs.Mails.{box_at, has_room}
use Rattle.mq_talk.specs.Packets.{flow_of}
use Rattle.mq_machine.specs.declared.act.StreamAct.TheVariants as stream
use Rattle.mq_machine.specs.Words.{onward}
use Rattle.mq_machine.specs.State.{Conn, Tunnel, Port, Held, Worker, State, packets, waiting_bytes, tunnel_of, held_of}
use Rattle.mq_machine.specs.Shared.{inbox_of, port_of}
use Rattle.mq_machine.specs.Steps.{most_packets, most_waiting}
use Rattle.mq_machine.specs.Turn.{source_of, tunnel_in, last_of}
use Rattle.mq_runs.specs.Payloads.{IsNext}
use Rattle.mq_runs.specs.Written.{ArrivesNext}

-- ---- what an actor has before it

-- the parcel has this packet
abbrev pub IsParcelOf : From → ℕ → Parcel → Type 0
IsParcelOf from n parcel = (source_of parcel.from ≡ from) × (parcel.n ≡ n)

-- the packet is the network's next
pub record ComesFromNet (s : State) (from : From) (n : ℕ) : Type 0 where
  pub packet : List ℕ
  pub from_is : from ≡ source.Net
  pub arrives : ArrivesNext s n packet

-- its parcel is the first in the inbox of this worker
pub record IsPopped (s : State) (from : From) (n : ℕ) (worker : Worker) (parcel : Parcel) : Type 0 where
  pub number : ℕ
  pub others : List Parcel
  pub works : slice_get s.workers number ≡ Some worker
  pub box : slice_get s.shared.boxes worker.id ≡ Some (parcel ∷ others)
  pub of : IsParcelOf from n parcel

-- The packet comes to this tunnel of a connection, with these bytes: its parcel comes through the inbox, and its hop limit can be
-- lowered.
pub record PassesOn (s : State) (from : From) (n : ℕ) (c : Conn) (t : Tunnel) (packet : List ℕ) : Type 0 where
  pub worker : Worker
  pub parcel : Parcel
  pub held : Held
  pub popped : IsPopped s from n worker parcel
  pub to : tunnel_in worker parcel.to ≡ Some (held, t)
  pub conn_is : held.conn ≡ c
  pub packet_is : onward parcel.packet ≡ Some packet

-- it is the next datagram of the tunnel's port
pub record ComesToPort (s : State) (from : From) (n : ℕ) (c : Conn) (t : Tunnel) (packet : List ℕ) : Type 0 where
  pub number : ℕ
  pub conn : ℕ
  pub worker : Worker
  pub held : Held
  pub p : Port
  pub others : List (List ℕ)
  pub works : slice_get s.workers number ≡ Some worker
  pub has : held_of worker conn ≡ Some held
  pub port : port_of held.ports p.tunnel ≡ Some p
  pub to : tunnel_of held.conn p.tunnel ≡ Some t
  pub arrived : p.arrived ≡ packet ∷ others
  pub conn_is : held.conn ≡ c
  pub from_is : from ≡ source.Port p.tunnel
  pub number_is : n ≡ p.received

-- the packet, which was judged, is pushed next: that is asked of its tunnel
pub record PushesNext (s : State) (from : From) (n : ℕ) (to : Place) (packet : List ℕ) : Type 0 where
  pub tunnel : ℕ
  pub from_is : from ≡ source.Tunnel tunnel
  pub asked : IsNext s tunnel (stream.Push n to packet)

-- the pump pushes the parcel next: it has it in hand
pub record PumpsNext (s : State) (from : From) (n : ℕ) (parcel : Parcel) : Type 0 where
  pub in_hand : s.pump.to_push ≡ Some parcel
  pub of : IsParcelOf from n parcel

-- the pump sends the parcel next: it has it in hand, or takes it from its inbox
pub record SendsNext (s : State) (from : From) (n : ℕ) (parcel : Parcel) : Type 0 where
  pub is : (s.pump.to_send ≡ Some parcel) ⊎ ((others : List Parcel) × (box_at s.shared.boxes (last_of s.shared.boxes) ≡ parcel ∷ others))
  pub of : IsParcelOf from n parcel

-- the payload goes to the port of its tunnel next
pub record PutsNext (s : State) (from : From) (n : ℕ) (p : Port) (payload : List ℕ) : Type 0 where
  pub tunnel : ℕ
  pub from_is : from ≡ source.Tunnel tunnel
  pub asked : IsNext s tunnel (stream.Payload n payload)
  pub port : port_of asked.held.ports tunnel ≡ Some p

-- ---- the causes

-- it is asked of the tunnel that the payload be dropped for this: with that is said what is wrong with it (`IsOf`)
pub record IsReadSo (s : State) (from : From) (n : ℕ) (cause : Cause) : Type 0 where
  pub tunnel : ℕ
  pub from_is : from ≡ source.Tunnel tunnel
  pub asked : IsNext s tunnel (stream.Drop n cause)

-- the book says so of the packet: its tunnel's next, or the network's
pub record IsJudgedOfTunnel (s : State) (from : From) (n : ℕ) (said : Verdict) : Type 0 where
  pub tunnel : ℕ
  pub packet : List ℕ
  pub flow : Flow
  pub from_is : from ≡ source.Tunnel tunnel
  pub asked : IsNext s tunnel (stream.Packet n packet flow)
  pub judged : IsJudged s.shared.config s.shared.book (origin.Tunnel tunnel) flow said

pub record IsJudgedOfNet (s : State) (from : From) (n : ℕ) (said : Verdict) : Type 0 where
  pub comes : ComesFromNet s from n
  pub flow : Flow
  pub flow_is : flow_of comes.packet ≡ Some flow
  pub judged : IsJudged s.shared.config s.shared.book origin.Net flow said

-- so many packets wait in the tunnel, or so many bytes would in its connection
abbrev pub IsFull : Conn → Tunnel → List ℕ → Type 0
IsFull c t packet = (most_packets ≤ packets t) ⊎ (most_waiting < waiting_bytes c + length (capsule_text (datagram packet)))

-- What the cause of a drop says is so.
abbrev pub Holds : State → From → ℕ → Cause → Type 0
Holds s from n cause.UnknownContext = IsReadSo s from n cause.UnknownContext
Holds s from n cause.BadHeader = IsReadSo s from n cause.BadHeader ⊎ ((x : ComesFromNet s from n) × (flow_of x.packet ≡ None))
Holds s from n cause.TooLong =
    IsReadSo s from n cause.TooLong
    ⊎ (((p : Port) × (payload : List ℕ) × PutsNext s from n p payload × (p.limit < length payload))
    ⊎ ((x : ComesFromNet s from n) × (s.pump.mtu < length x.packet)))
Holds s from n cause.Source = IsJudgedOfTunnel s from n verdict.Source ⊎ IsJudgedOfNet s from n verdict.Source
Holds s from n cause.NoRoute = IsJudgedOfTunnel s from n verdict.NoRoute ⊎ IsJudgedOfNet s from n verdict.NoRoute
Holds s from n cause.InboxFull =
    ((to : Place) × (packet : List ℕ) × PushesNext s from n to packet × (has_room s.shared.boxes (inbox_of s.shared.boxes to) ≡ false))
    ⊎ ((parcel : Parcel) × PumpsNext s from n parcel × (has_room s.shared.boxes (inbox_of s.shared.boxes parcel.to) ≡ false))
Holds s from n cause.Gone = (worker : Worker) × (parcel : Parcel) × IsPopped s from n worker parcel × (tunnel_in worker parcel.to ≡ None)
Holds s from n cause.HopLimit =
    (worker : Worker) × (parcel : Parcel) × (found : Held × Tunnel) × IsPopped s from n worker parcel × (tunnel_in worker parcel.to ≡ Some found) × (onward parcel.packet ≡ None)
Holds s from n cause.QueueFull =
    (c : Conn) × (t : Tunnel) × (packet : List ℕ) × (PassesOn s from n c t packet ⊎ ComesToPort s from n c t packet) × IsFull c t packet
Holds s from n cause.Port =
    ((p : Port) × (payload : List ℕ) × PutsNext s from n p payload × (p.send_fails ≡ true))
    ⊎ ((parcel : Parcel) × SendsNext s from n parcel × (s.pump.net.holds.send_fails ≡ true))
