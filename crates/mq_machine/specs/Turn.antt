-- Whose turn it is, and what a turn does. A worker tries its seats in a ring, from the one behind that which acted last: its
-- offered links, its inbox, then each of its connections. The first seat that can act does what it tries first.
use Rattle.std.specs.Prelude.{◌≡◌, ℕ, ◌+◌, ◌==◌, Bool, true, false, not, ◌&&◌, ◌||◌, List, [], ◌∷◌, ◌++◌, map, take, drop, length, filter, find, slice_get, slice_set, nat_lt, nat_le, min, if◌then◌else◌, Option, Some, None, option_map, option_and_then, is_some}
use Rattle.std.specs.Bool.{MatchBool}
use Rattle.mq_talk.specs.declared.note.From.{From}
use Rattle.mq_talk.specs.declared.note.From.TheVariants as source
use Rattle.mq_talk.specs.declared.note.Note.{Note}
use Rattle.mq_talk.specs.declared.note.Note.TheVariants as note
use Rattle.mq_talk.specs.declared.note.Note.TheVariants.{Took}
use Rattle.mq_talk.specs.declared.place.Cause.TheVariants as cause
use Rattle.mq_talk.specs.declared.place.Origin.{Origin}
use Rattle.mq_talk.specs.declared.place.Origin.TheVariants as origin
use Rattle.mq_talk.specs.declared.place.Parcel.{Parcel}
use Rattle.mq_talk.specs.declared.place.Place.{Place}
use Rattle.mq_talk.specs.declared.place.Place.TheVariants as place
use Rattle.mq_talk.specs.declared.place.Verdict.{Verdict}
use Rattle.mq_talk.specs.declared.place.Verdict.TheVariants as verdict
use Rattle.mq_addr.specs.declared.range.Flow.{Flow}
use Rattle.mq_addr.specs.declared.kind.Kind.{Kind}
use Rattle.mq_addr.specs.declared.kind.Kind.TheVariants as kind
use Rattle.mq_machine.specs.declared.setup.Setup.{Setup}
use Rattle.mq_talk.specs.Judging.{IsJudged}
use Rattle.mq_talk.specs.Mails.{box_at, has_room}
use Rattle.mq_talk.specs.Packets.{flow_of}
use Rattle.mq_machine.specs.Words.{onward}
use Rattle.mq_outside.specs.Counts.{last_count}
use Rattle.mq_outside.specs.Links.{behind, taken_of, room_left}
use Rattle.mq_outside.specs.Nets.{Arrival, answered}
use Rattle.mq_machine.specs.State.{Conn, Tunnel, Link, Port, Net, Held, Offer, Worker, Pump, Shared, State, new_conn, owed, kind_of, tunnel_of, held_of}
use Rattle.mq_machine.specs.Want.{Want, Nothing, Say, Bind, Ask, Judge, Push, Send, Over, Answer, Said, want_of}
use Rattle.mq_machine.specs.Done.{done}
use Rattle.mq_machine.specs.Shared.{Answers, PortsAnswer, ports_after, port_of, at_port, inbox_of, pushing, Ordered}
use Rattle.mq_machine.specs.Steps.{can_read, framed, wrote, finished, failed, passed_on, can_receive, received, port_received, port_failed}
use Rattle.mq_machine.specs.Reading.{TookNext, EndsThere}

-- ---- what a connection can do

-- what a connection tries, in this order
pub data Try : Type 0 where
  Act Frame Write Read : Try
  Receive : (tunnel : ℕ) → Try

-- a send waits where the port takes nothing now, but for a payload that it never takes; without a port it waits forever
abbrev pub send_waits : Option Port → List ℕ → Bool
send_waits None payload = true
send_waits (Some p) payload = p.send_waits && not p.send_fails && not (nat_lt p.limit (length payload))

abbrev pub can_do : List Port → Want → Bool
can_do ports Nothing = false
can_do ports Say = true
can_do ports (Bind stream goal) = true
can_do ports (Ask call) = true
can_do ports (Judge tunnel n packet) = true
can_do ports (Push parcel) = true
can_do ports (Send tunnel n payload) = not (send_waits (port_of ports tunnel) payload)
can_do ports (Over why) = true

abbrev pub has_room_for : Option ℕ → Bool
has_room_for None = true
has_room_for (Some room) = nat_lt 0 room

abbrev pub can_write : Conn → Link → Bool
can_write c link = nat_lt 0 (length (owed c)) && (link.write_fails || has_room_for link.room)

abbrev pub can_take : Link → Bool
can_take link = link.read_fails || nat_lt 0 (length link.pieces) || link.is_ended

abbrev pub can_receive_on : Conn → Option Port → Bool
can_receive_on c None = false
can_receive_on c (Some p) = can_receive c p

abbrev pub can_try : Held → Try → Bool
can_try h Act = can_do h.ports (want_of h.conn)
can_try h Frame = is_some (framed h.conn)
can_try h Write = can_write h.conn h.link
can_try h Read = can_read h.conn && can_take h.link
can_try h (Receive tunnel) = can_receive_on h.conn (port_of h.ports tunnel)

abbrev pub tries_of : Held → List Try
tries_of h = Act ∷ Frame ∷ Write ∷ Read ∷ map (λ (p : Port). Receive p.tunnel) h.ports

-- the first that can be done
abbrev pub try_of : Held → Option Try
try_of h = find (can_try h) (tries_of h)

-- ---- what a connection does

-- a step of a connection: the note, and the connection behind it, unless it has ended
abbrev pub HeldDone : Type 0
HeldDone = Option (Note × Option Held)

abbrev pub with_conn : Held → Note × Conn → Note × Option Held
with_conn h d = (d.0, Some (record h { conn = d.1 }))

abbrev pub over_or : Held → Want → Answer → HeldDone
over_or h (Over why) answer = Some (note.Ended h.conn.number why, None)
over_or h want answer = option_map (with_conn (record h { ports = ports_after want answer h.ports })) (done h.conn answer)

-- this answer to what it wants is done
abbrev pub acted : Held → Answer → HeldDone
acted h answer = over_or h (want_of h.conn) answer

-- It does what it wants, as it is answered.
pub record ActNext (old : Held) (sh : Shared) (answer : Answer) (note : Note) (new : Option Held) (after : Shared) : Type 0 where
  pub answers : Answers old.conn.actor sh (want_of old.conn) answer after
  pub ports : PortsAnswer old.ports (want_of old.conn) answer
  pub is : acted old answer ≡ Some (note, new)

-- it does something that needs no answer
pub record OwnNext (sh : Shared) (answer : Answer) (note : Note) (new : Option Held) (after : Shared) (does : HeldDone) : Type 0 where
  pub said : answer ≡ Said
  pub is : does ≡ Some (note, new)
  pub after_is : after ≡ sh

abbrev pub frame_done : Held → HeldDone
frame_done h = option_map (with_conn h) (framed h.conn)

abbrev pub write_count : Held → ℕ
write_count h = taken_of h.link.room (length (owed h.conn))

abbrev pub write_done : Held → HeldDone
write_done h = Some (with_conn (record h { link = record h.link { room = room_left h.link.room (write_count h) } }) (wrote h.conn (write_count h)))

-- one read takes at most 16,384 bytes of the first piece
abbrev pub most_read : ℕ
most_read = 16384

-- a piece is read
pub record PieceNext (setup : Setup) (old : Held) (first : List ℕ) (others : List (List ℕ)) (note : Note) (new : Option Held) : Type 0 where
  pub conn : Conn
  pub took : TookNext setup old.conn (take most_read first) conn
  pub note_is : note ≡ Took old.conn.number (length (take most_read first))
  pub new_is : new ≡ Some (record old { conn = conn; link = record old.link { pieces = behind (drop most_read first) others } })

-- the end is read
pub record EndNext (old : Held) (note : Note) (new : Option Held) : Type 0 where
  pub inside : Bool
  pub ends : EndsThere old.conn inside
  pub is : Some (with_conn old (finished old.conn inside)) ≡ Some (note, new)

abbrev pub TakesNext : Setup → Held → List (List ℕ) → Note → Option Held → Type 0
TakesNext setup old [] note new = EndNext old note new
TakesNext setup old (first ∷ others) note new = PieceNext setup old first others note new

abbrev pub received_from : Held → Port → List (List ℕ) → HeldDone
received_from h p [] = None
received_from h p (datagram ∷ others) =
    option_map (with_conn (record h { ports = at_port p.tunnel port_received h.ports })) (received h.conn p datagram)

-- Where its link failed, the connection is ending, and in the same step it does what it wants then.
abbrev pub write_failed : Held → Held
write_failed h = record h { conn = failed h.conn; link = record h.link { write_fails = false } }

abbrev pub read_failed : Held → Held
read_failed h = record h { conn = failed h.conn; link = record h.link { read_fails = false } }

abbrev pub receive_failed : Held → Port → Option Tunnel → Held
receive_failed h p None = h
receive_failed h p (Some t) = record h { conn = port_failed h.conn t }

abbrev pub WriteNext : Bool → Held → Shared → Answer → Note → Option Held → Shared → Type 0
WriteNext true old sh answer note new after = ActNext (write_failed old) sh answer note new after
WriteNext false old sh answer note new after = OwnNext sh answer note new after (write_done old)

abbrev pub ReadNext : Bool → Setup → Held → Shared → Answer → Note → Option Held → Shared → Type 0
ReadNext true setup old sh answer note new after = ActNext (read_failed old) sh answer note new after
ReadNext false setup old sh answer note new after = (answer ≡ Said) × TakesNext setup old old.link.pieces note new × (after ≡ sh)

abbrev pub PortNext : Bool → Held → Port → Shared → Answer → Note → Option Held → Shared → Type 0
PortNext true old p sh answer note new after = ActNext (receive_failed old p (tunnel_of old.conn p.tunnel)) sh answer note new after
PortNext false old p sh answer note new after = OwnNext sh answer note new after (received_from old p p.arrived)

abbrev pub ReceiveNext : Option Port → Held → Shared → Answer → Note → Option Held → Shared → Type 0
ReceiveNext None old sh answer note new after = ⊥
ReceiveNext (Some p) old sh answer note new after = PortNext p.receive_fails old p sh answer note new after

-- what a try does, with this answer of the outside
abbrev pub TryNext : Setup → Held → Shared → Try → Answer → Note → Option Held → Shared → Type 0
TryNext setup old sh Act answer note new after = ActNext old sh answer note new after
TryNext setup old sh Frame answer note new after = OwnNext sh answer note new after (frame_done old)
TryNext setup old sh Write answer note new after = WriteNext old.link.write_fails old sh answer note new after
TryNext setup old sh Read answer note new after = ReadNext old.link.read_fails setup old sh answer note new after
TryNext setup old sh (Receive tunnel) answer note new after = ReceiveNext (port_of old.ports tunnel) old sh answer note new after

-- ---- seats

pub data Seat : Type 0 where
  Offers Inbox : Seat
  Of : (conn : ℕ) → Seat

abbrev pub place_of : Seat → ℕ
place_of Offers = 0
place_of Inbox = 1
place_of (Of conn) = conn + 2

abbrev pub seats_of : Worker → List Seat
seats_of w = Offers ∷ Inbox ∷ map (λ (h : Held). Of h.conn.number) w.conns

-- the most connections of a worker
abbrev pub most_live : ℕ
most_live = 32

-- with this in the inbox of the worker
abbrev pub can_act : Worker → List Parcel → Seat → Bool
can_act w box Offers = nat_lt 0 (length w.offered) && nat_lt (length w.conns) most_live
can_act w box Inbox = nat_lt 0 (length box)
can_act w box (Of conn) = is_some (option_and_then try_of (held_of w conn))

-- the seats from this place on, then those before it
abbrev pub ring_from : ℕ → List Seat → List Seat
ring_from from seats = filter (λ s. nat_le from (place_of s)) seats ++ filter (λ s. nat_lt (place_of s) from) seats

-- the seat whose turn it is
abbrev pub turn_of : Worker → List Parcel → Option Seat
turn_of w box = find (can_act w box) (ring_from w.next_seat (seats_of w))

-- ---- what a seat does

abbrev pub accepted : Worker → List Offer → Option (Note × Worker)
accepted w [] = None
accepted w (o ∷ offered) = Some (
  note.Accepted o.number w.id,
  record w {
    offered = offered;
    conns = w.conns ++ record { conn = new_conn o.number w.id; link = o.link; ports = [] } ∷ [];
    next_seat = place_of Inbox;
  },
)

-- a connection has become another, or has ended
abbrev pub replace : ℕ → Option Held → List Held → List Held
replace conn new [] = []
replace conn None (h ∷ hs) = if h.conn.number == conn then hs else h ∷ replace conn None hs
replace conn (Some g) (h ∷ hs) = if h.conn.number == conn then g ∷ hs else h ∷ replace conn (Some g) hs

abbrev pub with_held : Worker → ℕ → Option Held → Worker
with_held w conn new = record w { conns = replace conn new w.conns; next_seat = place_of (Of conn) + 1 }

-- a connection does what it tries first
pub record ConnNext (old : Worker) (sh : Shared) (conn : ℕ) (answer : Answer) (note : Note) (new : Worker) (after : Shared) : Type 0 where
  pub held : Held
  pub try : Try
  pub became : Option Held
  pub has : held_of old conn ≡ Some held
  pub tries : try_of held ≡ Some try
  pub next : TryNext old.setup held sh try answer note became after
  pub new_is : new ≡ with_held old conn became

-- the connection with this live tunnel
abbrev pub has_tunnel : ℕ → Held → Bool
has_tunnel tunnel h = is_some (tunnel_of h.conn tunnel)

abbrev pub source_of : Origin → From
source_of (origin.Tunnel tunnel) = source.Tunnel tunnel
source_of origin.Net = source.Net

-- a packet that came through the inbox waits in its tunnel
abbrev pub came_to : Held → Tunnel → Parcel → Note × Held
came_to h t parcel = with_note (passed_on h.conn t (source_of parcel.from) parcel.n (onward parcel.packet)) where
  with_note : Note × Conn → Note × Held
  with_note d = (d.0, record h { conn = d.1 })

abbrev pub tunnel_in : Worker → Place → Option (Held × Tunnel)
tunnel_in w place.Net = None
tunnel_in w (place.Tunnel tunnel actor) = option_and_then with_tunnel (find (has_tunnel tunnel) w.conns) where
  for_ip : Held → Kind → Tunnel → Option (Held × Tunnel)
  for_ip h kind.Udp t = None
  for_ip h kind.Ip t = Some (h, t)

  with_tunnel : Held → Option (Held × Tunnel)
  with_tunnel h = option_and_then (λ (t : Tunnel). for_ip h (kind_of t.goal) t) (tunnel_of h.conn tunnel)

abbrev pub popped : Worker → Parcel → Note × Worker
popped w parcel = by_tunnel (tunnel_in w parcel.to) where
  with_note : ℕ → Note × Held → Note × Worker
  with_note conn d = (d.0, record w { conns = replace conn (Some d.1) w.conns; next_seat = place_of Inbox + 1 })

  by_tunnel : Option (Held × Tunnel) → Note × Worker
  by_tunnel None = (note.Dropped (source_of parcel.from) parcel.n cause.Gone, record w { next_seat = place_of Inbox + 1 })
  by_tunnel (Some found) = with_note found.0.conn.number (came_to found.0 found.1 parcel)

-- the front parcel of an inbox leaves it
pub record InboxNext (old : Worker) (sh : Shared) (note : Note) (new : Worker) (after : Shared) : Type 0 where
  pub parcel : Parcel
  pub rest : List Parcel
  pub box : slice_get sh.boxes old.id ≡ Some (parcel ∷ rest)
  pub is : popped old parcel ≡ (note, new)
  pub after_is : after ≡ record sh { boxes = slice_set sh.boxes old.id rest }

-- what the seat does, with this answer of the outside
abbrev pub SeatNext : Worker → Shared → Seat → Answer → Note → Worker → Shared → Type 0
SeatNext old sh Offers answer note new after = (answer ≡ Said) × (accepted old old.offered ≡ Some (note, new)) × (after ≡ sh)
SeatNext old sh Inbox answer note new after = (answer ≡ Said) × InboxNext old sh note new after
SeatNext old sh (Of conn) answer note new after = ConnNext old sh conn answer note new after

-- The seat whose turn it is does something. Its seats were tried with this in its inbox; it is what sh has, or what was there
-- before that, where other actors go on meanwhile.
pub record WorkerTurn (old : Worker) (box : List Parcel) (sh : Shared) (answer : Answer) (note : Note) (new : Worker) (after : Shared) : Type 0 where
  pub seat : Seat
  pub turn : turn_of old box ≡ Some seat
  pub next : SeatNext old sh seat answer note new after

abbrev pub IsIdle : Worker → List Parcel → Type 0
IsIdle w box = turn_of w box ≡ None

-- ---- the pump

-- what the pump tries, in this order
pub data PumpTry : Type 0 where
  PushHeld SendHeld SendNext Receives : PumpTry

abbrev pub net_waits : Net → Bool
net_waits net = net.holds.send_waits && not net.holds.send_fails

abbrev pub can_pump : Pump → List Parcel → PumpTry → Bool
can_pump p box PushHeld = is_some p.to_push
can_pump p box SendHeld = is_some p.to_send && not (net_waits p.net)
can_pump p box SendNext = not (is_some p.to_send) && nat_lt 0 (length box)
can_pump p box Receives = not p.net.holds.receive_fails && nat_lt 0 (length p.net.holds.arrived)

abbrev pub pump_try : Pump → List Parcel → Option PumpTry
pump_try p box = find (can_pump p box) (PushHeld ∷ SendHeld ∷ SendNext ∷ Receives ∷ [])

-- the note, the pump and what is shared behind a step
abbrev pub PumpDone : Type 0
PumpDone = Option (Note × Pump × Shared)

abbrev pub parcel_pushed : Pump → Shared → Parcel → Bool → Note × Pump × Shared
parcel_pushed p sh parcel true = (note.PushedNote (source_of parcel.from) parcel.n parcel.to, record p { to_push = None }, pushing true sh parcel)
parcel_pushed p sh parcel false = (note.Dropped (source_of parcel.from) parcel.n cause.InboxFull, record p { to_push = None }, sh)

-- The network answers what it was sent.
abbrev pub with_sent : List ℕ → Net → Net
with_sent packet net = record net { holds = answered packet net.holds; sent = net.sent ++ packet ∷ [] }

abbrev pub with_failure : Net → Net
with_failure net = record net { holds = record net.holds { send_fails = false } }

abbrev pub net_sent : Pump → Shared → Parcel → Note × Pump × Shared
net_sent p sh parcel =
    if p.net.holds.send_fails then (note.Dropped (source_of parcel.from) parcel.n cause.Port, record p { to_send = None; net = with_failure p.net }, sh)
    else (if p.net.holds.send_waits then (note.Waits (source_of parcel.from) parcel.n, record p { to_send = Some parcel }, sh)
    else (note.Sent (source_of parcel.from) parcel.n parcel.packet, record p { to_send = None; net = with_sent parcel.packet p.net }, sh))

abbrev pub net_judged : Pump → Shared → ℕ → List ℕ → Verdict → Note × Pump × Shared
net_judged p sh n packet (verdict.Pass to) =
    (note.Passed source.Net n (length sh.book) to, record p { to_push = Some (record { from = origin.Net; n = n; to = to; packet = packet }) }, sh)
net_judged p sh n packet verdict.Source = (note.Dropped source.Net n cause.Source, p, sh)
net_judged p sh n packet verdict.NoRoute = (note.Dropped source.Net n cause.NoRoute, p, sh)

-- the packet is one that is judged, and this is what is said of it; else it is dropped before that
abbrev pub IsMet : Pump → Shared → ℕ → List ℕ → Option Flow → Note × Pump × Shared → Type 0
IsMet p sh n packet None d = d ≡ (note.Dropped source.Net n cause.BadHeader, p, sh)
IsMet p sh n packet (Some flow) d =
    MatchBool (nat_lt p.mtu (length packet))
    (d ≡ (note.Dropped source.Net n cause.TooLong, p, sh))
    ((verdict : Verdict) × IsJudged sh.config sh.book origin.Net flow verdict × (d ≡ net_judged p sh n packet verdict))

-- these packets are left, and one more was received, while that can be counted
abbrev pub with_arrivals : List Arrival → Net → Net
with_arrivals arrived net = record net { holds = record net.holds { arrived = arrived }; received = min (net.received + 1) last_count }

-- the network's next packet is received
abbrev pub IsReceived : Pump → Shared → List Arrival → Note × Pump × Shared → Type 0
IsReceived p sh [] d = ⊥
IsReceived p sh (first ∷ others) d = IsMet (record p { net = with_arrivals others p.net }) sh p.net.received first.packet (flow_of first.packet) d

abbrev pub net_popped : Pump → Shared → ℕ → List Parcel → PumpDone
net_popped p sh i [] = None
net_popped p sh i (parcel ∷ rest) = Some (net_sent p (record sh { boxes = slice_set sh.boxes i rest }) parcel)

-- the number of the pump's inbox
abbrev pub last_of : List (List Parcel) → ℕ
last_of boxes = inbox_of boxes place.Net

-- what a try does
abbrev pub PumpNext : Pump → Shared → PumpTry → Note × Pump × Shared → Type 0
PumpNext p sh PushHeld d = option_map (λ (parcel : Parcel). parcel_pushed p sh parcel (has_room sh.boxes (inbox_of sh.boxes parcel.to))) p.to_push ≡ Some d
PumpNext p sh SendHeld d = option_map (net_sent p sh) p.to_send ≡ Some d
PumpNext p sh SendNext d = net_popped p sh (last_of sh.boxes) (box_at sh.boxes (last_of sh.boxes)) ≡ Some d
PumpNext p sh Receives d = IsReceived p sh p.net.holds.arrived d

pub record PumpTurn (old : Pump) (box : List Parcel) (sh : Shared) (note : Note) (new : Pump) (after : Shared) : Type 0 where
  pub try : PumpTry
  pub tries : pump_try old box ≡ Some try
  pub is : PumpNext old sh try (note, new, after)

-- ---- all actors

pub data Actor : Type 0 where
  WorkerOf : (number : ℕ) → Actor
  ThePump : Actor

-- a worker's turn in the whole world
pub record WorkerActs (old : State) (number : ℕ) (note : Note) (new : State) : Type 0 where
  pub worker : Worker
  pub next : Worker
  pub answer : Answer
  pub shared : Shared
  pub after : Shared
  pub at : slice_get old.workers number ≡ Some worker
  pub turn : WorkerTurn worker (box_at old.shared.boxes worker.id) old.shared answer note next shared
  pub ordered : Ordered old.shared.orders answer after.orders
  pub after_is : after ≡ record shared { orders = after.orders }
  pub new_is : new ≡ record old { workers = slice_set old.workers number next; shared = after }

pub record PumpActs (old : State) (note : Note) (new : State) : Type 0 where
  pub pump : Pump
  pub shared : Shared
  pub turn : PumpTurn old.pump (box_at old.shared.boxes (last_of old.shared.boxes)) old.shared note pump shared
  pub new_is : new ≡ record old { pump = pump; shared = shared }

-- the note is the turn of this actor, and leads to new
abbrev pub Turn : State → Actor → Note → State → Type 0
Turn old (WorkerOf number) note new = WorkerActs old number note new
Turn old ThePump note new = PumpActs old note new

-- whether an actor has a turn
abbrev pub has_turn : State → Actor → Bool
has_turn s ThePump = is_some (pump_try s.pump (box_at s.shared.boxes (last_of s.shared.boxes)))
has_turn s (WorkerOf number) = is_some (option_and_then (λ (w : Worker). turn_of w (box_at s.shared.boxes w.id)) (slice_get s.workers number))

abbrev pub Quiet : State → Actor → Type 0
Quiet s actor = has_turn s actor ≡ false
