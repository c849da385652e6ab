-- The states of the machine: workers with their links and connections, the pump with the network, and what they share.
use Rattle.std.specs.Prelude.{ℕ, ◌==◌, Bool, true, false, not, List, [], ◌∷◌, ◌++◌, drop, length, filter, find, sum_by, Option, None}
use Rattle.mq_addr.specs.declared.addr.Addr.{Addr}
use Rattle.mq_addr.specs.declared.kind.Kind.{Kind}
use Rattle.mq_addr.specs.declared.kind.Kind.TheVariants as kind
use Rattle.mq_talk.specs.declared.book.Config.{Config}
use Rattle.mq_talk.specs.declared.book.Entry.{Entry}
use Rattle.mq_talk.specs.declared.goal.Goal.{Goal}
use Rattle.mq_talk.specs.declared.goal.Goal.TheVariants as goal
use Rattle.mq_talk.specs.declared.note.End.{End}
use Rattle.mq_talk.specs.declared.note.From.{From}
use Rattle.mq_talk.specs.declared.place.Parcel.{Parcel}
use Rattle.mq_outside.specs.Links.{LinkHolds, empty_link}
use Rattle.mq_outside.specs.Nets.{NetHolds, net_of}
use Rattle.mq_h2.specs.State as http2
use Rattle.mq_machine.specs.declared.act.Due.{Due}
use Rattle.mq_machine.specs.declared.setup.Setup.{Setup}

-- ---- what the outside holds

-- a link: what arrived and wasn't taken, and what its next calls answer
abbrev pub Link : Type 0
Link = LinkHolds

abbrev pub new_link : Link
new_link = empty_link

-- the port of a live UDP tunnel
pub record Port : Type 0 where
  pub tunnel : ℕ
  pub addr : Addr
  pub number : ℕ
  -- the longest payload that it takes
  pub limit : ℕ
  -- the datagrams that arrived and weren't received, and how many were
  pub arrived : List (List ℕ)
  pub received : ℕ
  pub sent : List (List ℕ)
  -- what its next calls answer: a failure, or that nothing is taken now
  pub send_fails : Bool
  pub send_waits : Bool
  pub receive_fails : Bool

-- the network: what it holds, how many packets were received, and those that were sent
pub record Net : Type 0 where
  pub holds : NetHolds
  pub received : ℕ
  pub sent : List (List ℕ)

-- a network of these hosts
abbrev pub new_net : List Addr → Net
new_net hosts = record { holds = net_of hosts; received = 0; sent = [] }

-- ---- connections

-- what waits in a tunnel: a packet of this origin with its number, or a control value
pub data What : Type 0 where
  Packet : (from : From) (n : ℕ) (packet : List ℕ) → What
  Value : What

pub record Waiting : Type 0 where
  pub what : What
  pub capsule : List ℕ
  -- how many of its bytes were framed
  pub framed : ℕ

abbrev pub is_packet : Waiting → Bool
is_packet w = by_what w.what where
  by_what : What → Bool
  by_what (Packet from n packet) = true
  by_what Value = false

pub record Tunnel : Type 0 where
  pub id : ℕ
  pub stream : ℕ
  pub goal : Goal
  -- oldest first
  pub waiting : List Waiting

-- how many packets wait, and how many control values
abbrev pub packets : Tunnel → ℕ
packets t = length (filter is_packet t.waiting)

abbrev pub values : Tunnel → ℕ
values t = length (filter (λ w. not (is_packet w)) t.waiting)

-- a data stream that was asked for: what its request leads to, and the bytes of its data so far
pub record Stream : Type 0 where
  pub id : ℕ
  pub goal : Goal
  pub bytes : List ℕ

-- how far the bytes of a connection were read
pub data Front : Type 0 where
  -- these came, and nothing is decided
  Head : (bytes : List ℕ) → Front
  -- in HTTP/1.1, a head was read
  OverHttp1 : Front
  -- in HTTP/2, the preface was read. What is put for writing stands in the connection: this state has none.
  OverHttp2 : (h : http2.State) → Front

pub record Conn : Type 0 where
  pub number : ℕ
  pub actor : ℕ
  pub front : Front
  pub streams : List Stream
  -- what the bytes ask for and isn't done, in the order of the bytes that complete it
  pub due : List Due
  -- all bytes put for writing, and how many of them the link was given
  pub out : List ℕ
  pub given : ℕ
  pub is_finished : Bool
  -- why it is ending
  pub ending : Option End
  -- its live tunnels, by rising number
  pub tunnels : List Tunnel
  -- the number from which the search for the next tunnel to frame begins
  pub next_tunnel : ℕ

abbrev pub new_conn : ℕ → ℕ → Conn
new_conn number actor = record {
  number = number;
  actor = actor;
  front = Head [];
  streams = [];
  due = [];
  out = [];
  given = 0;
  is_finished = false;
  ending = None;
  tunnels = [];
  next_tunnel = 0;
}

abbrev pub owed : Conn → List ℕ
owed c = drop c.given c.out

abbrev pub tunnel_on : Conn → ℕ → Option Tunnel
tunnel_on c stream = find (λ (t : Tunnel). t.stream == stream) c.tunnels

abbrev pub tunnel_of : Conn → ℕ → Option Tunnel
tunnel_of c id = find (λ (t : Tunnel). t.id == id) c.tunnels

abbrev pub kind_of : Goal → Kind
kind_of (goal.Udp addr port) = kind.Udp
kind_of (goal.Ip area protocol) = kind.Ip

-- the bytes of the whole capsules that wait in a connection
abbrev pub waiting_bytes : Conn → ℕ
waiting_bytes c = sum_by (λ (t : Tunnel). sum_by (λ (w : Waiting). length w.capsule) t.waiting) c.tunnels

-- ---- actors

-- an offered link
pub record Offer : Type 0 where
  pub number : ℕ
  pub link : Link

-- an accepted connection, with what its actor holds for it: its link, and the ports of its UDP tunnels, as they opened
pub record Held : Type 0 where
  pub conn : Conn
  pub link : Link
  pub ports : List Port

pub record Worker : Type 0 where
  pub id : ℕ
  pub setup : Setup
  -- oldest first
  pub offered : List Offer
  -- by rising number
  pub conns : List Held
  -- the seat from which the search begins: the one after the seat that last acted
  pub next_seat : ℕ

-- a worker at its beginning
abbrev pub new_worker : ℕ → Setup → Worker
new_worker id setup = record { id = id; setup = setup; offered = []; conns = []; next_seat = 0 }

-- the link of this number is offered last
abbrev pub with_offer : ℕ → Link → Worker → Worker
with_offer number link w = record w { offered = w.offered ++ record { number = number; link = link } ∷ [] }

abbrev pub held_of : Worker → ℕ → Option Held
held_of w number = find (λ (h : Held). h.conn.number == number) w.conns

-- the pump: its two hands, and the network
pub record Pump : Type 0 where
  pub mtu : ℕ
  -- the parcel that it holds for pushing
  pub to_push : Option Parcel
  -- the parcel that it holds for sending
  pub to_send : Option Parcel
  pub net : Net

-- which calls are to fail, whoever makes the next
pub record Orders : Type 0 where
  pub bind : Bool

-- what the actors share
pub record Shared : Type 0 where
  pub config : Config
  pub book : List Entry
  -- one for each worker, and the last is the pump's
  pub boxes : List (List Parcel)
  pub orders : Orders

-- what a script said of a link
pub record Told : Type 0 where
  pub worker : ℕ
  pub is_ended : Bool

pub record State : Type 0 where
  pub links : List Told
  pub workers : List Worker
  pub pump : Pump
  pub shared : Shared
