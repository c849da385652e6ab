-- What a network holds, where it tells it, and what its calls answer then. Its hosts answer what is sent to them.
use Rattle.std.specs.Prelude.{◌≡◌, ℕ, ◌+◌, ◌≤◌, ◌&&◌, Bool, true, false, List, [], ◌∷◌, ◌++◌, length, map, filter, sum_by, take, nat_lt, nat_le, if◌then◌else◌, Option, Some, None}
use Rattle.mq_addr.specs.declared.addr.Addr.{Addr}
use Rattle.mq_iphdr.specs.Echo.{answer_of}
use Rattle.mq_outside.specs.declared.PortGot.{PortGot}
use Rattle.mq_outside.specs.declared.PortGot.TheVariants as got
use Rattle.mq_outside.specs.declared.PortPut.{PortPut}
use Rattle.mq_outside.specs.declared.PortPut.TheVariants as put

-- a packet that arrived: by itself, or as the answer of a host
pub record Arrival : Type 0 where
  pub packet : List ℕ
  pub is_answer : Bool

abbrev pub by_itself : List ℕ → Arrival
by_itself packet = record { packet = packet; is_answer = false }

-- the hosts of a network, the packets that arrived and weren't received, and what the next calls answer
pub record NetHolds : Type 0 where
  pub hosts : List Addr
  pub arrived : List Arrival
  pub send_fails : Bool
  pub send_waits : Bool
  pub receive_fails : Bool

-- a network of these hosts, in which nothing arrived
abbrev pub net_of : List Addr → NetHolds
net_of hosts = record { hosts = hosts; arrived = []; send_fails = false; send_waits = false; receive_fails = false }

-- ---- answers

-- the most answers that wait, and their most bytes
abbrev pub most_answers : ℕ
most_answers = 65536

abbrev pub most_answered : ℕ
most_answered = 16777216

abbrev pub answers_in : List Arrival → List (List ℕ)
answers_in arrived = map (λ (a : Arrival). a.packet) (filter (λ (a : Arrival). a.is_answer) arrived)

-- there is room for one more
abbrev pub has_room_for : List Arrival → List ℕ → Bool
has_room_for arrived answer =
    nat_lt (length (answers_in arrived)) most_answers && nat_le (sum_by length (answers_in arrived) + length answer) most_answered

-- an answer arrives last, or is swallowed where there is no room for it
abbrev pub with_answer : Option (List ℕ) → NetHolds → NetHolds
with_answer None holds = holds
with_answer (Some answer) holds =
    if has_room_for holds.arrived answer then record holds { arrived = holds.arrived ++ record { packet = answer; is_answer = true } ∷ [] } else holds

-- a packet was sent
abbrev pub answered : List ℕ → NetHolds → NetHolds
answered packet holds = with_answer (answer_of holds.hosts packet) holds

-- ---- sends

-- one send of a packet
abbrev pub NetSends : Option NetHolds → Option NetHolds → List ℕ → PortPut → Type 0
NetSends None after packet answer = after ≡ None
NetSends (Some holds) after packet put.Sent = (holds.send_fails ≡ false) × (holds.send_waits ≡ false) × (after ≡ Some (answered packet holds))
NetSends (Some holds) after packet put.NotNow = (holds.send_fails ≡ false) × (holds.send_waits ≡ true) × (after ≡ Some holds)
NetSends (Some holds) after packet put.Failed = (holds.send_fails ≡ true) × (after ≡ Some (record holds { send_fails = false }))

-- ---- receives

-- a receive gave the first of what arrived, whole
pub record NetGave (holds : NetHolds) (after : Option NetHolds) (packet : List ℕ) : Type 0 where
  pub first : Arrival
  pub others : List Arrival
  pub works : holds.receive_fails ≡ false
  pub arrived_are : holds.arrived ≡ first ∷ others
  pub packet_is : packet ≡ first.packet
  pub after_is : after ≡ Some (record holds { arrived = others })

-- one receive into a buffer
abbrev pub NetReceives : Option NetHolds → Option NetHolds → List ℕ → PortGot → Type 0
NetReceives None after buffer answer = after ≡ None
NetReceives (Some holds) after buffer (got.Datagram count) = NetGave holds after (take count buffer)
NetReceives (Some holds) after buffer got.NotNow = (holds.receive_fails ≡ false) × (holds.arrived ≡ []) × (after ≡ Some holds)
NetReceives (Some holds) after buffer got.Failed = (holds.receive_fails ≡ true) × (after ≡ Some holds)
