-- A simulated network, and what its calls answer. Its hosts answer what is sent to them.
use Rattle.std.specs.Prelude.{◌≡◌, ℕ, ◌++◌, ◌∷◌, Bool, false, List, [], length, take, replicate, nat_lt, if◌then◌else◌, Option, Some, None}
use Rattle.mq_addr.specs.declared.addr.Addr.{Addr}
use Rattle.mq_outside.specs.declared.PortGot.{PortGot}
use Rattle.mq_outside.specs.declared.PortGot.TheVariants as got
use Rattle.mq_outside.specs.declared.PortPut.{PortPut}
use Rattle.mq_outside.specs.declared.PortPut.TheVariants as put
use Rattle.mq_outside.specs.Counts.{PortCounts, no_port_counts}
use Rattle.mq_outside.specs.Nets.{Arrival, NetHolds, by_itself, answered}
use Rattle.mq_outside.specs.Ports.{PortPast, after_send, after_receive}

pub record Sim : Type 0 where
  pub hosts : List Addr
  -- what waits, oldest first
  pub arrived : List Arrival
  pub send_fails : Bool
  pub counts : PortCounts

-- a network of these hosts, in which nothing waits
abbrev pub new_sim : List Addr → Sim
new_sim hosts = record { hosts = hosts; arrived = []; send_fails = false; counts = no_port_counts }

abbrev pub holds_of : Sim → NetHolds
holds_of s = record { hosts = s.hosts; arrived = s.arrived; send_fails = s.send_fails; send_waits = false; receive_fails = false }

-- it tells what it holds
abbrev pub told : Sim → Option NetHolds
told s = Some (holds_of s)

-- but not what it gave and sent
abbrev pub no_past : PortPast
no_past = record { gave = None; sent = None }

-- so many copies of a packet arrive last
abbrev pub with_copies : ℕ → List ℕ → Sim → Sim
with_copies count packet s = record s { arrived = s.arrived ++ replicate count (by_itself packet) }

abbrev pub waits : Sim → Bool
waits s = nat_lt 0 (length s.arrived)

-- ---- sends

-- what a send answers
abbrev pub put_of : Sim → PortPut
put_of s = if s.send_fails then put.Failed else put.Sent

abbrev pub after_put : Sim → List ℕ → Sim
after_put s packet =
    if s.send_fails then record s { send_fails = false; counts = after_send s.counts put.Failed } else record s { arrived = (answered packet (holds_of s)).arrived }

-- ---- receives

-- what a receive answers
abbrev pub got_first : List Arrival → PortGot
got_first [] = got.NotNow
got_first (first ∷ others) = got.Datagram (length first.packet)

abbrev pub got_of : Sim → PortGot
got_of s = got_first s.arrived

abbrev pub behind_first : List Arrival → List Arrival
behind_first [] = []
behind_first (first ∷ others) = others

abbrev pub after_got : Sim → Sim
after_got s = record s { arrived = behind_first s.arrived; counts = after_receive s.counts (got_of s) }

-- the packet that was received
abbrev pub first_is : List Arrival → List ℕ → Type 0
first_is [] packet = ⊥
first_is (first ∷ others) packet = packet ≡ first.packet

abbrev pub GotPacket : List Arrival → List ℕ → PortGot → Type 0
GotPacket arrived buffer (got.Datagram count) = first_is arrived (take count buffer)
GotPacket arrived buffer got.NotNow = Unit {0}
GotPacket arrived buffer got.Failed = Unit {0}
