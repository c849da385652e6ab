-- What a port, a network or what binds ports holds, where it tells it, and what its calls answer then; what it gave and sent; and its counts.
use Rattle.std.specs.Prelude.{◌≡◌, ℕ, ◌<◌, ◌≤◌, ◌⊎◌, Bool, true, false, List, [], ◌∷◌, ◌++◌, length, take, Option, Some, None, Result, Ok, Err}
use Rattle.mq_addr.specs.declared.addr.Addr.{Addr}
use Rattle.mq_addr.specs.declared.addr.Addr.TheVariants.{V4, V6}
use Rattle.mq_outside.specs.declared.PortGot.{PortGot}
use Rattle.mq_outside.specs.declared.PortGot.TheVariants as got
use Rattle.mq_outside.specs.declared.PortPut.{PortPut}
use Rattle.mq_outside.specs.declared.PortPut.TheVariants as put
use Rattle.mq_outside.specs.declared.ports.Binding.{Binding}
use Rattle.mq_outside.specs.Counts.{risen, PortCounts}

-- the datagrams of a port, or the packets of a network, that arrived and weren't received, and what the next calls answer
pub record PortHolds : Type 0 where
  pub arrived : List (List ℕ)
  pub send_fails : Bool
  pub send_waits : Bool
  pub receive_fails : Bool

abbrev pub empty_port : PortHolds
empty_port = record { arrived = []; send_fails = false; send_waits = false; receive_fails = false }

-- ---- sends

-- one send
abbrev pub PortSends : Option PortHolds → Option PortHolds → PortPut → Type 0
PortSends None after answer = after ≡ None
PortSends (Some holds) after put.Sent = (holds.send_fails ≡ false) × (holds.send_waits ≡ false) × (after ≡ Some holds)
PortSends (Some holds) after put.NotNow = (holds.send_fails ≡ false) × (holds.send_waits ≡ true) × (after ≡ Some holds)
PortSends (Some holds) after put.Failed = (holds.send_fails ≡ true) × (after ≡ Some (record holds { send_fails = false }))

-- a count rises exactly where a send answered so
abbrev pub after_send : PortCounts → PortPut → PortCounts
after_send counts put.Sent = counts
after_send counts put.NotNow = record counts { send_waits = risen counts.send_waits }
after_send counts put.Failed = record counts { faults = risen counts.faults }

-- ---- receives

-- a receive gave the first of what arrived, whole
pub record Receives (holds : PortHolds) (after : Option PortHolds) (buffer : List ℕ) (count : ℕ) : Type 0 where
  pub others : List (List ℕ)
  pub works : holds.receive_fails ≡ false
  pub arrived_are : holds.arrived ≡ take count buffer ∷ others
  pub after_is : after ≡ Some (record holds { arrived = others })

-- one receive into a buffer
abbrev pub PortReceives : Option PortHolds → Option PortHolds → List ℕ → PortGot → Type 0
PortReceives None after buffer answer = after ≡ None
PortReceives (Some holds) after buffer (got.Datagram count) = Receives holds after buffer count
PortReceives (Some holds) after buffer got.NotNow = (holds.receive_fails ≡ false) × (holds.arrived ≡ []) × (after ≡ Some holds)
PortReceives (Some holds) after buffer got.Failed = (holds.receive_fails ≡ true) × (after ≡ Some holds)

-- what is received is within the buffer, and no longer than a datagram can be
abbrev pub IsWithin : List ℕ → PortGot → Type 0
IsWithin buffer (got.Datagram count) = (count ≤ length buffer) × (count ≤ 65535)
IsWithin buffer got.NotNow = Unit {0}
IsWithin buffer got.Failed = Unit {0}

-- a count rises exactly where a receive answered so
abbrev pub after_receive : PortCounts → PortGot → PortCounts
after_receive counts (got.Datagram count) = counts
after_receive counts got.NotNow = record counts { receive_waits = risen counts.receive_waits }
after_receive counts got.Failed = record counts { faults = risen counts.faults }

-- ---- what it gave and sent

-- the datagrams or packets that it gave and sent, in order, where it tells these
pub record PortPast : Type 0 where
  pub gave : Option (List (List ℕ))
  pub sent : Option (List (List ℕ))

abbrev pub with_last : Option (List (List ℕ)) → List ℕ → Option (List (List ℕ))
with_last None datagram = None
with_last (Some earlier) datagram = Some (earlier ++ datagram ∷ [])

abbrev pub past_sent : PortPast → List ℕ → PortPut → PortPast
past_sent past datagram put.Sent = record past { sent = with_last past.sent datagram }
past_sent past datagram put.NotNow = past
past_sent past datagram put.Failed = past

abbrev pub past_received : PortPast → List ℕ → PortGot → PortPast
past_received past buffer (got.Datagram count) = record past { gave = with_last past.gave (take count buffer) }
past_received past buffer got.NotNow = past
past_received past buffer got.Failed = past

-- nothing was given or sent yet
abbrev pub IsNothing : Option (List (List ℕ)) → Type 0
IsNothing None = Unit {0}
IsNothing (Some list) = list ≡ []

-- ---- what binds ports

-- The longest payload of a UDP datagram: a packet has at most 65,535 bytes, of which the UDP header takes 8 (RFC 768), and in
-- IPv4 the IP header at least 20 more (RFC 791, section 3.1); the length in an IPv6 header leaves that header out (RFC 8200, section 3).
abbrev pub limit_of : Addr → ℕ
limit_of (V4 bits) = 65507
limit_of (V6 bits) = 65527

-- what the next binds answer
pub record PortsHolds : Type 0 where
  pub bind_fails : Bool
  -- what the ports hold that are bound from now on, where that is told; without a list each is empty
  pub ports : Option (List (Option PortHolds))

-- what the next port holds, if there is one, and the ports behind it
abbrev pub next_port : Option (List (Option PortHolds)) → Option (Option PortHolds)
next_port None = Some (Some empty_port)
next_port (Some []) = None
next_port (Some (first ∷ others)) = Some first

abbrev pub ports_behind : Option (List (Option PortHolds)) → Option (List (Option PortHolds))
ports_behind None = None
ports_behind (Some []) = Some []
ports_behind (Some (first ∷ others)) = Some others

-- one bind, and what the bound port holds
abbrev pub PortsBind : {P F : Type 0} → (P → Option PortHolds) → Option PortsHolds → Option PortsHolds → Result P F → Type 0
PortsBind contents None after answer = after ≡ None
PortsBind contents (Some holds) after (Ok port) =
    (holds.bind_fails ≡ false) × (next_port holds.ports ≡ Some (contents port)) × (after ≡ Some (record holds { ports = ports_behind holds.ports }))
PortsBind contents (Some holds) after (Err fault) =
    ((holds.bind_fails ≡ true) ⊎ (next_port holds.ports ≡ None)) × (after ≡ Some (record holds { bind_fails = false }))

-- the faults rise exactly where a bind failed
abbrev pub after_bind : {P F : Type 0} → ℕ → Result P F → ℕ
after_bind faults (Ok port) = faults
after_bind faults (Err fault) = risen faults

-- a port that was handed back: at which place among those that were bound it is, and what it gave and sent
pub record Retired : Type 0 where
  pub place : Option ℕ
  pub past : PortPast

-- what was bound and what was handed back, in order
pub record PortsPast : Type 0 where
  pub bound : List Binding
  pub retired : List Retired

abbrev pub past_bound : {P F : Type 0} → Option PortsPast → Binding → Result P F → Option PortsPast
past_bound None binding answer = None
past_bound (Some past) binding (Ok port) = Some (record past { bound = past.bound ++ binding ∷ [] })
past_bound (Some past) binding (Err fault) = Some past

-- fewer were handed back than were bound
abbrev pub CanRetire : Option PortsPast → Type 0
CanRetire None = Unit {0}
CanRetire (Some past) = length past.retired < length past.bound

abbrev pub past_retired : Option PortsPast → Retired → Option PortsPast
past_retired None port = None
past_retired (Some past) port = Some (record past { retired = past.retired ++ port ∷ [] })

-- the place of the next port among those that are bound
abbrev pub next_place : Option PortsPast → Option ℕ
next_place None = None
next_place (Some past) = Some (length past.bound)
