-- Ports, a network and what binds ports, in memory, and what their calls answer.
use Rattle.std.specs.Prelude.{◌≡◌, ℕ, ◌-◌, ◌≤◌, ◌||◌, if◌then◌else◌, Bool, true, false, not, nat_lt, List, [], ◌∷◌, ◌++◌, length, take, drop, map, slice_get, Option, Some, None, is_some, Result, Ok, Err}
use Rattle.std.specs.Option.{option_map}
use Rattle.std.specs.List.{All}
use Rattle.mq_outside.specs.declared.PortGot.{PortGot}
use Rattle.mq_outside.specs.declared.PortGot.TheVariants as got
use Rattle.mq_outside.specs.declared.PortPut.{PortPut}
use Rattle.mq_outside.specs.declared.PortPut.TheVariants as put
use Rattle.mq_outside.specs.declared.ports.Binding.{Binding}
use Rattle.mq_outside.specs.Counts.{PortCounts, no_port_counts, risen}
use Rattle.mq_outside.specs.Ports.{PortHolds, PortPast, PortsHolds, PortsPast, Retired, limit_of, after_send, after_receive}
use Rattle.mq_mem.specs.Calls.{Calls, no_calls, is_listed, called}
use Rattle.mq_mem.specs.Links.{tells}

-- ---- what a port and a network have in common

pub record Queue : Type 0 where
  -- oldest first
  pub arrived : List (List ℕ)
  pub send_fails : Bool
  -- how many bytes can still be sent, where that is limited
  pub room : Option ℕ
  pub calls : Calls
  pub counts : PortCounts

-- nothing was received or sent yet
abbrev pub new_queue : List (List ℕ) → Option ℕ → List ℕ → Queue
new_queue arrived room fails = record { arrived = arrived; send_fails = false; room = room; calls = no_calls fails; counts = no_port_counts }

-- no datagram and no packet is longer
abbrev pub AllShort : List (List ℕ) → Type 0
AllShort arrived = All (λ (datagram : List ℕ). length datagram ≤ 65535) arrived

abbrev pub holds_of : Queue → PortHolds
holds_of q = record { arrived = q.arrived; send_fails = q.send_fails; send_waits = false; receive_fails = false }

abbrev pub told : Queue → Option PortHolds
told q = tells q.calls.fails q.room (holds_of q)

abbrev pub no_past : PortPast
no_past = record { gave = None; sent = None }

-- so many bytes don't fit any more
abbrev pub is_above : Option ℕ → ℕ → Bool
is_above None size = false
is_above (Some room) size = nat_lt room size

-- what a send of so many bytes answers
abbrev pub put_of : Queue → ℕ → PortPut
put_of q size = if is_listed q.calls || q.send_fails || is_above q.room size then put.Failed else put.Sent

abbrev pub less : Option ℕ → ℕ → Option ℕ
less None size = None
less (Some room) size = Some (room - size)

abbrev pub room_after : Option ℕ → ℕ → PortPut → Option ℕ
room_after room size put.Sent = less room size
room_after room size put.NotNow = room
room_after room size put.Failed = room

abbrev pub order_left : Bool → PortPut → Bool
order_left ordered put.Sent = ordered
order_left ordered put.NotNow = ordered
order_left ordered put.Failed = false

abbrev pub after_put : Queue → ℕ → PortPut → Queue
after_put q size answer = record q {
  send_fails = order_left q.send_fails answer;
  room = room_after q.room size answer;
  calls = called q.calls;
  counts = after_send q.counts answer;
}

-- what a receive answers
abbrev pub got_first : List (List ℕ) → PortGot
got_first [] = got.NotNow
got_first (first ∷ others) = got.Datagram (length first)

abbrev pub got_of : Queue → PortGot
got_of q = if is_listed q.calls then got.Failed else got_first q.arrived

abbrev pub behind_first : List (List ℕ) → List (List ℕ)
behind_first [] = []
behind_first (first ∷ others) = others

abbrev pub arrived_after : List (List ℕ) → PortGot → List (List ℕ)
arrived_after arrived (got.Datagram count) = behind_first arrived
arrived_after arrived got.NotNow = arrived
arrived_after arrived got.Failed = arrived

abbrev pub after_got : Queue → PortGot → Queue
after_got q answer = record q { arrived = arrived_after q.arrived answer; calls = called q.calls; counts = after_receive q.counts answer }

-- the datagram that was received
abbrev pub first_is : List (List ℕ) → List ℕ → Type 0
first_is [] datagram = ⊥
first_is (first ∷ others) datagram = datagram ≡ first

abbrev pub GotDatagram : List (List ℕ) → List ℕ → PortGot → Type 0
GotDatagram arrived buffer (got.Datagram count) = (count ≤ 65535) × first_is arrived (take count buffer)
GotDatagram arrived buffer got.NotNow = Unit {0}
GotDatagram arrived buffer got.Failed = Unit {0}

-- a receive would now answer something other than NotNow
abbrev pub would_receive : Queue → Bool
would_receive q = is_listed q.calls || nat_lt 0 (length q.arrived)

-- ---- a port

pub record Port : Type 0 where
  pub queue : Queue
  -- the longest payload that it takes
  pub most : ℕ
  -- at which place it is among the ports that were bound, where it tells that
  pub place : Option ℕ

abbrev pub with_queue : Port → Queue → Port
with_queue p queue = record p { queue = queue }

-- ---- what binds ports

-- ports that are bound one after the other, what was bound, and what was handed back, in order
pub record Stock : Type 0 where
  pub coming : List Port
  pub bound : List Binding
  pub retired : List Port

pub record Ports : Type 0 where
  pub bind_fails : Bool
  -- without a stock each bind gives an empty port
  pub stock : Option Stock
  pub calls : Calls
  pub faults : ℕ

abbrev pub stock_of : List Port → Stock
stock_of coming = record { coming = coming; bound = []; retired = [] }

abbrev pub new_ports : Option (List Port) → List ℕ → Ports
new_ports ports fails = record { bind_fails = false; stock = option_map stock_of ports; calls = no_calls fails; faults = 0 }

abbrev pub told_of : Port → Option PortHolds
told_of p = told p.queue

abbrev pub coming_of : Option Stock → Option (List (Option PortHolds))
coming_of None = None
coming_of (Some stock) = Some (map told_of stock.coming)

abbrev pub tells_ports : List ℕ → PortsHolds → Option PortsHolds
tells_ports [] holds = Some holds
tells_ports (n ∷ ns) holds = None

abbrev pub told_ports : Ports → Option PortsHolds
told_ports p = tells_ports p.calls.fails (record { bind_fails = p.bind_fails; ports = coming_of p.stock })

abbrev pub retired_of : Port → Retired
retired_of p = record { place = p.place; past = no_past }

abbrev pub ports_past : Option Stock → Option PortsPast
ports_past None = None
ports_past (Some stock) = Some (record { bound = stock.bound; retired = map retired_of stock.retired })

-- a port as it is handed out: bound at this place, with this limit, and no call counted
abbrev pub handed_out : ℕ → Option ℕ → Port → Port
handed_out most place p = record { queue = record p.queue { counts = no_port_counts }; most = most; place = place }

-- ---- which port a bind gives, if it gives one

abbrev pub next_of : Option Stock → Option Port
next_of None = Some (record { queue = new_queue [] None []; most = 65507; place = None })
next_of (Some stock) = slice_get stock.coming 0

abbrev pub place_of : Option Stock → Option ℕ
place_of None = None
place_of (Some stock) = Some (length stock.bound)

abbrev pub stock_bound : Option Stock → Binding → Option Stock
stock_bound None binding = None
stock_bound (Some stock) binding = Some (record stock { coming = drop 1 stock.coming; bound = stock.bound ++ binding ∷ [] })

-- a bind fails where its number is listed, where that was ordered, or where no port is left
abbrev pub bind_fails : Ports → Bool
bind_fails p = is_listed p.calls || p.bind_fails || not (is_some (next_of p.stock))

abbrev pub after_bind : {F : Type 0} → Ports → Binding → Result Port F → Ports
after_bind p binding (Ok port) = record p { stock = stock_bound p.stock binding; calls = called p.calls }
after_bind p binding (Err fault) = record p { bind_fails = false; calls = called p.calls; faults = risen p.faults }

abbrev pub Binds : {F : Type 0} → Ports → Binding → Result Port F → Type 0
Binds p binding (Ok port) = (bind_fails p ≡ false) × (option_map (handed_out (limit_of binding.addr) (place_of p.stock)) (next_of p.stock) ≡ Some port)
Binds p binding (Err fault) = bind_fails p ≡ true

abbrev pub stock_retired : Option Stock → Port → Option Stock
stock_retired None port = None
stock_retired (Some stock) port = Some (if nat_lt (length stock.retired) (length stock.bound) then record stock { retired = stock.retired ++ port ∷ [] } else stock)
