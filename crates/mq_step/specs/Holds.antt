-- For which state of the machine a connection with its link and its ports stands, whatever these hold.
use Rattle.std.specs.Prelude.{◌≡◌, ◌≢◌, ⊤, ◌⊎◌, ℕ, ◌+◌, ◌<◌, ◌≤◌, List, [], ◌∷◌, ◌++◌, length, flat_map, map, All, Option, Some, None, MatchOption}
use Rattle.std.specs.Vec.{vec_len, vec_capacity}
use Rattle.slab.specs.Slab.{Slab, get}
use Rattle.mq_outside.specs.Ports.{limit_of}
use Rattle.mq_talk.specs.declared.book.Call.TheVariants as call
use Rattle.mq_talk.specs.declared.goal.Goal.{Goal}
use Rattle.mq_talk.specs.declared.goal.Goal.TheVariants as goal
use Rattle.mq_talk.specs.declared.note.End.{End}
use Rattle.mq_talk.specs.Mails.{Boxes, Inboxes}
use Rattle.mq_talk.specs.Offices.{IsSound, Seen}
use Rattle.mq_machine.specs.Placing.{ArePlaced}
use Rattle.mq_machine.specs.State.{Tunnel, Port, Held}
use Rattle.mq_machine.specs.Want.{Want, Nothing, Say, Bind, Ask, Judge, Push, Send, Over, want_of}
use Rattle.mq_machine.specs.Acting.{IsOpen}
use Rattle.mq_conn.specs.Conns.{IsConn}
use Rattle.mq_held.specs.declared.held.Held.{Held as HeldBy}
use Rattle.mq_held.specs.declared.held.PortSeat.{PortSeat}

-- ---- ports

-- the seat's port stands under its key, and takes no longer payloads than a datagram has
pub record IsPort {Q : Type 0} (most : Q → ℕ) (table : Slab Q) (seat : PortSeat) (p : Port) : Type 0 where
  pub tunnel : p.tunnel ≡ seat.tunnel
  pub received : p.received ≡ seat.received
  pub port : Q
  pub at : get table seat.key ≡ Some port
  pub limit : p.limit ≡ most port
  pub small : p.limit ≤ 65535

abbrev pub ArePorts : {Q : Type 0} → (Q → ℕ) → Slab Q → List PortSeat → List Port → Type 0
ArePorts most table [] [] = ⊤
ArePorts most table [] (p ∷ ports) = ⊥
ArePorts most table (seat ∷ seats) [] = ⊥
ArePorts most table (seat ∷ seats) (p ∷ ports) = IsPort most table seat p × ArePorts most table seats ports

abbrev pub tunnels_of : List Port → List ℕ
tunnels_of ports = map (λ (p : Port). p.tunnel) ports

-- the number of a tunnel for UDP, which has a port
abbrev pub port_number : Goal → ℕ → List ℕ
port_number (goal.Udp addr port) id = id ∷ []
port_number (goal.Ip area protocol) id = []

-- those of all tunnels for UDP
abbrev pub numbers_of : List Tunnel → List ℕ
numbers_of tunnels = flat_map (λ (t : Tunnel). port_number t.goal t.id) tunnels

-- Each tunnel for UDP has its port, and each port its tunnel. On a connection that is ending, the last tunnel may be one for whose
-- opening there was no memory: it has no port.
abbrev pub AreServed : Option End → List Tunnel → List Port → Type 0
AreServed None tunnels ports = tunnels_of ports ≡ numbers_of tunnels
AreServed (Some why) tunnels ports = (tunnels_of ports ≡ numbers_of tunnels) ⊎ ((last : ℕ) × (numbers_of tunnels ≡ tunnels_of ports ++ last ∷ []))

-- no two seats have their tunnel or their key in common
abbrev pub IsApartFrom : PortSeat → PortSeat → Type 0
IsApartFrom a b = (b.tunnel ≢ a.tunnel) × (b.key ≢ a.key)

abbrev pub SeatsApart : List PortSeat → Type 0
SeatsApart [] = ⊤
SeatsApart (seat ∷ seats) = All (IsApartFrom seat) seats × SeatsApart seats

-- ---- the port of a tunnel that is to open

-- a port stands under this key, for this address, and no seat has the key
pub record IsReady {Q : Type 0} (most : Q → ℕ) (table : Slab Q) (limit key : ℕ) (seats : List PortSeat) : Type 0 where
  pub port : Q
  pub at : get table key ≡ Some port
  pub limit_is : most port ≡ limit
  pub apart : All (λ seat. seat.key ≢ key) seats

-- A port is bound for a tunnel exactly while the connection wants to open that.
abbrev pub IsBound : {Q : Type 0} → (Q → ℕ) → Slab Q → List PortSeat → Want → Option ℕ → Type 0
IsBound most table seats (Ask (call.Open conn stream actor (goal.Udp addr number))) (Some key) = IsReady most table (limit_of addr) key seats
IsBound most table seats (Ask (call.Open conn stream actor (goal.Udp addr number))) None = ⊥
IsBound most table seats (Ask (call.Open conn stream actor (goal.Ip area protocol))) bound = bound ≡ None
IsBound most table seats (Ask (call.Assign tunnel asked)) bound = bound ≡ None
IsBound most table seats (Ask (call.Advertise tunnel ranges)) bound = bound ≡ None
IsBound most table seats (Ask (call.Close tunnel)) bound = bound ≡ None
IsBound most table seats Nothing bound = bound ≡ None
IsBound most table seats Say bound = bound ≡ None
IsBound most table seats (Bind stream goal) bound = bound ≡ None
IsBound most table seats (Judge tunnel n flow) bound = bound ≡ None
IsBound most table seats (Push parcel) bound = bound ≡ None
IsBound most table seats (Send tunnel n payload) bound = bound ≡ None
IsBound most table seats (Over why) bound = bound ≡ None

-- there is room for the seat of a port that is bound
abbrev pub HasRoom : {L : Type 0} → HeldBy L → Type 0
HasRoom h = MatchOption h.bound ⊤ (λ key. vec_len h.ports < vec_capacity h.ports)

-- ---- the connection

pub record IsHeld {L Q : Type 0} (most : Q → ℕ) (table : Slab Q) (h : HeldBy L) (s : Held) : Type 0 where
  pub conn : IsConn h.conn s.conn
  pub number : s.conn.number ≡ h.number
  pub ports : ArePorts most table h.ports.items s.ports
  pub apart : SeatsApart h.ports.items
  pub served : AreServed s.conn.ending s.conn.tunnels s.ports
  pub bound : IsBound most table h.ports.items (want_of s.conn) h.bound
  pub room : HasRoom h

-- Its office saw a legal history, its actor has a place in the book, its tunnels are live by what was seen, as this actor opened
-- them, and each packet that it is to push has an inbox.
pub record IsKnown (seen : Seen) (actor : ℕ) (s : Held) : Type 0 where
  pub sound : IsSound seen
  pub worker : actor < seen.config.workers
  pub actor_is : s.conn.actor ≡ actor
  pub tunnels : All (λ (t : Tunnel). IsOpen seen.entries actor t.id s.conn.number t.stream t.goal) s.conn.tunnels
  pub places : ArePlaced seen.config.workers s.conn.due

-- there is an inbox for each worker, and one for the pump
pub record HasInboxes (seen : Seen) (count : ℕ) (mail : Inboxes) : Type 0 where
  pub count_is : count ≡ seen.config.workers + 1
  pub size : (boxes : Boxes) → mail.told ≡ Some boxes → length boxes ≡ count

-- ---- the ports of other connections

-- the key is that of another connection's port
pub record IsOther (seats : List PortSeat) (bound : Option ℕ) (key : ℕ) : Type 0 where
  pub seats_are : All (λ (seat : PortSeat). seat.key ≢ key) seats
  pub bound_is : bound ≢ Some key

-- the ports of other connections stay as they are
abbrev pub KeepsOthers : {L Q : Type 0} → HeldBy L → HeldBy L → Slab Q → Slab Q → Type 0
KeepsOthers {L} {Q} old new table after =
    (key : ℕ) (port : Q) → get table key ≡ Some port → IsOther old.ports.items old.bound key → (get after key ≡ Some port) × IsOther new.ports.items new.bound key

-- ---- seats

-- The seats behind an opening: the port that is bound has the last, where a tunnel opened.
abbrev pub Seats : Option ℕ → List PortSeat → Option ℕ → List PortSeat → Type 0
Seats None seats bound after = after ≡ seats
Seats (Some tunnel) seats None after = after ≡ seats
Seats (Some tunnel) seats (Some key) after = after ≡ seats ++ record { tunnel = tunnel; key = key; received = 0 } ∷ []
