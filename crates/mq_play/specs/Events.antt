-- What happens to the machine beside its steps, and the state that it begins with.
use Rattle.std.specs.Prelude.{ℕ, zero, suc, ◌+◌, ◌==◌, ◌||◌, Bool, true, false, not, List, [], ◌∷◌, ◌++◌, map, length, replicate, slice_get, nat_lt, nat_le, if◌then◌else◌, Option, Some, None}
use Rattle.mq_talk.specs.declared.book.Call.{Call}
use Rattle.mq_talk.specs.declared.book.Call.TheVariants as call
use Rattle.mq_talk.specs.declared.book.Entry.{Entry}
use Rattle.mq_talk.specs.declared.goal.Goal.TheVariants as goal
use Rattle.mq_outside.specs.Nets.{NetHolds, by_itself}
use Rattle.mq_machine.specs.declared.event.Event.{Event}
use Rattle.mq_machine.specs.declared.event.Event.TheVariants as event
use Rattle.mq_machine.specs.declared.setup.Setup.{Setup}
use Rattle.mq_machine.specs.State.{Link, new_link, Port, new_net, Offer, Held, Worker, new_worker, with_offer, Told, State}
use Rattle.mq_machine.specs.Shared.{at_port}
use Rattle.mq_play.specs.declared.plan.Plan.{Plan}

-- ---- the beginning

-- so many workers, numbered from 0
abbrev pub new_workers : Setup → ℕ → List Worker
new_workers setup zero = []
new_workers setup (suc count) = new_workers setup count ++ new_worker count setup ∷ []

-- no link was offered, and every inbox is empty: one for each worker, and the pump's
abbrev pub state_of : Plan → State
state_of plan = record {
  links = [];
  workers = new_workers plan.setup plan.workers;
  pump = record { mtu = plan.setup.mtu; to_push = None; to_send = None; net = new_net plan.hosts };
  shared = record { config = plan.book; book = []; boxes = replicate (plan.workers + 1) []; orders = record { bind = false } };
}

-- ---- what happens

-- a link changes, wherever it is: offered, or a connection's; if its connection has ended it is nowhere
abbrev pub at_offer : ℕ → (Link → Link) → Offer → Offer
at_offer conn change o = if o.number == conn then record o { link = change o.link } else o

abbrev pub at_held : ℕ → (Link → Link) → Held → Held
at_held conn change h = if h.conn.number == conn then record h { link = change h.link } else h

abbrev pub at_worker : ℕ → (Link → Link) → Worker → Worker
at_worker conn change w = record w { offered = map (at_offer conn change) w.offered; conns = map (at_held conn change) w.conns }

abbrev pub at_link : ℕ → (Link → Link) → State → State
at_link conn change s = record s { workers = map (at_worker conn change) s.workers }

-- the port of a tunnel changes, if it is live
abbrev pub with_ports : ℕ → (Port → Port) → Held → Held
with_ports tunnel change h = record h { ports = at_port tunnel change h.ports }

abbrev pub with_held_ports : ℕ → (Port → Port) → Worker → Worker
with_held_ports tunnel change w = record w { conns = map (with_ports tunnel change) w.conns }

abbrev pub with_port : ℕ → (Port → Port) → State → State
with_port tunnel change s = record s { workers = map (with_held_ports tunnel change) s.workers }

abbrev pub with_net : (NetHolds → NetHolds) → State → State
with_net change s = record s { pump = record s.pump { net = record s.pump.net { holds = change s.pump.net.holds } } }

-- a new link is offered
abbrev pub offered_to : ℕ → ℕ → List Worker → List Worker
offered_to actor number [] = []
offered_to zero number (w ∷ ws) = with_offer number new_link w ∷ ws
offered_to (suc actor) number (w ∷ ws) = w ∷ offered_to actor number ws

-- what the script said of a link
abbrev pub ended_at : ℕ → List Told → List Told
ended_at conn [] = []
ended_at zero (t ∷ ts) = record t { is_ended = true } ∷ ts
ended_at (suc conn) (t ∷ ts) = t ∷ ended_at conn ts

abbrev pub happen : State → Event → State
happen s (event.Conn actor) = record s {
  links = s.links ++ record { worker = actor; is_ended = false } ∷ [];
  workers = offered_to actor (length s.links) s.workers;
}
happen s (event.Piece conn bytes) = at_link conn (λ (l : Link). record l { pieces = l.pieces ++ bytes ∷ [] }) s
happen s (event.End conn) = at_link conn (λ (l : Link). record l { is_ended = true }) (record s { links = ended_at conn s.links })
happen s (event.Room conn room) = at_link conn (λ (l : Link). record l { room = room }) s
happen s (event.FailRead conn) = at_link conn (λ (l : Link). record l { read_fails = true }) s
happen s (event.FailWrite conn) = at_link conn (λ (l : Link). record l { write_fails = true }) s
happen s (event.Datagram tunnel bytes) = with_port tunnel (λ (p : Port). record p { arrived = p.arrived ++ bytes ∷ [] }) s
happen s (event.FailPort tunnel) = with_port tunnel (λ (p : Port). record p { send_fails = true }) s
happen s event.FailBind = record s { shared = record s.shared { orders = record { bind = true } } }
happen s event.FailNet = with_net (λ (h : NetHolds). record h { send_fails = true }) s
happen s (event.Packet count bytes) = with_net (λ (h : NetHolds). record h { arrived = h.arrived ++ replicate count (by_itself bytes) }) s
happen s (event.Step actor) = s

-- ---- what never was

-- the most links of a script
abbrev pub most_links : ℕ
most_links = 65536

-- it was said that the link ends, or there was no such link
abbrev pub is_ended : List Told → ℕ → Bool
is_ended [] conn = true
is_ended (t ∷ ts) zero = t.is_ended
is_ended (t ∷ ts) (suc conn) = is_ended ts conn

-- the entry opened a tunnel for UDP
abbrev pub opens_port : Option Entry → Bool
opens_port None = false
opens_port (Some e) = by_call e.call where
  by_call : Call → Bool
  by_call (call.Open conn stream actor (goal.Udp addr port)) = true
  by_call call = false

abbrev pub has_link : State → ℕ → Bool
has_link s conn = nat_lt conn (length s.links)

-- The event names what never was, or is a piece behind the end of its link, or one link too many. The number of the network's
-- actor is the count of workers.
abbrev pub is_missing : State → Event → Bool
is_missing s (event.Conn actor) = nat_le (length s.workers) actor || nat_le most_links (length s.links)
is_missing s (event.Piece conn bytes) = is_ended s.links conn
is_missing s (event.End conn) = not (has_link s conn)
is_missing s (event.Room conn room) = not (has_link s conn)
is_missing s (event.FailRead conn) = not (has_link s conn)
is_missing s (event.FailWrite conn) = not (has_link s conn)
is_missing s (event.Datagram tunnel bytes) = not (opens_port (slice_get s.shared.book tunnel))
is_missing s (event.FailPort tunnel) = not (opens_port (slice_get s.shared.book tunnel))
is_missing s event.FailBind = false
is_missing s event.FailNet = false
is_missing s (event.Packet count bytes) = false
is_missing s (event.Step actor) = nat_lt (length s.workers) actor
