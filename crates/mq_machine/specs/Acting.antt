-- The contract of a worker's step over any office, any mail, and links and ports that may tell nothing.
use Rattle.std.specs.Prelude.{◌≡◌, ◌≢◌, ◌↔◌, ◌⊎◌, ⊤, ℕ, ◌+◌, ◌<◌, ◌≤◌, ◌||◌, Bool, true, false, not, List, [], ◌∷◌, ◌++◌, map, length, All, Contains, take_while, slice_get, Option, Some, None, is_some, Result, Ok, Err}
use Rattle.mq_wire.specs.declared.NoMemory.{NoMemory}
use Rattle.mq_talk.specs.declared.book.Call.TheVariants as call
use Rattle.mq_talk.specs.declared.book.Reply.TheVariants as reply
use Rattle.mq_talk.specs.declared.book.Entry.{Entry}
use Rattle.mq_talk.specs.declared.goal.Goal.{Goal}
use Rattle.mq_talk.specs.declared.note.Note.{Note}
use Rattle.mq_talk.specs.declared.place.Parcel.{Parcel}
use Rattle.mq_talk.specs.Book.{is_live}
use Rattle.mq_talk.specs.Mails.{IsTold, Inboxes, MailMoves}
use Rattle.mq_talk.specs.Offices.{Seen, Sees, IsSame}
use Rattle.mq_outside.specs.Counts.{last_count, risen, risen_by, LinkCounts, PortCounts}
use Rattle.mq_outside.specs.Nets.{NetHolds, net_of}
use Rattle.mq_outside.specs.Ports.{PortHolds, empty_port, PortsHolds, next_port, ports_behind}
use Rattle.mq_machine.specs.State.{Tunnel, Link, new_link, Port, Offer, Held, Worker, Pump, Orders, Shared, owed, held_of}
use Rattle.mq_machine.specs.Placing.{ArePlaced}
use Rattle.mq_machine.specs.Shared.{at_port}
use Rattle.mq_machine.specs.Want.{Want, Nothing, Send, Answer, Bound, Replied, want_of}
use Rattle.mq_machine.specs.Steps.{can_read, framed}
use Rattle.mq_machine.specs.Silent.{Reached, WorkerStarves}
use Rattle.mq_machine.specs.Turn.{Seat, Offers, Inbox, Of, can_act, ring_from, seats_of, turn_of, most_live, SeatNext, WorkerTurn, PumpTurn, pump_try}

-- ---- what an actor sees of the outside

-- what a port holds of the outside
abbrev pub holds_of : Port → PortHolds
holds_of p = record { arrived = p.arrived; send_fails = p.send_fails; send_waits = p.send_waits; receive_fails = p.receive_fails }

abbrev pub holding : PortHolds → Port → Port
holding holds p = record p { arrived = holds.arrived; send_fails = holds.send_fails; send_waits = holds.send_waits; receive_fails = holds.receive_fails }

-- what binds ports: what it holds, where it tells that, and its failures with those of the ports that were handed back
pub record Binder : Type 0 where
  pub holds : Option PortsHolds
  pub faults : ℕ

abbrev pub binder : {P : Type 0} → (P → Option PortsHolds) → (P → ℕ) → P → Binder
binder holds faults ports = record { holds = holds ports; faults = faults ports }

-- what the links of connections and the ports of tunnels hold, where they tell it, and their counts
pub record Outside : Type 0 where
  pub link : (conn : ℕ) → Option Link
  pub link_counts : (conn : ℕ) → LinkCounts
  pub port : (tunnel : ℕ) → Option PortHolds
  pub port_counts : (tunnel : ℕ) → PortCounts
  pub binds : Binder

-- what an actor sees of the outside, its office and its mail
pub record Sight : Type 0 where
  pub outside : Outside
  pub seen : Seen
  -- the inboxes, where the mail tells them, and what went by it
  pub boxes : Inboxes

-- the state has what is told of links and ports
abbrev pub PortsTold : Outside → List Port → Type 0
PortsTold o [] = ⊤
PortsTold o (p ∷ ports) = IsTold (o.port p.tunnel) (holds_of p) × PortsTold o ports

abbrev pub ConnsTold : Outside → List Held → Type 0
ConnsTold o [] = ⊤
ConnsTold o (h ∷ hs) = IsTold (o.link h.conn.number) h.link × PortsTold o h.ports × ConnsTold o hs

abbrev pub OffersTold : Outside → List Offer → Type 0
OffersTold o [] = ⊤
OffersTold o (f ∷ fs) = IsTold (o.link f.number) f.link × OffersTold o fs

abbrev pub HasTold : Outside → Worker → Type 0
HasTold o w = ConnsTold o w.conns × OffersTold o w.offered

-- every link and port of the state tells what the state has
abbrev pub PortsTell : Outside → List Port → Type 0
PortsTell o [] = ⊤
PortsTell o (p ∷ ports) = (o.port p.tunnel ≡ Some (holds_of p)) × PortsTell o ports

abbrev pub ConnsTell : Outside → List Held → Type 0
ConnsTell o [] = ⊤
ConnsTell o (h ∷ hs) = (o.link h.conn.number ≡ Some h.link) × PortsTell o h.ports × ConnsTell o hs

abbrev pub OffersTell : Outside → List Offer → Type 0
OffersTell o [] = ⊤
OffersTell o (f ∷ fs) = (o.link f.number ≡ Some f.link) × OffersTell o fs

abbrev pub TellsAll : Outside → Worker → Type 0
TellsAll o w = ConnsTell o w.conns × OffersTell o w.offered

-- ---- states that differ in what the outside holds alone

abbrev pub bare_port : Port → Port
bare_port p = holding empty_port p

abbrev pub bare_held : Held → Held
bare_held h = record h { link = new_link; ports = map bare_port h.ports }

abbrev pub bare : Worker → Worker
bare w = record w { offered = map (λ (o : Offer). record o { link = new_link }) w.offered; conns = map bare_held w.conns }

-- the state with other contents where nothing is told
pub record Refills (o : Outside) (s t : Worker) : Type 0 where
  pub same : bare t ≡ bare s
  pub told : HasTold o t

-- A port may be prepared: the one of a tunnel that opened in this step holds what the outside had for it, where that is told.
abbrev pub prepared : Option PortHolds → Port → Port
prepared None p = p
prepared (Some holds) p = holding holds p

abbrev pub with_prepared : Outside → Answer → Worker → Worker
with_prepared o (Replied (reply.Opened tunnel routes)) w =
    record w { conns = map (λ (h : Held). record h { ports = at_port tunnel (prepared (o.port tunnel)) h.ports }) w.conns }
with_prepared o answer w = w

-- ---- what is shared

-- What is shared before and after a step fits what an office had seen and what a mail told, and what was ordered. The office has
-- then seen the book that the step left, and what went by the mail is what the step did to the inboxes, told or not.
pub record Shares (old new : Seen) (mail mail_after : Inboxes) (orders : Orders) (sh after : Shared) : Type 0 where
  pub config : sh.config ≡ old.config
  pub same : IsSame old new
  pub book : Sees old sh.book
  pub wrote : new.entries ≡ after.book
  pub boxes : IsTold mail.told sh.boxes
  pub count : length sh.boxes ≡ sh.config.workers + 1
  pub boxes_after : IsTold mail_after.told after.boxes
  pub moves : MailMoves mail mail_after sh.boxes after.boxes
  pub orders_are : sh.orders ≡ orders

abbrev pub Meets : Orders → Sight → Sight → Shared → Shared → Type 0
Meets orders old new sh after = Shares old.seen new.seen old.boxes new.boxes orders sh after

-- what the inbox had when it was tried, which is what sh has where the mail tells
abbrev pub WasInbox : Option (List (List Parcel)) → ℕ → List Parcel → Type 0
WasInbox None id box = ⊤
WasInbox (Some boxes) id box = slice_get boxes id ≡ Some box

-- ---- what was asked in vain

-- a count rose, or stands at its end
abbrev pub Rose : ℕ → ℕ → Type 0
Rose old new = (old < new) ⊎ ((new ≡ old) × (last_count ≤ old))

-- no want could be done: there was none, or it was a send, and its port answered that nothing goes on now
abbrev pub WantWaited : Outside → Outside → Want → Type 0
WantWaited old new Nothing = ⊤
WantWaited old new (Send tunnel n payload) = Rose (old.port_counts tunnel).send_waits (new.port_counts tunnel).send_waits
WantWaited old new want = ⊥

-- A connection had nothing to do, and everything of the outside that could have changed that was asked in vain.
pub record ConnWaited (old new : Outside) (h : Held) : Type 0 where
  pub want : WantWaited old new (want_of h.conn)
  pub frame : framed h.conn ≡ None
  pub write : owed h.conn ≢ [] → Rose (old.link_counts h.conn.number).write_waits (new.link_counts h.conn.number).write_waits
  pub read : can_read h.conn ≡ true → Rose (old.link_counts h.conn.number).read_waits (new.link_counts h.conn.number).read_waits
  pub ports : All (λ (p : Port). Rose (old.port_counts p.tunnel).receive_waits (new.port_counts p.tunnel).receive_waits) h.ports

-- a seat was passed over
abbrev pub SeatWaited : Outside → Outside → Worker → List Parcel → Seat → Type 0
SeatWaited old new w box Offers = (w.offered ≡ []) ⊎ (most_live ≤ length w.conns)
SeatWaited old new w box Inbox = box ≡ []
SeatWaited old new w box (Of conn) = (h : Held) → held_of w conn ≡ Some h → ConnWaited old new h

-- the seats that are tried before this one
abbrev pub seats_before : Worker → List Parcel → List Seat
seats_before w box = take_while (λ seat. not (can_act w box seat)) (ring_from w.next_seat (seats_of w))

-- what binds ports, where a port was handed back that failed so often
abbrev pub handed_back : ℕ → Binder → Binder
handed_back failures old = record old { faults = risen_by failures old.faults }

-- a port failed: its faults rose, or it was handed back with one more
abbrev pub PortFailed : Outside → Outside → ℕ → Type 0
PortFailed old new tunnel =
    Rose (old.port_counts tunnel).faults (new.port_counts tunnel).faults
    ⊎ (new.binds ≡ handed_back (risen (old.port_counts tunnel).faults) old.binds)

-- a link or a port that tells nothing fails only where it failed in this step
pub record FaultsFit (old new : Outside) (w : Worker) : Type 0 where
  pub links : All (λ (h : Held). old.link h.conn.number ≡ None → h.link.read_fails || h.link.write_fails ≡ true → Rose (old.link_counts h.conn.number).faults (new.link_counts h.conn.number).faults) w.conns
  pub ports : All (λ (h : Held). All (λ (p : Port). old.port p.tunnel ≡ None → p.send_fails || p.receive_fails ≡ true → PortFailed old new p.tunnel) h.ports) w.conns

-- what is told of binds allows that one is done, or fails, and what is told then
abbrev pub BindTold : Bool → Option PortsHolds → Option PortsHolds → Type 0
BindTold done None after = after ≡ None
BindTold true (Some holds) after =
    (holds.bind_fails ≡ false) × (after ≡ Some (record holds { ports = ports_behind holds.ports }))
BindTold false (Some holds) after =
    ((holds.bind_fails ≡ true) ⊎ (next_port holds.ports ≡ None)) × (after ≡ Some (record holds { bind_fails = false }))

-- one bind: its failure is counted
abbrev pub failures_of : Bool → ℕ → ℕ
failures_of true faults = faults
failures_of false faults = risen faults

pub record Binds (done : Bool) (old new : Binder) : Type 0 where
  pub told : BindTold done old.holds new.holds
  pub faults : new.faults ≡ failures_of done old.faults

-- a bind is answered as that is told and counted, and nothing else changes what binds hold
abbrev pub BindFits : Outside → Outside → Answer → Type 0
BindFits old new (Bound done) = Binds done old.binds new.binds
BindFits old new answer = new.binds.holds ≡ old.binds.holds

-- ---- what ties a worker to its office

-- a tunnel of this worker, with its connection, stream and goal
pub record HasTunnel (w : Worker) (tunnel conn stream : ℕ) (goal : Goal) : Type 0 where
  pub held : Held
  pub t : Tunnel
  pub at : held_of w conn ≡ Some held
  pub has : Contains held.conn.tunnels t
  pub id : t.id ≡ tunnel
  pub on : t.stream ≡ stream
  pub leads : t.goal ≡ goal

-- a live tunnel that this actor opened
pub record IsOpen (book : List Entry) (actor tunnel conn stream : ℕ) (goal : Goal) : Type 0 where
  pub entry : Entry
  pub at : slice_get book tunnel ≡ Some entry
  pub call : entry.call ≡ call.Open conn stream actor goal
  pub by : entry.actor ≡ actor
  pub live : is_live book tunnel ≡ true

-- The worker's tunnels are those that are live by what its office has seen, and every number that it ever used was seen. There
-- is an inbox for each worker, and one for the pump, and each packet that is to be pushed has its own among them.
pub record Known (sight : Sight) (w : Worker) : Type 0 where
  pub id : w.id < sight.seen.config.workers
  pub pump : w.setup.pump ≡ sight.seen.config.workers
  pub tunnels : (tunnel conn stream : ℕ) (goal : Goal) → HasTunnel w tunnel conn stream goal ↔ IsOpen sight.seen.entries w.id tunnel conn stream goal
  pub last : All (λ (h : Held). h.conn.next_tunnel ≤ length sight.seen.entries) w.conns
  pub places : All (λ (h : Held). ArePlaced sight.seen.config.workers h.conn.due) w.conns
  pub boxes : (boxes : List (List Parcel)) → sight.boxes.told ≡ Some boxes → length boxes ≡ sight.seen.config.workers + 1

-- ---- what a step writes

-- an entry that this actor wrote: a tunnel that it closes is one that it opened
pub record IsOwn (book : List Entry) (actor : ℕ) (e : Entry) : Type 0 where
  pub by : e.actor ≡ actor
  pub keeps : (tunnel : ℕ) → e.call ≡ call.Close tunnel → (opener : Entry) × (slice_get book tunnel ≡ Some opener) × (opener.actor ≡ actor)

-- Others wrote what the office had not seen, and behind that this actor wrote one entry at most.
pub record Writes (old new : Seen) (actor : ℕ) : Type 0 where
  pub book : List Entry
  pub own : List Entry
  pub sees : Sees old book
  pub wrote : new.entries ≡ book ++ own
  pub few : length own ≤ 1
  pub mine : All (IsOwn book actor) own

-- ---- the step

-- The step gave this note: of the worker with contents with which what the outside answered fits, it is the turn.
pub record StepDone (orders : Orders) (old new : Sight) (s : Worker) (note : Note) (t : Worker) : Type 0 where
  pub now : Worker
  pub box : List Parcel
  pub seat : Seat
  pub answer : Answer
  pub sh : Shared
  pub after : Shared
  pub refills : Refills old.outside s now
  pub was : WasInbox old.boxes.told s.id box
  pub meets : Meets orders old new sh after
  pub turn : turn_of now box ≡ Some seat
  pub waited : All (SeatWaited old.outside new.outside now box) (seats_before now box)
  pub faults : FaultsFit old.outside new.outside now
  pub binds : BindFits old.outside new.outside answer
  pub became : Worker
  pub next : SeatNext now sh seat answer note became after
  pub is : t ≡ with_prepared new.outside answer became

-- what is told of links and ports stays
pub record TellsSame (old new : Outside) (w : Worker) : Type 0 where
  pub links : All (λ (h : Held). new.link h.conn.number ≡ old.link h.conn.number) w.conns
  pub ports : All (λ (h : Held). All (λ (p : Port). new.port p.tunnel ≡ old.port p.tunnel) h.ports) w.conns
  pub offers : All (λ (f : Offer). new.link f.number ≡ old.link f.number) w.offered

-- The step gave no note: with contents with which what the outside answered fits, no seat has a turn. Each was passed over, the
-- book is the same, and so is all that is told.
pub record StepQuiet (old new : Sight) (s : Worker) (t : Worker) : Type 0 where
  pub now : Worker
  pub box : List Parcel
  pub refills : Refills old.outside s now
  pub was : WasInbox old.boxes.told s.id box
  pub none : turn_of now box ≡ None
  pub waited : All (SeatWaited old.outside new.outside s box) (seats_of s)
  pub seen : new.seen ≡ old.seen
  pub outside : TellsSame old.outside new.outside s
  pub binds : new.outside.binds ≡ old.outside.binds
  pub boxes : new.boxes ≡ old.boxes
  pub same : bare t ≡ bare s

-- The step was refused memory when it had come so far.
pub record StepSilent (orders : Orders) (old new : Sight) (s : Worker) (t : Worker) : Type 0 where
  pub now : Worker
  pub box : List Parcel
  pub answer : Answer
  pub sh : Shared
  pub after : Shared
  pub reached : Reached
  pub refills : Refills old.outside s now
  pub was : WasInbox old.boxes.told s.id box
  pub meets : Meets orders old new sh after
  pub binds : BindFits old.outside new.outside answer
  pub starves : WorkerStarves now box sh reached answer t after

abbrev pub StepGives : Orders → Sight → Sight → Worker → Result (Option Note) NoMemory → Worker → Type 0
StepGives orders old new s (Ok (Some note)) t = StepDone orders old new s note t
StepGives orders old new s (Ok None) t = StepQuiet old new s t
StepGives orders old new s (Err fault) t = StepSilent orders old new s t

-- What `step` promises of a worker's actor, whatever was ordered: for each state for which it stood, and whose tunnels the office knows, it stands
-- for one to which this step leads, whose tunnels the office knows, and what it wrote is its own. The value's words are `stands`, which leaves out what links
-- and ports hold that don't tell it, and its sight.
abbrev pub Steps : (before after : Worker → Type 0) (old new : Sight) (result : Result (Option Note) NoMemory) → Type 0
Steps before after old new result =
    (orders : Orders) (s : Worker) → before s → Known old s → (t : Worker) × after t × HasTold new.outside t × Known new t × Writes old.seen new.seen s.id × StepGives orders old new s result t

-- ---- where all is told

-- what is shared, where the office sees the whole book and the mail tells its inboxes
abbrev pub shared_of : Seen → List (List Parcel) → Orders → Shared
shared_of seen boxes orders = record { config = seen.config; book = seen.entries; boxes = boxes; orders = orders }

-- the office and the mail behind a step
pub record Leaves (old new : Sight) (after : Shared) : Type 0 where
  pub same : IsSame old.seen new.seen
  pub wrote : new.seen.entries ≡ after.book
  pub boxes : IsTold new.boxes.told after.boxes

-- The step was the worker's turn.
pub record PlainDone (orders : Orders) (old new : Sight) (boxes : List (List Parcel)) (s : Worker) (note : Note) (t : Worker) : Type 0 where
  pub box : List Parcel
  pub answer : Answer
  pub after : Shared
  pub became : Worker
  pub was : slice_get boxes s.id ≡ Some box
  pub turn : WorkerTurn s box (shared_of old.seen boxes orders) answer note became after
  pub leaves : Leaves old new after
  pub binds : BindFits old.outside new.outside answer
  pub is : t ≡ with_prepared new.outside answer became

-- The worker had no turn, and nothing changed.
pub record PlainQuiet (old new : Sight) (boxes : List (List Parcel)) (s : Worker) (t : Worker) : Type 0 where
  pub box : List Parcel
  pub was : slice_get boxes s.id ≡ Some box
  pub none : turn_of s box ≡ None
  pub seen : new.seen ≡ old.seen
  pub boxes_after : IsTold new.boxes.told boxes
  pub binds : new.outside.binds ≡ old.outside.binds
  pub same : t ≡ s

-- Whose turn it was was refused memory.
pub record PlainSilent (orders : Orders) (old new : Sight) (boxes : List (List Parcel)) (s : Worker) (t : Worker) : Type 0 where
  pub box : List Parcel
  pub answer : Answer
  pub after : Shared
  pub reached : Reached
  pub was : slice_get boxes s.id ≡ Some box
  pub starves : WorkerStarves s box (shared_of old.seen boxes orders) reached answer t after
  pub leaves : Leaves old new after
  pub binds : BindFits old.outside new.outside answer

abbrev pub PlainGives : Orders → Sight → Sight → List (List Parcel) → Worker → Result (Option Note) NoMemory → Worker → Type 0
PlainGives orders old new boxes s (Ok (Some note)) t = PlainDone orders old new boxes s note t
PlainGives orders old new boxes s (Ok None) t = PlainQuiet old new boxes s t
PlainGives orders old new boxes s (Err fault) t = PlainSilent orders old new boxes s t

-- ---- the pump

-- what the pump sees: its network, where that tells, with its counts, its office and its mail
pub record PumpSight : Type 0 where
  pub net : Option NetHolds
  pub counts : PortCounts
  pub seen : Seen
  -- the inboxes, where the mail tells them, and what went by it
  pub boxes : Inboxes

-- the office and the mail alone
abbrev pub shared_sight : Outside → PumpSight → Sight
shared_sight o p = record { outside = o; seen = p.seen; boxes = p.boxes }

abbrev pub bare_pump : Pump → Pump
bare_pump p = record p { net = record p.net { holds = net_of [] } }

-- the pump with other contents of its network, where that tells nothing
pub record NetRefills (old : Option NetHolds) (s now : Pump) : Type 0 where
  pub same : bare_pump now ≡ bare_pump s
  pub told : IsTold old now.net.holds

-- there is an inbox for each worker, and one for the pump
pub record PumpKnown (sight : PumpSight) : Type 0 where
  pub boxes : (boxes : List (List Parcel)) → sight.boxes.told ≡ Some boxes → length boxes ≡ sight.seen.config.workers + 1

-- The step gave this note: of the pump with contents with which what the outside answered fits, it is the turn.
pub record PumpGave (orders : Orders) (o : Outside) (old new : PumpSight) (s : Pump) (note : Note) (t : Pump) : Type 0 where
  pub now : Pump
  pub box : List Parcel
  pub sh : Shared
  pub after : Shared
  pub refills : NetRefills old.net s now
  pub was : WasInbox old.boxes.told old.seen.config.workers box
  pub meets : Meets orders (shared_sight o old) (shared_sight o new) sh after
  -- a network that tells nothing fails only where it failed in this step
  pub fails : now.net.holds.send_fails || now.net.holds.receive_fails ≡ true → old.net ≡ None → Rose old.counts.faults new.counts.faults
  pub turn : PumpTurn now box sh note t after

-- The step changed nothing that is told.
pub record PumpLeaves (old new : PumpSight) : Type 0 where
  pub net : new.net ≡ old.net
  pub seen : new.seen ≡ old.seen
  pub boxes : new.boxes ≡ old.boxes

-- The pump gave no note: with contents with which what the outside answered fits, it has no turn. What it held for sending waited,
-- or nothing came through its inbox; and nothing came from the network, or that failed.
pub record PumpQuiet (old new : PumpSight) (s t : Pump) : Type 0 where
  pub now : Pump
  pub box : List Parcel
  pub refills : NetRefills old.net s now
  pub was : WasInbox old.boxes.told old.seen.config.workers box
  pub none : pump_try now box ≡ None
  pub send : (parcel : Parcel) → s.to_send ≡ Some parcel → Rose old.counts.send_waits new.counts.send_waits
  pub receive : Rose old.counts.receive_waits new.counts.receive_waits ⊎ Rose old.counts.faults new.counts.faults
  pub leaves : PumpLeaves old new
  pub same : bare_pump t ≡ bare_pump s

-- The pump had a turn, and was refused memory: nothing changed.
pub record PumpSilent (old new : PumpSight) (s t : Pump) : Type 0 where
  pub now : Pump
  pub box : List Parcel
  pub refills : NetRefills old.net s now
  pub was : WasInbox old.boxes.told old.seen.config.workers box
  pub some : is_some (pump_try now box) ≡ true
  pub leaves : PumpLeaves old new
  pub same : bare_pump t ≡ bare_pump s

abbrev pub PumpGives : Orders → Outside → PumpSight → PumpSight → Pump → Result (Option Note) NoMemory → Pump → Type 0
PumpGives orders o old new s (Ok (Some note)) t = PumpGave orders o old new s note t
PumpGives orders o old new s (Ok None) t = PumpQuiet old new s t
PumpGives orders o old new s (Err fault) t = PumpSilent old new s t

-- What `step` promises of the pump, whatever was ordered and whatever the outside of workers is: for each state for which it stood,
-- it stands for one to which this step leads, and what it has of its network is what that tells.
abbrev pub PumpSteps : (before after : Pump → Type 0) (old new : PumpSight) (result : Result (Option Note) NoMemory) → Type 0
PumpSteps before after old new result =
    (orders : Orders) (o : Outside) (s : Pump) → before s → PumpKnown old → (t : Pump) × after t × IsTold new.net t.net.holds × PumpKnown new × PumpGives orders o old new s result t
