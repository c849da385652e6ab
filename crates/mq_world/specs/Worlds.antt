-- For which state of the machine a world stands, and what happens in it.
use Rattle.std.specs.Prelude.{◌≡◌, ◌≢◌, ◌+◌, ◌<◌, ◌≤◌, ⊤, ℕ, suc, Bool, true, false, List, [], ◌∷◌, length, map, nat_lt, if◌then◌else◌, All, Option, Some, None, Result, Ok, Err}
use Rattle.mq_wire.specs.declared.NoMemory.{NoMemory}
use Rattle.mq_talk.specs.declared.book.Call.{Call}
use Rattle.mq_talk.specs.declared.book.Call.TheVariants as call
use Rattle.mq_talk.specs.declared.goal.Goal.{Goal}
use Rattle.mq_talk.specs.declared.goal.Goal.TheVariants as goal
use Rattle.mq_talk.specs.declared.note.Note.{Note}
use Rattle.mq_talk.specs.Config.{IsConfig}
use Rattle.mq_talk.specs.Mails.{Boxes}
use Rattle.mq_talk.specs.Offices.{Seen}
use Rattle.mq_machine.specs.declared.event.Event.{Event}
use Rattle.mq_machine.specs.declared.event.Event.TheVariants as event
use Rattle.mq_machine.specs.declared.setup.Setup.{Setup}
use Rattle.mq_machine.specs.State.{Link, Told, Worker, Pump, State}
use Rattle.mq_machine.specs.Silent.{Reached, SilentTurn}
use Rattle.mq_machine.specs.Turn.{Actor, WorkerOf, ThePump, Turn, Quiet, turn_of}
use Rattle.mq_mem.specs.Offices.{seen_of}
use Rattle.mq_net.specs.Sims.{Sim, holds_of}
use Rattle.mq_pump.specs.declared.pump.Pump.{Pump as PumpBy}
use Rattle.mq_pump.specs.Holds.{IsPump}
use Rattle.mq_play.specs.Events.{at_link, happen, has_link, is_missing, new_workers}
use Rattle.mq_play.specs.Lines.{most_packet, most_payload}
use Rattle.mq_plain.specs.Served.{Plain, Serves}
use Rattle.mq_plain.specs.Taking.{Common, shared_of}
use Rattle.mq_world.specs.declared.stepped.Acted.{Acted}
use Rattle.mq_world.specs.declared.stepped.Acted.TheVariants as acted
use Rattle.mq_world.specs.declared.stepped.Stepped.{Stepped}
use Rattle.mq_world.specs.declared.stepped.Stepped.TheVariants.{Done, Did, Idle, Refused}
use Rattle.mq_world.specs.declared.stepped.WorldFault.{WorldFault}
use Rattle.mq_world.specs.declared.stepped.WorldFault.TheVariants as fault
use Rattle.mq_world.specs.declared.told.Told.{Told as ToldBy}
use Rattle.mq_world.specs.declared.workers.Workers.{Workers}

-- ---- for which state it stands

abbrev pub told_of : ToldBy → Told
told_of t = record { worker = t.worker; is_ended = t.is_ended }

-- these are the workers from this number on
abbrev pub AreServed : List Told → Seen → Boxes → ℕ → List Plain → List Worker → Type 0
AreServed links seen boxes from [] [] = ⊤
AreServed links seen boxes from [] (w ∷ ws) = ⊥
AreServed links seen boxes from (a ∷ actors) [] = ⊥
AreServed links seen boxes from (a ∷ actors) (w ∷ ws) = Serves links seen boxes from a w × AreServed links seen boxes (suc from) actors ws

-- whichever worker of the machine it stands for has no turn while its inbox is empty
abbrev pub Rests : Plain → Type 0
Rests a = (links : List Told) (seen : Seen) (boxes : Boxes) (number : ℕ) (w : Worker) → Serves links seen boxes number a w
    → turn_of w [] ≡ None

-- those of which it is said do so
abbrev pub DoRest : List Bool → List Plain → Type 0
DoRest [] [] = ⊤
DoRest [] (a ∷ actors) = ⊥
DoRest (said ∷ rests) [] = ⊥
DoRest (said ∷ rests) (a ∷ actors) = (said ≡ true → Rests a) × DoRest rests actors

-- a book in which nothing is written, the inboxes of its workers and the pump, and what a worker is set up with
pub record IsUnused (seen : Seen) (boxes : Boxes) (setup : Setup) : Type 0 where
  pub written : seen.entries ≡ []
  pub inboxes : length boxes ≡ seen.config.workers + 1
  pub pump : setup.pump ≡ seen.config.workers

-- so many workers, to which nothing happened yet
pub record AreUntouched (seen : Seen) (boxes : Boxes) (setup : Setup) (actors : List Plain) (count : ℕ) : Type 0 where
  pub size : length actors ≡ count
  pub served : AreServed [] seen boxes 0 actors (new_workers setup count)

-- what they share
abbrev pub common_of : Workers → Common
common_of world = record { office = world.office; mail = world.mail; bind_fails = world.bind_fails }

-- The pump is that of the state, beside so many workers, and its network tells what that of the state holds.
pub record IsPumpOf (workers : ℕ) (p : PumpBy Sim) (s : Pump) : Type 0 where
  pub stands : IsPump p s
  pub net : s.net.holds ≡ holds_of p.net
  pub workers_are : p.workers ≡ workers

-- its workers, its pump, what was said of links, the book, the inboxes and the orders are those of the state
pub record IsWorld (world : Workers) (s : State) : Type 0 where
  pub links : s.links ≡ map told_of world.links.items
  pub workers : AreServed s.links (seen_of world.office) world.mail.boxes 0 world.workers.items s.workers
  pub shared : s.shared ≡ shared_of (common_of world)
  pub count : length world.workers.items ≡ world.office.book.config.workers
  pub few : length world.workers.items ≤ 4
  pub boxes : length world.mail.boxes ≡ world.office.book.config.workers + 1
  pub config : IsConfig world.office.book.config
  pub pump : IsPumpOf world.office.book.config.workers world.pump s.pump
  -- each link was offered to one of them
  pub offered : All (λ (t : Told). t.worker < length world.workers.items) s.links
  -- those of which it is said rest, so that none of them has to be asked while its inbox is empty
  pub rests : DoRest world.rests.items world.workers.items

-- ---- what happens

-- an event is within its bounds
abbrev pub IsServed : Event → Type 0
IsServed (event.Piece conn bytes) = 0 < length bytes
IsServed (event.Datagram tunnel bytes) = length bytes ≤ most_payload
IsServed (event.Packet count bytes) = length bytes ≤ most_packet
IsServed e = ⊤

-- the actor of this number: the network's is the count of workers
abbrev pub actor_at : State → ℕ → Actor
actor_at s number = if nat_lt number (length s.workers) then WorkerOf number else ThePump

-- no actor takes a step
abbrev pub IsOutside : Event → Type 0
IsOutside e = (actor : ℕ) → e ≢ event.Step actor

-- it takes memory: a new link, a piece, a datagram, packets
abbrev pub TakesMemory : Event → Type 0
TakesMemory (event.Conn actor) = ⊤
TakesMemory (event.Piece conn bytes) = ⊤
TakesMemory (event.Datagram tunnel bytes) = ⊤
TakesMemory (event.Packet count bytes) = ⊤
TakesMemory e = ⊥

-- the event is a step of this actor, which is one
pub record StepOf (s : State) (e : Event) (actor : Actor) : Type 0 where
  pub number : ℕ
  pub is : e ≡ event.Step number
  pub there : is_missing s e ≡ false
  pub named : actor ≡ actor_at s number

-- What an event led to: it happened; or an actor took its turn, or has none, or was refused memory; or the event names what
-- never was, or memory was refused, and nothing changed.
abbrev pub StepGives : (stands : State → Type 0) → State → Event → Result Stepped WorldFault → Type 0
StepGives stands s e (Ok Done) = IsOutside e × (is_missing s e ≡ false) × stands (happen s e)
StepGives stands s e (Ok (Did note)) = (actor : Actor) × (t : State) × StepOf s e actor × Turn s actor note t × stands t
StepGives stands s e (Ok Idle) = (actor : Actor) × StepOf s e actor × Quiet s actor × stands s
StepGives stands s e (Ok Refused) = (actor : Actor) × (reached : Reached) × (t : State) × StepOf s e actor × SilentTurn s actor reached t × stands t
StepGives stands s e (Err fault.Missing) = (is_missing s e ≡ true) × stands s
StepGives stands s e (Err fault.NoMemory) = IsOutside e × TakesMemory e × stands s

-- ---- its parts

-- an event of the outside happened, or it names what never was, or memory was refused
abbrev pub Happens : (stands : State → Type 0) → State → Event → Result ⊤ WorldFault → Type 0
Happens stands s e (Ok done) = (is_missing s e ≡ false) × stands (happen s e)
Happens stands s e (Err fault.Missing) = (is_missing s e ≡ true) × stands s
Happens stands s e (Err fault.NoMemory) = TakesMemory e × stands s

-- a link, if it is there still, changed, or there was none
abbrev pub LinkHappens : (stands : State → Type 0) → State → ℕ → (Link → Link) → Result ⊤ WorldFault → Type 0
LinkHappens stands s conn change (Ok done) = (has_link s conn ≡ true) × stands (at_link conn change s)
LinkHappens stands s conn change (Err fault.Missing) = (has_link s conn ≡ false) × stands s
LinkHappens stands s conn change (Err fault.NoMemory) = ⊥

-- what a step of an actor gives: its turn, or it has none, or whose turn it was was refused memory
abbrev pub ActorGives : State → Actor → Result (Option Note) NoMemory → State → Type 0
ActorGives s actor (Ok (Some note)) t = Turn s actor note t
ActorGives s actor (Ok None) t = Quiet s actor × (t ≡ s)
ActorGives s actor (Err refused) t = (reached : Reached) × SilentTurn s actor reached t

-- as the world answers it
abbrev pub ActorDoes : State → Actor → Stepped → State → Type 0
ActorDoes s actor (Did note) t = Turn s actor note t
ActorDoes s actor Idle t = Quiet s actor × (t ≡ s)
ActorDoes s actor Refused t = (reached : Reached) × SilentTurn s actor reached t
ActorDoes s actor Done t = ⊥

-- what was told of it, with its note
abbrev pub answer_of : Acted → Option Note → Stepped
answer_of acted.Did (Some note) = Did note
answer_of acted.Did None = Done
answer_of acted.Idle told = Idle
answer_of acted.Refused told = Refused

abbrev pub answered : Result Acted WorldFault → Option Note → Result Stepped WorldFault
answered (Ok acted) told = Ok (answer_of acted told)
answered (Err why) told = Err why

abbrev pub done_by : Result ⊤ WorldFault → Result Stepped WorldFault
done_by (Ok done) = Ok Done
done_by (Err why) = Err why

abbrev pub is_udp : Goal → Bool
is_udp (goal.Udp addr port) = true
is_udp (goal.Ip area protocol) = false

abbrev pub opens_udp : Call → Bool
opens_udp (call.Open conn stream actor goal) = is_udp goal
opens_udp (call.Assign tunnel asked) = false
opens_udp (call.Advertise tunnel ranges) = false
opens_udp (call.Close tunnel) = false
