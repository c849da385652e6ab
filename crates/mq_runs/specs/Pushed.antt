-- The way of a packet: that it passed, was pushed to an inbox, and came to wait in a tunnel.
use Rattle.std.specs.Prelude.{◌≡◌, ℕ, List, ◌∷◌, ◌++◌, length, slice_get, Some}
use Rattle.mq_addr.specs.declared.range.Flow.{Flow}
use Rattle.mq_talk.specs.declared.note.From.{From}
use Rattle.mq_talk.specs.declared.note.From.TheVariants as source
use Rattle.mq_talk.specs.declared.note.Note.{Note}
use Rattle.mq_talk.specs.declared.note.Note.TheVariants as note
use Rattle.mq_talk.specs.declared.place.Origin.{Origin}
use Rattle.mq_talk.specs.declared.place.Origin.TheVariants as origin
use Rattle.mq_talk.specs.declared.place.Place.{Place}
use Rattle.mq_talk.specs.declared.place.Place.TheVariants as place
use Rattle.mq_machine.specs.declared.act.StreamAct.TheVariants as stream
use Rattle.mq_machine.specs.Shared.{port_of}
use Rattle.mq_machine.specs.State.{Port, Held, Worker, State, held_of}
use Rattle.mq_machine.specs.Turn.{Actor, WorkerOf, ThePump, source_of}
use Rattle.mq_machine.specs.Words.{onward}
use Rattle.mq_play.specs.declared.plan.Plan.{Plan}
use Rattle.mq_play.specs.Events.{state_of}
use Rattle.mq_runs.specs.Payloads.{IsNext}
use Rattle.mq_runs.specs.Runs.{Moment, Noted, Run}
use Rattle.mq_runs.specs.Written.{ArrivesNext, MayGo}

-- one of these moments is a step of this actor with this note, in that state
pub record WasTaken (plan : Plan) (moments : List Moment) (here : State) (actor : Actor) (said : Note) : Type 0 where
  pub before : List Moment
  pub after : List Moment
  pub are : moments ≡ before ++ Noted actor said ∷ after
  pub reaches : Run (state_of plan) before here

-- A packet to push there, with its origin and number: what is asked of a tunnel next, which is the payload with that number of
-- its data stream; or what the pump holds for pushing.
abbrev pub IsToPush : State → Origin → ℕ → Place → List ℕ → Type 0
IsToPush here (origin.Tunnel t) n to packet = IsNext here t (stream.Push n to packet)
IsToPush here origin.Net n to packet = here.pump.to_push ≡ Some (record { from = origin.Net; n = n; to = to; packet = packet })

-- it was pushed
pub record WasPushed (plan : Plan) (moments : List Moment) (from : Origin) (n : ℕ) (to : Place) (packet : List ℕ) : Type 0 where
  pub here : State
  pub actor : Actor
  pub taken : WasTaken plan moments here actor (note.PushedNote (source_of from) n to)
  pub is : IsToPush here from n to packet

-- The network gave the packet with this number, and it passed: by all entries that the book had then it may go to that place.
pub record NetPassed (plan : Plan) (moments : List Moment) (n : ℕ) (to : Place) (packet : List ℕ) : Type 0 where
  pub here : State
  pub at : ℕ
  pub taken : WasTaken plan moments here ThePump (note.Passed source.Net n at to)
  pub is : ArrivesNext here n packet
  pub at_is : at ≡ length here.shared.book
  pub may_go : MayGo here.shared.config here.shared.book at origin.Net packet to

-- The tunnel was asked with the packet that has this number in its data stream, and it passed, as above.
pub record TunnelPassed (plan : Plan) (moments : List Moment) (tunnel n : ℕ) (to : Place) (packet : List ℕ) : Type 0 where
  pub here : State
  pub actor : Actor
  pub at : ℕ
  pub flow : Flow
  pub taken : WasTaken plan moments here actor (note.Passed (source.Tunnel tunnel) n at to)
  pub is : IsNext here tunnel (stream.Packet n packet flow)
  pub at_is : at ≡ length here.shared.book
  pub may_go : MayGo here.shared.config here.shared.book at (origin.Tunnel tunnel) packet to

-- it passed, to that place
abbrev pub HasPassed : Plan → List Moment → Origin → ℕ → Place → List ℕ → Type 0
HasPassed plan moments (origin.Tunnel t) n to packet = TunnelPassed plan moments t n to packet
HasPassed plan moments origin.Net n to packet = NetPassed plan moments n to packet

-- it was pushed, and had passed before that
pub record WentOn (plan : Plan) (moments : List Moment) (from : Origin) (n : ℕ) (to : Place) (packet : List ℕ) : Type 0 where
  pub pushed : WasPushed plan moments from n to packet
  pub passed : HasPassed plan pushed.taken.before from n to packet

-- The packet with its origin and number came to wait in the tunnel. Before that a packet was pushed to this tunnel, by way of the
-- worker that took it from its inbox, of which it is what goes on: its hop limit is lowered by one, and its checksum with it.
pub record WasQueued (plan : Plan) (moments : List Moment) (from : Origin) (n tunnel : ℕ) (packet : List ℕ) : Type 0 where
  pub here : State
  pub number : ℕ
  pub pushed : List ℕ
  pub taken : WasTaken plan moments here (WorkerOf number) (note.Queued (source_of from) n tunnel)
  pub was : WentOn plan taken.before from n (place.Tunnel tunnel number) pushed
  pub goes_on : onward pushed ≡ Some packet

-- the port of the tunnel gave the datagram with this number, and it came to wait in the tunnel
pub record PortGave (plan : Plan) (moments : List Moment) (tunnel n : ℕ) (datagram : List ℕ) : Type 0 where
  pub here : State
  pub number : ℕ
  pub taken : WasTaken plan moments here (WorkerOf number) (note.Queued (source.Port tunnel) n tunnel)
  pub conn : ℕ
  pub worker : Worker
  pub held : Held
  pub port : Port
  pub others : List (List ℕ)
  pub works : slice_get here.workers number ≡ Some worker
  pub has : held_of worker conn ≡ Some held
  pub port_is : port_of held.ports tunnel ≡ Some port
  pub arrived : port.arrived ≡ datagram ∷ others
  pub n_is : n ≡ port.received

-- What a tunnel delivers with its origin and number came to wait there: through the inbox, or it is what the tunnel's port gave.
abbrev pub CameAs : Plan → List Moment → ℕ → From → ℕ → List ℕ → Type 0
CameAs plan moments tunnel (source.Tunnel t) n packet = WasQueued plan moments (origin.Tunnel t) n tunnel packet
CameAs plan moments tunnel source.Net n packet = WasQueued plan moments origin.Net n tunnel packet
CameAs plan moments tunnel (source.Port p) n packet = (p ≡ tunnel) × PortGave plan moments tunnel n packet
