-- What is so in every run.
use Rattle.std.specs.Prelude.{◌≡◌, ◌⊎◌, ℕ, ◌<◌, ◌≤◌, true, List, ◌++◌, length, map, slice_get, Some, None}
use Rattle.std.specs.List.{AllByRecursion, flat_map, list_any}
use Rattle.mq_runs.specs.Order.{delivered_of, sent_of, IsRising}
use Rattle.mq_play.specs.Play.{Fate, SomeStop, Stage, opening, opened, PlaysLine, Plays}
use Rattle.mq_play.specs.declared.plan.Plan.{Plan}
use Rattle.mq_talk.specs.declared.note.Note.{Note}
use Rattle.mq_machine.specs.Reading.{has_values, payload_count, stream_of}
use Rattle.mq_machine.specs.State.{Stream, Tunnel, Held, Worker, State, kind_of, held_of, tunnel_of}
use Rattle.mq_machine.specs.Turn.{Actor, WorkerOf, ThePump, source_of}
use Rattle.mq_talk.specs.declared.note.From.{From}
use Rattle.mq_talk.specs.declared.note.From.TheVariants as source
use Rattle.mq_machine.specs.declared.act.StreamAct.TheVariants as stream
use Rattle.mq_runs.specs.Payloads.{IsNext}
use Rattle.mq_talk.specs.declared.note.Note.TheVariants as note
use Rattle.mq_talk.specs.declared.note.Why.{Why}
use Rattle.mq_talk.specs.declared.place.Cause.{Cause}
use Rattle.mq_talk.specs.declared.place.Origin.{Origin}
use Rattle.mq_talk.specs.declared.place.Origin.TheVariants as origin
use Rattle.mq_talk.specs.declared.place.Parcel.{Parcel}
use Rattle.mq_talk.specs.declared.place.Place.{Place}
use Rattle.mq_play.specs.Events.{state_of}
use Rattle.mq_capsule.specs.declared.item.Item.{Item}
use Rattle.mq_capsule.specs.Items.{ItemsOf}
use Rattle.mq_runs.specs.Asking.{acted_by, is_due, closes, is_behind_close}
use Rattle.mq_runs.specs.Causes.{Holds}
use Rattle.mq_talk.specs.Mails.{box_at}
use Rattle.mq_runs.specs.Ends.{ends_of, IsCounted}
use Rattle.mq_runs.specs.Inboxes.{parcel_name, held_names, pushed_by, left_by, sent_or_failed_by, passed_by, pushed_or_full_by}
use Rattle.mq_runs.specs.Pushed.{NetPassed, TunnelPassed, WentOn, CameAs}
use Rattle.mq_runs.specs.Runs.{Moment, Noted, Goes, Run, notes_of, IsRunOf, Comes}
use Rattle.mq_runs.specs.Queues.{waiting_names, queued_in, delivered_in}
use Rattle.mq_runs.specs.Written.{IsTrueOf}

-- What lines print from the opening of a script on is what a run prints, which leads to the state that they lead to. So it is
-- where the play stops in the line behind them.
pub record IsARun : Type 0 where
  pub plays : (lines : List (List ℕ)) (fates : List (List Fate)) (text : List ℕ) (s : Stage) → Plays opening lines fates text s → IsRunOf text (opened s)
  pub stops : (lines : List (List ℕ)) (fates : List (List Fate)) (text : List ℕ) (s : Stage) (line : List ℕ) (last : List Fate) (part : List ℕ) (t : Stage)
      → Plays opening lines fates text s → PlaysLine SomeStop s line last part t → IsRunOf (text ++ part) (opened t)

-- What a note says that the book answered, the history said when the note came, and says at the end: of a packet that may go on,
-- by its first entries, so many as it had then; of a call, at the place that the note names, and of a close where the history
-- ended then.
abbrev pub JudgedOnWhatWasWritten : Type 0
JudgedOnWhatWasWritten = (plan : Plan) (here last : State) (actor : Actor) (note : Note) → Comes plan here (Noted actor note) last → IsTrueOf here last note

-- The cause that is named where a packet is dropped is so in the state in which it is dropped.
abbrev pub CausesHeld : Type 0
CausesHeld = (plan : Plan) (before : List Moment) (here next : State) (actor : Actor) (from : From) (n : ℕ) (cause : Cause)
    → Run (state_of plan) before here → Goes here (Noted actor (note.Dropped from n cause)) next → Holds here from n cause

-- No payload has two ends: it is sent, delivered or dropped once at most. Those of the network and of a port are meant whose
-- number is counted.
abbrev pub NoTwoEnds : Type 0
NoTwoEnds = (plan : Plan) (moments : List Moment) (last : State) (from : From) (n : ℕ) → Run (state_of plan) moments last → IsCounted from n → ends_of from n (notes_of moments) ≤ 1

-- What a tunnel delivers of one origin, it delivers by rising numbers, where these are counted.
abbrev pub DeliveredInOrder : Type 0
DeliveredInOrder = (plan : Plan) (moments : List Moment) (last : State) (from : From) (tunnel : ℕ) → Run (state_of plan) moments last → AllByRecursion (IsCounted from) (delivered_of from tunnel (notes_of moments))
    → IsRising (delivered_of from tunnel (notes_of moments))

-- What is sent of one origin, to a port or to the network, is sent by rising numbers, where these are counted.
abbrev pub SentInOrder : Type 0
SentInOrder = (plan : Plan) (moments : List Moment) (last : State) (from : From) → Run (state_of plan) moments last → AllByRecursion (IsCounted from) (sent_of from (notes_of moments)) → IsRising (sent_of from (notes_of moments))

-- What a worker sends to a port is the payload with that number of a tunnel's data stream, whole, and it is that tunnel's next.
abbrev pub PutAsItCame : Type 0
PutAsItCame = (plan : Plan) (before : List Moment) (here next : State) (number : ℕ) (from : From) (n : ℕ) (payload : List ℕ)
    → Run (state_of plan) before here → Goes here (Noted (WorkerOf number) (note.Sent from n payload)) next
    → (tunnel : ℕ) × (from ≡ source.Tunnel tunnel) × IsNext here tunnel (stream.Payload n payload)

-- What a tunnel delivers passed, was pushed to it and came to wait there, one before the other, and is that packet with its hop
-- limit lowered; or its port gave it so.
abbrev pub DeliveredAsItCame : Type 0
DeliveredAsItCame = (plan : Plan) (before : List Moment) (here next : State) (number : ℕ) (from : From) (n tunnel : ℕ) (packet : List ℕ)
    → Run (state_of plan) before here → Goes here (Noted (WorkerOf number) (note.Delivered from n tunnel packet)) next → CameAs plan before tunnel from n packet

-- What the pump sends passed, and was pushed then, and is unchanged.
abbrev pub SentAsPushed : Type 0
SentAsPushed = (plan : Plan) (before : List Moment) (here next : State) (from : From) (n : ℕ) (packet : List ℕ)
    → Run (state_of plan) before here → Goes here (Noted ThePump (note.Sent from n packet)) next
    → (first : Origin) × (to : Place) × (from ≡ source_of first) × WentOn plan before first n to packet

-- What the pump holds for pushing is a packet that the network gave before, with its number, and that passed to its place.
abbrev pub HeldAsItPassed : Type 0
HeldAsItPassed = (plan : Plan) (before : List Moment) (here : State) (parcel : Parcel)
    → Run (state_of plan) before here → here.pump.to_push ≡ Some parcel → (parcel.from ≡ origin.Net) × NetPassed plan before parcel.n parcel.to parcel.packet

-- What a tunnel has to push next was judged before, as the packet with its number, and passed to its place.
abbrev pub PushedAsItPassed : Type 0
PushedAsItPassed = (plan : Plan) (before : List Moment) (here : State) (tunnel n : ℕ) (to : Place) (packet : List ℕ)
    → Run (state_of plan) before here → IsNext here tunnel (stream.Push n to packet) → TunnelPassed plan before tunnel n to packet

-- No payload that was read is passed over: as long as its tunnel is live, and its connection has the data stream and isn't ending,
-- it was sent to its port, pushed or dropped, or it is due to be, or an item up to it asks for the close of the tunnel and a close
-- is due.
abbrev pub NoneIsPassedOver : Type 0
NoneIsPassedOver = (plan : Plan) (moments : List Moment) (last : State) (number : ℕ) (worker : Worker) (conn : ℕ) (held : Held) (tunnel : ℕ) (t : Tunnel) (data_stream : Stream) (items : List Item) (n : ℕ)
    → Run (state_of plan) moments last → slice_get last.workers number ≡ Some worker → held_of worker conn ≡ Some held → tunnel_of held.conn tunnel ≡ Some t → held.conn.ending ≡ None
    → stream_of held.conn.streams t.stream ≡ Some data_stream → ItemsOf (has_values data_stream.goal) data_stream.bytes items → n < payload_count items
    → (list_any (acted_by tunnel n) moments ≡ true) ⊎ ((list_any (is_due t.stream n) held.conn.due ≡ true)
    ⊎ ((list_any (closes t.stream) held.conn.due ≡ true) × (is_behind_close (kind_of data_stream.goal) n 0 items ≡ true)))

-- Of each inbox: what was pushed there in these moments is, in order, what left it and what is in it. What left the pump's was sent,
-- or dropped as the network failed, but for a parcel that the pump holds for sending.
pub record HasAllPushed (plan : Plan) (moments : List Moment) (last : State) : Type 0 where
  pub of_worker : (i : ℕ) → i < plan.workers → flat_map (pushed_by plan.workers i) moments ≡ flat_map (left_by i) moments ++ map parcel_name (box_at last.shared.boxes i)
  pub of_pump : flat_map (pushed_by plan.workers plan.workers) moments
      ≡ flat_map sent_or_failed_by moments ++ (held_names last.pump.to_send ++ map parcel_name (box_at last.shared.boxes plan.workers))

-- No inbox loses a packet, or lets one overtake another.
abbrev pub InboxesLoseNone : Type 0
InboxesLoseNone = (plan : Plan) (moments : List Moment) (last : State) → Run (state_of plan) moments last → HasAllPushed plan moments last

-- The pump loses no packet that the network gave and that passed: those are, in order, what it pushed, or dropped as an inbox was
-- full, and what it holds for pushing.
abbrev pub PumpLosesNone : Type 0
PumpLosesNone = (plan : Plan) (moments : List Moment) (last : State) → Run (state_of plan) moments last
    → flat_map passed_by moments ≡ flat_map pushed_or_full_by moments ++ held_names last.pump.to_push

-- No live tunnel loses a packet, or lets one overtake another: what came to wait there is, in order, what it delivered and what
-- waits there.
abbrev pub TunnelsLoseNone : Type 0
TunnelsLoseNone = (plan : Plan) (moments : List Moment) (last : State) (number : ℕ) (worker : Worker) (conn : ℕ) (held : Held) (tunnel : ℕ) (t : Tunnel)
    → Run (state_of plan) moments last → slice_get last.workers number ≡ Some worker → held_of worker conn ≡ Some held → tunnel_of held.conn tunnel ≡ Some t
    → flat_map (queued_in tunnel) (notes_of moments) ≡ flat_map (delivered_in tunnel) (notes_of moments) ++ waiting_names t.waiting

-- A tunnel that closes says how many of the packets that came to wait there it didn't deliver: the last of them.
abbrev pub ClosedSaysTheRest : Type 0
ClosedSaysTheRest = (plan : Plan) (before : List Moment) (here next : State) (actor : Actor) (tunnel : ℕ) (reason : Why) (left : ℕ)
    → Run (state_of plan) before here → Goes here (Noted actor (note.Closed tunnel reason left)) next
    → (rest : List (From × ℕ)) × (flat_map (queued_in tunnel) (notes_of before) ≡ flat_map (delivered_in tunnel) (notes_of before) ++ rest) × (left ≡ length rest)
