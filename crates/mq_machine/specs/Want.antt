-- What a connection wants of the outside next: its state alone decides.
use Rattle.std.specs.Prelude.{ℕ, List, [], ◌∷◌, Option, Some, None, Bool, true, false, nat_le, if◌then◌else◌}
use Rattle.mq_addr.specs.declared.range.Flow.{Flow}
use Rattle.mq_talk.specs.declared.book.Call.{Call}
use Rattle.mq_talk.specs.declared.book.Call.TheVariants as call
use Rattle.mq_talk.specs.declared.book.Reply.{Reply}
use Rattle.mq_talk.specs.declared.goal.Goal.{Goal}
use Rattle.mq_talk.specs.declared.note.End.{End}
use Rattle.mq_talk.specs.declared.place.Origin.TheVariants as origin
use Rattle.mq_talk.specs.declared.place.Parcel.{Parcel}
use Rattle.mq_talk.specs.declared.place.Verdict.{Verdict}
use Rattle.mq_outside.specs.declared.PortPut.{PortPut}
use Rattle.mq_machine.specs.declared.act.Act.{Act}
use Rattle.mq_machine.specs.declared.act.Act.TheVariants as act
use Rattle.mq_machine.specs.declared.act.StreamAct.{StreamAct}
use Rattle.mq_machine.specs.declared.act.StreamAct.TheVariants as stream
use Rattle.mq_machine.specs.declared.act.Due.{Due}
use Rattle.mq_machine.specs.declared.act.Due.TheVariants as due
use Rattle.mq_machine.specs.Settle.{gives_up}
use Rattle.mq_machine.specs.State.{Conn, Tunnel, owed, values, tunnel_on}

pub data Want : Type 0 where
  -- it waits for the client
  Nothing : Want
  -- a note that needs nothing of the outside
  Say : Want
  Bind : (stream : ℕ) (goal : Goal) → Want
  Ask : (call : Call) → Want
  Judge : (tunnel n : ℕ) (flow : Flow) → Want
  Push : (parcel : Parcel) → Want
  Send : (tunnel n : ℕ) (payload : List ℕ) → Want
  -- nothing is left but its end
  Over : (why : End) → Want

pub data Answer : Type 0 where
  Said : Answer
  Bound : (done : Bool) → Answer
  Replied : (reply : Reply) → Answer
  Judged : (verdict : Verdict) (at : ℕ) → Answer
  Pushed : (done : Bool) → Answer
  -- what a send answered, and the longest payload that the port takes
  Put : (put : PortPut) (limit : ℕ) → Answer

-- the most control values that may wait in a tunnel
abbrev pub most_values : ℕ
most_values = 16

abbrev pub stream_want : Tunnel → StreamAct → Want
stream_want t (stream.Payload n payload) = Send t.id n payload
stream_want t (stream.Packet n packet flow) = Judge t.id n flow
stream_want t (stream.Push n to packet) = Push (record { from = origin.Tunnel t.id; n = n; to = to; packet = packet })
stream_want t (stream.Drop n cause) = Say
stream_want t (stream.Assign asked) = if nat_le most_values (values t) then Ask (call.Close t.id) else Ask (call.Assign t.id asked)
stream_want t (stream.Advertise ranges) = Ask (call.Advertise t.id ranges)
stream_want t (stream.Close why) = Ask (call.Close t.id)

-- what is asked of a stream without a tunnel is no want
abbrev pub tunnel_want : Option Tunnel → StreamAct → Want
tunnel_want None act = Nothing
tunnel_want (Some t) act = stream_want t act

abbrev pub act_want : Conn → Act → Want
act_want c (act.Bind stream goal) = Bind stream goal
act_want c (act.Open stream goal) = Ask (call.Open c.number stream c.actor goal)
act_want c (act.Refuse stream status rule) = Say
act_want c (act.Reset stream code) = Say
act_want c (act.OfStream stream act) = tunnel_want (tunnel_on c stream) act

-- Marks are passed at the end of each act, so that none is in front.
abbrev pub due_want : Conn → List Due → Want
due_want c [] = Nothing
due_want c (due.Do act ∷ rest) = act_want c act
due_want c (due.Spend stream size ∷ rest) = Nothing
due_want c (due.Fault code ∷ rest) = Nothing

abbrev pub over_want : End → List ℕ → Want
over_want why [] = Over why
over_want why (b ∷ bytes) = if gives_up why then Over why else Nothing

-- an ending connection closes its tunnels, and is then over once nothing is owed
abbrev pub ending_want : Conn → End → List Tunnel → Want
ending_want c why [] = over_want why (owed c)
ending_want c why (t ∷ tunnels) = Ask (call.Close t.id)

abbrev pub want_by : Conn → Option End → Want
want_by c None = due_want c c.due
want_by c (Some why) = ending_want c why c.tunnels

abbrev pub want_of : Conn → Want
want_of c = want_by c c.ending

-- it waits for its client, or may wait for its port
abbrev pub may_wait : Want → Bool
may_wait Nothing = true
may_wait Say = false
may_wait (Bind stream goal) = false
may_wait (Ask call) = false
may_wait (Judge tunnel n flow) = false
may_wait (Push parcel) = false
may_wait (Send tunnel n payload) = true
may_wait (Over why) = false
