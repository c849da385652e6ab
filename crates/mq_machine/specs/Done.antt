-- What an answer does: the note, and the connection behind it.
use Rattle.std.specs.Prelude.{ℕ, ◌==◌, Bool, true, false, not, List, [], ◌∷◌, ◌++◌, length, filter, nat_lt, if◌then◌else◌, Option, Some, None, option_map}
use Rattle.mq_addr.specs.declared.kind.Kind.{Kind}
use Rattle.mq_addr.specs.declared.kind.Kind.TheVariants as kind
use Rattle.mq_addr.specs.declared.range.Range.{Range}
use Rattle.mq_capsule.specs.Writing.{capsule_text}
use Rattle.mq_head.specs.Answers as http1
use Rattle.mq_outside.specs.declared.PortPut.{PortPut}
use Rattle.mq_outside.specs.declared.PortPut.TheVariants as put
use Rattle.mq_talk.specs.declared.book.Reply.TheVariants as reply
use Rattle.mq_talk.specs.declared.goal.Goal.{Goal}
use Rattle.mq_talk.specs.declared.note.End.{End}
use Rattle.mq_talk.specs.declared.note.End.TheVariants as end
use Rattle.mq_talk.specs.declared.note.From.TheVariants as source
use Rattle.mq_talk.specs.declared.note.Note.{Note}
use Rattle.mq_talk.specs.declared.note.Note.TheVariants as note
use Rattle.mq_talk.specs.declared.note.Why.{Why}
use Rattle.mq_talk.specs.declared.note.Why.TheVariants as why
use Rattle.mq_talk.specs.declared.place.Cause.{Cause}
use Rattle.mq_talk.specs.declared.place.Cause.TheVariants as cause
use Rattle.mq_talk.specs.declared.place.Verdict.{Verdict}
use Rattle.mq_talk.specs.declared.place.Verdict.TheVariants as verdict
use Rattle.mq_machine.specs.declared.act.Act.{Act}
use Rattle.mq_machine.specs.declared.act.Act.TheVariants as act
use Rattle.mq_machine.specs.declared.act.StreamAct.{StreamAct}
use Rattle.mq_machine.specs.declared.act.StreamAct.TheVariants as stream
use Rattle.mq_machine.specs.declared.act.Due.{Due}
use Rattle.mq_machine.specs.declared.act.Due.TheVariants as due
use Rattle.mq_machine.specs.Words.{assign_value, routes_value}
use Rattle.mq_machine.specs.Http2 as http2
use Rattle.mq_machine.specs.Putting.{Putting, nothing_put, over_http2, putting}
use Rattle.mq_machine.specs.Settle.{settle}
use Rattle.mq_machine.specs.State.{Conn, Tunnel, Stream, Waiting, Value, Front, Head, OverHttp1, OverHttp2, kind_of, packets, tunnel_on}
use Rattle.mq_machine.specs.Want.{Answer, Said, Bound, Replied, Judged, Pushed, Put}

abbrev pub Done : Type 0
Done = Option (Note × Conn)

-- ---- what an act puts, by how far the bytes were read

-- no request is answered before one was read
abbrev pub success : Front → ℕ → Kind → Putting
success (Head bytes) stream kind = nothing_put (Head bytes)
success OverHttp1 stream kind = record { text = http1.success_text kind; front = OverHttp1; ending = None }
success (OverHttp2 h) stream kind = over_http2 (http2.grants stream h)

abbrev pub refusal : Front → ℕ → ℕ → Putting
refusal (Head bytes) stream status = nothing_put (Head bytes)
refusal OverHttp1 stream status = record { text = http1.refusal_text status; front = OverHttp1; ending = Some end.Refused }
refusal (OverHttp2 h) stream status = over_http2 (http2.refuses stream status h)

-- With its tunnel a connection of HTTP/1.1 ends. No stream of it is reset by its client: that has no case of its own in the rules.
abbrev pub http1_end : Why → Option End
http1_end why.End = Some end.Done
http1_end why.Truncated = Some end.Truncated
http1_end why.Malformed = Some end.Tunnel
http1_end why.Full = Some end.Tunnel
http1_end why.Port = Some end.Tunnel
http1_end why.Reset = Some end.Tunnel
http1_end why.Conn = None

-- whether a part of the capsule that waits first was framed
abbrev pub is_begun : List Waiting → Bool
is_begun [] = false
is_begun (w ∷ ws) = nat_lt 0 w.framed

abbrev pub closing : Front → Tunnel → Why → Putting
closing (Head bytes) t why = nothing_put (Head bytes)
closing OverHttp1 t why = record { text = []; front = OverHttp1; ending = http1_end why }
closing (OverHttp2 h) t why = over_http2 (http2.closes t.stream (is_begun t.waiting) why h)

-- ---- what goes with a stream

-- what is asked of this stream
abbrev pub is_on : ℕ → Due → Bool
is_on id (due.Do (act.OfStream on act)) = on == id
is_on id (due.Do (act.Bind on goal)) = false
is_on id (due.Do (act.Open on goal)) = false
is_on id (due.Do (act.Refuse on status rule)) = false
is_on id (due.Do (act.Reset on code)) = false
is_on id (due.Spend on size) = false
is_on id (due.Fault code) = false

-- Nothing more is asked of a stream. Marks stay: its DATA is consumed in its turn.
abbrev pub without : ℕ → Conn → Conn
without id c = record c {
  due = filter (λ d. not (is_on id d)) c.due;
  streams = filter (λ (s : Stream). not (s.id == id)) c.streams;
}

-- ---- the notes

abbrev pub refused : Conn → ℕ → ℕ → ℕ → Note × Conn
refused c id status rule = (note.Refused c.number id status rule, putting (without id c) (refusal c.front id status))

abbrev pub without_tunnel : ℕ → Conn → Conn
without_tunnel id c = record c { tunnels = filter (λ (t : Tunnel). not (t.id == id)) c.tunnels }

abbrev pub closed : Conn → Tunnel → Why → Note × Conn
closed c t why = (note.Closed t.id why (packets t), putting (without_tunnel t.id (without t.stream c)) (closing c.front t why))

-- a control capsule that waits
abbrev pub value : ℕ → List ℕ → Waiting
value kind bytes = record { what = Value; capsule = capsule_text (record { kind = kind; value = bytes }); framed = 0 }

-- it waits last in the tunnel of this number
abbrev pub waits : ℕ → Waiting → List Tunnel → List Tunnel
waits id w [] = []
waits id w (t ∷ ts) = if t.id == id then record t { waiting = t.waiting ++ w ∷ [] } ∷ ts else t ∷ waits id w ts

abbrev pub with_waiting : ℕ → Waiting → Conn → Conn
with_waiting id w c = record c { tunnels = waits id w c.tunnels }

-- what waits in a tunnel as it opens: of a tunnel for IP packets its routes
abbrev pub first_waiting : Kind → List Range → List Waiting
first_waiting kind.Udp routes = []
first_waiting kind.Ip routes = value 3 (routes_value routes) ∷ []

abbrev pub opened : Conn → ℕ → ℕ → Goal → List Range → Note × Conn
opened c tunnel id goal routes = (
  note.Opened tunnel c.number id (kind_of goal),
  putting (record c { tunnels = c.tunnels ++ record { id = tunnel; stream = id; goal = goal; waiting = first_waiting (kind_of goal) routes } ∷ [] })
      (success c.front id (kind_of goal)),
)

abbrev pub dropped : Conn → Tunnel → ℕ → Cause → Note × Conn
dropped c t n cause = (note.Dropped (source.Tunnel t.id) n cause, c)

-- an act in front of all that is due
abbrev pub before : Act → Conn → Conn
before a c = record c { due = due.Do a ∷ c.due }

abbrev pub judged : Conn → Tunnel → ℕ → List ℕ → Verdict → ℕ → Note × Conn
judged c t n packet (verdict.Pass to) at =
    (note.Passed (source.Tunnel t.id) n at to, before (act.OfStream t.stream (stream.Push n to packet)) c)
judged c t n packet verdict.Source at = dropped c t n cause.Source
judged c t n packet verdict.NoRoute at = dropped c t n cause.NoRoute

abbrev pub sent : Conn → Tunnel → ℕ → List ℕ → PortPut → Done
sent c t n payload put.Sent = Some (note.Sent (source.Tunnel t.id) n payload, c)
sent c t n payload put.Failed = Some (dropped c t n cause.Port)
sent c t n payload put.NotNow = None

-- What an answer does to the first act that is due, behind which c stands. No other answer is one to it.
abbrev pub stream_done : Conn → Tunnel → StreamAct → Answer → Done
stream_done c t (stream.Payload n payload) (Put put limit) =
    if nat_lt limit (length payload) then Some (dropped c t n cause.TooLong) else sent c t n payload put
stream_done c t (stream.Packet n packet flow) (Judged verdict at) = Some (judged c t n packet verdict at)
stream_done c t (stream.Push n to packet) (Pushed true) = Some (note.PushedNote (source.Tunnel t.id) n to, c)
stream_done c t (stream.Push n to packet) (Pushed false) = Some (dropped c t n cause.InboxFull)
stream_done c t (stream.Drop n cause) Said = Some (dropped c t n cause)
stream_done c t (stream.Assign asked) (Replied (reply.Assigned list at)) =
    Some (note.Assigned t.id at list, with_waiting t.id (value 1 (assign_value list)) c)
stream_done c t (stream.Assign asked) (Replied reply.Closed) = Some (closed c t why.Full)
stream_done c t (stream.Advertise ranges) (Replied (reply.Accepted accepts at)) = Some (note.Advertised t.id at accepts, c)
stream_done c t (stream.Advertise ranges) (Replied reply.Closed) = Some (closed c t why.Full)
stream_done c t (stream.Close why) (Replied reply.Closed) = Some (closed c t why)
stream_done c t act answer = None

abbrev pub tunnel_done : Conn → Option Tunnel → StreamAct → Answer → Done
tunnel_done c None act answer = None
tunnel_done c (Some t) act answer = stream_done c t act answer

abbrev pub act_done : Conn → Act → Answer → Done
act_done c (act.Bind id goal) (Bound true) = Some (note.Ported c.number id, before (act.Open id goal) c)
act_done c (act.Bind id goal) (Bound false) = Some (refused c id 502 0)
act_done c (act.Open id goal) (Replied (reply.Opened tunnel routes)) = Some (opened c tunnel id goal routes)
act_done c (act.Open id goal) (Replied (reply.HistoryFull entries live)) = Some (refused c id 503 0)
act_done c (act.Refuse id status rule) Said = Some (refused c id status rule)
act_done c (act.Reset id code) Said = Some (note.Reset c.number id code, c)
act_done c (act.OfStream id act) answer = tunnel_done c (tunnel_on c id) act answer
act_done c act answer = None

abbrev pub due_done : Conn → List Due → Answer → Done
due_done c (due.Do act ∷ rest) answer = act_done (record c { due = rest }) act answer
due_done c (due.Spend stream size ∷ rest) answer = None
due_done c (due.Fault code ∷ rest) answer = None
due_done c [] answer = None

abbrev pub ending_done : Conn → List Tunnel → Answer → Done
ending_done c (t ∷ tunnels) (Replied reply.Closed) = Some (closed c t why.Conn)
ending_done c tunnels answer = None

abbrev pub done_by : Conn → Option End → Answer → Done
done_by c None answer = due_done c c.due answer
done_by c (Some why) answer = ending_done c c.tunnels answer

-- the note of this answer to what the connection wants, and the connection behind it; None: that is no answer to it
abbrev pub done : Conn → Answer → Done
done c answer = option_map (λ (d : Note × Conn). (d.0, settle d.1)) (done_by c c.ending answer)
