-- What the note of an act says of it: which act was in front, and how that was answered.
use Rattle.std.proofs.Common.{◌≡◌, ◌<◌, ◌⊎◌, ℕ, Bool, true, false, List, [], ◌∷◌, length, nat_lt, Option, Some, None, option_map, refl, subst, ap, inl, inr, nat_le, ◌∙◌, cond, sym}
use Rattle.std.proofs.lemmas.Bool.{ltb-true}
use Rattle.mq_addr.specs.declared.entry.Asked.{Asked}
use Rattle.mq_addr.specs.declared.range.Flow.{Flow}
use Rattle.mq_addr.specs.declared.range.Range.{Range}
use Rattle.mq_outside.specs.declared.PortPut.{PortPut}
use Rattle.mq_outside.specs.declared.PortPut.TheVariants as put
use Rattle.mq_addr.specs.declared.kind.Kind.{Kind}
use Rattle.mq_talk.specs.declared.book.Call.{Call}
use Rattle.mq_talk.specs.declared.book.Call.TheVariants as call
use Rattle.mq_talk.specs.declared.goal.Goal.{Goal}
use Rattle.mq_talk.specs.declared.book.Reply.TheVariants as reply
use Rattle.mq_talk.specs.declared.note.End.{End}
use Rattle.mq_talk.specs.declared.note.From.TheVariants as source
use Rattle.mq_talk.specs.declared.note.Note.{Note}
use Rattle.mq_talk.specs.declared.note.Note.TheVariants as note
use Rattle.mq_talk.specs.declared.place.Cause.{Cause}
use Rattle.mq_talk.specs.declared.place.Cause.TheVariants as cause
use Rattle.mq_talk.specs.declared.place.Verdict.{Verdict}
use Rattle.mq_talk.specs.declared.place.Verdict.TheVariants as verdict
use Rattle.mq_machine.specs.declared.act.Act.{Act}
use Rattle.mq_machine.specs.declared.act.Act.TheVariants as act
use Rattle.mq_machine.specs.declared.act.StreamAct.{StreamAct}
use Rattle.mq_machine.specs.declared.act.StreamAct.TheVariants as stream
use Rattle.mq_machine.specs.declared.act.Due.{Due}
use Rattle.mq_machine.specs.declared.act.Due.TheVariants as due
use Rattle.mq_machine.specs.Done.{Done, sent, dropped, judged, stream_done, tunnel_done, act_done, due_done, ending_done, done_by, done}
use Rattle.mq_talk.specs.declared.note.Why.TheVariants as why
use Rattle.mq_machine.specs.Steps.{failed, port_failed}
use Rattle.mq_machine.specs.Settle.{settle}
use Rattle.mq_machine.specs.State.{Conn, Tunnel, tunnel_on, kind_of, values}
use Rattle.mq_machine.specs.Want.{Answer, Said, Bound, Replied, Judged, Pushed, Put, Ask, want_of, stream_want, most_values}

-- this is in front of what is due, of a stream with a tunnel
pub record InFront (c : Conn) (a : StreamAct) : Type 0 where
  pub on : ℕ
  pub t : Tunnel
  pub others : List Due
  pub serves : tunnel_on c on ≡ Some t
  pub due_is : c.due ≡ due.Do (act.OfStream on a) ∷ others
  pub goes_on : c.ending ≡ None

-- a payload that was sent or wasn't
abbrev pub PutSo : ℕ → PortPut → ℕ → Cause → Type 0
PutSo limit did size cause.TooLong = limit < size
PutSo limit did size cause.Port = did ≡ put.Failed
PutSo limit did size why = ⊥

-- the act, answered so, is to drop its payload
abbrev pub Drops : StreamAct → Answer → ℕ → Cause → Type 0
Drops (stream.Payload m payload) (Put did limit) n why = (m ≡ n) × PutSo limit did (length payload) why
Drops (stream.Packet m packet flow) (Judged said at) n why = (m ≡ n) × (((said ≡ verdict.Source) × (why ≡ cause.Source)) ⊎ ((said ≡ verdict.NoRoute) × (why ≡ cause.NoRoute)))
Drops (stream.Push m to packet) (Pushed did) n why = (m ≡ n) × (did ≡ false) × (why ≡ cause.InboxFull)
Drops (stream.Drop m said) answer n why = (m ≡ n) × (said ≡ why)
Drops a answer n why = ⊥

-- what is in front is what is wanted
pub front_wants : (c : Conn) (a : StreamAct) (f : InFront c a) → want_of c ≡ stream_want f.t a
front_wants c a f = rw (f.goes_on, f.due_is, f.serves) refl

-- a call whose answer may be that the tunnel is closed
abbrev pub MayClose : ℕ → Call → Type 0
MayClose tunnel (call.Close u) = u ≡ tunnel
MayClose tunnel (call.Assign u asked) = u ≡ tunnel
MayClose tunnel (call.Advertise u ranges) = u ≡ tunnel
MayClose tunnel (call.Open conn on actor goal) = ⊥

-- what is asked, of which such an answer came
pub record Closing (c : Conn) (answer : Answer) (tunnel : ℕ) : Type 0 where
  pub asked : Call
  pub wants : want_of c ≡ Ask asked
  pub may : MayClose tunnel asked
  pub is : answer ≡ Replied reply.Closed

pub record Opening (c : Conn) (answer : Answer) (tunnel conn on : ℕ) (kind : Kind) : Type 0 where
  pub goal : Goal
  pub routes : List Range
  pub wants : want_of c ≡ Ask (call.Open conn on c.actor goal)
  pub kind_is : kind ≡ kind_of goal
  pub is : answer ≡ Replied (reply.Opened tunnel routes)

abbrev pub Tells : Conn → Answer → Note → Type 0
Tells c answer (note.Passed from n at to) =
    (packet : List ℕ) × (flow : Flow) × (f : InFront c (stream.Packet n packet flow)) × (from ≡ source.Tunnel f.t.id) × (answer ≡ Judged (verdict.Pass to) at)
Tells c answer (note.Assigned tunnel at list) = (asked : List Asked) × (f : InFront c (stream.Assign asked)) × (tunnel ≡ f.t.id) × (answer ≡ Replied (reply.Assigned list at))
Tells c answer (note.Advertised tunnel at accepts) = (ranges : List Range) × (f : InFront c (stream.Advertise ranges)) × (tunnel ≡ f.t.id) × (answer ≡ Replied (reply.Accepted accepts at))
Tells c answer (note.Sent from n payload) = (f : InFront c (stream.Payload n payload)) × (from ≡ source.Tunnel f.t.id)
Tells c answer (note.Dropped from n cause) = (a : StreamAct) × (f : InFront c a) × (from ≡ source.Tunnel f.t.id) × Drops a answer n cause
Tells c answer (note.Delivered from n tunnel packet) = ⊥
Tells c answer (note.Queued from n tunnel) = ⊥
Tells c answer (note.Opened tunnel conn on kind) = Opening c answer tunnel conn on kind
Tells c answer (note.Closed tunnel reason left) = Closing c answer tunnel
Tells c answer said = Unit {0}

abbrev DoneTells : Conn → Answer → Done → Type 0
DoneTells c answer None = Unit {0}
DoneTells c answer (Some d) = Tells c answer d.0

module _ (o : Conn) where
  tells_sent : (c : Conn) (t : Tunnel) (n : ℕ) (payload : List ℕ) (did : PortPut) (limit : ℕ) (f : InFront o (stream.Payload n payload)) → t ≡ f.t → DoneTells o (Put did limit) (sent c t n payload did)
  tells_sent c t n payload put.Sent limit f same = (f, ap (λ (t : Tunnel). source.Tunnel t.id) same)
  tells_sent c t n payload put.Failed limit f same = (stream.Payload n payload, f, ap (λ (t : Tunnel). source.Tunnel t.id) same, (refl, refl))
  tells_sent c t n payload put.NotNow limit f same = tt

  tells_put : (b : Bool) (c : Conn) (t : Tunnel) (n : ℕ) (payload : List ℕ) (did : PortPut) (limit : ℕ) (f : InFront o (stream.Payload n payload)) → t ≡ f.t → nat_lt limit (length payload) ≡ b
      → DoneTells o (Put did limit) (Rattle.std.specs.Prelude.cond b (Some (dropped c t n cause.TooLong)) (sent c t n payload did))
  tells_put true c t n payload did limit f same long = (stream.Payload n payload, f, ap (λ (t : Tunnel). source.Tunnel t.id) same, (refl, ltb-true limit (length payload) long))
  tells_put false c t n payload did limit f same long = tells_sent c t n payload did limit f same

  tells_judged : (c : Conn) (t : Tunnel) (n : ℕ) (packet : List ℕ) (flow : Flow) (said : Verdict) (at : ℕ) (f : InFront o (stream.Packet n packet flow)) → t ≡ f.t → Tells o (Judged said at) (judged c t n packet said at).0
  tells_judged c t n packet flow (verdict.Pass to) at f same = (packet, flow, f, ap (λ (t : Tunnel). source.Tunnel t.id) same, refl)
  tells_judged c t n packet flow verdict.Source at f same = (stream.Packet n packet flow, f, ap (λ (t : Tunnel). source.Tunnel t.id) same, (refl, inl (refl, refl)))
  tells_judged c t n packet flow verdict.NoRoute at f same = (stream.Packet n packet flow, f, ap (λ (t : Tunnel). source.Tunnel t.id) same, (refl, inr (refl, refl)))

  closing_front : (a : StreamAct) (f : InFront o a) (t : Tunnel) (asked : Call) → t ≡ f.t → stream_want f.t a ≡ Ask asked → MayClose f.t.id asked → Closing o (Replied reply.Closed) t.id
  closing_front a f t asked same wants may =
      subst (λ (u : Tunnel). Closing o (Replied reply.Closed) u.id) (sym same) (record { asked = asked; wants = front_wants o a f ∙ wants; may = may; is = refl })

  closing_assign : (b : Bool) (list : List Asked) (f : InFront o (stream.Assign list)) (t : Tunnel) → t ≡ f.t → stream_want f.t (stream.Assign list) ≡ cond b (Ask (call.Close f.t.id)) (Ask (call.Assign f.t.id list)) → Closing o (Replied reply.Closed) t.id
  closing_assign true list f t same e = closing_front (stream.Assign list) f t (call.Close f.t.id) same e refl
  closing_assign false list f t same e = closing_front (stream.Assign list) f t (call.Assign f.t.id list) same e refl

  tells_stream : (c : Conn) (t : Tunnel) (a : StreamAct) (answer : Answer) (f : InFront o a) → t ≡ f.t → DoneTells o answer (stream_done c t a answer)
  tells_stream c t (stream.Payload n payload) (Put did limit) f same = tells_put (nat_lt limit (length payload)) c t n payload did limit f same refl
  tells_stream c t (stream.Packet n packet flow) (Judged said at) f same = tells_judged c t n packet flow said at f same
  tells_stream c t (stream.Push n to packet) (Pushed true) f same = tt
  tells_stream c t (stream.Push n to packet) (Pushed false) f same = (stream.Push n to packet, f, ap (λ (t : Tunnel). source.Tunnel t.id) same, (refl, refl, refl))
  tells_stream c t (stream.Drop n cause) Said f same = (stream.Drop n cause, f, ap (λ (t : Tunnel). source.Tunnel t.id) same, (refl, refl))
  tells_stream c t (stream.Assign list) (Replied (reply.Assigned given at)) f same = (list, f, ap (λ (t : Tunnel). t.id) same, refl)
  tells_stream c t (stream.Assign list) (Replied reply.Closed) f same = closing_assign (nat_le most_values (values f.t)) list f t same refl
  tells_stream c t (stream.Advertise ranges) (Replied (reply.Accepted accepts at)) f same = (ranges, f, ap (λ (t : Tunnel). t.id) same, refl)
  tells_stream c t (stream.Advertise ranges) (Replied reply.Closed) f same = closing_front (stream.Advertise ranges) f t (call.Advertise f.t.id ranges) same refl refl
  tells_stream c t (stream.Close reason) (Replied reply.Closed) f same = closing_front (stream.Close reason) f t (call.Close f.t.id) same refl refl
  tells_stream c t a answer f same = tt

  tells_tunnel : (c : Conn) (u : Option Tunnel) (on : ℕ) (a : StreamAct) (others : List Due) (answer : Answer) → tunnel_on o on ≡ u → o.due ≡ due.Do (act.OfStream on a) ∷ others → o.ending ≡ None
      → DoneTells o answer (tunnel_done c u a answer)
  tells_tunnel c None on a others answer is due goes_on = tt
  tells_tunnel c (Some t) on a others answer is due goes_on = tells_stream c t a answer (record { on = on; t = t; others = others; serves = is; due_is = due; goes_on = goes_on }) refl

  tells_act : (rest : List Due) (a : Act) (answer : Answer) → o.due ≡ due.Do a ∷ rest → o.ending ≡ None → DoneTells o answer (act_done (record o { due = rest }) a answer)
  tells_act rest (act.Bind id goal) (Bound true) due goes_on = tt
  tells_act rest (act.Bind id goal) (Bound false) due goes_on = tt
  tells_act rest (act.Open id goal) (Replied (reply.Opened tunnel routes)) due goes_on = record { goal = goal; routes = routes; wants = rw (goes_on, due) refl; kind_is = refl; is = refl }
  tells_act rest (act.Open id goal) (Replied (reply.HistoryFull entries live)) due goes_on = tt
  tells_act rest (act.Refuse id status rule) Said due goes_on = tt
  tells_act rest (act.Reset id code) Said due goes_on = tt
  tells_act rest (act.OfStream id a) answer due goes_on = tells_tunnel (record o { due = rest }) (tunnel_on o id) id a rest answer refl due goes_on
  tells_act rest a answer due goes_on = tt

  tells_due : (ds : List Due) (answer : Answer) → o.due ≡ ds → o.ending ≡ None → DoneTells o answer (due_done o ds answer)
  tells_due (due.Do a ∷ rest) answer is goes_on = tells_act rest a answer is goes_on
  tells_due (due.Spend id size ∷ rest) answer is goes_on = tt
  tells_due (due.Fault code ∷ rest) answer is goes_on = tt
  tells_due [] answer is goes_on = tt

  tells_ending : (reason : End) (ts : List Tunnel) (answer : Answer) → o.ending ≡ Some reason → o.tunnels ≡ ts → DoneTells o answer (ending_done o ts answer)
  tells_ending reason (t ∷ ts) (Replied reply.Closed) is tunnels = record { asked = call.Close t.id; wants = rw (is, tunnels) refl; may = refl; is = refl }
  tells_ending reason ts answer is tunnels = tt

  tells_by : (e : Option End) (answer : Answer) → o.ending ≡ e → DoneTells o answer (done_by o e answer)
  tells_by None answer is = tells_due o.due answer refl is
  tells_by (Some reason) answer is = tells_ending reason o.tunnels answer is refl

  tells_settled : (answer : Answer) (d : Done) → DoneTells o answer d → DoneTells o answer (option_map (λ (d : Note × Conn). (d.0, settle d.1)) d)
  tells_settled answer None h = tt
  tells_settled answer (Some d) h = h

  pub done_tells : (d : Conn) (answer : Answer) (said : Note) → done o answer ≡ Some (said, d) → Tells o answer said
  done_tells d answer said is = subst (DoneTells o answer) is (tells_settled answer (done_by o o.ending answer) (tells_by o.ending answer refl))

-- ---- where a link or a port failed

abbrev pub IsClose : StreamAct → Type 0
IsClose (stream.Close reason) = Unit {0}
IsClose a = ⊥

abbrev pub OnlyCloses : Conn → Type 0
OnlyCloses c = (a : StreamAct) → InFront c a → IsClose a

-- no act is in front of an ending connection
pub failed_closes : (c : Conn) → OnlyCloses (failed c)
failed_closes c a f = let e = f.goes_on in absurd cc

abbrev act_of : List Due → StreamAct
act_of (due.Do (act.OfStream on a) ∷ ds) = a
act_of ds = stream.Close why.End

-- the tunnel of a port that failed is closed first
pub port_failed_closes : (c : Conn) (t : Tunnel) → OnlyCloses (port_failed c t)
port_failed_closes c t a f = let e : stream.Close why.Port ≡ a = ap act_of f.due_is in subst IsClose e tt
