-- Each packet that a connection is to push has an inbox, and each of its steps keeps that.
use Rattle.std.proofs.Common.{◌≡◌, ℕ, ◌+◌, ◌==◌, Bool, true, false, not, cond, ◌||◌, List, [], ◌∷◌, ◌++◌, length, drop, nat_lt, nat_le, filter, Option, Some, None, sym, subst, option_map, inl, inr}
use Rattle.std.specs.Prelude.{find, option_and_then}
use Rattle.std.specs.List.{AllByRecursion, list_any}
use Rattle.mq_addr.specs.declared.entry.Asked.{Asked}
use Rattle.mq_addr.specs.declared.entry.Given.{Given}
use Rattle.mq_addr.specs.declared.kind.Kind.{Kind}
use Rattle.mq_addr.specs.declared.kind.Kind.TheVariants as kind
use Rattle.mq_addr.specs.declared.range.Flow.{Flow}
use Rattle.mq_addr.specs.declared.range.Range.{Range}
use Rattle.mq_capsule.specs.declared.item.Item.{Item}
use Rattle.mq_capsule.specs.declared.item.Item.TheVariants as item
use Rattle.mq_capsule.specs.Writing.{capsule_text, datagram}
use Rattle.mq_outside.specs.declared.PortPut.{PortPut}
use Rattle.mq_outside.specs.declared.PortPut.TheVariants as put
use Rattle.mq_talk.specs.declared.book.Reply.TheVariants as reply
use Rattle.mq_talk.specs.declared.goal.Goal.{Goal}
use Rattle.mq_talk.specs.declared.goal.Goal.TheVariants as goal
use Rattle.mq_talk.specs.declared.note.End.{End}
use Rattle.mq_talk.specs.declared.note.From.{From}
use Rattle.mq_talk.specs.declared.note.Note.{Note}
use Rattle.mq_talk.specs.declared.note.Why.TheVariants as why
use Rattle.mq_talk.specs.declared.place.Cause.TheVariants as cause
use Rattle.mq_talk.specs.declared.place.Verdict.{Verdict}
use Rattle.mq_talk.specs.declared.place.Verdict.TheVariants as verdict
use Rattle.mq_talk.specs.Packets.{flow_of}
use Rattle.mq_machine.specs.declared.act.Act.{Act}
use Rattle.mq_machine.specs.declared.act.Act.TheVariants as act
use Rattle.mq_machine.specs.declared.act.StreamAct.{StreamAct}
use Rattle.mq_machine.specs.declared.act.StreamAct.TheVariants as stream
use Rattle.mq_machine.specs.declared.act.Due.{Due}
use Rattle.mq_machine.specs.declared.act.Due.TheVariants as due
use Rattle.mq_machine.specs.declared.setup.Setup.{Setup}
use Rattle.mq_machine.specs.Done.{is_on, sent, dropped, judged, stream_done, tunnel_done, act_done, due_done, ending_done, done_by, done}
use Rattle.mq_machine.specs.Placing.{IsStreamPlaced, IsPlaced, ArePlaced, IsVerdictPlaced, IsAnswerPlaced}
use Rattle.mq_machine.specs.Putting.{putting}
use Rattle.mq_machine.specs.Reading.{StreamEvent, Request, Malformed, Content, Reset, ConnectionError, Leads, Refused, max_udp, flow_act, payload_act, too_long_act, in_context, some_or_malformed, value_acts, item_acts, is_payload, payload_count, is_close, then_acts, acts_of, on_stream, EndsWith, BytesAsk, stream_of, mark_of, goal_act, ended_acts, error_acts, reset_acts, ContentAsks, EventAsks, EventsAsk, TookNext}
use Rattle.mq_machine.specs.Settle.{spending, passing, is_given_up, updating, settled, settle}
use Rattle.mq_machine.specs.State.{Conn, Front, Head, OverHttp1, OverHttp2, Stream, Tunnel, Waiting, kind_of, owed, packets, waiting_bytes, tunnel_on}
use Rattle.mq_machine.specs.Steps.{finish_by, finished, framed, framed_front, next_framed, frame_size, most_packets, most_waiting, queued, settled_note}
use Rattle.mq_machine.specs.Want.{Answer, Said, Bound, Replied, Judged, Pushed, Put}
use Rattle.mq_machine.specs.Words.{assigned_of, asked_of, ranges_of}
use Rattle.mq_machine.proofs.Lawful.Lists.{either, each_append, each_filter}

module _ (workers : ℕ) where
  abbrev Placed : Conn → Type 0
  Placed c = ArePlaced workers c.due

  abbrev PlacedIn : Option (Note × Conn) → Type 0
  PlacedIn None = Unit {0}
  PlacedIn (Some d) = Placed d.1

  -- ---- the end of an act

  passed : (ds : List Due) (c : Conn) → ArePlaced workers ds → Placed (passing ds c)
  passed [] c h = tt
  passed (due.Do a ∷ rest) c h = h
  passed (due.Spend id size ∷ rest) c h = passed rest (record c { front = spending c.front id size }) h.1
  passed (due.Fault code ∷ rest) c h = tt

  settled_placed : (c : Conn) → Placed c → Placed (settled c)
  settled_placed c h = either (is_given_up c.ending) Placed c (putting c (updating c.front (owed c))) h h

  pub settle_placed : (c : Conn) → Placed c → Placed (settle c)
  settle_placed c h = settled_placed (passing c.due c) (passed c.due c h)

  settle_each : (o : Option (Note × Conn)) → PlacedIn o → PlacedIn (option_map settled_note o)
  settle_each None h = tt
  settle_each (Some d) h = settle_placed d.1 h

  -- ---- answers

  kept_placed : (id : ℕ) (ds : List Due) → ArePlaced workers ds → ArePlaced workers (filter (λ d. not (is_on id d)) ds)
  kept_placed id ds h = each_filter (IsPlaced workers) (λ d. not (is_on id d)) ds h

  sent_placed : (c : Conn) (t : Tunnel) (n : ℕ) (payload : List ℕ) (did : PortPut) → Placed c → PlacedIn (sent c t n payload did)
  sent_placed c t n payload put.Sent h = h
  sent_placed c t n payload put.Failed h = h
  sent_placed c t n payload put.NotNow h = tt

  judged_placed : (c : Conn) (t : Tunnel) (n : ℕ) (packet : List ℕ) (said : Verdict) (at : ℕ) → Placed c → IsVerdictPlaced workers said → Placed (judged c t n packet said at).1
  judged_placed c t n packet (verdict.Pass to) at h k = (k, h)
  judged_placed c t n packet verdict.Source at h k = h
  judged_placed c t n packet verdict.NoRoute at h k = h

  stream_placed : (c : Conn) (t : Tunnel) (a : StreamAct) (answer : Answer) → Placed c → IsAnswerPlaced workers answer → PlacedIn (stream_done c t a answer)
  stream_placed c t (stream.Payload n payload) (Put did limit) h k =
      either (nat_lt limit (length payload)) PlacedIn (Some (dropped c t n cause.TooLong)) (sent c t n payload did) h (sent_placed c t n payload did h)
  stream_placed c t (stream.Packet n packet flow) (Judged said at) h k = judged_placed c t n packet said at h k
  stream_placed c t (stream.Push n to packet) (Pushed true) h k = h
  stream_placed c t (stream.Push n to packet) (Pushed false) h k = h
  stream_placed c t (stream.Drop n cause) Said h k = h
  stream_placed c t (stream.Assign list) (Replied (reply.Assigned given at)) h k = h
  stream_placed c t (stream.Assign list) (Replied reply.Closed) h k = kept_placed t.stream c.due h
  stream_placed c t (stream.Advertise ranges) (Replied (reply.Accepted accepts at)) h k = h
  stream_placed c t (stream.Advertise ranges) (Replied reply.Closed) h k = kept_placed t.stream c.due h
  stream_placed c t (stream.Close reason) (Replied reply.Closed) h k = kept_placed t.stream c.due h
  stream_placed c t a answer h k = tt

  tunnel_placed : (c : Conn) (o : Option Tunnel) (a : StreamAct) (answer : Answer) → Placed c → IsAnswerPlaced workers answer → PlacedIn (tunnel_done c o a answer)
  tunnel_placed c None a answer h k = tt
  tunnel_placed c (Some t) a answer h k = stream_placed c t a answer h k

  act_placed : (c : Conn) (a : Act) (answer : Answer) → Placed c → IsAnswerPlaced workers answer → PlacedIn (act_done c a answer)
  act_placed c (act.Bind id goal) (Bound true) h k = (tt, h)
  act_placed c (act.Bind id goal) (Bound false) h k = kept_placed id c.due h
  act_placed c (act.Open id goal) (Replied (reply.Opened tunnel routes)) h k = h
  act_placed c (act.Open id goal) (Replied (reply.HistoryFull entries live)) h k = kept_placed id c.due h
  act_placed c (act.Refuse id status rule) Said h k = kept_placed id c.due h
  act_placed c (act.Reset id code) Said h k = h
  act_placed c (act.OfStream id a) answer h k = tunnel_placed c (tunnel_on c id) a answer h k
  act_placed c a answer h k = tt

  due_placed : (c : Conn) (ds : List Due) (answer : Answer) → ArePlaced workers ds → IsAnswerPlaced workers answer → PlacedIn (due_done c ds answer)
  due_placed c (due.Do a ∷ rest) answer h k = act_placed (record c { due = rest }) a answer h.1 k
  due_placed c (due.Spend id size ∷ rest) answer h k = tt
  due_placed c (due.Fault code ∷ rest) answer h k = tt
  due_placed c [] answer h k = tt

  ending_placed : (c : Conn) (ts : List Tunnel) (answer : Answer) → Placed c → PlacedIn (ending_done c ts answer)
  ending_placed c (t ∷ ts) (Replied reply.Closed) h = kept_placed t.stream c.due h
  ending_placed c ts answer h = tt

  by_placed : (c : Conn) (e : Option End) (answer : Answer) → Placed c → IsAnswerPlaced workers answer → PlacedIn (done_by c e answer)
  by_placed c None answer h k = due_placed c c.due answer h k
  by_placed c (Some reason) answer h k = ending_placed c c.tunnels answer h

  pub done_placed : (c d : Conn) (answer : Answer) (said : Note) → Placed c → IsAnswerPlaced workers answer → done c answer ≡ Some (said, d) → Placed d
  done_placed c d answer said h k is = subst PlacedIn is (settle_each (done_by c c.ending answer) (by_placed c c.ending answer h k))

  -- ---- frames, the end of the link, and what comes to a tunnel

  front_placed : (c : Conn) (t : Tunnel) (ws : List Waiting) → Placed c → PlacedIn (framed_front c t ws)
  front_placed c t [] h = tt
  front_placed c t (w ∷ ws) h =
      let size = frame_size c.front t.stream (length (drop w.framed w.capsule)) in
      either (nat_le (length w.capsule) (w.framed + size)) (λ (d : Note × Conn). Placed d.1) _ _ h h

  next_placed : (c : Conn) (o : Option Tunnel) → Placed c → PlacedIn (option_and_then (λ (t : Tunnel). framed_front c t t.waiting) o)
  next_placed c None h = tt
  next_placed c (Some t) h = front_placed c t t.waiting h

  pub framed_placed : (c d : Conn) (said : Note) → Placed c → framed c ≡ Some (said, d) → Placed d
  framed_placed c d said h is = subst PlacedIn is (settle_each (option_and_then (λ (t : Tunnel). framed_front c t t.waiting) (next_framed c)) (next_placed c (next_framed c) h))

  finish_placed : (c : Conn) (f : Front) (inside : Bool) → Placed c → Placed (finish_by c f inside)
  finish_placed c (Head []) inside h = h
  finish_placed c (Head (b ∷ bytes)) inside h = h
  finish_placed c OverHttp1 inside h = (tt, h)
  finish_placed c (OverHttp2 s) inside h = h

  pub finished_placed : (c : Conn) (inside : Bool) → Placed c → Placed (finished c inside).1
  finished_placed c inside h = settle_placed (finish_by (record c { is_finished = true }) c.front inside) (finish_placed (record c { is_finished = true }) c.front inside h)

  pub queued_placed : (c : Conn) (t : Tunnel) (from : From) (n : ℕ) (packet : List ℕ) → Placed c → Placed (settled_note (queued c t from n packet)).1
  queued_placed c t from n packet h =
      settle_placed (queued c t from n packet).1
      (either (nat_le most_packets (packets t) || nat_lt most_waiting (waiting_bytes c + length (capsule_text (datagram packet)))) (λ (d : Note × Conn). Placed d.1) _ _ h h)

  -- ---- what bytes ask for is no push

  abbrev Places : List StreamAct → Type 0
  Places acts = AllByRecursion (IsStreamPlaced workers) acts

  flow_placed : (mtu n : ℕ) (packet : List ℕ) (o : Option Flow) → IsStreamPlaced workers (flow_act mtu n packet o)
  flow_placed mtu n packet None = tt
  flow_placed mtu n packet (Some flow) = either (nat_lt mtu (length packet)) (IsStreamPlaced workers) (stream.Drop n cause.TooLong) (stream.Packet n packet flow) tt tt

  payload_placed : (k : Kind) (mtu n : ℕ) (payload : List ℕ) → IsStreamPlaced workers (payload_act k mtu n payload)
  payload_placed kind.Udp mtu n payload = either (nat_lt max_udp (length payload)) (IsStreamPlaced workers) (stream.Close why.Malformed) (stream.Payload n payload) tt tt
  payload_placed kind.Ip mtu n payload = flow_placed mtu n payload (flow_of payload)

  long_placed : (k : Kind) (n : ℕ) → IsStreamPlaced workers (too_long_act k n)
  long_placed kind.Udp n = tt
  long_placed kind.Ip n = tt

  context_placed : (context n : ℕ) (a : StreamAct) → IsStreamPlaced workers a → IsStreamPlaced workers (in_context context n a)
  context_placed context n a h = either (context == 0) (IsStreamPlaced workers) a (stream.Drop n cause.UnknownContext) h tt

  some_placed : {A : Type 0} (f : A → List StreamAct) (o : Option A) → ((a : A) → Places (f a)) → Places (some_or_malformed f o)
  some_placed f None h = (tt, tt)
  some_placed f (Some a) h = h a

  values_placed : (type : ℕ) (value : List ℕ) → Places (value_acts type value)
  values_placed type value =
      either (type == 1) Places _ _ (some_placed (λ (list : List Given). []) (assigned_of value) (λ list. tt))
      (either (type == 2) Places _ _ (some_placed (λ (list : List Asked). stream.Assign list ∷ []) (asked_of value) (λ list. (tt, tt)))
      (some_placed (λ (ranges : List Range). stream.Advertise ranges ∷ []) (ranges_of value) (λ ranges. (tt, tt))))

  item_placed : (k : Kind) (mtu n : ℕ) (i : Item) → Places (item_acts k mtu n i)
  item_placed k mtu n (item.Datagram context payload) = (context_placed context n (payload_act k mtu n payload) (payload_placed k mtu n payload), tt)
  item_placed k mtu n (item.TooLongDatagram context size) = (context_placed context n (too_long_act k n) (long_placed k n), tt)
  item_placed k mtu n (item.Control type value) = values_placed type value
  item_placed k mtu n (item.Bad fault) = (tt, tt)

  then_placed : (acts more : List StreamAct) → Places acts → Places more → Places (then_acts acts more)
  then_placed acts more h l = each_append (IsStreamPlaced workers) acts (cond (list_any is_close acts) [] more) h (either (list_any is_close acts) Places [] more tt l)

  items_placed : (k : Kind) (mtu n : ℕ) (items : List Item) → Places (acts_of k mtu n items)
  items_placed k mtu n [] = tt
  items_placed k mtu n (i ∷ items) =
      let later = n + cond (is_payload i) 1 0 in
      then_placed (item_acts k mtu n i) (acts_of k mtu later items) (item_placed k mtu n i) (items_placed k mtu later items)

  ends_placed : (goal : Goal) (bytes : List ℕ) (ends : Bool) (acts : List StreamAct) → EndsWith goal bytes ends acts → Places acts
  ends_placed goal bytes false acts h = subst Places (sym h) tt
  ends_placed goal bytes true acts (inl h) = subst Places (sym h.1) (tt, tt)
  ends_placed goal bytes true acts (inr h) = subst Places (sym h.1) (tt, tt)

  bytes_placed : (mtu : ℕ) (s : Stream) (bytes : List ℕ) (ends : Bool) (acts : List StreamAct) → BytesAsk mtu s bytes ends acts → Places acts
  bytes_placed mtu s bytes ends acts x =
      let kind = kind_of s.goal in
      let count = payload_count x.before in
      subst Places (sym x.acts_are) (then_placed (acts_of kind mtu count x.items) x.last (items_placed kind mtu count x.items) (ends_placed s.goal (s.bytes ++ bytes) ends x.last x.ends_in))

  mark_placed : (id : ℕ) (size : Option ℕ) → ArePlaced workers (mark_of id size)
  mark_placed id None = tt
  mark_placed id (Some n) = (tt, tt)

  asked_placed : (id : ℕ) (asked : List StreamAct) (size : Option ℕ) → Places asked → ArePlaced workers (on_stream id asked ++ mark_of id size)
  asked_placed id [] size h = mark_placed id size
  asked_placed id (a ∷ asked) size h = (h.0, asked_placed id asked size h.1)

  content_placed : (mtu id : ℕ) (bytes : List ℕ) (size : Option ℕ) (ends : Bool) (o : Option Stream) (acts : List Due) → ContentAsks mtu id bytes size ends o acts → ArePlaced workers acts
  content_placed mtu id bytes size ends None acts x = subst (ArePlaced workers) (sym x) (mark_placed id size)
  content_placed mtu id bytes size ends (Some s) acts x = subst (ArePlaced workers) (sym x.2) (asked_placed id x.0 size (bytes_placed mtu s bytes ends x.0 x.1))

  ended_placed : (id : ℕ) (ends : Bool) → ArePlaced workers (ended_acts id ends)
  ended_placed id true = (tt, tt)
  ended_placed id false = tt

  goal_placed : (id : ℕ) (goal : Goal) (ends : Bool) → ArePlaced workers (due.Do (goal_act id goal) ∷ ended_acts id ends)
  goal_placed id (goal.Udp addr port) ends = (tt, ended_placed id ends)
  goal_placed id (goal.Ip area protocol) ends = (tt, ended_placed id ends)

  error_placed : (id code : ℕ) (o : Option Tunnel) → ArePlaced workers (error_acts id code o)
  error_placed id code None = (tt, tt)
  error_placed id code (Some t) = (tt, tt)

  reset_placed : (id : ℕ) (o : Option Tunnel) → ArePlaced workers (reset_acts id o)
  reset_placed id None = tt
  reset_placed id (Some t) = (tt, tt)

  event_placed : (mtu : ℕ) (ts : List Tunnel) (old : List Stream) (e : StreamEvent) (acts : List Due) (new : List Stream) → EventAsks mtu ts old e acts new → ArePlaced workers acts
  event_placed mtu ts old (Request id (Refused status rule) ends) acts new x = subst (ArePlaced workers) (sym x.0) (tt, tt)
  event_placed mtu ts old (Request id (Leads found) ends) acts new x = subst (ArePlaced workers) (sym x.0) (goal_placed id found ends)
  event_placed mtu ts old (Malformed id code) acts new x = subst (ArePlaced workers) (sym x.0) (error_placed id code (find (λ (t : Tunnel). t.stream == id) ts))
  event_placed mtu ts old (Content id bytes size ends) acts new x = content_placed mtu id bytes size ends (stream_of old id) acts x.0
  event_placed mtu ts old (Reset id) acts new x = subst (ArePlaced workers) (sym x.0) (reset_placed id (find (λ (t : Tunnel). t.stream == id) ts))
  event_placed mtu ts old (ConnectionError code) acts new x = subst (ArePlaced workers) (sym x.0) (tt, tt)

  pub events_placed : (mtu : ℕ) (ts : List Tunnel) (es : List StreamEvent) (old : List Stream) (acts : List Due) (new : List Stream) → EventsAsk mtu ts old es acts new → ArePlaced workers acts
  events_placed mtu ts [] old acts new x = subst (ArePlaced workers) (sym x.0) tt
  events_placed mtu ts (e ∷ es) old acts new x =
      subst (ArePlaced workers) (sym x.5) (each_append (IsPlaced workers) x.0 x.2 (event_placed mtu ts old e x.0 x.1 x.3) (events_placed mtu ts es x.1 x.2 new x.4))

  pub took_placed : (setup : Setup) (c d : Conn) (bytes : List ℕ) → TookNext setup c bytes d → Placed d
  took_placed setup c d bytes x =
      let now : Conn = record c { front = x.front; streams = x.streams; due = x.acts; out = c.out ++ x.text } in
      subst Placed (sym x.new_is) (settle_placed now (events_placed setup.mtu c.tunnels x.events c.streams x.acts x.streams x.asks))
