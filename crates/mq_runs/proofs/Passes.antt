-- A push is due in front alone, in any sense of it that holds of what passes.
use Rattle.std.proofs.Common.{◌≡◌, ◌+◌, ℕ, Bool, true, false, cond, not, ◌&&◌, ◌||◌, List, [], ◌∷◌, ◌++◌, length, drop, nat_le, nat_lt, Option, Some, None, option_map, refl, sym, subst, ap, ◌∙◌}
use Rattle.std.specs.Prelude.{find, ◌==◌, option_and_then}
use Rattle.std.specs.List.{AllByRecursion, filter}
use Rattle.std.proofs.lemmas.Bool.{eqb-true}
use Rattle.mq_addr.specs.declared.kind.Kind.{Kind}
use Rattle.mq_capsule.specs.Laws.{IsWithinLimits}
use Rattle.mq_capsule.specs.declared.item.Item.{Item}
use Rattle.mq_capsule.specs.Writing.{capsule_text, datagram}
use Rattle.mq_outside.specs.declared.PortPut.{PortPut}
use Rattle.mq_outside.specs.declared.PortPut.TheVariants as put
use Rattle.mq_talk.specs.declared.book.Reply.TheVariants as reply
use Rattle.mq_talk.specs.declared.goal.Goal.{Goal}
use Rattle.mq_talk.specs.declared.goal.Goal.TheVariants as goal
use Rattle.mq_talk.specs.declared.note.End.{End}
use Rattle.mq_talk.specs.declared.note.From.{From}
use Rattle.mq_talk.specs.declared.note.Note.{Note}
use Rattle.mq_talk.specs.declared.place.Cause.TheVariants as cause
use Rattle.mq_talk.specs.declared.place.Place.{Place}
use Rattle.mq_talk.specs.declared.place.Verdict.{Verdict}
use Rattle.mq_talk.specs.declared.place.Verdict.TheVariants as verdict
use Rattle.mq_machine.specs.declared.act.Act.{Act}
use Rattle.mq_machine.specs.declared.act.Act.TheVariants as act
use Rattle.mq_machine.specs.declared.act.StreamAct.{StreamAct}
use Rattle.mq_machine.specs.declared.act.StreamAct.TheVariants as stream
use Rattle.mq_machine.specs.declared.act.Due.{Due}
use Rattle.mq_machine.specs.declared.act.Due.TheVariants as due
use Rattle.mq_machine.specs.declared.setup.Setup.{Setup}
use Rattle.mq_machine.specs.Done.{is_on, waits, sent, dropped, judged, stream_done, tunnel_done, act_done, due_done, ending_done, done_by, done}
use Rattle.mq_machine.specs.Lawful.{IsLawful, IsAskedOf, Follows, IsOver, kind_on}
use Rattle.mq_machine.specs.Putting.{putting}
use Rattle.mq_machine.specs.Reading.{StreamEvent, Request, Malformed, Content, Reset, ConnectionError, Leads, Refused, on_stream, mark_of, goal_act, ended_acts, error_acts, reset_acts, ContentAsks, EventAsks, EventsAsk, TookNext, stream_of}
use Rattle.mq_machine.specs.Settle.{spending, passing, is_given_up, updating, settled, settle}
use Rattle.mq_machine.specs.State.{kind_of, Conn, Front, Head, OverHttp1, OverHttp2, Stream, Tunnel, Waiting, Packet, owed, packets, waiting_bytes, tunnel_on}
use Rattle.mq_machine.specs.Steps.{is_nothing, most_owed, is_ending, can_read, can_go_on, finish_by, finished, framed, framed_front, next_framed, frame_size, most_packets, most_waiting, queued, passed_on, set_waiting, settled_note}
use Rattle.mq_machine.specs.Want.{Want, Nothing, Say, Bind, Ask, Judge, Push, Send, Over, Answer, Said, Bound, Replied, Judged, Pushed, Put, want_of, may_wait}
use Rattle.mq_play.proofs.Lists.{if_both, some_same, each_append, each_filter}
use Rattle.mq_runs.proofs.Asked.{bytes_ask}
use Rattle.mq_runs.proofs.Numbers.{AskedOf, Asks}
use Rattle.mq_runs.proofs.Walks.{found_passes, left_true}

-- ---- no push

abbrev pub IsNoPush : StreamAct → Type 0
IsNoPush (stream.Push n to packet) = ⊥
IsNoPush a = Unit {0}

abbrev pub NoPush : Due → Type 0
NoPush (due.Do (act.OfStream on a)) = IsNoPush a
NoPush d = Unit {0}

abbrev pub NoPushes : List Due → Type 0
NoPushes ds = AllByRecursion NoPush ds

-- bytes ask for none
mark_none : (id : ℕ) (size : Option ℕ) → NoPushes (mark_of id size)
mark_none id None = tt
mark_none id (Some n) = (tt, tt)

act_none : (mtu : ℕ) (all : List Item) (a : StreamAct) → AskedOf mtu all a → IsNoPush a
act_none mtu all (stream.Push n to packet) h = absurd h
act_none mtu all a h = tt

on_none : (mtu : ℕ) (all : List Item) (on : ℕ) (acts : List StreamAct) (size : Option ℕ) → Asks mtu all acts → NoPushes (on_stream on acts ++ mark_of on size)
on_none mtu all on [] size h = mark_none on size
on_none mtu all on (a ∷ acts) size h = (act_none mtu all a h.0, on_none mtu all on acts size h.1)

ended_none : (id : ℕ) (ends : Bool) → NoPushes (ended_acts id ends)
ended_none id true = (tt, tt)
ended_none id false = tt

goal_none : (id : ℕ) (g : Goal) (ends : Bool) → NoPushes (due.Do (goal_act id g) ∷ ended_acts id ends)
goal_none id (goal.Udp addr port) ends = (tt, ended_none id ends)
goal_none id (goal.Ip area protocol) ends = (tt, ended_none id ends)

error_none : (id code : ℕ) (o : Option Tunnel) → NoPushes (error_acts id code o)
error_none id code None = (tt, tt)
error_none id code (Some t) = (tt, tt)

reset_none : (id : ℕ) (o : Option Tunnel) → NoPushes (reset_acts id o)
reset_none id None = tt
reset_none id (Some t) = (tt, tt)

module _ (limits : IsWithinLimits) (mtu : ℕ) where
  content_none : (id : ℕ) (bytes : List ℕ) (size : Option ℕ) (ends : Bool) (o : Option Stream) (acts : List Due) → ContentAsks mtu id bytes size ends o acts → NoPushes acts
  content_none id bytes size ends None acts x = subst NoPushes (sym x) (mark_none id size)
  content_none id bytes size ends (Some s) acts x = subst NoPushes (sym x.2) (on_none mtu (x.1.before ++ x.1.items) id x.0 size (bytes_ask mtu limits s bytes ends x.0 x.1))

  event_none : (ts : List Tunnel) (old : List Stream) (e : StreamEvent) (acts : List Due) (new : List Stream) → EventAsks mtu ts old e acts new → NoPushes acts
  event_none ts old (Request id (Refused status rule) ends) acts new x = subst NoPushes (sym x.0) (tt, tt)
  event_none ts old (Request id (Leads found) ends) acts new x = subst NoPushes (sym x.0) (goal_none id found ends)
  event_none ts old (Malformed id code) acts new x = subst NoPushes (sym x.0) (error_none id code (find (λ (t : Tunnel). t.stream == id) ts))
  event_none ts old (Content id bytes size ends) acts new x = content_none id bytes size ends (stream_of old id) acts x.0
  event_none ts old (Reset id) acts new x = subst NoPushes (sym x.0) (reset_none id (find (λ (t : Tunnel). t.stream == id) ts))
  event_none ts old (ConnectionError code) acts new x = subst NoPushes (sym x.0) (tt, tt)

  events_none : (ts : List Tunnel) (es : List StreamEvent) (old : List Stream) (acts : List Due) (new : List Stream) → EventsAsk mtu ts old es acts new → NoPushes acts
  events_none ts [] old acts new x = subst NoPushes (sym x.0) tt
  events_none ts (e ∷ es) old acts new x = subst NoPushes (sym x.5) (each_append NoPush x.0 x.2 (event_none ts old e x.0 x.1 x.3) (events_none ts es x.1 x.2 new x.4))

-- ---- tunnels by their streams

-- who is found by a stream has the number of who was
abbrev pub AreSame : List Tunnel → List Tunnel → Type 0
AreSame us ts = (on : ℕ) (u : Tunnel) → find (λ (t : Tunnel). t.stream == on) us ≡ Some u → (t : Tunnel) × (find (λ (t : Tunnel). t.stream == on) ts ≡ Some t) × (u.id ≡ t.id)

first_same : (c : Bool) (t u : Tunnel) (o p : Option Tunnel) (v : Tunnel) → u.id ≡ t.id → cond c (Some u) o ≡ Some v → (o ≡ Some v → (x : Tunnel) × (p ≡ Some x) × (v.id ≡ x.id)) → (x : Tunnel) × (cond c (Some t) p ≡ Some x) × (v.id ≡ x.id)
first_same true t u o p v same e rest = (t, refl, ap (λ (x : Tunnel). x.id) (sym (some_same e)) ∙ same)
first_same false t u o p v same e rest = rest e

changed_same : (b : Bool) (t : Tunnel) (ws : List Waiting) (ts us : List Tunnel) → AreSame us ts → AreSame (cond b (record t { waiting = ws } ∷ ts) (t ∷ us)) (t ∷ ts)
changed_same true t ws ts us h on v e =
    first_same (t.stream == on) t (record t { waiting = ws }) (find (λ (t : Tunnel). t.stream == on) ts) (find (λ (t : Tunnel). t.stream == on) ts) v refl e (λ e. (v, e, refl))
changed_same false t ws ts us h on v e =
    first_same (t.stream == on) t t (find (λ (t : Tunnel). t.stream == on) us) (find (λ (t : Tunnel). t.stream == on) ts) v refl e (λ e. h on v e)

set_same : (s : ℕ) (ws : List Waiting) (ts : List Tunnel) → AreSame (set_waiting s ws ts) ts
set_same s ws [] on u e = absurd cc
set_same s ws (t ∷ ts) on u e = changed_same (t.stream == s) t ws ts (set_waiting s ws ts) (set_same s ws ts) on u e

waits_same : (id : ℕ) (w : Waiting) (ts : List Tunnel) → AreSame (waits id w ts) ts
waits_same id w [] on u e = absurd cc
waits_same id w (t ∷ ts) on u e = changed_same (t.id == id) t (t.waiting ++ w ∷ []) ts (waits id w ts) (waits_same id w ts) on u e

-- ---- a push in front

module _ (Q : ℕ → ℕ → Place → List ℕ → Type 0) where
  abbrev pub ActWell : List Tunnel → ℕ → StreamAct → Type 0
  ActWell ts on (stream.Push n to packet) = (t : Tunnel) → find (λ (t : Tunnel). t.stream == on) ts ≡ Some t → Q t.id n to packet
  ActWell ts on a = Unit {0}

  abbrev pub FrontWell : List Tunnel → Due → Type 0
  FrontWell ts (due.Do (act.OfStream on a)) = ActWell ts on a
  FrontWell ts d = Unit {0}

  abbrev pub DuesWell : List Tunnel → List Due → Type 0
  DuesWell ts [] = Unit {0}
  DuesWell ts (d ∷ ds) = FrontWell ts d × NoPushes ds

  abbrev pub ConnWell : Conn → Type 0
  ConnWell c = DuesWell c.tunnels c.due

  act_well : (ts : List Tunnel) (on : ℕ) (a : StreamAct) → IsNoPush a → ActWell ts on a
  act_well ts on (stream.Push n to packet) h = absurd h
  act_well ts on a h = tt

  front_well : (ts : List Tunnel) (d : Due) → NoPush d → FrontWell ts d
  front_well ts (due.Do (act.OfStream on a)) h = act_well ts on a h
  front_well ts d h = tt

  none_well : (ts : List Tunnel) (ds : List Due) → NoPushes ds → DuesWell ts ds
  none_well ts [] h = tt
  none_well ts (d ∷ ds) h = (front_well ts d h.0, h.1)

  same_act : (us ts : List Tunnel) (on : ℕ) (a : StreamAct) → AreSame us ts → ActWell ts on a → ActWell us on a
  same_act us ts on (stream.Push n to packet) same h = λ u e. let was = same on u e in subst (λ i. Q i n to packet) (sym was.2) (h was.0 was.1)
  same_act us ts on a same h = tt

  same_front : (us ts : List Tunnel) (d : Due) → AreSame us ts → FrontWell ts d → FrontWell us d
  same_front us ts (due.Do (act.OfStream on a)) same h = same_act us ts on a same h
  same_front us ts d same h = tt

  same_well : (us ts : List Tunnel) (ds : List Due) → AreSame us ts → DuesWell ts ds → DuesWell us ds
  same_well us ts [] same h = tt
  same_well us ts (d ∷ ds) same h = (same_front us ts d same h.0, h.1)

  -- ---- the end of an act

  passing_well : (ds : List Due) (c : Conn) → DuesWell c.tunnels ds → ConnWell (passing ds c)
  passing_well [] c h = tt
  passing_well (due.Do a ∷ rest) c h = h
  passing_well (due.Spend id size ∷ rest) c h = passing_well rest (record c { front = spending c.front id size }) (none_well c.tunnels rest h.1)
  passing_well (due.Fault code ∷ rest) c h = tt

  settled_well : (c : Conn) → ConnWell c → ConnWell (settled c)
  settled_well c h = if_both ConnWell (is_given_up c.ending) c (putting c (updating c.front (owed c))) h h

  pub settle_well : (c : Conn) → ConnWell c → ConnWell (settle c)
  settle_well c h = settled_well (passing c.due c) (passing_well c.due c h)

  abbrev DoneWell : Option (Note × Conn) → Type 0
  DoneWell None = Unit {0}
  DoneWell (Some d) = ConnWell d.1

  settle_each : (o : Option (Note × Conn)) → DoneWell o → DoneWell (option_map settled_note o)
  settle_each None h = tt
  settle_each (Some d) h = settle_well d.1 h

  -- ---- answers

  gone_well : (id : ℕ) (ds : List Due) → NoPushes ds → NoPushes (filter (λ d. not (is_on id d)) ds)
  gone_well id ds h = each_filter NoPush (λ d. not (is_on id d)) ds h

  sent_well : (c : Conn) (t : Tunnel) (n : ℕ) (payload : List ℕ) (did : PortPut) → NoPushes c.due → DoneWell (sent c t n payload did)
  sent_well c t n payload put.Sent h = none_well c.tunnels c.due h
  sent_well c t n payload put.Failed h = none_well c.tunnels c.due h
  sent_well c t n payload put.NotNow h = tt

  -- what passed is well
  judged_well : (c : Conn) (t : Tunnel) (n : ℕ) (packet : List ℕ) (said : Verdict) (at : ℕ) → tunnel_on c t.stream ≡ Some t → ((to : Place) → said ≡ verdict.Pass to → Q t.id n to packet) → NoPushes c.due
      → ConnWell (judged c t n packet said at).1
  judged_well c t n packet (verdict.Pass to) at serves passed h =
      (λ u e. subst (λ (v : Tunnel). Q v.id n to packet) (some_same (sym serves ∙ e)) (passed to refl), h)
  judged_well c t n packet verdict.Source at serves passed h = none_well c.tunnels c.due h
  judged_well c t n packet verdict.NoRoute at serves passed h = none_well c.tunnels c.due h

  -- a packet that is asked of the tunnel
  abbrev pub AskPasses : Tunnel → StreamAct → Answer → Type 0
  AskPasses t (stream.Packet n packet flow) (Judged said at) = (to : Place) → said ≡ verdict.Pass to → Q t.id n to packet
  AskPasses t a answer = Unit {0}

  stream_well : (c : Conn) (t : Tunnel) (a : StreamAct) (answer : Answer) → tunnel_on c t.stream ≡ Some t → AskPasses t a answer → NoPushes c.due → DoneWell (stream_done c t a answer)
  stream_well c t (stream.Payload n payload) (Put did limit) serves p h =
      if_both DoneWell (nat_lt limit (length payload)) (Some (dropped c t n cause.TooLong)) (sent c t n payload did) (none_well c.tunnels c.due h) (sent_well c t n payload did h)
  stream_well c t (stream.Packet n packet flow) (Judged said at) serves p h = judged_well c t n packet said at serves p h
  stream_well c t (stream.Push n to packet) (Pushed true) serves p h = none_well c.tunnels c.due h
  stream_well c t (stream.Push n to packet) (Pushed false) serves p h = none_well c.tunnels c.due h
  stream_well c t (stream.Drop n cause) Said serves p h = none_well c.tunnels c.due h
  stream_well c t (stream.Assign list) (Replied (reply.Assigned given at)) serves p h = none_well _ c.due h
  stream_well c t (stream.Assign list) (Replied reply.Closed) serves p h = none_well _ _ (gone_well t.stream c.due h)
  stream_well c t (stream.Advertise ranges) (Replied (reply.Accepted accepts at)) serves p h = none_well c.tunnels c.due h
  stream_well c t (stream.Advertise ranges) (Replied reply.Closed) serves p h = none_well _ _ (gone_well t.stream c.due h)
  stream_well c t (stream.Close reason) (Replied reply.Closed) serves p h = none_well _ _ (gone_well t.stream c.due h)
  stream_well c t a answer serves p h = tt

  -- what passes where this is due
  abbrev pub Passes : Conn → List Due → Answer → Type 0
  Passes c (due.Do (act.OfStream on a) ∷ rest) answer = (t : Tunnel) → tunnel_on c on ≡ Some t → AskPasses t a answer
  Passes c ds answer = Unit {0}

  tunnel_well : (c : Conn) (o : Option Tunnel) (on : ℕ) (a : StreamAct) (answer : Answer) → tunnel_on c on ≡ o → ((t : Tunnel) → tunnel_on c on ≡ Some t → AskPasses t a answer) → NoPushes c.due → DoneWell (tunnel_done c o a answer)
  tunnel_well c None on a answer is p h = tt
  tunnel_well c (Some t) on a answer is p h =
      let same : t.stream ≡ on = eqb-true t.stream on (found_passes (λ (t : Tunnel). t.stream == on) c.tunnels t is) in
      stream_well c t a answer (subst (λ i. tunnel_on c i ≡ Some t) (sym same) is) (p t is) h

  done_well : (c : Conn) (a : Act) (rest : List Due) (answer : Answer) → Passes c (due.Do a ∷ rest) answer → NoPushes c.due → DoneWell (act_done c a answer)
  done_well c (act.Bind id goal) rest (Bound true) p h = (tt, h)
  done_well c (act.Bind id goal) rest (Bound false) p h = none_well _ _ (gone_well id c.due h)
  done_well c (act.Open id goal) rest (Replied (reply.Opened tunnel routes)) p h = none_well _ c.due h
  done_well c (act.Open id goal) rest (Replied (reply.HistoryFull entries live)) p h = none_well _ _ (gone_well id c.due h)
  done_well c (act.Refuse id status rule) rest Said p h = none_well _ _ (gone_well id c.due h)
  done_well c (act.Reset id code) rest Said p h = none_well c.tunnels c.due h
  done_well c (act.OfStream on a) rest answer p h = tunnel_well c (tunnel_on c on) on a answer refl p h
  done_well c a rest answer p h = tt

  same_passes : (c : Conn) (a : Act) (rest : List Due) (answer : Answer) → Passes c (due.Do a ∷ rest) answer → Passes (record c { due = rest }) (due.Do a ∷ rest) answer
  same_passes c (act.OfStream on a) rest answer p = p
  same_passes c a rest answer p = tt

  due_well : (c : Conn) (ds : List Due) (answer : Answer) → Passes c ds answer → DuesWell c.tunnels ds → DoneWell (due_done c ds answer)
  due_well c [] answer p h = tt
  due_well c (due.Do a ∷ rest) answer p h = done_well (record c { due = rest }) a rest answer (same_passes c a rest answer p) h.1
  due_well c (due.Spend id size ∷ rest) answer p h = tt
  due_well c (due.Fault code ∷ rest) answer p h = tt

  ending_well : (c : Conn) (ts : List Tunnel) (answer : Answer) → NoPushes c.due → DoneWell (ending_done c ts answer)
  ending_well c (t ∷ ts) (Replied reply.Closed) h = none_well _ _ (gone_well t.stream c.due h)
  ending_well c ts answer h = tt

  by_well : (c : Conn) (e : Option End) (answer : Answer) → IsOver e c.due → Passes c c.due answer → ConnWell c → DoneWell (done_by c e answer)
  by_well c None answer over p h = due_well c c.due answer p h
  by_well c (Some why) answer over p h = ending_well c c.tunnels answer (subst NoPushes (sym over) tt)

  pub done_is_well : (c d : Conn) (answer : Answer) (said : Note) → IsOver c.ending c.due → Passes c c.due answer → ConnWell c → done c answer ≡ Some (said, d) → ConnWell d
  done_is_well c d answer said over p h is = subst DoneWell is (settle_each (done_by c c.ending answer) (by_well c c.ending answer over p h))

  -- ---- frames, and what comes to a tunnel

  framing_well : (c : Conn) (t : Tunnel) (ws : List Waiting) → ConnWell c → DoneWell (framed_front c t ws)
  framing_well c t [] h = tt
  framing_well c t (w ∷ ws) h =
      let size = frame_size c.front t.stream (length (drop w.framed w.capsule)) in
      if_both (λ (d : Note × Conn). ConnWell d.1) (nat_le (length w.capsule) (w.framed + size)) _ _
      (same_well (set_waiting t.stream ws c.tunnels) c.tunnels c.due (set_same t.stream ws c.tunnels) h)
      (same_well (set_waiting t.stream (record w { framed = w.framed + size } ∷ ws) c.tunnels) c.tunnels c.due (set_same t.stream (record w { framed = w.framed + size } ∷ ws) c.tunnels) h)

  next_well : (c : Conn) (o : Option Tunnel) → ConnWell c → DoneWell (option_and_then (λ (t : Tunnel). framed_front c t t.waiting) o)
  next_well c None h = tt
  next_well c (Some t) h = framing_well c t t.waiting h

  pub framed_well : (c d : Conn) (said : Note) → ConnWell c → framed c ≡ Some (said, d) → ConnWell d
  framed_well c d said h is = subst DoneWell is (settle_each (option_and_then (λ (t : Tunnel). framed_front c t t.waiting) (next_framed c)) (next_well c (next_framed c) h))

  pub queued_well : (c : Conn) (t : Tunnel) (from : From) (n : ℕ) (packet : List ℕ) → ConnWell c → ConnWell (settled_note (queued c t from n packet)).1
  queued_well c t from n packet h =
      let w : Waiting = record { what = Packet from n packet; capsule = capsule_text (datagram packet); framed = 0 } in
      settle_well (queued c t from n packet).1
      (if_both (λ (d : Note × Conn). ConnWell d.1) (nat_le most_packets (packets t) || nat_lt most_waiting (waiting_bytes c + length (capsule_text (datagram packet)))) _ _
      h (same_well (waits t.id w c.tunnels) c.tunnels c.due (waits_same t.id w c.tunnels) h))

  pub came_well : (c : Conn) (t : Tunnel) (from : From) (n : ℕ) (o : Option (List ℕ)) → ConnWell c → ConnWell (passed_on c t from n o).1
  came_well c t from n None h = h
  came_well c t from n (Some packet) h = queued_well c t from n packet h

  -- ---- where it may wait, none is in front

  push_wants : (c : Conn) (on n : ℕ) (to : Place) (packet : List ℕ) (k : Option Kind) (o : Option Tunnel) → IsAskedOf k (stream.Push n to packet) → option_map (λ (t : Tunnel). kind_of t.goal) o ≡ k
      → may_wait (Rattle.mq_machine.specs.Want.tunnel_want o (stream.Push n to packet)) ≡ true → ⊥
  push_wants c on n to packet None o asked is waits = absurd asked
  push_wants c on n to packet (Some kind) None asked is waits = absurd cc
  push_wants c on n to packet (Some kind) (Some t) asked is waits = absurd cc

  act_waits : (c : Conn) (on : ℕ) (a : StreamAct) → IsAskedOf (kind_on c.tunnels on) a → may_wait (Rattle.mq_machine.specs.Want.tunnel_want (tunnel_on c on) a) ≡ true → IsNoPush a
  act_waits c on (stream.Push n to packet) asked waits = absurd (push_wants c on n to packet (kind_on c.tunnels on) (tunnel_on c on) asked refl waits)
  act_waits c on a asked waits = tt

  front_waits : (c : Conn) (d : Due) (ds : List Due) → Follows (kind_on c.tunnels) (d ∷ ds) → may_wait (Rattle.mq_machine.specs.Want.due_want c (d ∷ ds)) ≡ true → NoPush d
  front_waits c (due.Do (act.OfStream on a)) ds follows waits = act_waits c on a follows.0 waits
  front_waits c d ds follows waits = tt

  dues_wait : (c : Conn) (ds : List Due) → Follows (kind_on c.tunnels) ds → may_wait (Rattle.mq_machine.specs.Want.due_want c ds) ≡ true → DuesWell c.tunnels ds → NoPushes ds
  dues_wait c [] follows waits h = tt
  dues_wait c (d ∷ ds) follows waits h = (front_waits c d ds follows waits, h.1)

  wait_by : (c : Conn) (e : Option End) → IsOver e c.due → Follows (kind_on c.tunnels) c.due → may_wait (Rattle.mq_machine.specs.Want.want_by c e) ≡ true → ConnWell c → NoPushes c.due
  wait_by c None over follows waits h = dues_wait c c.due follows waits h
  wait_by c (Some why) over follows waits h = subst NoPushes (sym over) tt

  pub waits_none : (c : Conn) → IsLawful c → may_wait (want_of c) ≡ true → ConnWell c → NoPushes c.due
  waits_none c lawful waits h = wait_by c c.ending lawful.loose.over lawful.loose.follows waits h

  nothing_waits : (w : Want) → is_nothing w ≡ true → may_wait w ≡ true
  nothing_waits Nothing e = refl
  nothing_waits w e = absurd cc

  reads_none : (c : Conn) → IsLawful c → can_read c ≡ true → ConnWell c → NoPushes c.due
  reads_none c lawful can h = waits_none c lawful (nothing_waits (want_of c) (left_true (is_nothing (want_of c)) (nat_le (length (owed c)) most_owed) (left_true (is_nothing (want_of c) && nat_le (length (owed c)) most_owed) (not (is_ending c.ending)) (left_true (can_go_on c) (not c.is_finished) can)))) h

  -- ---- the end of the link

  finish_well : (c : Conn) (f : Front) (inside : Bool) → NoPushes c.due → ConnWell (finish_by c f inside)
  finish_well c (Head []) inside h = none_well c.tunnels c.due h
  finish_well c (Head (b ∷ bytes)) inside h = none_well c.tunnels c.due h
  finish_well c OverHttp1 inside h = (tt, h)
  finish_well c (OverHttp2 s) inside h = none_well c.tunnels c.due h

  pub finished_well : (c : Conn) (inside : Bool) → IsLawful c → can_read c ≡ true → ConnWell c → ConnWell (finished c inside).1
  finished_well c inside lawful can h =
      settle_well (finish_by (record c { is_finished = true }) c.front inside) (finish_well (record c { is_finished = true }) c.front inside (reads_none c lawful can h))

  -- ---- reads

  pub took_well : IsWithinLimits → (setup : Setup) (c d : Conn) (bytes : List ℕ) → TookNext setup c bytes d → ConnWell d
  took_well limits setup c d bytes x =
      let now : Conn = record c { front = x.front; streams = x.streams; due = x.acts; out = c.out ++ x.text } in
      subst ConnWell (sym x.new_is) (settle_well now (none_well c.tunnels x.acts (events_none limits setup.mtu c.tunnels x.events c.streams x.acts x.streams x.asks)))

-- what holds of more
module _ (Q R : ℕ → ℕ → Place → List ℕ → Type 0) (into : (id n : ℕ) (to : Place) (packet : List ℕ) → Q id n to packet → R id n to packet) where
  act_more : (ts : List Tunnel) (on : ℕ) (a : StreamAct) → ActWell Q ts on a → ActWell R ts on a
  act_more ts on (stream.Push n to packet) h = λ t e. into t.id n to packet (h t e)
  act_more ts on a h = tt

  front_more : (ts : List Tunnel) (d : Due) → FrontWell Q ts d → FrontWell R ts d
  front_more ts (due.Do (act.OfStream on a)) h = act_more ts on a h
  front_more ts d h = tt

  dues_more : (ts : List Tunnel) (ds : List Due) → DuesWell Q ts ds → DuesWell R ts ds
  dues_more ts [] h = tt
  dues_more ts (d ∷ ds) h = (front_more ts d h.0, h.1)

  pub conn_more : (c : Conn) → ConnWell Q c → ConnWell R c
  conn_more c h = dues_more c.tunnels c.due h
