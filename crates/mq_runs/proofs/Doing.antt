-- An answer ends a payload that was due, or moves it on.
use Rattle.std.proofs.Common.{◌≡◌, ◌≤◌, ◌+◌, ℕ, Bool, true, false, cond, List, [], ◌∷◌, ◌++◌, length, nat_lt, Option, Some, None, option_map, refl, subst, arith}
use Rattle.std.specs.Prelude.{◌==◌}
use Rattle.std.proofs.lemmas.Bool.{eqb-true}
use Rattle.mq_addr.specs.declared.kind.Kind.{Kind}
use Rattle.mq_addr.specs.declared.kind.Kind.TheVariants as kind
use Rattle.mq_addr.specs.declared.range.Flow.{Flow}
use Rattle.mq_addr.specs.declared.range.Range.{Range}
use Rattle.mq_outside.specs.declared.PortPut.{PortPut}
use Rattle.mq_outside.specs.declared.PortPut.TheVariants as put
use Rattle.mq_talk.specs.declared.book.Reply.{Reply}
use Rattle.mq_talk.specs.declared.book.Reply.TheVariants as reply
use Rattle.mq_talk.specs.declared.goal.Goal.{Goal}
use Rattle.mq_talk.specs.declared.note.End.{End}
use Rattle.mq_talk.specs.declared.note.From.TheVariants as source
use Rattle.mq_talk.specs.declared.note.Note.{Note}
use Rattle.mq_talk.specs.declared.note.Why.{Why}
use Rattle.mq_talk.specs.declared.note.Why.TheVariants as why
use Rattle.mq_talk.specs.declared.place.Cause.TheVariants as cause
use Rattle.mq_talk.specs.declared.place.Verdict.{Verdict}
use Rattle.mq_talk.specs.declared.place.Verdict.TheVariants as verdict
use Rattle.mq_machine.specs.declared.act.Act.{Act}
use Rattle.mq_machine.specs.declared.act.Act.TheVariants as act
use Rattle.mq_machine.specs.declared.act.StreamAct.{StreamAct}
use Rattle.mq_machine.specs.declared.act.StreamAct.TheVariants as stream
use Rattle.mq_machine.specs.declared.act.Due.{Due}
use Rattle.mq_machine.specs.declared.act.Due.TheVariants as due
use Rattle.mq_machine.specs.Done.{Done, before, value, with_waiting, without, without_tunnel, closing, closed, refusal, refused, success, first_waiting, opened, sent, dropped, judged, stream_done, tunnel_done, act_done, due_done, ending_done, done_by, done}
use Rattle.mq_machine.specs.Putting.{putting}
use Rattle.mq_machine.specs.Settle.{settle}
use Rattle.mq_machine.specs.State.{Conn, Tunnel, kind_of, tunnel_on}
use Rattle.mq_machine.specs.Turn.{source_of}
use Rattle.mq_machine.specs.Want.{Want, Judge, Push, Send, Answer, Said, Bound, Replied, Judged, Pushed, Put, want_of, want_by, due_want, act_want, tunnel_want, ending_want, stream_want}
use Rattle.mq_machine.specs.Words.{assign_value}
use Rattle.mq_runs.proofs.Flight.{Key, past, past_less, asks, flows, FlowsOnce, waits_in, is_own, in_tunnel, end_of, Calm, calm_on, calm_conn, calm_once, putting_calm, without_calm, without_tunnel_calm, waits_more, settle_calm, Down, calm_down, down_calm, front_calm, front_down, front_flows}
use Rattle.mq_runs.proofs.Sums.{total_append}
use Rattle.mq_runs.proofs.Walks.{found_passes}

-- what an answer lets go into an inbox
abbrev pub pushed : Key → Want → Answer → ℕ
pushed k (Push parcel) (Pushed true) = past k (source_of parcel.from) parcel.n
pushed k want answer = 0

-- what the number of a tunnel that opens makes of payloads that it has
abbrev pub opens : Key → Answer → ℕ
opens k (Replied (reply.Opened tunnel routes)) = cond (is_own k tunnel) 1 0
opens k answer = 0

-- a reply lets none go into an inbox
replied_none : (k : Key) (want : Want) (r : Reply) → 0 + pushed k want (Replied r) ≡ 0
replied_none k (Push parcel) r = refl
replied_none k want r = refl

module _ (k : Key) (c : Conn) (once : FlowsOnce k c) where
  abbrev DownIn : Want → Answer → Done → Type 0
  DownIn want answer None = Unit {0}
  DownIn want answer (Some d) = Down k c (end_of k d.0 + pushed k want answer) (opens k answer) d.1

  -- a note of no payload, of a step that brings nothing
  quiet : (d : Conn) (gone came : ℕ) → gone ≡ 0 → Calm k c d → Down k c gone came d
  quiet d gone came none calm = let x = calm_down k c d calm in let down = x.down in record { down = omega (arith, none, down); once = x.once; number = x.number }

  more_came : (d : Conn) (gone came : ℕ) → Down k c gone 0 d → Down k c gone came d
  more_came d gone came x = let down = x.down in record { down = omega (arith, down); once = x.once; number = x.number }

  gone_is : (d : Conn) (gone more came : ℕ) → gone ≤ more → Down k c more 0 d → Down k c gone came d
  gone_is d gone more came e x = let down = x.down in record { down = omega (arith, down, e); once = x.once; number = x.number }

  module _ (on : ℕ) (a : StreamAct) (rest : List Due) (t : Tunnel) (is : c.due ≡ due.Do (act.OfStream on a) ∷ rest) (serves : tunnel_on c on ≡ Some t) where
    abbrev left : Conn
    left = record c { due = rest }

    calm_left : Calm k c left
    calm_left = front_calm k c (due.Do (act.OfStream on a)) rest is

    gone_left : Down k c (cond (is_own k t.id) (asks k a) 0) 0 left
    gone_left = front_down k c on a rest t is serves

    on_is : t.stream ≡ on
    on_is = eqb-true t.stream on (found_passes (λ (t : Tunnel). t.stream == on) c.tunnels t serves)

    -- another act with the same payload is due in its place
    again : (b : StreamAct) → asks k b ≡ asks k a → Calm k c (before (act.OfStream t.stream b) left)
    again b same = record {
      less = λ id.
          let now = front_flows k c on a rest id is in
          let here : cond (t.stream == id) (asks k b) 0 ≡ cond (on == id) (asks k a) 0 = rw (on_is, same) refl in
          omega (arith, now, here);
      tunnels = λ f. omega arith;
      number = refl;
    }

    closed_calm : (reason : Why) → Calm k c (closed left t reason).1
    closed_calm reason =
        let mid = without t.stream left in
        let last = without_tunnel t.id mid in
        calm_on k c left (putting last (closing left.front t reason)) calm_left
        (calm_on k left mid (putting last (closing left.front t reason)) (without_calm k t.stream left)
        (calm_on k mid last (putting last (closing left.front t reason)) (without_tunnel_calm k t.id mid) (putting_calm k last (closing left.front t reason))))

    value_calm : (kind : ℕ) (bytes : List ℕ) → Calm k c (with_waiting t.id (value kind bytes) left)
    value_calm kind bytes = record {
      less = calm_left.less;
      tunnels = λ f. let more = waits_more k f t.id (value kind bytes) c.tunnels in omega (arith, more);
      number = refl;
    }

  sent_down : (on : ℕ) (n : ℕ) (payload : List ℕ) (rest : List Due) (t : Tunnel) (did : PortPut) (limit : ℕ) (want : Want) → pushed k want (Put did limit) ≡ 0 → c.due ≡ due.Do (act.OfStream on (stream.Payload n payload)) ∷ rest
      → tunnel_on c on ≡ Some t → DownIn want (Put did limit) (sent (record c { due = rest }) t n payload did)
  sent_down on n payload rest t put.Sent limit want none is serves = gone_is (record c { due = rest }) _ _ 0 (let less = past_less k (source.Tunnel t.id) n in omega (arith, none, less)) (gone_left on (stream.Payload n payload) rest t is serves)
  sent_down on n payload rest t put.Failed limit want none is serves = gone_is (record c { due = rest }) _ _ 0 (let less = past_less k (source.Tunnel t.id) n in omega (arith, none, less)) (gone_left on (stream.Payload n payload) rest t is serves)
  sent_down on n payload rest t put.NotNow limit want none is serves = tt

  put_down : (b : Bool) (on : ℕ) (n : ℕ) (payload : List ℕ) (rest : List Due) (t : Tunnel) (did : PortPut) (limit : ℕ) (want : Want) → pushed k want (Put did limit) ≡ 0 → c.due ≡ due.Do (act.OfStream on (stream.Payload n payload)) ∷ rest
      → tunnel_on c on ≡ Some t → DownIn want (Put did limit) (cond b (Some (dropped (record c { due = rest }) t n cause.TooLong)) (sent (record c { due = rest }) t n payload did))
  put_down true on n payload rest t did limit want none is serves = gone_is (record c { due = rest }) _ _ 0 (let less = past_less k (source.Tunnel t.id) n in omega (arith, none, less)) (gone_left on (stream.Payload n payload) rest t is serves)
  put_down false on n payload rest t did limit want none is serves = sent_down on n payload rest t did limit want none is serves

  judged_down : (on : ℕ) (n : ℕ) (packet : List ℕ) (flow : Flow) (rest : List Due) (t : Tunnel) (said : Verdict) (at : ℕ) (want : Want) → pushed k want (Judged said at) ≡ 0 → c.due ≡ due.Do (act.OfStream on (stream.Packet n packet flow)) ∷ rest
      → tunnel_on c on ≡ Some t → DownIn want (Judged said at) (Some (judged (record c { due = rest }) t n packet said at))
  judged_down on n packet flow rest t (verdict.Pass to) at want none is serves =
      quiet (before (act.OfStream t.stream (stream.Push n to packet)) (record c { due = rest })) _ 0 (omega (arith, none)) (again on (stream.Packet n packet flow) rest t is serves (stream.Push n to packet) refl)
  judged_down on n packet flow rest t verdict.Source at want none is serves = gone_is (record c { due = rest }) _ _ 0 (let less = past_less k (source.Tunnel t.id) n in omega (arith, none, less)) (gone_left on (stream.Packet n packet flow) rest t is serves)
  judged_down on n packet flow rest t verdict.NoRoute at want none is serves = gone_is (record c { due = rest }) _ _ 0 (let less = past_less k (source.Tunnel t.id) n in omega (arith, none, less)) (gone_left on (stream.Packet n packet flow) rest t is serves)

  -- only a push lets a payload go into an inbox
  abbrev NoPush : Want → Type 0
  NoPush want = (answer : Answer) → pushed k want answer ≡ 0

  stream_down : (on : ℕ) (a : StreamAct) (rest : List Due) (t : Tunnel) (answer : Answer) → c.due ≡ due.Do (act.OfStream on a) ∷ rest → tunnel_on c on ≡ Some t
      → DownIn (stream_want t a) answer (stream_done (record c { due = rest }) t a answer)
  stream_down on (stream.Payload n payload) rest t (Put did limit) is serves = put_down (nat_lt limit (length payload)) on n payload rest t did limit (Send t.id n payload) refl is serves
  stream_down on (stream.Packet n packet flow) rest t (Judged said at) is serves = judged_down on n packet flow rest t said at (Judge t.id n flow) refl is serves
  stream_down on (stream.Push n to packet) rest t (Pushed true) is serves = gone_is (record c { due = rest }) _ _ 0 (let less = past_less k (source.Tunnel t.id) n in omega (arith, less)) (gone_left on (stream.Push n to packet) rest t is serves)
  stream_down on (stream.Push n to packet) rest t (Pushed false) is serves = gone_is (record c { due = rest }) _ _ 0 (let less = past_less k (source.Tunnel t.id) n in omega (arith, less)) (gone_left on (stream.Push n to packet) rest t is serves)
  stream_down on (stream.Drop n cause) rest t Said is serves = gone_is (record c { due = rest }) _ _ 0 (let less = past_less k (source.Tunnel t.id) n in omega (arith, less)) (gone_left on (stream.Drop n cause) rest t is serves)
  stream_down on (stream.Assign asked) rest t (Replied (reply.Assigned list at)) is serves = quiet _ _ 0 (replied_none k (stream_want t (stream.Assign asked)) (reply.Assigned list at)) (value_calm on (stream.Assign asked) rest t is serves 1 (assign_value list))
  stream_down on (stream.Assign asked) rest t (Replied reply.Closed) is serves = quiet _ _ 0 (replied_none k (stream_want t (stream.Assign asked)) reply.Closed) (closed_calm on (stream.Assign asked) rest t is serves why.Full)
  stream_down on (stream.Advertise ranges) rest t (Replied (reply.Accepted accepts at)) is serves = quiet _ _ 0 refl (calm_left on (stream.Advertise ranges) rest t is serves)
  stream_down on (stream.Advertise ranges) rest t (Replied reply.Closed) is serves = quiet _ _ 0 refl (closed_calm on (stream.Advertise ranges) rest t is serves why.Full)
  stream_down on (stream.Close reason) rest t (Replied reply.Closed) is serves = quiet _ _ 0 refl (closed_calm on (stream.Close reason) rest t is serves reason)
  stream_down on a rest t answer is serves = tt

  tunnel_down : (on : ℕ) (a : StreamAct) (rest : List Due) (u : Option Tunnel) (answer : Answer) → c.due ≡ due.Do (act.OfStream on a) ∷ rest → tunnel_on c on ≡ u
      → DownIn (tunnel_want u a) answer (tunnel_done (record c { due = rest }) u a answer)
  tunnel_down on a rest None answer is serves = tt
  tunnel_down on a rest (Some t) answer is serves = stream_down on a rest t answer is serves

  refused_calm : (rest : List Due) (d : Due) (id status rule : ℕ) → c.due ≡ d ∷ rest → Calm k c (refused (record c { due = rest }) id status rule).1
  refused_calm rest d id status rule is =
      let left : Conn = record c { due = rest } in
      let mid = without id left in
      let last = putting mid (refusal left.front id status) in
      calm_on k c left last (front_calm k c d rest is) (calm_on k left mid last (without_calm k id left) (putting_calm k mid (refusal left.front id status)))

  none_waits : (kind : Kind) (routes : List Range) → waits_in k (first_waiting kind routes) ≡ 0
  none_waits kind.Udp routes = refl
  none_waits kind.Ip routes = refl

  one_own : (b : Bool) (m : ℕ) → m ≤ 1 → cond b m 0 ≤ cond b 1 0
  one_own true m h = h
  one_own false m h = omega arith

  opened_down : (rest : List Due) (id : ℕ) (goal : Goal) (tunnel : ℕ) (routes : List Range) → c.due ≡ due.Do (act.Open id goal) ∷ rest
      → Down k c 0 (cond (is_own k tunnel) 1 0) (opened (record c { due = rest }) tunnel id goal routes).1
  opened_down rest id goal tunnel routes is =
      let left : Conn = record c { due = rest } in
      let calm = front_calm k c (due.Do (act.Open id goal)) rest is in
      let now : Tunnel = record { id = tunnel; stream = id; goal = goal; waiting = first_waiting (kind_of goal) routes } in
      let mid : Conn = record left { tunnels = c.tunnels ++ now ∷ [] } in
      let split = total_append (in_tunnel k (flows k left)) c.tunnels (now ∷ []) in
      let none = none_waits (kind_of goal) routes in
      let few = one_own (is_own k tunnel) (flows k left id) (let one = calm.less id in let two = once id in omega (arith, one, two)) in
      let old = calm_conn k c left calm in
      let first : Down k c 0 (cond (is_own k tunnel) 1 0) mid = record { down = omega (arith, split, none, few, old); once = calm_once k c left calm; number = refl } in
      down_calm k c mid (putting mid (success left.front id (kind_of goal))) 0 (cond (is_own k tunnel) 1 0) first (putting_calm k mid (success left.front id (kind_of goal)))

  act_down : (a : Act) (rest : List Due) (answer : Answer) → c.due ≡ due.Do a ∷ rest → DownIn (act_want c a) answer (act_done (record c { due = rest }) a answer)
  act_down (act.Bind id goal) rest (Bound true) is =
      let calm = front_calm k c (due.Do (act.Bind id goal)) rest is in
      quiet (before (act.Open id goal) (record c { due = rest })) _ 0 refl (record { less = λ id. let one = calm.less id in omega (arith, one); tunnels = calm.tunnels; number = refl })
  act_down (act.Bind id goal) rest (Bound false) is = quiet _ _ 0 refl (refused_calm rest (due.Do (act.Bind id goal)) id 502 0 is)
  act_down (act.Open id goal) rest (Replied (reply.Opened tunnel routes)) is = opened_down rest id goal tunnel routes is
  act_down (act.Open id goal) rest (Replied (reply.HistoryFull entries live)) is = quiet _ _ 0 refl (refused_calm rest (due.Do (act.Open id goal)) id 503 0 is)
  act_down (act.Refuse id status rule) rest Said is = quiet _ _ 0 refl (refused_calm rest (due.Do (act.Refuse id status rule)) id status rule is)
  act_down (act.Reset id code) rest Said is = quiet _ _ 0 refl (front_calm k c (due.Do (act.Reset id code)) rest is)
  act_down (act.OfStream on a) rest answer is = tunnel_down on a rest (tunnel_on c on) answer is refl
  act_down a rest answer is = tt

  due_down : (ds : List Due) (answer : Answer) → c.due ≡ ds → DownIn (due_want c ds) answer (due_done c ds answer)
  due_down (due.Do a ∷ rest) answer is = act_down a rest answer is
  due_down (due.Spend id size ∷ rest) answer is = tt
  due_down (due.Fault code ∷ rest) answer is = tt
  due_down [] answer is = tt

  ending_down : (reason : End) (ts : List Tunnel) (answer : Answer) → DownIn (ending_want c reason ts) answer (ending_done c ts answer)
  ending_down reason (t ∷ ts) (Replied reply.Closed) =
      let mid = without t.stream c in
      let last = without_tunnel t.id mid in
      let new = putting last (closing c.front t why.Conn) in
      quiet new _ 0 refl (calm_on k c mid new (without_calm k t.stream c) (calm_on k mid last new (without_tunnel_calm k t.id mid) (putting_calm k last (closing c.front t why.Conn))))
  ending_down reason ts answer = tt

  by_down : (e : Option End) (answer : Answer) → c.ending ≡ e → DownIn (want_by c e) answer (done_by c e answer)
  by_down None answer is = due_down c.due answer refl
  by_down (Some reason) answer is = ending_down reason c.tunnels answer

  settle_down : (want : Want) (answer : Answer) (o : Done) → DownIn want answer o → DownIn want answer (option_map (λ (d : Note × Conn). (d.0, settle d.1)) o)
  settle_down want answer None h = tt
  settle_down want answer (Some d) h = down_calm k c d.1 (settle d.1) (end_of k d.0 + pushed k want answer) (opens k answer) h (settle_calm k d.1)

  pub done_down : (d : Conn) (answer : Answer) (said : Note) → done c answer ≡ Some (said, d) → Down k c (end_of k said + pushed k (want_of c) answer) (opens k answer) d
  done_down d answer said is = subst (DownIn (want_of c) answer) is (settle_down (want_of c) answer (done_by c c.ending answer) (by_down c.ending answer refl))
