-- In what is due on a stream no payload stands behind a later one.
use Rattle.std.proofs.Common.{◌≡◌, ◌≤◌, ◌<◌, ◌+◌, ◌⊎◌, ℕ, Bool, true, false, not, cond, ◌||◌, List, [], ◌∷◌, ◌++◌, length, drop, nat_lt, nat_le, Option, Some, None, sym, subst, refl, ap, ◌∙◌, option_map, arith, inl, inr}
use Rattle.std.specs.Prelude.{find, ◌==◌, option_and_then}
use Rattle.std.specs.List.{AllByRecursion, list_any, filter}
use Rattle.std.specs.Option.{is_some}
use Rattle.std.proofs.lemmas.Bool.{eqb-true, leb-true, le-leb}
use Rattle.mq_addr.specs.declared.kind.Kind.{Kind}
use Rattle.mq_capsule.specs.declared.item.Item.{Item}
use Rattle.mq_capsule.specs.declared.item.Item.TheVariants as item
use Rattle.mq_capsule.specs.Writing.{capsule_text, datagram}
use Rattle.mq_outside.specs.declared.PortPut.{PortPut}
use Rattle.mq_outside.specs.declared.PortPut.TheVariants as put
use Rattle.mq_talk.specs.declared.book.Reply.TheVariants as reply
use Rattle.mq_talk.specs.declared.note.End.{End}
use Rattle.mq_talk.specs.declared.note.From.{From}
use Rattle.mq_talk.specs.declared.note.Note.{Note}
use Rattle.mq_talk.specs.declared.note.Why.TheVariants as why
use Rattle.mq_talk.specs.declared.place.Cause.TheVariants as cause
use Rattle.mq_talk.specs.declared.place.Place.TheVariants as place
use Rattle.mq_talk.specs.declared.place.Verdict.{Verdict}
use Rattle.mq_talk.specs.declared.place.Verdict.TheVariants as verdict
use Rattle.mq_machine.specs.declared.act.Act.{Act}
use Rattle.mq_machine.specs.declared.act.Act.TheVariants as act
use Rattle.mq_machine.specs.declared.act.StreamAct.{StreamAct}
use Rattle.mq_machine.specs.declared.act.StreamAct.TheVariants as stream
use Rattle.mq_machine.specs.declared.act.Due.{Due}
use Rattle.mq_machine.specs.declared.act.Due.TheVariants as due
use Rattle.mq_machine.specs.declared.setup.Setup.{Setup}
use Rattle.mq_machine.specs.Done.{is_on, sent, dropped, judged, stream_done, tunnel_done, act_done, due_done, ending_done, done_by, done}
use Rattle.mq_machine.specs.Lawful.{IsLawful, StaysLawful, kind_on, IsSeated, AreSeated, Follows}
use Rattle.mq_machine.specs.Putting.{putting}
use Rattle.mq_machine.specs.Reading.{StreamEvent, Request, Malformed, Content, Reset, ConnectionError, Leads, Refused, is_payload, is_close, payload_count, item_acts, acts_of, on_stream, BytesAsk, stream_of, mark_of, ContentAsks, EventAsks, EventsAsk, TookNext}
use Rattle.mq_machine.specs.Settle.{spending, passing, is_given_up, updating, settled, settle}
use Rattle.mq_machine.specs.State.{Conn, Front, Head, OverHttp1, OverHttp2, Stream, Tunnel, Waiting, kind_of, owed, packets, waiting_bytes, tunnel_on}
use Rattle.mq_machine.specs.Steps.{finish_by, finished, framed, framed_front, next_framed, frame_size, most_packets, most_waiting, queued, settled_note}
use Rattle.mq_machine.specs.Want.{Answer, Said, Bound, Replied, Judged, Pushed, Put}
use Rattle.mq_machine.proofs.Lawful.Idle.{reads_idle}
use Rattle.mq_play.proofs.Lists.{if_both}
use Rattle.mq_runs.proofs.Flight.{Key, asks, due_asks, asked_on, count_of, left_of, left_on, flows, FlowsOnce}
use Rattle.mq_runs.proofs.Keeping.{Sound, keeps_sound}
use Rattle.mq_runs.proofs.Kept.{Keeps}
use Rattle.mq_runs.proofs.Numbers.{by_cases}
use Rattle.mq_runs.proofs.Ranks.{behind, behind_filter, none_behind, behind_append, zero_or}
use Rattle.mq_runs.proofs.Sums.{total, total_append, total_less}
use Rattle.mq_runs.proofs.Took.{from_on, asks_all, left_all, begin, begins, on_few, acts_few, ends_none, item_few, marks_none, event_few, events_few, error_none, reset_none, ended_none, goal_begins, follows_begins, passed_begins, settled_due, settled_tunnels, passed_tunnels, unseated_none, values_none}
use Rattle.mq_runs.proofs.Walks.{found_passes}

no_flow : (b : Bool) → ◌≡◌ {A = ℕ} (cond b 0 0) 0
no_flow true = refl
no_flow false = refl

module _ (k : Key) (a : ℕ) (earlier : a < k.number) where
  -- the payload before it
  abbrev pub first : Key
  first = record k { number = a }

  abbrev pub tidy : ℕ → List Due → ℕ
  tidy id ds = behind (due_asks first id) (due_asks k id) ds

  abbrev pub AreTidy : List Due → Type 0
  AreTidy ds = (id : ℕ) → tidy id ds ≡ 0

  abbrev pub Tidy : Conn → Type 0
  Tidy c = AreTidy c.due

  abbrev TidyIn : Option (Note × Conn) → Type 0
  TidyIn None = Unit {0}
  TidyIn (Some d) = Tidy d.1

  tail_tidy : (d : Due) (ds : List Due) → AreTidy (d ∷ ds) → AreTidy ds
  tail_tidy d ds h id = let one = h id in omega (arith, one)

  -- ---- the end of an act

  passed : (ds : List Due) (c : Conn) → AreTidy ds → Tidy (passing ds c)
  passed [] c h = h
  passed (due.Do a ∷ rest) c h = h
  passed (due.Spend id size ∷ rest) c h = passed rest (record c { front = spending c.front id size }) (tail_tidy (due.Spend id size) rest h)
  passed (due.Fault code ∷ rest) c h = λ id. refl

  settled_tidy : (c : Conn) → Tidy c → Tidy (settled c)
  settled_tidy c h = if_both Tidy (is_given_up c.ending) c (putting c (updating c.front (owed c))) h h

  pub settle_tidy : (c : Conn) → Tidy c → Tidy (settle c)
  settle_tidy c h = settled_tidy (passing c.due c) (passed c.due c h)

  settle_each : (o : Option (Note × Conn)) → TidyIn o → TidyIn (option_map settled_note o)
  settle_each None h = tt
  settle_each (Some d) h = settle_tidy d.1 h

  -- ---- answers

  kept_tidy : (id : ℕ) (ds : List Due) → AreTidy ds → AreTidy (filter (λ d. not (is_on id d)) ds)
  kept_tidy id ds h on = let one = h on in let less = behind_filter (due_asks first on) (due_asks k on) (λ d. not (is_on id d)) ds in omega (arith, one, less)

  close_tidy : (on : ℕ) (reason : _) (ds : List Due) → AreTidy ds → AreTidy (due.Do (act.OfStream on (stream.Close reason)) ∷ ds)
  close_tidy on reason ds h id = by_id (on == id) where
    by_id : (b : Bool) → cond (nat_lt 0 (cond b 0 0)) (total (due_asks first id) ds) 0 + tidy id ds ≡ 0
    by_id true = let one = h id in omega (arith, one)
    by_id false = let one = h id in omega (arith, one)

  sent_tidy : (c : Conn) (t : Tunnel) (n : ℕ) (payload : List ℕ) (did : PortPut) → Tidy c → TidyIn (sent c t n payload did)
  sent_tidy c t n payload put.Sent h = h
  sent_tidy c t n payload put.Failed h = h
  sent_tidy c t n payload put.NotNow h = tt

  judged_tidy : (c : Conn) (t : Tunnel) (n : ℕ) (packet : List ℕ) (said : Verdict) (at : ℕ) (whole : AreTidy (due.Do (act.OfStream t.stream (stream.Push n place.Net packet)) ∷ c.due)) → Tidy c → Tidy (judged c t n packet said at).1
  judged_tidy c t n packet (verdict.Pass to) at whole h = whole
  judged_tidy c t n packet verdict.Source at whole h = h
  judged_tidy c t n packet verdict.NoRoute at whole h = h

  stream_tidy : (c : Conn) (t : Tunnel) (b : StreamAct) (answer : Answer) → AreTidy (due.Do (act.OfStream t.stream b) ∷ c.due) → Tidy c → TidyIn (stream_done c t b answer)
  stream_tidy c t (stream.Payload n payload) (Put did limit) whole h =
      if_both TidyIn (nat_lt limit (length payload)) (Some (dropped c t n cause.TooLong)) (sent c t n payload did) h (sent_tidy c t n payload did h)
  stream_tidy c t (stream.Packet n packet flow) (Judged said at) whole h = judged_tidy c t n packet said at whole h
  stream_tidy c t (stream.Push n to packet) (Pushed true) whole h = h
  stream_tidy c t (stream.Push n to packet) (Pushed false) whole h = h
  stream_tidy c t (stream.Drop n cause) Said whole h = h
  stream_tidy c t (stream.Assign asked) (Replied (reply.Assigned list at)) whole h = h
  stream_tidy c t (stream.Assign asked) (Replied reply.Closed) whole h = kept_tidy t.stream c.due h
  stream_tidy c t (stream.Advertise ranges) (Replied (reply.Accepted accepts at)) whole h = h
  stream_tidy c t (stream.Advertise ranges) (Replied reply.Closed) whole h = kept_tidy t.stream c.due h
  stream_tidy c t (stream.Close reason) (Replied reply.Closed) whole h = kept_tidy t.stream c.due h
  stream_tidy c t b answer whole h = tt

  tunnel_tidy : (c : Conn) (o : Option Tunnel) (on : ℕ) (b : StreamAct) (answer : Answer) → ((t : Tunnel) → o ≡ Some t → t.stream ≡ on) → AreTidy (due.Do (act.OfStream on b) ∷ c.due) → Tidy c → TidyIn (tunnel_done c o b answer)
  tunnel_tidy c None on b answer same whole h = tt
  tunnel_tidy c (Some t) on b answer same whole h = stream_tidy c t b answer (subst (λ i. AreTidy (due.Do (act.OfStream i b) ∷ c.due)) (sym (same t refl)) whole) h

  act_tidy : (c : Conn) (b : Act) (answer : Answer) → AreTidy (due.Do b ∷ c.due) → Tidy c → TidyIn (act_done c b answer)
  act_tidy c (act.Bind id goal) (Bound true) whole h = whole
  act_tidy c (act.Bind id goal) (Bound false) whole h = kept_tidy id c.due h
  act_tidy c (act.Open id goal) (Replied (reply.Opened tunnel routes)) whole h = h
  act_tidy c (act.Open id goal) (Replied (reply.HistoryFull entries live)) whole h = kept_tidy id c.due h
  act_tidy c (act.Refuse id status rule) Said whole h = kept_tidy id c.due h
  act_tidy c (act.Reset id code) Said whole h = h
  act_tidy c (act.OfStream id b) answer whole h =
      tunnel_tidy c (tunnel_on c id) id b answer (λ t e. eqb-true t.stream id (found_passes (λ (t : Tunnel). t.stream == id) c.tunnels t e)) whole h
  act_tidy c b answer whole h = tt

  due_tidy : (c : Conn) (ds : List Due) (answer : Answer) → AreTidy ds → TidyIn (due_done c ds answer)
  due_tidy c (due.Do b ∷ rest) answer h = act_tidy (record c { due = rest }) b answer h (tail_tidy (due.Do b) rest h)
  due_tidy c (due.Spend id size ∷ rest) answer h = tt
  due_tidy c (due.Fault code ∷ rest) answer h = tt
  due_tidy c [] answer h = tt

  ending_tidy : (c : Conn) (ts : List Tunnel) (answer : Answer) → Tidy c → TidyIn (ending_done c ts answer)
  ending_tidy c (t ∷ ts) (Replied reply.Closed) h = kept_tidy t.stream c.due h
  ending_tidy c ts answer h = tt

  by_tidy : (c : Conn) (e : Option End) (answer : Answer) → Tidy c → TidyIn (done_by c e answer)
  by_tidy c None answer h = due_tidy c c.due answer h
  by_tidy c (Some reason) answer h = ending_tidy c c.tunnels answer h

  done_tidy : (c d : Conn) (answer : Answer) (said : Note) → Tidy c → done c answer ≡ Some (said, d) → Tidy d
  done_tidy c d answer said h is = subst TidyIn is (settle_each (done_by c c.ending answer) (by_tidy c c.ending answer h))

  -- ---- frames, the end of the link, and what comes to a tunnel

  front_tidy : (c : Conn) (t : Tunnel) (ws : List Waiting) → Tidy c → TidyIn (framed_front c t ws)
  front_tidy c t [] h = tt
  front_tidy c t (w ∷ ws) h =
      let size = frame_size c.front t.stream (length (drop w.framed w.capsule)) in
      if_both (λ (d : Note × Conn). Tidy d.1) (nat_le (length w.capsule) (w.framed + size)) _ _ h h

  next_tidy : (c : Conn) (o : Option Tunnel) → Tidy c → TidyIn (option_and_then (λ (t : Tunnel). framed_front c t t.waiting) o)
  next_tidy c None h = tt
  next_tidy c (Some t) h = front_tidy c t t.waiting h

  framed_tidy : (c d : Conn) (said : Note) → Tidy c → framed c ≡ Some (said, d) → Tidy d
  framed_tidy c d said h is = subst TidyIn is (settle_each (option_and_then (λ (t : Tunnel). framed_front c t t.waiting) (next_framed c)) (next_tidy c (next_framed c) h))

  finish_tidy : (c : Conn) (f : Front) (inside : Bool) → Tidy c → Tidy (finish_by c f inside)
  finish_tidy c (Head []) inside h = h
  finish_tidy c (Head (b ∷ bytes)) inside h = h
  finish_tidy c OverHttp1 inside h = close_tidy 0 (cond inside why.Truncated why.End) c.due h
  finish_tidy c (OverHttp2 s) inside h = h

  finished_tidy : (c : Conn) (inside : Bool) → Tidy c → Tidy (finished c inside).1
  finished_tidy c inside h = settle_tidy (finish_by (record c { is_finished = true }) c.front inside) (finish_tidy (record c { is_finished = true }) c.front inside h)

  queued_tidy : (c : Conn) (t : Tunnel) (from : From) (n : ℕ) (packet : List ℕ) → Tidy c → Tidy (settled_note (queued c t from n packet)).1
  queued_tidy c t from n packet h =
      settle_tidy (queued c t from n packet).1
      (if_both (λ (d : Note × Conn). Tidy d.1) (nat_le most_packets (packets t) || nat_lt most_waiting (waiting_bytes c + length (capsule_text (datagram packet)))) _ _ h h)

  -- ---- numbers rise

  abbrev ranks : List StreamAct → ℕ
  ranks acts = behind (asks first) (asks k) acts

  single : (b : Bool) → cond b 0 0 + 0 ≡ 0
  single true = refl
  single false = refl

  item_ranks : (kind : Kind) (mtu m : ℕ) (i : Item) → ranks (item_acts kind mtu m i) ≡ 0
  item_ranks kind mtu m (item.Datagram context payload) = single _
  item_ranks kind mtu m (item.TooLongDatagram context size) = single _
  item_ranks kind mtu m (item.Control type value) = none_behind (asks first) (asks k) (item_acts kind mtu m (item.Control type value)) (values_none k type value)
  item_ranks kind mtu m (item.Bad fault) = refl

  -- behind the later one its numbers are past
  past_by : (b : Bool) (m : ℕ) → nat_le (m + 1) a ≡ b → a < m → ◌≡◌ {A = ℕ} (cond b 1 0) 0
  past_by true m e h = let more = leb-true (m + 1) a e in absurd (omega (arith, more, h))
  past_by false m e h = refl

  item_or : (kind : Kind) (mtu m : ℕ) (i : Item) (items : List Item) (p q : Bool) → is_payload i ≡ p → (m == k.number) ≡ q → asks_all k (item_acts kind mtu m i) ≤ cond p (cond q 1 0) 0
      → (asks_all k (item_acts kind mtu m i) ≡ 0) ⊎ (asks_all first (acts_of kind mtu (m + cond p 1 0) items) ≡ 0)
  item_or kind mtu m i items true true is at few =
      let same = eqb-true m k.number at in
      let later = acts_few first kind mtu (m + 1) items in
      let none = past_by (nat_le (m + 1) a) m refl (omega (arith, same, earlier)) in
      inr (omega (arith, later, none))
  item_or kind mtu m i items true false is at few = inl (omega (arith, few))
  item_or kind mtu m i items false q is at few = inl (omega (arith, few))

  acts_ranks : (kind : Kind) (mtu m : ℕ) (items : List Item) → ranks (acts_of kind mtu m items) ≡ 0
  acts_ranks kind mtu m [] = refl
  acts_ranks kind mtu m (i ∷ items) =
      let xs = item_acts kind mtu m i in
      let next = m + cond (is_payload i) 1 0 in
      let rest = acts_of kind mtu next items in
      let ys = cond (list_any is_close xs) [] rest in
      let here = item_ranks kind mtu m i in
      let later = acts_ranks kind mtu next items in
      let last : ranks ys ≤ ranks rest = by_cases (λ (l : List StreamAct). ranks l ≤ ranks rest) (list_any is_close xs) [] rest (λ e. omega arith) (λ e. omega arith) in
      let fewer : asks_all first ys ≤ asks_all first rest = by_cases (λ (l : List StreamAct). asks_all first l ≤ asks_all first rest) (list_any is_close xs) [] rest (λ e. omega arith) (λ e. omega arith) in
      let either : (asks_all k xs ≡ 0) ⊎ (asks_all first ys ≡ 0) = elim (item_or kind mtu m i items (is_payload i) (m == k.number) refl refl (item_few k kind mtu m i)) [
        | inl none ↦ inl none
        | inr none ↦ inr (omega (arith, fewer, none))
      ] in
      let both = behind_append (asks first) (asks k) xs ys either in
      omega (arith, here, later, last, both)

  bytes_ranks : (mtu : ℕ) (s : Stream) (bytes : List ℕ) (ends : Bool) (acts : List StreamAct) → BytesAsk mtu s bytes ends acts → ranks acts ≡ 0
  bytes_ranks mtu s bytes ends acts x =
      let own = acts_of (kind_of s.goal) mtu (payload_count x.before) x.items in
      let ys = cond (list_any is_close own) [] x.last in
      let none = ends_none k s.goal (s.bytes ++ bytes) ends x.last x.ends_in in
      let none_first = ends_none first s.goal (s.bytes ++ bytes) ends x.last x.ends_in in
      let last = none_behind (asks first) (asks k) x.last none in
      let last_is : ranks ys ≡ 0 = by_cases (λ (l : List StreamAct). ranks l ≡ 0) (list_any is_close own) [] x.last (λ e. refl) (λ e. last) in
      let last_none : asks_all first ys ≡ 0 = by_cases (λ (l : List StreamAct). asks_all first l ≡ 0) (list_any is_close own) [] x.last (λ e. refl) (λ e. none_first) in
      let both = behind_append (asks first) (asks k) own ys (inr last_none) in
      let own_is = acts_ranks (kind_of s.goal) mtu (payload_count x.before) x.items in
      let all = ap ranks x.acts_are in
      omega (arith, last_is, both, own_is, all)

  -- ---- on streams

  on_by : (b : Bool) (x y m n p q : ℕ) → cond (nat_lt 0 x) m 0 + p ≡ q → cond b (p) 0 ≡ n → y ≡ cond b x 0 → cond (nat_lt 0 y) (cond b m 0) 0 + n ≡ cond b q 0
  on_by true x y m n p q e h l = rw l (omega (arith, e, h))
  on_by false x y m n p q e h l = rw l (omega (arith, h))

  total_on : (id on : ℕ) (acts : List StreamAct) → total (due_asks first id) (on_stream on acts) ≡ cond (on == id) (asks_all first acts) 0
  total_on id on acts = on_few first id on acts

  on_ranks : (id on : ℕ) (acts : List StreamAct) → tidy id (on_stream on acts) ≡ cond (on == id) (ranks acts) 0
  on_ranks id on [] = sym (no_flow (on == id))
  on_ranks id on (x ∷ acts) =
      let rest = on_ranks id on acts in
      let these = total_on id on acts in
      rw these (on_by (on == id) (asks k x) (cond (on == id) (asks k x) 0) (asks_all first acts) (tidy id (on_stream on acts)) (ranks acts) (ranks (x ∷ acts)) refl (sym rest) refl)

  content_tidy : (mtu id on : ℕ) (bytes : List ℕ) (size : Option ℕ) (ends : Bool) (o : Option Stream) (acts : List Due) → ContentAsks mtu on bytes size ends o acts → tidy id acts ≡ 0
  content_tidy mtu id on bytes size ends None acts x = none_behind (due_asks first id) (due_asks k id) acts (ap (asked_on k id) x ∙ marks_none k id on size)
  content_tidy mtu id on bytes size ends (Some s) acts x =
      let one = on_ranks id on x.0 in
      let none = ap (λ r. cond (on == id) r 0) (bytes_ranks mtu s bytes ends x.0 x.1) ∙ no_flow (on == id) in
      let mark = none_behind (due_asks first id) (due_asks k id) (mark_of on size) (marks_none k id on size) in
      let both = behind_append (due_asks first id) (due_asks k id) (on_stream on x.0) (mark_of on size) (inr (marks_none first id on size)) in
      let all = ap (tidy id) x.2 in
      omega (arith, one, none, mark, both, all)

  event_tidy : (id mtu : ℕ) (ts : List Tunnel) (old : List Stream) (e : StreamEvent) (acts : List Due) (new : List Stream) → EventAsks mtu ts old e acts new → tidy id acts ≡ 0
  event_tidy id mtu ts old (Request on (Refused status rule) ends) acts new x = ap (tidy id) x.0
  event_tidy id mtu ts old (Request on (Leads found) ends) acts new x =
      let none = (goal_begins k id on found).0 in
      let ended = ended_none k id on ends in
      none_behind (due_asks first id) (due_asks k id) acts (ap (asked_on k id) x.0 ∙ omega (arith, none, ended))
  event_tidy id mtu ts old (Malformed on code) acts new x = none_behind (due_asks first id) (due_asks k id) acts (ap (asked_on k id) x.0 ∙ error_none k id on code (find (λ (t : Tunnel). t.stream == on) ts))
  event_tidy id mtu ts old (Content on bytes size ends) acts new x = content_tidy mtu id on bytes size ends (stream_of old on) acts x.0
  event_tidy id mtu ts old (Reset on) acts new x = none_behind (due_asks first id) (due_asks k id) acts (ap (asked_on k id) x.0 ∙ reset_none k id on (find (λ (t : Tunnel). t.stream == on) ts))
  event_tidy id mtu ts old (ConnectionError code) acts new x = ap (tidy id) x.0

  -- what may come of the earlier one may come of the later one too
  from_both : (b c : Bool) (m : ℕ) → nat_le m a ≡ b → nat_le m k.number ≡ c → cond b 1 0 ≤ cond c 1 0
  from_both true true m x y = omega arith
  from_both true false m x y = let one = leb-true m a x in let two = le-leb m k.number (omega (arith, one, earlier)) in absurd cc
  from_both false c m x y = omega arith

  pub from_earlier : (m : ℕ) → from_on m a ≤ from_on m k.number
  from_earlier m = from_both (nat_le m a) (nat_le m k.number) m refl refl

  cond_less : (b : Bool) (m n : ℕ) → m ≤ n → cond b m 0 ≤ cond b n 0
  cond_less true m n h = h
  cond_less false m n h = omega arith

  pub left_earlier : (id : ℕ) (ss : List Stream) → left_all first id ss ≤ left_all k id ss
  left_earlier id ss = total_less (left_of first id) (left_of k id) ss (λ s. cond_less (s.id == id) (from_on (count_of k s) a) (from_on (count_of k s) k.number) (from_earlier (count_of k s)))

  events_tidy : (id mtu : ℕ) (ts : List Tunnel) (es : List StreamEvent) (old : List Stream) (acts : List Due) (new : List Stream) → left_all k id old + begins k id acts ≤ 1 → EventsAsk mtu ts old es acts new → tidy id acts ≡ 0
  events_tidy id mtu ts [] old acts new few x = ap (tidy id) x.0
  events_tidy id mtu ts (e ∷ es) old acts new few x =
      let here = event_tidy id mtu ts old e x.0 x.1 x.3 in
      let step = event_few k id mtu ts old e x.0 x.1 x.3 in
      let begun = ap (begins k id) x.5 ∙ total_append (begin k id) x.0 x.2 in
      let later = events_tidy id mtu ts es x.1 x.2 new (omega (arith, few, step, begun)) x.4 in
      let rest = events_few first id mtu ts es x.1 x.2 new x.4 in
      let less = left_earlier id x.1 in
      let same_begins : begins first id x.2 ≡ begins k id x.2 = refl in
      let either : (asked_on k id x.0 ≡ 0) ⊎ (asked_on first id x.2 ≡ 0) = elim (zero_or (asked_on k id x.0)) [
        | inl none ↦ inl none
        | inr some ↦ inr (omega (arith, some, few, step, begun, rest, less, same_begins))
      ] in
      let both = behind_append (due_asks first id) (due_asks k id) x.0 x.2 either in
      let all = ap (tidy id) x.5 in
      omega (arith, here, later, both, all)

  -- ---- a read

  module _ (stays : StaysLawful) where
    took_tidy : (setup : Setup) (c d : Conn) (bytes : List ℕ) → IsLawful c → FlowsOnce k c → TookNext setup c bytes d → Tidy d
    took_tidy setup c d bytes lawful once x id =
        let after = stays.reads setup c d bytes lawful x in
        let idle = reads_idle c lawful x.can in
        let mid : Conn = record c { front = x.front; streams = x.streams; due = x.acts; out = c.out ++ x.text } in
        let e = passing x.acts mid in
        let tunnels : d.tunnels ≡ c.tunnels = ap (λ (c : Conn). c.tunnels) x.new_is ∙ settled_tunnels k e ∙ passed_tunnels k x.acts mid in
        let due_is : d.due ≡ e.due = ap (λ (c : Conn). c.due) x.new_is ∙ settled_due k e in
        let follows : Follows (kind_on c.tunnels) e.due = subst (λ (ds : List Due). Follows (kind_on c.tunnels) ds) due_is (subst (λ (ts : List Tunnel). Follows (kind_on ts) d.due) tunnels after.loose.follows) in
        let begin_so = follows_begins k id (kind_on c.tunnels) e.due follows in
        let seated : AllByRecursion (IsSeated c.tunnels []) c.streams =
        subst (λ (ds : List Due). AllByRecursion (IsSeated c.tunnels ds) c.streams) idle.due (subst (λ (o : Option End). AreSeated o c.tunnels c.due c.streams) idle.ending lawful.loose.seated) in
        let was : left_all k id c.streams ≤ flows k c id = let one = ap (λ (o : Option End). left_on k id o c.streams) idle.ending in omega (arith, one) in
        let one = once id in
        let now = ap (tidy id) due_is in
        elim (passed_begins k id x.acts mid) [
          | inl none ↦ now ∙ none_behind (due_asks first id) (due_asks k id) e.due (omega (arith, none))
          | inr same ↦ (
              let small = begin_so.few in
              let few : left_all k id c.streams + begins k id x.acts ≤ 1 =
              fits_by (is_some (kind_on c.tunnels id)) (left_all k id c.streams) (begins k id x.acts) refl (omega (arith, was, one)) (omega (arith, same, small)) (λ some. let none = begin_so.none some in omega (arith, same, none)) (λ none. unseated_none k id c.tunnels c.streams seated none) in
              now ∙ passed_one x.acts mid (events_tidy id setup.mtu c.tunnels x.events c.streams x.acts x.streams few x.asks))
        ]
      where
        fits_by : (b : Bool) (m n : ℕ) → is_some (kind_on c.tunnels id) ≡ b → m ≤ 1 → n ≤ 1 → (is_some (kind_on c.tunnels id) ≡ true → n ≡ 0) → (is_some (kind_on c.tunnels id) ≡ false → m ≡ 0) → m + n ≤ 1
        fits_by true m n is h l some none = let zero = some is in omega (arith, h, zero)
        fits_by false m n is h l some none = let zero = none is in omega (arith, l, zero)

        passed_one : (ds : List Due) (c : Conn) → tidy id ds ≡ 0 → tidy id (passing ds c).due ≡ 0
        passed_one [] c h = h
        passed_one (due.Do b ∷ rest) c h = h
        passed_one (due.Spend on size ∷ rest) c h = passed_one rest (record c { front = spending c.front on size }) (omega (arith, h))
        passed_one (due.Fault code ∷ rest) c h = refl

    -- what holds of each connection
    pub record Neat (n : ℕ) (c : Conn) : Type 0 where
      pub sound : Sound stays k n c
      pub tidy_is : Tidy c

    pub keeps_neat : Keeps (λ setup n c. Neat n c)
    keeps_neat =
        let s = keeps_sound stays k in
        record {
          more = λ setup n m c long h. record { sound = s.more setup n m c long h.sound; tidy_is = h.tidy_is };
          begins = λ setup n number actor. record { sound = s.begins setup n number actor; tidy_is = λ id. refl };
          answers = λ setup n m c d answer said h long g is. record { sound = s.answers setup n m c d answer said h.sound long g is; tidy_is = done_tidy c d answer said h.tidy_is is };
          frames = λ setup n c d said h is. record { sound = s.frames setup n c d said h.sound is; tidy_is = framed_tidy c d said h.tidy_is is };
          writes = λ setup n c count h. record { sound = s.writes setup n c count h.sound; tidy_is = settle_tidy (record c { given = c.given + count }) h.tidy_is };
          reads = λ setup n c d bytes h took. record { sound = s.reads setup n c d bytes h.sound took; tidy_is = took_tidy setup c d bytes h.sound.lawful h.sound.once took };
          finishes = λ setup n c inside h can. record { sound = s.finishes setup n c inside h.sound can; tidy_is = finished_tidy c inside h.tidy_is };
          gives_up = λ setup n reason c h. record { sound = s.gives_up setup n reason c h.sound; tidy_is = λ id. refl };
          queues = λ setup n c t from number packet h. record { sound = s.queues setup n c t from number packet h.sound; tidy_is = queued_tidy c t from number packet h.tidy_is };
          port_fails = λ setup n c tunnel t h is can. record { sound = s.port_fails setup n c tunnel t h.sound is can; tidy_is = close_tidy t.stream why.Port c.due h.tidy_is };
          hears = λ setup n m c answer h long g. record { sound = s.hears setup n m c answer h.sound long g; tidy_is = λ id. refl };
        }
