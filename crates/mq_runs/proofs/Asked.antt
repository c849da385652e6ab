-- What is due with a payload is due with the one that has its number, and each step of a connection keeps that.
use Rattle.std.proofs.Common.{◌≡◌, ℕ, ◌+◌, ◌==◌, Bool, true, false, not, cond, ◌||◌, List, [], ◌∷◌, ◌++◌, length, drop, nat_lt, nat_le, filter, Option, Some, None, sym, subst, refl, ◌∙◌, option_map, inl, inr, append-nil}
use Rattle.std.specs.Prelude.{find, option_and_then}
use Rattle.std.specs.List.{AllByRecursion, list_any}
use Rattle.mq_capsule.specs.Laws.{IsWithinLimits}
use Rattle.mq_capsule.specs.declared.item.Item.{Item}
use Rattle.mq_capsule.specs.declared.item.Item.TheVariants as item
use Rattle.mq_capsule.specs.Items.{ItemsOf, IsSized}
use Rattle.mq_capsule.specs.Writing.{capsule_text, datagram}
use Rattle.mq_outside.specs.declared.PortPut.{PortPut}
use Rattle.mq_outside.specs.declared.PortPut.TheVariants as put
use Rattle.mq_talk.specs.declared.book.Reply.TheVariants as reply
use Rattle.mq_talk.specs.declared.goal.Goal.{Goal}
use Rattle.mq_talk.specs.declared.goal.Goal.TheVariants as goal
use Rattle.mq_talk.specs.declared.note.End.{End}
use Rattle.mq_talk.specs.declared.note.From.{From}
use Rattle.mq_talk.specs.declared.note.Note.{Note}
use Rattle.mq_talk.specs.declared.place.Cause.TheVariants as cause
use Rattle.mq_talk.specs.declared.place.Verdict.{Verdict}
use Rattle.mq_talk.specs.declared.place.Verdict.TheVariants as verdict
use Rattle.mq_machine.specs.declared.act.Act.{Act}
use Rattle.mq_machine.specs.declared.act.Act.TheVariants as act
use Rattle.mq_machine.specs.declared.act.StreamAct.{StreamAct}
use Rattle.mq_machine.specs.declared.act.StreamAct.TheVariants as stream
use Rattle.mq_machine.specs.declared.act.Due.{Due}
use Rattle.mq_machine.specs.declared.act.Due.TheVariants as due
use Rattle.mq_machine.specs.declared.setup.Setup.{Setup}
use Rattle.mq_machine.specs.Done.{is_on, sent, dropped, judged, stream_done, tunnel_done, act_done, due_done, ending_done, done_by, done}
use Rattle.mq_machine.specs.Putting.{putting}
use Rattle.mq_machine.specs.Reading.{StreamEvent, Request, Malformed, Content, Reset, ConnectionError, Leads, Refused, is_close, payload_count, acts_of, on_stream, EndsWith, has_values, BytesAsk, stream_of, more_bytes, mark_of, goal_act, ended_acts, error_acts, reset_acts, ContentAsks, EventAsks, EventsAsk, TookNext}
use Rattle.mq_machine.specs.Settle.{spending, passing, is_given_up, updating, settled, settle}
use Rattle.mq_machine.specs.State.{Conn, Front, Head, OverHttp1, OverHttp2, Stream, Tunnel, Waiting, kind_of, owed, packets, waiting_bytes, tunnel_on}
use Rattle.mq_machine.specs.Steps.{finish_by, finished, framed, framed_front, next_framed, frame_size, most_packets, most_waiting, queued, settled_note}
use Rattle.mq_machine.specs.Want.{Answer, Said, Bound, Replied, Judged, Pushed, Put}
use Rattle.mq_play.proofs.Lists.{if_both, each_append, each_behind}
use Rattle.mq_runs.specs.Payloads.{IsPayload, IsOf}
use Rattle.mq_runs.proofs.Kept.{Keeps}
use Rattle.mq_runs.proofs.Walks.{found_passes}
use Rattle.std.proofs.lemmas.Bool.{eqb-true}
use Rattle.mq_runs.proofs.Numbers.{AskedOf, Asks, items_ask}
use Rattle.mq_runs.proofs.Streams.{AreLonger, longer_same, longer_on, longer_more, longer_front, more_is, longer_without, of_longer}

-- an act that is due is one of these data streams
abbrev pub DueOf : ℕ → List Stream → Due → Type 0
DueOf mtu ss (due.Do (act.OfStream on a)) = IsOf mtu ss on a
DueOf mtu ss (due.Do (act.Bind id goal)) = Unit {0}
DueOf mtu ss (due.Do (act.Open id goal)) = Unit {0}
DueOf mtu ss (due.Do (act.Refuse id status rule)) = Unit {0}
DueOf mtu ss (due.Do (act.Reset id code)) = Unit {0}
DueOf mtu ss (due.Spend id size) = Unit {0}
DueOf mtu ss (due.Fault code) = Unit {0}

abbrev pub DuesOf : ℕ → List Stream → List Due → Type 0
DuesOf mtu ss ds = AllByRecursion (DueOf mtu ss) ds

module _ (mtu : ℕ) where
  abbrev pub Asked : Conn → Type 0
  Asked c = DuesOf mtu c.streams c.due

  abbrev AskedIn : Option (Note × Conn) → Type 0
  AskedIn None = Unit {0}
  AskedIn (Some d) = Asked d.1

  -- ---- the end of an act

  passed : (ds : List Due) (c : Conn) → DuesOf mtu c.streams ds → Asked (passing ds c)
  passed [] c h = tt
  passed (due.Do a ∷ rest) c h = h
  passed (due.Spend id size ∷ rest) c h = passed rest (record c { front = spending c.front id size }) h.1
  passed (due.Fault code ∷ rest) c h = tt

  settled_asked : (c : Conn) → Asked c → Asked (settled c)
  settled_asked c h = if_both Asked (is_given_up c.ending) c (putting c (updating c.front (owed c))) h h

  pub settle_asked : (c : Conn) → Asked c → Asked (settle c)
  settle_asked c h = settled_asked (passing c.due c) (passed c.due c h)

  settle_each : (o : Option (Note × Conn)) → AskedIn o → AskedIn (option_map settled_note o)
  settle_each None h = tt
  settle_each (Some d) h = settle_asked d.1 h

  -- ---- answers

  -- without a stream, and what is asked of it
  kept_due : (id : ℕ) (ss : List Stream) (d : Due) → is_on id d ≡ false → DueOf mtu ss d → DueOf mtu (filter (λ (s : Stream). not (s.id == id)) ss) d
  kept_due id ss (due.Do (act.OfStream on a)) other h = of_longer mtu ss (filter (λ (s : Stream). not (s.id == id)) ss) on a (λ s is. longer_without id on ss s other is) h
  kept_due id ss (due.Do (act.Bind on goal)) other h = tt
  kept_due id ss (due.Do (act.Open on goal)) other h = tt
  kept_due id ss (due.Do (act.Refuse on status rule)) other h = tt
  kept_due id ss (due.Do (act.Reset on code)) other h = tt
  kept_due id ss (due.Spend on size) other h = tt
  kept_due id ss (due.Fault code) other h = tt

  kept_one : (id : ℕ) (ss : List Stream) (d : Due) (ds : List Due) (b : Bool) → is_on id d ≡ b → DueOf mtu ss d
      → DuesOf mtu (filter (λ (s : Stream). not (s.id == id)) ss) ds → DuesOf mtu (filter (λ (s : Stream). not (s.id == id)) ss) (cond (not b) (d ∷ ds) ds)
  kept_one id ss d ds true is h rest = rest
  kept_one id ss d ds false is h rest = (kept_due id ss d is h, rest)

  kept_asked : (id : ℕ) (ss : List Stream) (ds : List Due) → DuesOf mtu ss ds → DuesOf mtu (filter (λ (s : Stream). not (s.id == id)) ss) (filter (λ d. not (is_on id d)) ds)
  kept_asked id ss [] h = tt
  kept_asked id ss (d ∷ ds) h = kept_one id ss d (filter (λ d. not (is_on id d)) ds) (is_on id d) refl h.0 (kept_asked id ss ds h.1)

  sent_asked : (c : Conn) (t : Tunnel) (n : ℕ) (payload : List ℕ) (did : PortPut) → Asked c → AskedIn (sent c t n payload did)
  sent_asked c t n payload put.Sent h = h
  sent_asked c t n payload put.Failed h = h
  sent_asked c t n payload put.NotNow h = tt

  -- what a verdict makes of a packet is due on its tunnel's stream
  judged_asked : (c : Conn) (t : Tunnel) (n : ℕ) (packet : List ℕ) (said : Verdict) (at : ℕ) → IsPayload c.streams t.stream n (item.Datagram 0 packet)
      → Asked c → Asked (judged c t n packet said at).1
  judged_asked c t n packet (verdict.Pass to) at is h = (is, h)
  judged_asked c t n packet verdict.Source at is h = h
  judged_asked c t n packet verdict.NoRoute at is h = h

  stream_asked : (c : Conn) (t : Tunnel) (a : StreamAct) (answer : Answer) → IsOf mtu c.streams t.stream a → Asked c → AskedIn (stream_done c t a answer)
  stream_asked c t (stream.Payload n payload) (Put did limit) is h =
      if_both AskedIn (nat_lt limit (length payload)) (Some (dropped c t n cause.TooLong)) (sent c t n payload did) h (sent_asked c t n payload did h)
  stream_asked c t (stream.Packet n packet flow) (Judged said at) is h = judged_asked c t n packet said at is.0 h
  stream_asked c t (stream.Push n to packet) (Pushed true) is h = h
  stream_asked c t (stream.Push n to packet) (Pushed false) is h = h
  stream_asked c t (stream.Drop n cause) Said is h = h
  stream_asked c t (stream.Assign list) (Replied (reply.Assigned given at)) is h = h
  stream_asked c t (stream.Assign list) (Replied reply.Closed) is h = kept_asked t.stream c.streams c.due h
  stream_asked c t (stream.Advertise ranges) (Replied (reply.Accepted accepts at)) is h = h
  stream_asked c t (stream.Advertise ranges) (Replied reply.Closed) is h = kept_asked t.stream c.streams c.due h
  stream_asked c t (stream.Close reason) (Replied reply.Closed) is h = kept_asked t.stream c.streams c.due h
  stream_asked c t a answer is h = tt

  tunnel_asked : (c : Conn) (o : Option Tunnel) (on : ℕ) (a : StreamAct) (answer : Answer) → ((t : Tunnel) → o ≡ Some t → t.stream ≡ on) → IsOf mtu c.streams on a → Asked c → AskedIn (tunnel_done c o a answer)
  tunnel_asked c None on a answer same is h = tt
  tunnel_asked c (Some t) on a answer same is h = stream_asked c t a answer (subst (λ i. IsOf mtu c.streams i a) (sym (same t refl)) is) h

  act_asked : (c : Conn) (a : Act) (answer : Answer) → DueOf mtu c.streams (due.Do a) → Asked c → AskedIn (act_done c a answer)
  act_asked c (act.Bind id goal) (Bound true) is h = (tt, h)
  act_asked c (act.Bind id goal) (Bound false) is h = kept_asked id c.streams c.due h
  act_asked c (act.Open id goal) (Replied (reply.Opened tunnel routes)) is h = h
  act_asked c (act.Open id goal) (Replied (reply.HistoryFull entries live)) is h = kept_asked id c.streams c.due h
  act_asked c (act.Refuse id status rule) Said is h = kept_asked id c.streams c.due h
  act_asked c (act.Reset id code) Said is h = h
  act_asked c (act.OfStream id a) answer is h =
      tunnel_asked c (tunnel_on c id) id a answer (λ t e. eqb-true t.stream id (found_passes (λ (t : Tunnel). t.stream == id) c.tunnels t e)) is h
  act_asked c a answer is h = tt

  due_asked : (c : Conn) (ds : List Due) (answer : Answer) → DuesOf mtu c.streams ds → AskedIn (due_done c ds answer)
  due_asked c (due.Do a ∷ rest) answer h = act_asked (record c { due = rest }) a answer h.0 h.1
  due_asked c (due.Spend id size ∷ rest) answer h = tt
  due_asked c (due.Fault code ∷ rest) answer h = tt
  due_asked c [] answer h = tt

  ending_asked : (c : Conn) (ts : List Tunnel) (answer : Answer) → Asked c → AskedIn (ending_done c ts answer)
  ending_asked c (t ∷ ts) (Replied reply.Closed) h = kept_asked t.stream c.streams c.due h
  ending_asked c ts answer h = tt

  by_asked : (c : Conn) (e : Option End) (answer : Answer) → Asked c → AskedIn (done_by c e answer)
  by_asked c None answer h = due_asked c c.due answer h
  by_asked c (Some reason) answer h = ending_asked c c.tunnels answer h

  done_asked : (c d : Conn) (answer : Answer) (said : Note) → Asked c → done c answer ≡ Some (said, d) → Asked d
  done_asked c d answer said h is = subst AskedIn is (settle_each (done_by c c.ending answer) (by_asked c c.ending answer h))

  -- ---- frames, the end of the link, and what comes to a tunnel

  front_asked : (c : Conn) (t : Tunnel) (ws : List Waiting) → Asked c → AskedIn (framed_front c t ws)
  front_asked c t [] h = tt
  front_asked c t (w ∷ ws) h =
      let size = frame_size c.front t.stream (length (drop w.framed w.capsule)) in
      if_both (λ (d : Note × Conn). Asked d.1) (nat_le (length w.capsule) (w.framed + size)) _ _ h h

  next_asked : (c : Conn) (o : Option Tunnel) → Asked c → AskedIn (option_and_then (λ (t : Tunnel). framed_front c t t.waiting) o)
  next_asked c None h = tt
  next_asked c (Some t) h = front_asked c t t.waiting h

  framed_asked : (c d : Conn) (said : Note) → Asked c → framed c ≡ Some (said, d) → Asked d
  framed_asked c d said h is = subst AskedIn is (settle_each (option_and_then (λ (t : Tunnel). framed_front c t t.waiting) (next_framed c)) (next_asked c (next_framed c) h))

  finish_asked : (c : Conn) (f : Front) (inside : Bool) → Asked c → Asked (finish_by c f inside)
  finish_asked c (Head []) inside h = h
  finish_asked c (Head (b ∷ bytes)) inside h = h
  finish_asked c OverHttp1 inside h = (tt, h)
  finish_asked c (OverHttp2 s) inside h = h

  finished_asked : (c : Conn) (inside : Bool) → Asked c → Asked (finished c inside).1
  finished_asked c inside h = settle_asked (finish_by (record c { is_finished = true }) c.front inside) (finish_asked (record c { is_finished = true }) c.front inside h)

  queued_asked : (c : Conn) (t : Tunnel) (from : From) (n : ℕ) (packet : List ℕ) → Asked c → Asked (settled_note (queued c t from n packet)).1
  queued_asked c t from n packet h =
      settle_asked (queued c t from n packet).1
      (if_both (λ (d : Note × Conn). Asked d.1) (nat_le most_packets (packets t) || nat_lt most_waiting (waiting_bytes c + length (capsule_text (datagram packet)))) _ _ h h)

  -- ---- what bytes ask for

  -- of items that these bytes of the data stream say
  of_items : (ss : List Stream) (on : ℕ) (s : Stream) (bytes : List ℕ) (all : List Item) (a : StreamAct) → stream_of ss on ≡ Some s → s.bytes ≡ bytes → ItemsOf (has_values s.goal) bytes all
      → AskedOf mtu all a → IsOf mtu ss on a
  of_items ss on s bytes all (stream.Payload n payload) is same say h = record { data_stream = s; bytes = bytes; others = []; items = all; is = is; are_first = same ∙ sym (append-nil bytes); say = say; at = h }
  of_items ss on s bytes all (stream.Packet n packet flow) is same say h = (record { data_stream = s; bytes = bytes; others = []; items = all; is = is; are_first = same ∙ sym (append-nil bytes); say = say; at = h.0 }, h.1)
  of_items ss on s bytes all (stream.Push n to packet) is same say h = absurd h
  of_items ss on s bytes all (stream.Drop n cause) is same say h = (h.0, record { data_stream = s; bytes = bytes; others = []; items = all; is = is; are_first = same ∙ sym (append-nil bytes); say = say; at = h.1 }, h.2)
  of_items ss on s bytes all (stream.Assign asked) is same say h = tt
  of_items ss on s bytes all (stream.Advertise ranges) is same say h = tt
  of_items ss on s bytes all (stream.Close reason) is same say h = tt

  mark_asked : (ss : List Stream) (id : ℕ) (size : Option ℕ) → DuesOf mtu ss (mark_of id size)
  mark_asked ss id None = tt
  mark_asked ss id (Some n) = (tt, tt)

  on_asked : (ss : List Stream) (on : ℕ) (s : Stream) (bytes : List ℕ) (all : List Item) (asked : List StreamAct) (size : Option ℕ) → stream_of ss on ≡ Some s → s.bytes ≡ bytes
      → ItemsOf (has_values s.goal) bytes all → Asks mtu all asked → DuesOf mtu ss (on_stream on asked ++ mark_of on size)
  on_asked ss on s bytes all [] size is same say h = mark_asked ss on size
  on_asked ss on s bytes all (a ∷ asked) size is same say h = (of_items ss on s bytes all a is same say h.0, on_asked ss on s bytes all asked size is same say h.1)

  ends_ask : (all : List Item) (goal : Goal) (bytes : List ℕ) (ends : Bool) (acts : List StreamAct) → EndsWith goal bytes ends acts → Asks mtu all acts
  ends_ask all goal bytes false acts h = subst (Asks mtu all) (sym h) tt
  ends_ask all goal bytes true acts (inl h) = subst (Asks mtu all) (sym h.1) (tt, tt)
  ends_ask all goal bytes true acts (inr h) = subst (Asks mtu all) (sym h.1) (tt, tt)

  -- ---- events

  record EventSo (old : List Stream) (acts : List Due) (new : List Stream) : Type 0 where
    longer : AreLonger old new
    asked : DuesOf mtu new acts

  still : (old new : List Stream) (acts : List Due) → new ≡ old → DuesOf mtu old acts → EventSo old acts new
  still old new acts same h = subst (λ ss. EventSo old acts ss) (sym same) (record { longer = longer_same old; asked = h })

  dues_longer : (old new : List Stream) (ds : List Due) → AreLonger old new → DuesOf mtu old ds → DuesOf mtu new ds
  dues_longer old new [] longer h = tt
  dues_longer old new (due.Do (act.OfStream on a) ∷ ds) longer h = (of_longer mtu old new on a (longer on) h.0, dues_longer old new ds longer h.1)
  dues_longer old new (due.Do (act.Bind id goal) ∷ ds) longer h = (tt, dues_longer old new ds longer h.1)
  dues_longer old new (due.Do (act.Open id goal) ∷ ds) longer h = (tt, dues_longer old new ds longer h.1)
  dues_longer old new (due.Do (act.Refuse id status rule) ∷ ds) longer h = (tt, dues_longer old new ds longer h.1)
  dues_longer old new (due.Do (act.Reset id code) ∷ ds) longer h = (tt, dues_longer old new ds longer h.1)
  dues_longer old new (due.Spend id size ∷ ds) longer h = (tt, dues_longer old new ds longer h.1)
  dues_longer old new (due.Fault code ∷ ds) longer h = (tt, dues_longer old new ds longer h.1)

  module _ (limits : IsWithinLimits) where
    pub bytes_ask : (s : Stream) (bytes : List ℕ) (ends : Bool) (acts : List StreamAct) (x : BytesAsk mtu s bytes ends acts) → Asks mtu (x.before ++ x.items) acts
    bytes_ask s bytes ends acts x =
        let all = x.before ++ x.items in
        let kind = kind_of s.goal in
        let count = payload_count x.before in
        let sized = each_behind IsSized x.before x.items (limits (has_values s.goal) (s.bytes ++ bytes) all x.is) in
        let first = items_ask mtu all kind count x.before x.items refl refl sized in
        let last = ends_ask all s.goal (s.bytes ++ bytes) ends x.last x.ends_in in
        let own = acts_of kind mtu count x.items in
        subst (Asks mtu all) (sym x.acts_are) (each_append (AskedOf mtu all) own (cond (list_any is_close own) [] x.last) first (if_both (Asks mtu all) (list_any is_close own) [] x.last tt last))

    content_asked : (id : ℕ) (bytes : List ℕ) (size : Option ℕ) (ends : Bool) (old : List Stream) (o : Option Stream) (acts : List Due) → stream_of old id ≡ o
        → ContentAsks mtu id bytes size ends o acts → DuesOf mtu (more_bytes id bytes old) acts
    content_asked id bytes size ends old None acts is x = subst (DuesOf mtu (more_bytes id bytes old)) (sym x) (mark_asked (more_bytes id bytes old) id size)
    content_asked id bytes size ends old (Some s) acts is x =
        subst (DuesOf mtu (more_bytes id bytes old)) (sym x.2)
        (on_asked (more_bytes id bytes old) id (record s { bytes = s.bytes ++ bytes }) (s.bytes ++ bytes) (x.1.before ++ x.1.items) x.0 size (more_is id bytes old s is) refl x.1.is (bytes_ask s bytes ends x.0 x.1))

    ended_asked : (ss : List Stream) (id : ℕ) (ends : Bool) → DuesOf mtu ss (ended_acts id ends)
    ended_asked ss id true = (tt, tt)
    ended_asked ss id false = tt

    goal_asked : (ss : List Stream) (id : ℕ) (goal : Goal) (ends : Bool) → DuesOf mtu ss (due.Do (goal_act id goal) ∷ ended_acts id ends)
    goal_asked ss id (goal.Udp addr port) ends = (tt, ended_asked ss id ends)
    goal_asked ss id (goal.Ip area protocol) ends = (tt, ended_asked ss id ends)

    error_asked : (ss : List Stream) (id code : ℕ) (o : Option Tunnel) → DuesOf mtu ss (error_acts id code o)
    error_asked ss id code None = (tt, tt)
    error_asked ss id code (Some t) = (tt, tt)

    reset_asked : (ss : List Stream) (id : ℕ) (o : Option Tunnel) → DuesOf mtu ss (reset_acts id o)
    reset_asked ss id None = tt
    reset_asked ss id (Some t) = (tt, tt)

    event_asked : (ts : List Tunnel) (old : List Stream) (e : StreamEvent) (acts : List Due) (new : List Stream) → EventAsks mtu ts old e acts new → EventSo old acts new
    event_asked ts old (Request id (Refused status rule) ends) acts new x = still old new acts x.1 (subst (DuesOf mtu old) (sym x.0) (tt, tt))
    event_asked ts old (Request id (Leads found) ends) acts new x =
        let now = old ++ record { id = id; goal = found; bytes = [] } ∷ [] in
        subst (λ ss. EventSo old acts ss) (sym x.1) (record { longer = longer_front old (record { id = id; goal = found; bytes = [] } ∷ []); asked = subst (DuesOf mtu now) (sym x.0) (goal_asked now id found ends) })
    event_asked ts old (Malformed id code) acts new x = still old new acts x.1 (subst (DuesOf mtu old) (sym x.0) (error_asked old id code (find (λ (t : Tunnel). t.stream == id) ts)))
    event_asked ts old (Content id bytes size ends) acts new x =
        subst (λ ss. EventSo old acts ss) (sym x.1) (record { longer = longer_more id bytes old; asked = content_asked id bytes size ends old (stream_of old id) acts refl x.0 })
    event_asked ts old (Reset id) acts new x = still old new acts x.1 (subst (DuesOf mtu old) (sym x.0) (reset_asked old id (find (λ (t : Tunnel). t.stream == id) ts)))
    event_asked ts old (ConnectionError code) acts new x = still old new acts x.1 (subst (DuesOf mtu old) (sym x.0) (tt, tt))

    events_asked : (ts : List Tunnel) (es : List StreamEvent) (old : List Stream) (acts : List Due) (new : List Stream) → EventsAsk mtu ts old es acts new → EventSo old acts new
    events_asked ts [] old acts new x = still old new acts x.1 (subst (DuesOf mtu old) (sym x.0) tt)
    events_asked ts (e ∷ es) old acts new x =
        let here = event_asked ts old e x.0 x.1 x.3 in
        let later = events_asked ts es x.1 x.2 new x.4 in
        record {
          longer = longer_on old x.1 new here.longer later.longer;
          asked = subst (DuesOf mtu new) (sym x.5) (each_append (DueOf mtu new) x.0 x.2 (dues_longer x.1 new x.0 later.longer here.asked) later.asked);
        }

    took_asked : (setup : Setup) (c d : Conn) (bytes : List ℕ) → setup.mtu ≡ mtu → TookNext setup c bytes d → Asked d
    took_asked setup c d bytes same x =
        let now : Conn = record c { front = x.front; streams = x.streams; due = x.acts; out = c.out ++ x.text } in
        let asks = subst (λ m. EventsAsk m c.tunnels c.streams x.events x.acts x.streams) same x.asks in
        subst Asked (sym x.new_is) (settle_asked now (events_asked c.tunnels x.events c.streams x.acts x.streams asks).asked)

pub keeps_asked : IsWithinLimits → Keeps (λ setup n c. Asked setup.mtu c)
keeps_asked limits = record {
  more = λ setup n m c long h. h;
  begins = λ setup n number actor. tt;
  answers = λ setup n m c d answer said h long g is. done_asked setup.mtu c d answer said h is;
  frames = λ setup n c d said h is. framed_asked setup.mtu c d said h is;
  writes = λ setup n c count h. settle_asked setup.mtu (record c { given = c.given + count }) h;
  reads = λ setup n c d bytes h took. took_asked setup.mtu limits setup c d bytes refl took;
  finishes = λ setup n c inside h can. finished_asked setup.mtu c inside h;
  gives_up = λ setup n reason c h. tt;
  queues = λ setup n c t from number packet h. queued_asked setup.mtu c t from number packet h;
  port_fails = λ setup n c tunnel t h is can. (tt, h);
  hears = λ setup n m c answer h long g. tt;
}
