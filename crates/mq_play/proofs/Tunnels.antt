-- The tunnels of a connection have numbers below a count, as those have that the book gave: what a connection does leaves them so,
-- and its calls of the book name such tunnels.
use Rattle.std.proofs.Common.{◌≡◌, ℕ, ◌+◌, ◌<◌, ◌≤◌, ◌==◌, Bool, true, false, List, [], ◌∷◌, ◌++◌, length, drop, Option, Some, None, nat_le, nat_lt, refl, sym, subst, arith}
use Rattle.std.specs.Prelude.{option_map, option_and_then, ◌||◌}
use Rattle.std.specs.List.{AllByRecursion}
use Rattle.mq_talk.specs.declared.book.Call.TheVariants as call
use Rattle.mq_talk.specs.declared.book.Reply.TheVariants as reply
use Rattle.mq_talk.specs.declared.note.End.{End}
use Rattle.mq_talk.specs.declared.note.From.{From}
use Rattle.mq_talk.specs.declared.note.From.TheVariants as source
use Rattle.mq_talk.specs.declared.note.Note.{Note}
use Rattle.mq_talk.specs.declared.place.Cause.TheVariants as cause
use Rattle.mq_talk.specs.declared.place.Verdict.{Verdict}
use Rattle.mq_talk.specs.declared.place.Verdict.TheVariants as verdict
use Rattle.mq_outside.specs.declared.PortPut.{PortPut}
use Rattle.mq_outside.specs.declared.PortPut.TheVariants as put
use Rattle.mq_capsule.specs.Writing.{capsule_text, datagram}
use Rattle.mq_machine.specs.declared.act.Act.{Act}
use Rattle.mq_machine.specs.declared.act.Act.TheVariants as act
use Rattle.mq_machine.specs.declared.act.StreamAct.{StreamAct}
use Rattle.mq_machine.specs.declared.act.StreamAct.TheVariants as stream
use Rattle.mq_machine.specs.declared.act.Due.{Due}
use Rattle.mq_machine.specs.declared.act.Due.TheVariants as due
use Rattle.mq_machine.specs.declared.setup.Setup.{Setup}
use Rattle.mq_machine.specs.Done.{Done, waits, value, dropped, judged, sent, stream_done, tunnel_done, act_done, due_done, ending_done, done_by, done}
use Rattle.mq_machine.specs.Putting.{putting}
use Rattle.mq_machine.specs.Reading.{TookNext}
use Rattle.mq_machine.specs.Settle.{gives_up, passing, spending, is_given_up, updating, settled, settle}
use Rattle.mq_machine.specs.State.{Conn, Front, Head, OverHttp1, OverHttp2, Tunnel, Waiting, Packet, Port, owed, packets, values, waiting_bytes, tunnel_on, tunnel_of}
use Rattle.mq_machine.specs.Silent.{tunnels_after}
use Rattle.mq_machine.specs.Steps.{most_packets, most_waiting, set_waiting, framed_front, framed, settled_note, next_framed, frame_size, wrote, finish_by, finished, queued, passed_on, received}
use Rattle.mq_machine.specs.Want.{Want, Nothing, Ask, Over, Answer, Said, Bound, Replied, Judged, Pushed, Put, most_values, stream_want, tunnel_want, act_want, due_want, ending_want, over_want, want_by, want_of}
use Rattle.mq_machine.specs.Words.{assign_value}
use Rattle.mq_play.proofs.Lists.{if_both, each_append, each_filter, each_found}
use Rattle.mq_play.proofs.Owned.{NamesOld}

module _ (n : ℕ) where
  abbrev pub IsGiven : Tunnel → Type 0
  IsGiven t = t.id < n

  abbrev pub AreGiven : List Tunnel → Type 0
  AreGiven ts = AllByRecursion IsGiven ts

  abbrev pub HasGiven : Conn → Type 0
  HasGiven c = AreGiven c.tunnels

  -- a step that leads to such a connection, if it is one
  abbrev pub DoneGiven : Done → Type 0
  DoneGiven None = Unit {0}
  DoneGiven (Some d) = HasGiven d.1

  -- an answer that opens a tunnel gives it such a number
  abbrev pub GivesOne : Answer → Type 0
  GivesOne (Replied (reply.Opened tunnel routes)) = tunnel < n
  GivesOne answer = Unit {0}

  -- ---- the end of an act

  passed_given : (ds : List Due) (c : Conn) → HasGiven c → HasGiven (passing ds c)
  passed_given [] c h = h
  passed_given (due.Do a ∷ rest) c h = h
  passed_given (due.Spend id size ∷ rest) c h = passed_given rest (record c { front = spending c.front id size }) h
  passed_given (due.Fault code ∷ rest) c h = h

  settled_given : (c : Conn) → HasGiven c → HasGiven (settled c)
  settled_given c h = if_both HasGiven (is_given_up c.ending) c (putting c (updating c.front (owed c))) h h

  settle_given : (c : Conn) → HasGiven c → HasGiven (settle c)
  settle_given c h = settled_given (passing c.due c) (passed_given c.due c h)

  pub done_given : (o : Done) → DoneGiven o → DoneGiven (option_map settled_note o)
  done_given None h = tt
  done_given (Some d) h = settle_given d.1 h

  -- ---- what an act does

  waits_given : (id : ℕ) (w : Waiting) (ts : List Tunnel) → AreGiven ts → AreGiven (waits id w ts)
  waits_given id w [] h = tt
  waits_given id w (t ∷ ts) h = if_both AreGiven (t.id == id) (record t { waiting = t.waiting ++ w ∷ [] } ∷ ts) (t ∷ waits id w ts) h (h.0, waits_given id w ts h.1)

  set_given : (id : ℕ) (ws : List Waiting) (ts : List Tunnel) → AreGiven ts → AreGiven (set_waiting id ws ts)
  set_given id ws [] h = tt
  set_given id ws (t ∷ ts) h = if_both AreGiven (t.stream == id) (record t { waiting = ws } ∷ ts) (t ∷ set_waiting id ws ts) h (h.0, set_given id ws ts h.1)

  sent_given : (c : Conn) (t : Tunnel) (k : ℕ) (payload : List ℕ) (did : PortPut) → HasGiven c → DoneGiven (sent c t k payload did)
  sent_given c t k payload put.Sent h = h
  sent_given c t k payload put.Failed h = h
  sent_given c t k payload put.NotNow h = tt

  judged_given : (c : Conn) (t : Tunnel) (k : ℕ) (packet : List ℕ) (said : Verdict) (at : ℕ) → HasGiven c → HasGiven (judged c t k packet said at).1
  judged_given c t k packet (verdict.Pass to) at h = h
  judged_given c t k packet verdict.Source at h = h
  judged_given c t k packet verdict.NoRoute at h = h

  stream_given : (c : Conn) (t : Tunnel) (a : StreamAct) (answer : Answer) → HasGiven c → DoneGiven (stream_done c t a answer)
  stream_given c t (stream.Payload k payload) (Put did limit) h =
      if_both DoneGiven (nat_lt limit (length payload)) (Some (dropped c t k cause.TooLong)) (sent c t k payload did) h (sent_given c t k payload did h)
  stream_given c t (stream.Packet k packet flow) (Judged said at) h = judged_given c t k packet said at h
  stream_given c t (stream.Push k to packet) (Pushed true) h = h
  stream_given c t (stream.Push k to packet) (Pushed false) h = h
  stream_given c t (stream.Drop k cause) Said h = h
  stream_given c t (stream.Assign asked) (Replied (reply.Assigned list at)) h = waits_given t.id (value 1 (assign_value list)) c.tunnels h
  stream_given c t (stream.Assign asked) (Replied reply.Closed) h = each_filter IsGiven _ c.tunnels h
  stream_given c t (stream.Advertise ranges) (Replied (reply.Accepted accepts at)) h = h
  stream_given c t (stream.Advertise ranges) (Replied reply.Closed) h = each_filter IsGiven _ c.tunnels h
  stream_given c t (stream.Close reason) (Replied reply.Closed) h = each_filter IsGiven _ c.tunnels h
  stream_given c t a answer h = tt

  tunnel_given : (c : Conn) (o : Option Tunnel) (a : StreamAct) (answer : Answer) → HasGiven c → DoneGiven (tunnel_done c o a answer)
  tunnel_given c None a answer h = tt
  tunnel_given c (Some t) a answer h = stream_given c t a answer h

  act_given : (c : Conn) (a : Act) (answer : Answer) → HasGiven c → GivesOne answer → DoneGiven (act_done c a answer)
  act_given c (act.Bind id goal) (Bound true) h k = h
  act_given c (act.Bind id goal) (Bound false) h k = h
  act_given c (act.Open id goal) (Replied (reply.Opened tunnel routes)) h k = each_append IsGiven c.tunnels _ h (k, tt)
  act_given c (act.Open id goal) (Replied (reply.HistoryFull entries live)) h k = h
  act_given c (act.Refuse id status rule) Said h k = h
  act_given c (act.Reset id code) Said h k = h
  act_given c (act.OfStream id a) answer h k = tunnel_given c (tunnel_on c id) a answer h
  act_given c a answer h k = tt

  due_given : (c : Conn) (ds : List Due) (answer : Answer) → HasGiven c → GivesOne answer → DoneGiven (due_done c ds answer)
  due_given c (due.Do a ∷ rest) answer h k = act_given (record c { due = rest }) a answer h k
  due_given c (due.Spend id size ∷ rest) answer h k = tt
  due_given c (due.Fault code ∷ rest) answer h k = tt
  due_given c [] answer h k = tt

  ending_given : (c : Conn) (ts : List Tunnel) (answer : Answer) → HasGiven c → DoneGiven (ending_done c ts answer)
  ending_given c (t ∷ ts) (Replied reply.Closed) h = each_filter IsGiven _ c.tunnels h
  ending_given c ts answer h = tt

  by_given : (c : Conn) (o : Option End) (answer : Answer) → HasGiven c → GivesOne answer → DoneGiven (done_by c o answer)
  by_given c None answer h k = due_given c c.due answer h k
  by_given c (Some reason) answer h k = ending_given c c.tunnels answer h

  pub act_done_given : (c : Conn) (answer : Answer) → HasGiven c → GivesOne answer → DoneGiven (done c answer)
  act_done_given c answer h k = done_given (done_by c c.ending answer) (by_given c c.ending answer h k)

  -- ---- what it asks the book

  abbrev pub WantsGiven : Want → Type 0
  WantsGiven (Ask c) = NamesOld n c
  WantsGiven want = Unit {0}

  stream_wants : (t : Tunnel) (a : StreamAct) → IsGiven t → WantsGiven (stream_want t a)
  stream_wants t (stream.Payload k payload) h = tt
  stream_wants t (stream.Packet k packet flow) h = tt
  stream_wants t (stream.Push k to packet) h = tt
  stream_wants t (stream.Drop k cause) h = tt
  stream_wants t (stream.Assign asked) h = if_both WantsGiven (nat_le most_values (values t)) (Ask (call.Close t.id)) (Ask (call.Assign t.id asked)) tt h
  stream_wants t (stream.Advertise ranges) h = h
  stream_wants t (stream.Close reason) h = tt

  tunnel_wants : (o : Option Tunnel) (a : StreamAct) → ((t : Tunnel) → o ≡ Some t → IsGiven t) → WantsGiven (tunnel_want o a)
  tunnel_wants None a h = tt
  tunnel_wants (Some t) a h = stream_wants t a (h t refl)

  act_wants : (c : Conn) (a : Act) → HasGiven c → WantsGiven (act_want c a)
  act_wants c (act.Bind id goal) h = tt
  act_wants c (act.Open id goal) h = tt
  act_wants c (act.Refuse id status rule) h = tt
  act_wants c (act.Reset id code) h = tt
  act_wants c (act.OfStream id a) h = tunnel_wants (tunnel_on c id) a (λ t e. each_found IsGiven (λ (t : Tunnel). t.stream == id) c.tunnels t h e)

  due_wants : (c : Conn) (ds : List Due) → HasGiven c → WantsGiven (due_want c ds)
  due_wants c [] h = tt
  due_wants c (due.Do a ∷ rest) h = act_wants c a h
  due_wants c (due.Spend id size ∷ rest) h = tt
  due_wants c (due.Fault code ∷ rest) h = tt

  over_wants : (reason : End) (bytes : List ℕ) → WantsGiven (over_want reason bytes)
  over_wants reason [] = tt
  over_wants reason (b ∷ bytes) = if_both WantsGiven (gives_up reason) (Over reason) Nothing tt tt

  ending_wants : (c : Conn) (reason : End) (ts : List Tunnel) → WantsGiven (ending_want c reason ts)
  ending_wants c reason [] = over_wants reason (owed c)
  ending_wants c reason (t ∷ ts) = tt

  wants_by : (c : Conn) (o : Option End) → HasGiven c → WantsGiven (want_by c o)
  wants_by c None h = due_wants c c.due h
  wants_by c (Some reason) h = ending_wants c reason c.tunnels

  pub wants_given : (c : Conn) → HasGiven c → WantsGiven (want_of c)
  wants_given c h = wants_by c c.ending h

  -- ---- what it does beside its wants

  front_given : (c : Conn) (t : Tunnel) (ws : List Waiting) → HasGiven c → DoneGiven (framed_front c t ws)
  front_given c t [] h = tt
  front_given c t (w ∷ ws) h =
      let size = frame_size c.front t.stream (length (drop w.framed w.capsule)) in
      if_both (λ (d : Note × Conn). HasGiven d.1) (nat_le (length w.capsule) (w.framed + size)) _ _
      (set_given t.stream ws c.tunnels h) (set_given t.stream (record w { framed = w.framed + size } ∷ ws) c.tunnels h)

  next_given : (c : Conn) (o : Option Tunnel) → HasGiven c → DoneGiven (option_and_then (λ (t : Tunnel). framed_front c t t.waiting) o)
  next_given c None h = tt
  next_given c (Some t) h = front_given c t t.waiting h

  pub framed_given : (c : Conn) → HasGiven c → DoneGiven (framed c)
  framed_given c h = done_given (option_and_then (λ (t : Tunnel). framed_front c t t.waiting) (next_framed c)) (next_given c (next_framed c) h)

  pub wrote_given : (c : Conn) (count : ℕ) → HasGiven c → HasGiven (wrote c count).1
  wrote_given c count h = settle_given (record c { given = c.given + count }) h

  pub took_given : (setup : Setup) (c d : Conn) (bytes : List ℕ) → HasGiven c → TookNext setup c bytes d → HasGiven d
  took_given setup c d bytes h x =
      subst HasGiven (sym x.new_is) (settle_given (record c { front = x.front; streams = x.streams; due = x.acts; out = c.out ++ x.text }) h)

  finish_given : (c : Conn) (f : Front) (inside : Bool) → HasGiven c → HasGiven (finish_by c f inside)
  finish_given c (Head []) inside h = h
  finish_given c (Head (b ∷ bytes)) inside h = h
  finish_given c (OverHttp2 state) inside h = h
  finish_given c OverHttp1 inside h = h

  pub finished_given : (c : Conn) (inside : Bool) → HasGiven c → HasGiven (finished c inside).1
  finished_given c inside h = settle_given (finish_by (record c { is_finished = true }) c.front inside) (finish_given (record c { is_finished = true }) c.front inside h)

  queued_given : (c : Conn) (t : Tunnel) (from : From) (k : ℕ) (packet : List ℕ) → HasGiven c → HasGiven (settled_note (queued c t from k packet)).1
  queued_given c t from k packet h =
      let w : Waiting = record { what = Packet from k packet; capsule = capsule_text (datagram packet); framed = 0 } in
      settle_given (queued c t from k packet).1
      (if_both (λ (d : Note × Conn). HasGiven d.1) (nat_le most_packets (packets t) || nat_lt most_waiting (waiting_bytes c + length (capsule_text (datagram packet)))) _ _
      h (waits_given t.id w c.tunnels h))

  pub passed_on_given : (c : Conn) (t : Tunnel) (from : From) (k : ℕ) (o : Option (List ℕ)) → HasGiven c → HasGiven (passed_on c t from k o).1
  passed_on_given c t from k None h = h
  passed_on_given c t from k (Some packet) h = queued_given c t from k packet h

  received_by : (c : Conn) (p : Port) (datagram : List ℕ) (o : Option Tunnel) → HasGiven c
      → DoneGiven (option_map (λ (t : Tunnel). settled_note (queued c t (source.Port p.tunnel) p.received datagram)) o)
  received_by c p datagram None h = tt
  received_by c p datagram (Some t) h = queued_given c t (source.Port p.tunnel) p.received datagram h

  pub received_given : (c : Conn) (p : Port) (datagram : List ℕ) → HasGiven c → DoneGiven (received c p datagram)
  received_given c p datagram h = received_by c p datagram (tunnel_of c p.tunnel) h

  -- its tunnels behind an answer that it had no memory to hear
  pub after_given : (want : Want) (answer : Answer) (ts : List Tunnel) → GivesOne answer → AreGiven ts → AreGiven (tunnels_after want answer ts)
  after_given (Ask (call.Open conn stream actor goal)) (Replied (reply.Opened tunnel routes)) ts k h = each_append IsGiven ts _ h (k, tt)
  after_given want answer ts k h = h

-- more numbers were given
pub given_more : (n m : ℕ) (ts : List Tunnel) → n ≤ m → AreGiven n ts → AreGiven m ts
given_more n m [] more h = tt
given_more n m (t ∷ ts) more h = let first : t.id < n = h.0 in (omega (arith, first, more), given_more n m ts more h.1)
