-- What becomes of the tunnels of a connection in a step.
use Rattle.std.proofs.Common.{◌≡◌, ◌+◌, ◌⊎◌, ℕ, Bool, true, false, not, ◌||◌, List, [], ◌∷◌, ◌++◌, length, drop, nat_le, nat_lt, Option, Some, None, option_map, refl, sym, subst, ap, ◌∙◌, inl, inr}
use Rattle.std.specs.Prelude.{◌==◌, option_and_then}
use Rattle.std.specs.List.{filter}
use Rattle.mq_addr.specs.declared.range.Range.{Range}
use Rattle.mq_capsule.specs.Writing.{capsule_text, datagram}
use Rattle.mq_outside.specs.declared.PortPut.{PortPut}
use Rattle.mq_outside.specs.declared.PortPut.TheVariants as put
use Rattle.mq_talk.specs.declared.book.Reply.TheVariants as reply
use Rattle.mq_talk.specs.declared.goal.Goal.{Goal}
use Rattle.mq_talk.specs.declared.note.End.{End}
use Rattle.mq_talk.specs.declared.note.From.{From}
use Rattle.mq_talk.specs.declared.note.Note.{Note}
use Rattle.mq_talk.specs.declared.note.Note.TheVariants as note
use Rattle.mq_talk.specs.declared.place.Cause.TheVariants as cause
use Rattle.mq_talk.specs.declared.place.Verdict.{Verdict}
use Rattle.mq_talk.specs.declared.place.Verdict.TheVariants as verdict
use Rattle.mq_machine.specs.declared.act.Act.{Act}
use Rattle.mq_machine.specs.declared.act.Act.TheVariants as act
use Rattle.mq_machine.specs.declared.act.StreamAct.{StreamAct}
use Rattle.mq_machine.specs.declared.act.StreamAct.TheVariants as stream
use Rattle.mq_machine.specs.declared.act.Due.{Due}
use Rattle.mq_machine.specs.declared.act.Due.TheVariants as due
use Rattle.mq_machine.specs.declared.setup.Setup.{Setup}
use Rattle.mq_machine.specs.Done.{Done, value, waits, first_waiting, sent, dropped, judged, stream_done, tunnel_done, act_done, due_done, ending_done, done_by, done}
use Rattle.mq_machine.specs.Putting.{putting}
use Rattle.mq_machine.specs.Reading.{TookNext}
use Rattle.mq_machine.specs.Settle.{spending, passing, is_given_up, updating, settled, settle}
use Rattle.mq_machine.specs.State.{Conn, Front, Head, OverHttp1, OverHttp2, Tunnel, Waiting, Packet, kind_of, owed, packets, waiting_bytes, tunnel_on}
use Rattle.mq_machine.specs.Steps.{finish_by, finished, framed, framed_front, frame_size, most_packets, most_waiting, next_framed, queued, set_waiting, settled_note, whole_note, wrote}
use Rattle.mq_machine.specs.Want.{Answer, Said, Bound, Replied, Judged, Pushed, Put}
use Rattle.mq_machine.specs.Words.{assign_value}
use Rattle.mq_machine.proofs.Lawful.Lists.{In}
use Rattle.mq_play.proofs.Lists.{if_both}
use Rattle.mq_runs.proofs.Coming.{next_in}

-- ---- the end of an act leaves them

passed_tunnels : (ds : List Due) (c : Conn) → (passing ds c).tunnels ≡ c.tunnels
passed_tunnels [] c = refl
passed_tunnels (due.Do a ∷ rest) c = refl
passed_tunnels (due.Spend id size ∷ rest) c = passed_tunnels rest (record c { front = spending c.front id size })
passed_tunnels (due.Fault code ∷ rest) c = refl

settled_tunnels : (c : Conn) → (settled c).tunnels ≡ c.tunnels
settled_tunnels c = if_both (λ (d : Conn). d.tunnels ≡ c.tunnels) (is_given_up c.ending) c (putting c (updating c.front (owed c))) refl refl

pub settle_tunnels : (c : Conn) → (settle c).tunnels ≡ c.tunnels
settle_tunnels c = settled_tunnels (passing c.due c) ∙ passed_tunnels c.due c

-- ---- shapes

-- a control value more waits in one
pub record Valued (ts us : List Tunnel) : Type 0 where
  pub id : ℕ
  pub kind : ℕ
  pub bytes : List ℕ
  pub is : us ≡ waits id (value kind bytes) ts

-- one is gone
pub record Closed (ts us : List Tunnel) : Type 0 where
  pub id : ℕ
  pub is : us ≡ filter (λ (t : Tunnel). not (t.id == id)) ts

-- one opened, in which no packet waits
pub record Opens (ts : List Tunnel) (answer : Answer) (us : List Tunnel) : Type 0 where
  pub id : ℕ
  pub on : ℕ
  pub goal : Goal
  pub routes : List Range
  pub answered : answer ≡ Replied (reply.Opened id routes)
  pub is : us ≡ ts ++ record { id = id; stream = on; goal = goal; waiting = first_waiting (kind_of goal) routes } ∷ []

-- what an answer makes of them
abbrev pub Answered : List Tunnel → Answer → List Tunnel → Type 0
Answered ts answer us = (us ≡ ts) ⊎ (Closed ts us ⊎ (Valued ts us ⊎ Opens ts answer us))

module _ (ts : List Tunnel) where
  abbrev DoneIn : Answer → Done → Type 0
  DoneIn answer None = Unit {0}
  DoneIn answer (Some d) = Answered ts answer d.1.tunnels

  sent_in : (c : Conn) (t : Tunnel) (n : ℕ) (payload : List ℕ) (did : PortPut) (answer : Answer) → c.tunnels ≡ ts → DoneIn answer (sent c t n payload did)
  sent_in c t n payload put.Sent answer is = inl is
  sent_in c t n payload put.Failed answer is = inl is
  sent_in c t n payload put.NotNow answer is = tt

  judged_in : (c : Conn) (t : Tunnel) (n : ℕ) (packet : List ℕ) (said : Verdict) (at : ℕ) (answer : Answer) → c.tunnels ≡ ts → Answered ts answer (judged c t n packet said at).1.tunnels
  judged_in c t n packet (verdict.Pass to) at answer is = inl is
  judged_in c t n packet verdict.Source at answer is = inl is
  judged_in c t n packet verdict.NoRoute at answer is = inl is

  closed_in : (c : Conn) (id : ℕ) (answer : Answer) → c.tunnels ≡ ts → Answered ts answer (filter (λ (t : Tunnel). not (t.id == id)) c.tunnels)
  closed_in c id answer is = inr (inl (record { id = id; is = ap (λ (ts : List Tunnel). filter (λ (t : Tunnel). not (t.id == id)) ts) is }))

  stream_in : (c : Conn) (t : Tunnel) (a : StreamAct) (answer : Answer) → c.tunnels ≡ ts → DoneIn answer (stream_done c t a answer)
  stream_in c t (stream.Payload n payload) (Put did limit) is =
      if_both (DoneIn (Put did limit)) (nat_lt limit (length payload)) (Some (dropped c t n cause.TooLong)) (sent c t n payload did) (inl is) (sent_in c t n payload did (Put did limit) is)
  stream_in c t (stream.Packet n packet flow) (Judged said at) is = judged_in c t n packet said at (Judged said at) is
  stream_in c t (stream.Push n to packet) (Pushed true) is = inl is
  stream_in c t (stream.Push n to packet) (Pushed false) is = inl is
  stream_in c t (stream.Drop n cause) Said is = inl is
  stream_in c t (stream.Assign asked) (Replied (reply.Assigned list at)) is =
      inr (inr (inl (record { id = t.id; kind = 1; bytes = assign_value list; is = ap (λ (ts : List Tunnel). waits t.id (value 1 (assign_value list)) ts) is })))
  stream_in c t (stream.Assign asked) (Replied reply.Closed) is = closed_in c t.id (Replied reply.Closed) is
  stream_in c t (stream.Advertise ranges) (Replied (reply.Accepted accepts at)) is = inl is
  stream_in c t (stream.Advertise ranges) (Replied reply.Closed) is = closed_in c t.id (Replied reply.Closed) is
  stream_in c t (stream.Close reason) (Replied reply.Closed) is = closed_in c t.id (Replied reply.Closed) is
  stream_in c t a answer is = tt

  tunnel_in : (c : Conn) (o : Option Tunnel) (a : StreamAct) (answer : Answer) → c.tunnels ≡ ts → DoneIn answer (tunnel_done c o a answer)
  tunnel_in c None a answer is = tt
  tunnel_in c (Some t) a answer is = stream_in c t a answer is

  act_in : (c : Conn) (a : Act) (answer : Answer) → c.tunnels ≡ ts → DoneIn answer (act_done c a answer)
  act_in c (act.Bind id goal) (Bound true) is = inl is
  act_in c (act.Bind id goal) (Bound false) is = inl is
  act_in c (act.Open id goal) (Replied (reply.Opened tunnel routes)) is =
      inr (inr (inr (record { id = tunnel; on = id; goal = goal; routes = routes; answered = refl; is = ap (λ (ts : List Tunnel). ts ++ record { id = tunnel; stream = id; goal = goal; waiting = first_waiting (kind_of goal) routes } ∷ []) is })))
  act_in c (act.Open id goal) (Replied (reply.HistoryFull entries live)) is = inl is
  act_in c (act.Refuse id status rule) Said is = inl is
  act_in c (act.Reset id code) Said is = inl is
  act_in c (act.OfStream id a) answer is = tunnel_in c (tunnel_on c id) a answer is
  act_in c a answer is = tt

  due_in : (c : Conn) (ds : List Due) (answer : Answer) → c.tunnels ≡ ts → DoneIn answer (due_done c ds answer)
  due_in c (due.Do a ∷ rest) answer is = act_in (record c { due = rest }) a answer is
  due_in c (due.Spend id size ∷ rest) answer is = tt
  due_in c (due.Fault code ∷ rest) answer is = tt
  due_in c [] answer is = tt

  ending_in : (c : Conn) (us : List Tunnel) (answer : Answer) → c.tunnels ≡ ts → DoneIn answer (ending_done c us answer)
  ending_in c (t ∷ us) (Replied reply.Closed) is = closed_in c t.id (Replied reply.Closed) is
  ending_in c us answer is = tt

  by_in : (c : Conn) (e : Option End) (answer : Answer) → c.tunnels ≡ ts → DoneIn answer (done_by c e answer)
  by_in c None answer is = due_in c c.due answer is
  by_in c (Some reason) answer is = ending_in c c.tunnels answer is

  settle_in : (answer : Answer) (o : Done) → DoneIn answer o → DoneIn answer (option_map (λ (d : Note × Conn). (d.0, settle d.1)) o)
  settle_in answer None h = tt
  settle_in answer (Some d) h = subst (Answered ts answer) (sym (settle_tunnels d.1)) h

pub done_tunnels : (c d : Conn) (answer : Answer) (said : Note) → done c answer ≡ Some (said, d) → Answered c.tunnels answer d.tunnels
done_tunnels c d answer said is = subst (DoneIn c.tunnels answer) is (settle_in c.tunnels answer (done_by c c.ending answer) (by_in c.tunnels c c.ending answer refl))

-- ---- frames

-- what waited first in one was framed: a note says it of a packet, and of a part the rest still waits
pub record Framed (ts : List Tunnel) (said : Note) (us : List Tunnel) : Type 0 where
  pub t : Tunnel
  pub w : Waiting
  pub ws : List Waiting
  pub among : In t ts
  pub waiting : t.waiting ≡ w ∷ ws
  pub goes : ((said ≡ whole_note t w w.what) × (us ≡ set_waiting t.stream ws ts)) ⊎ ((count : ℕ) × (said ≡ note.Part t.id count) × (us ≡ set_waiting t.stream (record w { framed = w.framed + count } ∷ ws) ts))

abbrev FramedIn : List Tunnel → Option (Note × Conn) → Type 0
FramedIn ts None = Unit {0}
FramedIn ts (Some d) = Framed ts d.0 d.1.tunnels

front_in : (c : Conn) (t : Tunnel) (ws : List Waiting) → In t c.tunnels → t.waiting ≡ ws → FramedIn c.tunnels (framed_front c t ws)
front_in c t [] among is = tt
front_in c t (w ∷ ws) among is =
    let size = frame_size c.front t.stream (length (drop w.framed w.capsule)) in
    if_both (λ (d : Note × Conn). Framed c.tunnels d.0 d.1.tunnels) (nat_le (length w.capsule) (w.framed + size)) _ _
    (record { t = t; w = w; ws = ws; among = among; waiting = is; goes = inl (refl, refl) })
    (record { t = t; w = w; ws = ws; among = among; waiting = is; goes = inr (size, refl, refl) })

framed_settle : (ts : List Tunnel) (o : Option (Note × Conn)) → FramedIn ts o → FramedIn ts (option_map settled_note o)
framed_settle ts None h = tt
framed_settle ts (Some d) h = subst (Framed ts d.0) (sym (settle_tunnels d.1)) h

next_framed_in : (c : Conn) (o : Option Tunnel) → next_framed c ≡ o → FramedIn c.tunnels (option_map settled_note (option_and_then (λ (t : Tunnel). framed_front c t t.waiting) o))
next_framed_in c None is = tt
next_framed_in c (Some t) is = framed_settle c.tunnels (framed_front c t t.waiting) (front_in c t t.waiting (next_in c t is) refl)

pub framed_tunnels : (c : Conn) (d : Note × Conn) → framed c ≡ Some d → Framed c.tunnels d.0 d.1.tunnels
framed_tunnels c d is = subst (FramedIn c.tunnels) is (next_framed_in c (next_framed c) refl)

-- ---- what comes

-- a packet waits last in one, or doesn't
pub record Queues (ts : List Tunnel) (t : Tunnel) (from : From) (n : ℕ) (said : Note) (us : List Tunnel) : Type 0 where
  pub packet : List ℕ
  pub capsule : List ℕ
  pub said_is : said ≡ note.Queued from n t.id
  pub is : us ≡ waits t.id (record { what = Packet from n packet; capsule = capsule; framed = 0 }) ts

abbrev pub Comes : List Tunnel → Tunnel → From → ℕ → Note → List Tunnel → Type 0
Comes ts t from n said us = Queues ts t from n said us ⊎ ((said ≡ note.Dropped from n cause.QueueFull) × (us ≡ ts))

pub queued_tunnels : (c : Conn) (t : Tunnel) (from : From) (n : ℕ) (packet : List ℕ) → Comes c.tunnels t from n (settled_note (queued c t from n packet)).0 (settled_note (queued c t from n packet)).1.tunnels
queued_tunnels c t from n packet =
    let P : Note × Conn → Type 0 = λ d. Comes c.tunnels t from n d.0 d.1.tunnels in
    let first : P (queued c t from n packet) =
    if_both P (nat_le most_packets (packets t) || nat_lt most_waiting (waiting_bytes c + length (capsule_text (datagram packet)))) _ _
    (inr (refl, refl)) (inl (record { packet = packet; capsule = capsule_text (datagram packet); said_is = refl; is = refl })) in
    subst (λ (us : List Tunnel). Comes c.tunnels t from n (queued c t from n packet).0 us) (sym (settle_tunnels (queued c t from n packet).1)) first

-- ---- other steps leave them

pub wrote_tunnels : (c : Conn) (count : ℕ) → (wrote c count).1.tunnels ≡ c.tunnels
wrote_tunnels c count = settle_tunnels (record c { given = c.given + count })

finish_tunnels : (c : Conn) (f : Front) (inside : Bool) → (finish_by c f inside).tunnels ≡ c.tunnels
finish_tunnels c (Head []) inside = refl
finish_tunnels c (Head (b ∷ bytes)) inside = refl
finish_tunnels c OverHttp1 inside = refl
finish_tunnels c (OverHttp2 h) inside = refl

pub finished_tunnels : (c : Conn) (inside : Bool) → (finished c inside).1.tunnels ≡ c.tunnels
finished_tunnels c inside = settle_tunnels (finish_by (record c { is_finished = true }) c.front inside) ∙ finish_tunnels (record c { is_finished = true }) c.front inside

pub took_tunnels : (setup : Setup) (c d : Conn) (bytes : List ℕ) → TookNext setup c bytes d → d.tunnels ≡ c.tunnels
took_tunnels setup c d bytes x = ap (λ (c : Conn). c.tunnels) x.new_is ∙ settle_tunnels (record c { front = x.front; streams = x.streams; due = x.acts; out = c.out ++ x.text })
