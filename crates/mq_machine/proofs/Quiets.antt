-- An actor that has no turn is quiet.
use Rattle.std.proofs.Common.{arith, ◌≡◌, ℕ, Bool, true, false, not, inl, inr, ◌==◌, List, [], ◌∷◌, Option, Some, None, refl, sym, ap, subst, ◌∙◌, slice_get, length, nat_lt, take}
use Rattle.std.specs.Prelude.{find, is_some, cond, ◌&&◌, ◌||◌, option_map, option_and_then, unwrap_or, ◌⊎◌, nat_le, if◌then◌else◌}
use Rattle.mq_outside.specs.Nets.{Arrival}
use Rattle.mq_outside.specs.declared.PortPut.TheVariants as put
use Rattle.mq_talk.specs.declared.book.Call.{Call}
use Rattle.mq_talk.specs.declared.book.Call.TheVariants as call
use Rattle.mq_talk.specs.declared.book.Reply.{Reply}
use Rattle.mq_talk.specs.declared.book.Reply.TheVariants as reply
use Rattle.mq_talk.specs.declared.note.Note.{Note}
use Rattle.mq_talk.specs.declared.note.Note.TheVariants as note
use Rattle.mq_talk.specs.declared.note.End.TheVariants as end
use Rattle.mq_talk.specs.declared.note.End.{End}
use Rattle.mq_talk.specs.declared.place.Parcel.{Parcel}
use Rattle.mq_talk.specs.declared.place.Cause.TheVariants as cause
use Rattle.mq_talk.specs.declared.place.Origin.TheVariants as origin
use Rattle.mq_machine.specs.declared.act.Act.{Act as ActOf}
use Rattle.mq_machine.specs.declared.act.Act.TheVariants as act
use Rattle.mq_machine.specs.declared.act.StreamAct.{StreamAct}
use Rattle.mq_machine.specs.declared.act.StreamAct.TheVariants as stream
use Rattle.mq_machine.specs.declared.act.Due.{Due}
use Rattle.mq_machine.specs.declared.act.Due.TheVariants as due
use Rattle.mq_machine.specs.declared.setup.Setup.{Setup}
use Rattle.std.specs.Bool.{MatchBool}
use Rattle.mq_addr.specs.declared.range.Flow.{Flow}
use Rattle.mq_talk.specs.declared.note.From.TheVariants as source
use Rattle.mq_talk.specs.declared.place.Verdict.{Verdict}
use Rattle.mq_talk.specs.Answers.{IsAnswer}
use Rattle.mq_talk.specs.Judging.{IsJudged}
use Rattle.mq_talk.specs.Mails.{box_at, has_room}
use Rattle.mq_talk.specs.Packets.{flow_of}
use Rattle.mq_machine.specs.State.{Conn, Tunnel, Port, Held, Orders, Worker, Pump, Shared, State, Stream, Front, Head, OverHttp1, OverHttp2, held_of, tunnel_of, tunnel_on, owed, values}
use Rattle.mq_machine.specs.Want.{Want, Nothing, Say, Bind, Ask, Judge, Push, Send, Over, Answer, Said, Bound, Replied, Judged, Pushed, want_of, want_by, due_want, act_want, tunnel_want, stream_want, ending_want, over_want, most_values}
use Rattle.mq_machine.specs.Settle.{gives_up}
use Rattle.mq_machine.specs.Done.{done, done_by, due_done, act_done, tunnel_done, stream_done, ending_done, dropped, sent, Done}
use Rattle.mq_machine.specs.Shared.{Answers, PortsAnswer, Ordered, port_of, port_answer, asked_by, inbox_of}
use Rattle.mq_talk.specs.declared.note.Why.TheVariants as why
use Rattle.mq_machine.specs.Steps.{can_read, framed, failed, port_failed}
use Rattle.mq_machine.specs.Reading.{EndsIn, EndsBy, stream_of}
use Rattle.mq_machine.specs.Turn.{Try, Act, Frame, Write, Read, Receive, can_try, can_take, can_receive_on, has_turn, turn_of, can_act, Seat, Offers, Inbox, Of, SeatNext, WorkerActs, Actor, WorkerOf, ThePump, Turn, try_of, tries_of, ring_from, seats_of, accepted, with_held, with_conn, frame_done, write_done, most_read, OwnNext, TakesNext, WriteNext, ReadNext, PortNext, ReceiveNext, TryNext, write_failed, read_failed, receive_failed, received_from, can_do, send_waits, over_or, ActNext, HeldDone, PumpTry, PushHeld, SendHeld, SendNext, Receives, can_pump, pump_try, PumpNext, IsReceived, with_arrivals, IsMet, net_judged, last_of, PumpActs, net_popped}
use Rattle.mq_machine.specs.Laws.{ReadsAlways, SaysSome}

-- ---- searches

-- what is found passes
pub found : {A : Type 0} (f : A → Bool) (xs : List A) (a : A) → find f xs ≡ Some a → f a ≡ true
found f [] a h = absurd cc
found f (x ∷ xs) a h = by_test (f x) refl h (found f xs a) where
  by_test : (b : Bool) → f x ≡ b → cond b (Some x) (find f xs) ≡ Some a → (find f xs ≡ Some a → f a ≡ true) → f a ≡ true
  by_test true e h later = ap f (sym (ap (λ o. unwrap_or o x) h)) ∙ e
  by_test false e h later = later h

-- there is one
pub is_there : {A : Type 0} (o : Option A) → is_some o ≡ true → (a : A) × (o ≡ Some a)
is_there None h = absurd cc
is_there (Some a) h = (a, refl)

pub not_true : (b : Bool) → (b ≡ true → ⊥) → b ≡ false
not_true true h = absurd (h refl)
not_true false h = refl

both : (a b : Bool) → a && b ≡ true → (a ≡ true) × (b ≡ true)
both true b h = (refl, h)
both false b h = absurd cc

-- a list with an element
some_of : {A : Type 0} (xs : List A) → nat_lt 0 (length xs) ≡ true → (x : A) × (rest : List A) × (xs ≡ x ∷ rest)
some_of [] h = absurd cc
some_of (x ∷ xs) h = (x, xs, refl)

-- it isn't so that there is none
abbrev pub Comes : Type 0 → Type 0
Comes A = (A → ⊥) → ⊥

-- ---- the pump

met_comes : (p : Pump) (sh : Shared) → SaysSome sh.config sh.book → (n : ℕ) (packet : List ℕ) (flow : Option Flow)
    → Comes ((d : Note × Pump × Shared) × IsMet p sh n packet flow d)
met_comes p sh some n packet None none = none (_, refl)
met_comes p sh some n packet (Some flow) none = by_size (nat_lt p.mtu (length packet)) none where
  by_size : (b : Bool) → Comes ((d : Note × Pump × Shared) × MatchBool b (d ≡ (note.Dropped source.Net n cause.TooLong, p, sh))
      ((v : Verdict) × IsJudged sh.config sh.book origin.Net flow v × (d ≡ net_judged p sh n packet v)))
  by_size true none = none (_, refl)
  by_size false none = some.judges origin.Net flow (λ v judged. none (_, (v, judged, refl)))

pump_comes : (p : Pump) (sh : Shared) → SaysSome sh.config sh.book → (try : PumpTry) → can_pump p (box_at sh.boxes (last_of sh.boxes)) try ≡ true
    → Comes ((d : Note × Pump × Shared) × PumpNext p sh try d)
pump_comes p sh some PushHeld h none =
    let has = is_there p.to_push h in
    none (_, ap (option_map _) has.1)
pump_comes p sh some SendHeld h none =
    let has = is_there p.to_send (both _ _ h).0 in
    none (_, ap (option_map _) has.1)
pump_comes p sh some SendNext h none =
    let has = some_of (box_at sh.boxes (last_of sh.boxes)) (both _ _ h).1 in
    none (_, ap (net_popped p sh (last_of sh.boxes)) has.2)
pump_comes p sh some Receives h none = by_arrived p.net.holds.arrived (both _ _ h).1 none where
  by_arrived : (arrived : List Arrival) → nat_lt 0 (length arrived) ≡ true → Comes ((d : Note × Pump × Shared) × IsReceived p sh arrived d)
  by_arrived [] h none = absurd cc
  by_arrived (first ∷ others) h none = met_comes (record p { net = with_arrivals others p.net }) sh some p.net.received first.packet (flow_of first.packet) none

-- ---- a want can be answered

-- an answer, with what is shared and ordered then, and what it does
pub record Can (actor : ℕ) (sh : Shared) (ports : List Port) (want : Want) (does : Answer → Done) : Type 0 where
  pub answer : Answer
  pub after : Shared
  pub orders : Orders
  pub result : Note × Conn
  pub answers : Answers actor sh want answer after
  pub port : PortsAnswer ports want answer
  pub ordered : Ordered sh.orders answer orders
  pub is : does answer ≡ Some result

-- this is what the book says to a call
replied : (actor : ℕ) (sh : Shared) (ports : List Port) (call : Call) (does : Answer → Done) (said : Reply) → IsAnswer sh.config sh.book call said
    → (d : Note × Conn) → does (Replied (asked_by sh.book actor call said).reply) ≡ Some d → Can actor sh ports (Ask call) does
replied actor sh ports call does said is d done_is = record {
  answer = Replied (asked_by sh.book actor call said).reply;
  after = _;
  orders = sh.orders;
  result = d;
  answers = record { said = said; is = is; reply_is = refl; after_is = refl };
  port = tt;
  ordered = refl;
  is = done_is;
}

-- its reply to a call
reply_to : (actor : ℕ) (sh : Shared) → SaysSome sh.config sh.book → (ports : List Port) (call : Call) (does : Answer → Done)
    → ((r : Reply) → IsAnswer sh.config sh.book call r → (d : Note × Conn) × (does (Replied (asked_by sh.book actor call r).reply) ≡ Some d))
    → Comes (Can actor sh ports (Ask call) does)
reply_to actor sh some ports call does result none =
    some.answers call (λ r is. let d = result r is in none (replied actor sh ports call does r is d.0 d.1))

-- a close can always be answered
closes : (actor : ℕ) (sh : Shared) (ports : List Port) (tunnel : ℕ) (does : Answer → Done) (d : Note × Conn) → does (Replied reply.Closed) ≡ Some d
    → Can actor sh ports (Ask (call.Close tunnel)) does
closes actor sh ports tunnel does d is = replied actor sh ports (call.Close tunnel) does reply.Closed tt d is

-- a port's answer to a send that doesn't wait
sends : (actor : ℕ) (sh : Shared) (ports : List Port) (c : Conn) (t : Tunnel) (n : ℕ) (payload : List ℕ) → not (send_waits (port_of ports t.id) payload) ≡ true
    → Can actor sh ports (Send t.id n payload) (stream_done c t (stream.Payload n payload))
sends actor sh ports c t n payload h = by_port (port_of ports t.id) refl h where
  outcome : (b f w : Bool) → not (w && not f && not b) ≡ true
      → (d : Note × Conn) × ((if b then Some (dropped c t n cause.TooLong) else sent c t n payload (if f then put.Failed else (if w then put.NotNow else put.Sent))) ≡ Some d)
  outcome true f w h = (_, refl)
  outcome false true w h = (_, refl)
  outcome false false false h = (_, refl)
  outcome false false true h = absurd cc

  by_port : (o : Option Port) → port_of ports t.id ≡ o → not (send_waits o payload) ≡ true → Can actor sh ports (Send t.id n payload) (stream_done c t (stream.Payload n payload))
  by_port None e h = absurd cc
  by_port (Some p) e h =
      let d = outcome (nat_lt p.limit (length payload)) p.send_fails p.send_waits h in
      record { answer = port_answer p; after = sh; orders = sh.orders; result = d.0; answers = refl; port = ap (option_map port_answer) e; ordered = refl; is = d.1 }

abbrev IsOver : Want → Type 0
IsOver want = (why : End) × (want ≡ Over why)

module _ (actor : ℕ) (sh : Shared) (ports : List Port) (some : SaysSome sh.config sh.book) where
  stream_can : (c : Conn) (t : Tunnel) (a : StreamAct) → can_do ports (stream_want t a) ≡ true → Comes (Can actor sh ports (stream_want t a) (stream_done c t a))
  stream_can c t (stream.Payload n payload) h none = none (sends actor sh ports c t n payload h)
  stream_can c t (stream.Packet n packet flow) h none = some.judges (origin.Tunnel t.id) flow (λ verdict judged. none (record {
    answer = Judged verdict (length sh.book);
    after = sh;
    orders = sh.orders;
    result = _;
    answers = (refl, judged, refl);
    port = tt;
    ordered = refl;
    is = refl;
  }))
  stream_can c t (stream.Push n to packet) h none = none (by_room (has_room sh.boxes (inbox_of sh.boxes to)) refl) where
    by_room : (b : Bool) → has_room sh.boxes (inbox_of sh.boxes to) ≡ b → Can actor sh ports (stream_want t (stream.Push n to packet)) (stream_done c t (stream.Push n to packet))
    by_room true e = record { answer = Pushed true; after = _; orders = sh.orders; result = _; answers = (sym e, refl); port = tt; ordered = refl; is = refl }
    by_room false e = record { answer = Pushed false; after = _; orders = sh.orders; result = _; answers = (sym e, refl); port = tt; ordered = refl; is = refl }
  stream_can c t (stream.Drop n cause) h none = none (record { answer = Said; after = sh; orders = sh.orders; result = _; answers = refl; port = tt; ordered = refl; is = refl })
  stream_can c t (stream.Assign list) h none = by_full (nat_le most_values (values t)) none where
    result : (r : Reply) → IsAnswer sh.config sh.book (call.Assign t.id list) r → (d : Note × Conn) × (stream_done c t (stream.Assign list) (Replied (asked_by sh.book actor (call.Assign t.id list) r).reply) ≡ Some d)
    result (reply.Assigned given at) h = (_, refl)
    result (reply.HistoryFull entries live) h = (_, refl)
    result r h = absurd h

    by_full : (b : Bool) → Comes (Can actor sh ports (if b then Ask (call.Close t.id) else Ask (call.Assign t.id list)) (stream_done c t (stream.Assign list)))
    by_full true none = none (closes actor sh ports t.id (stream_done c t (stream.Assign list)) _ refl)
    by_full false none = reply_to actor sh some ports (call.Assign t.id list) (stream_done c t (stream.Assign list)) result none
  stream_can c t (stream.Advertise ranges) h none = reply_to actor sh some ports (call.Advertise t.id ranges) (stream_done c t (stream.Advertise ranges)) result none where
    result : (r : Reply) → IsAnswer sh.config sh.book (call.Advertise t.id ranges) r → (d : Note × Conn) × (stream_done c t (stream.Advertise ranges) (Replied (asked_by sh.book actor (call.Advertise t.id ranges) r).reply) ≡ Some d)
    result (reply.Accepted accepts at) h = (_, refl)
    result (reply.HistoryFull entries live) h = (_, refl)
    result r h = absurd h
  stream_can c t (stream.Close why) h none = none (closes actor sh ports t.id (stream_done c t (stream.Close why)) _ refl)

  act_can : (c : Conn) (a : ActOf) → can_do ports (act_want c a) ≡ true → Comes (Can actor sh ports (act_want c a) (act_done c a))
  act_can c (act.Bind id goal) h none = none (by_order (not sh.orders.bind) refl) where
    by_order : (b : Bool) → not sh.orders.bind ≡ b → Can actor sh ports (Bind id goal) (act_done c (act.Bind id goal))
    by_order true e = record { answer = Bound true; after = sh; orders = _; result = _; answers = refl; port = tt; ordered = (sym e, refl); is = refl }
    by_order false e = record { answer = Bound false; after = sh; orders = _; result = _; answers = refl; port = tt; ordered = (sym e, refl); is = refl }
  act_can c (act.Open id goal) h none = reply_to actor sh some ports (call.Open c.number id c.actor goal) (act_done c (act.Open id goal)) result none where
    result : (r : Reply) → IsAnswer sh.config sh.book (call.Open c.number id c.actor goal) r → (x : Note × Conn) × (act_done c (act.Open id goal) (Replied (asked_by sh.book actor (call.Open c.number id c.actor goal) r).reply) ≡ Some x)
    result (reply.Opened tunnel routes) h = (_, refl)
    result (reply.HistoryFull entries live) h = (_, refl)
    result r h = absurd h
  act_can c (act.Refuse id status rule) h none = none (record { answer = Said; after = sh; orders = sh.orders; result = _; answers = refl; port = tt; ordered = refl; is = refl })
  act_can c (act.Reset id code) h none = none (record { answer = Said; after = sh; orders = sh.orders; result = _; answers = refl; port = tt; ordered = refl; is = refl })
  act_can c (act.OfStream id a) h none = by_tunnel (tunnel_on c id) h none where
    by_tunnel : (o : Option Tunnel) → can_do ports (tunnel_want o a) ≡ true → Comes (Can actor sh ports (tunnel_want o a) (λ answer. tunnel_done c o a answer))
    by_tunnel None h none = absurd cc
    by_tunnel (Some t) h none = stream_can c t a h none

  due_can : (c : Conn) (ds : List Due) → can_do ports (due_want c ds) ≡ true → Comes (Can actor sh ports (due_want c ds) (due_done c ds))
  due_can c [] h none = absurd cc
  due_can c (due.Do a ∷ rest) h none = act_can (record c { due = rest }) a h none
  due_can c (due.Spend id size ∷ rest) h none = absurd cc
  due_can c (due.Fault code ∷ rest) h none = absurd cc

  over_can : (why : End) (bytes : List ℕ) → can_do ports (over_want why bytes) ≡ true → IsOver (over_want why bytes)
  over_can why [] h = (why, refl)
  over_can why (b ∷ bytes) h = by_end (gives_up why) h where
    by_end : (g : Bool) → can_do ports (if g then Over why else Nothing) ≡ true → IsOver (if g then Over why else Nothing)
    by_end true h = (why, refl)
    by_end false h = absurd cc

  -- it is over, or what it wants can be answered
  conn_can : (c : Conn) (e : Option End) → can_do ports (want_by c e) ≡ true → Comes (IsOver (want_by c e) ⊎ Can actor sh ports (want_by c e) (done_by c e))
  conn_can c None h none = due_can c c.due h (λ can. none (inr can))
  conn_can c (Some why) h none = none (by_tunnels c.tunnels h) where
    by_tunnels : (ts : List Tunnel) → can_do ports (ending_want c why ts) ≡ true → IsOver (ending_want c why ts) ⊎ Can actor sh ports (ending_want c why ts) (ending_done c ts)
    by_tunnels [] h = inl (over_can why (owed c) h)
    by_tunnels (t ∷ ts) h = inr (closes actor sh ports t.id (ending_done c (t ∷ ts)) _ refl)

-- ---- a connection can do what it wants

-- a step that is ordered too
pub record Acts (sh : Shared) (Next : Answer → Note → Option Held → Shared → Type 0) : Type 0 where
  pub answer : Answer
  pub note : Note
  pub new : Option Held
  pub after : Shared
  pub orders : Orders
  pub next : Next answer note new after
  pub ordered : Ordered sh.orders answer orders

over_done : (h : Held) (want : Want) (answer : Answer) (d : Note × Conn) → done h.conn answer ≡ Some d → (e : Note × Option Held) × (over_or h want answer ≡ Some e)
over_done h (Over why) answer d is = (_, refl)
over_done h Nothing answer d is = (_, ap (option_map _) is)
over_done h Say answer d is = (_, ap (option_map _) is)
over_done h (Bind id goal) answer d is = (_, ap (option_map _) is)
over_done h (Ask call) answer d is = (_, ap (option_map _) is)
over_done h (Judge tunnel n packet) answer d is = (_, ap (option_map _) is)
over_done h (Push parcel) answer d is = (_, ap (option_map _) is)
over_done h (Send tunnel n payload) answer d is = (_, ap (option_map _) is)

pub act_acts : (sh : Shared) → SaysSome sh.config sh.book → (h : Held) → can_do h.ports (want_of h.conn) ≡ true → Comes (Acts sh (λ a n b s. ActNext h sh a n b s))
act_acts sh some h can none = conn_can h.conn.actor sh h.ports some h.conn h.conn.ending can (λ c. none (by_can c)) where
  by_can : IsOver (want_of h.conn) ⊎ Can h.conn.actor sh h.ports (want_of h.conn) (done_by h.conn h.conn.ending) → Acts sh (λ a n b s. ActNext h sh a n b s)
  by_can (inl over) = record {
    answer = Said;
    note = note.Ended h.conn.number over.0;
    new = None;
    after = sh;
    orders = sh.orders;
    ordered = refl;
    next = record {
      answers = subst (λ w. Answers h.conn.actor sh w Said sh) (sym over.1) refl;
      ports = subst (λ w. PortsAnswer h.ports w Said) (sym over.1) tt;
      is = subst (λ w. over_or h w Said ≡ Some (note.Ended h.conn.number over.0, None)) (sym over.1) refl;
    };
  }
  by_can (inr c) =
      let d = over_done h (want_of h.conn) c.answer _ (ap (option_map _) c.is) in
      record {
        answer = c.answer;
        note = d.0.0;
        new = d.0.1;
        after = c.after;
        orders = c.orders;
        ordered = c.ordered;
        next = record { answers = c.answers; ports = c.port; is = d.1 };
      }

-- ---- a connection can do what it tries

-- its link failed: it has a tunnel to close, or it is over
failed_can : (ports : List Port) (c : Conn) → can_do ports (want_of (failed c)) ≡ true
failed_can ports c = by_tunnels c.tunnels where
  by_owed : (bytes : List ℕ) → can_do ports (over_want end.Link bytes) ≡ true
  by_owed [] = refl
  by_owed (b ∷ bytes) = refl

  by_tunnels : (ts : List Tunnel) → can_do ports (ending_want (failed c) end.Link ts) ≡ true
  by_tunnels [] = by_owed (owed (failed c))
  by_tunnels (t ∷ ts) = refl

-- what is there is found by what holds of it
is_found : {A : Type 0} (f g : A → Bool) (xs : List A) (a : A) → find f xs ≡ Some a → g a ≡ true → is_some (find g xs) ≡ true
is_found f g [] a h p = absurd cc
is_found f g (x ∷ xs) a h p = by_test (g x) refl (f x) h (is_found f g xs a) where
  by_test : (b : Bool) → g x ≡ b → (c : Bool) → cond c (Some x) (find f xs) ≡ Some a → (find f xs ≡ Some a → g a ≡ true → is_some (find g xs) ≡ true) → is_some (cond b (Some x) (find g xs)) ≡ true
  by_test true e c h later = refl
  by_test false e true h later = absurd cc
  by_test false e false h later = later h p

itself : (n : ℕ) → (n == n) ≡ true
itself n = grind (arith)

-- a port failed: its tunnel is to close
port_can : (ports : List Port) (c : Conn) (p : Port) (t : Tunnel) → tunnel_of c p.tunnel ≡ Some t → can_do ports (want_of (port_failed c t)) ≡ true
port_can ports c p t at = by_ending c.ending where
  by_tunnel : (o : Option Tunnel) → is_some o ≡ true → can_do ports (tunnel_want o (stream.Close why.Port)) ≡ true
  by_tunnel None h = absurd cc
  by_tunnel (Some u) h = refl

  by_tunnels : (why : End) (f : Tunnel → Bool) (ts : List Tunnel) → find f ts ≡ Some t → can_do ports (ending_want (port_failed c t) why ts) ≡ true
  by_tunnels why f [] h = absurd cc
  by_tunnels why f (u ∷ ts) h = refl

  by_ending : (e : Option End) → can_do ports (want_by (port_failed c t) e) ≡ true
  by_ending None = by_tunnel (tunnel_on c t.stream) (is_found (λ (u : Tunnel). u.id == p.tunnel) (λ (u : Tunnel). u.stream == t.stream) c.tunnels t at (itself t.stream))
  by_ending (Some why) = by_tunnels why (λ (u : Tunnel). u.id == p.tunnel) c.tunnels at

-- what needs none answer
abbrev own : (sh : Shared) (does : HeldDone) (d : Note × Option Held) → does ≡ Some d → Acts sh (λ a n b s. OwnNext sh a n b s does)
own sh does d is = record { answer = Said; note = d.0; new = d.1; after = sh; orders = sh.orders; ordered = refl; next = record { said = refl; is = is; after_is = refl } }

module _ (reads : ReadsAlways) (setup : Setup) (sh : Shared) (some : SaysSome sh.config sh.book) where
  try_comes : (h : Held) (try : Try) → can_try h try ≡ true → (Acts sh (λ a n b s. TryNext setup h sh try a n b s) → ⊥) → ⊥
  try_comes h Act can none = act_acts sh some h can none
  try_comes h Frame can none =
      let has = is_there (framed h.conn) can in
      none (own sh (frame_done h) _ (ap (option_map (with_conn h)) has.1))
  try_comes h Write can none = by_failure h.link.write_fails none where
    by_failure : (b : Bool) → (Acts sh (λ a n c s. WriteNext b h sh a n c s) → ⊥) → ⊥
    by_failure true none = act_acts sh some (write_failed h) (failed_can h.ports h.conn) none
    by_failure false none = none (own sh (write_done h) _ refl)
  try_comes h Read can none = by_failure h.link.read_fails (both (can_read h.conn) (can_take h.link) can).0 none where
    took : (note : Note) (new : Option Held) → TakesNext setup h h.link.pieces note new → Acts sh (λ a n b s. (a ≡ Said) × TakesNext setup h h.link.pieces n b × (s ≡ sh))
    took n new h = record { answer = Said; note = n; new = new; after = sh; orders = sh.orders; ordered = refl; next = (refl, h, refl) }

    by_inside : (o : Option Stream) → ((inside : Bool) → EndsIn o inside → ⊥) → ⊥
    by_inside None none = none false refl
    by_inside (Some s) none = none false (λ inside. none true inside)

    by_front : (front : Front) → ((inside : Bool) → EndsBy front h.conn.streams inside → ⊥) → ⊥
    by_front (Head bytes) none = by_inside (stream_of h.conn.streams 0) none
    by_front OverHttp1 none = by_inside (stream_of h.conn.streams 0) none
    by_front (OverHttp2 state) none = none false (λ begun. none true begun)

    by_pieces : (pieces : List (List ℕ)) → can_read h.conn ≡ true → ((n : Note) (new : Option Held) → TakesNext setup h pieces n new → ⊥) → ⊥
    by_pieces [] can none = by_front h.conn.front (λ inside ends. none _ _ (record { inside = inside; ends = ends; is = refl }))
    by_pieces (first ∷ others) can none = reads setup h.conn (take most_read first) can (λ conn t. none _ _ (record { conn = conn; took = t; note_is = refl; new_is = refl }))

    by_failure : (b : Bool) → can_read h.conn ≡ true → (Acts sh (λ a n c s. ReadNext b setup h sh a n c s) → ⊥) → ⊥
    by_failure true can none = act_acts sh some (read_failed h) (failed_can h.ports h.conn) none
    by_failure false can none = by_pieces h.link.pieces can (λ n new t. none (took n new t))
  try_comes h (Receive tunnel) can none = by_port (port_of h.ports tunnel) can none where
    by_arrived : (p : Port) (t : Tunnel) (arrived : List (List ℕ)) → tunnel_of h.conn p.tunnel ≡ Some t → nat_lt 0 (length arrived) ≡ true
        → (Acts sh (λ a n b s. OwnNext sh a n b s (received_from h p arrived)) → ⊥) → ⊥
    by_arrived p t [] at there none = absurd cc
    by_arrived p t (datagram ∷ others) at there none = none (own sh (received_from h p (datagram ∷ others)) _ (ap (option_map _) (ap (option_map _) at)))

    by_failure : (p : Port) (t : Tunnel) (b : Bool) → tunnel_of h.conn p.tunnel ≡ Some t → b || nat_lt 0 (length p.arrived) ≡ true
        → (Acts sh (λ a n c s. PortNext b h p sh a n c s) → ⊥) → ⊥
    by_failure p t true at there none =
        let P : Option Tunnel → Type 0 = λ o. Acts sh (λ a n c s. ActNext (receive_failed h p o) sh a n c s) in
        act_acts sh some (receive_failed h p (Some t)) (port_can h.ports h.conn p t at) (λ acts. none (subst P (sym at) acts))
    by_failure p t false at there none = by_arrived p t p.arrived at there none

    by_port : (o : Option Port) → can_receive_on h.conn o ≡ true → (Acts sh (λ a n b s. ReceiveNext o h sh a n b s) → ⊥) → ⊥
    by_port None can none = absurd cc
    by_port (Some p) can none =
        let parts = both (is_some (tunnel_of h.conn p.tunnel)) (p.receive_fails || nat_lt 0 (length p.arrived)) can in
        let has = is_there (tunnel_of h.conn p.tunnel) parts.0 in
        by_failure p has.0 p.receive_fails has.1 parts.1 none

-- ---- a worker can act

-- a step of a seat, that is ordered too
pub record SeatActs (old : Worker) (sh : Shared) (seat : Seat) : Type 0 where
  pub answer : Answer
  pub note : Note
  pub new : Worker
  pub after : Shared
  pub orders : Orders
  pub next : SeatNext old sh seat answer note new after
  pub ordered : Ordered sh.orders answer orders

-- an inbox that has something is there
box_there : (o : Option (List Parcel)) (parcel : Parcel) (rest : List Parcel) → unwrap_or o [] ≡ parcel ∷ rest → o ≡ Some (parcel ∷ rest)
box_there None parcel rest h = absurd cc
box_there (Some box) parcel rest h = ap Some h

module _ (reads : ReadsAlways) (sh : Shared) (some : SaysSome sh.config sh.book) where
  conn_comes : (w : Worker) (conn : ℕ) → is_some (option_and_then try_of (held_of w conn)) ≡ true → (SeatActs w sh (Of conn) → ⊥) → ⊥
  conn_comes w conn can none = by_held (held_of w conn) refl can where
    acts : (h : Held) (try : Try) → held_of w conn ≡ Some h → try_of h ≡ Some try → Acts sh (λ a n b s. TryNext w.setup h sh try a n b s) → SeatActs w sh (Of conn)
    acts h try has tries a = record {
      answer = a.answer;
      note = a.note;
      new = with_held w conn a.new;
      after = a.after;
      orders = a.orders;
      ordered = a.ordered;
      next = record { held = h; try = try; became = a.new; has = has; tries = tries; next = a.next; new_is = refl };
    }

    by_held : (o : Option Held) → held_of w conn ≡ o → is_some (option_and_then try_of o) ≡ true → ⊥
    by_held None e can = absurd cc
    by_held (Some h) e can =
        let tries = is_there (try_of h) can in
        try_comes reads w.setup sh some h tries.0 (found (can_try h) (tries_of h) tries.0 tries.1) (λ a. none (acts h tries.0 e tries.1 a))

  seat_comes : (w : Worker) (seat : Seat) → can_act w (box_at sh.boxes w.id) seat ≡ true → (SeatActs w sh seat → ⊥) → ⊥
  seat_comes w Offers can none =
      let has = some_of w.offered (both _ _ can).0 in
      none (record { answer = Said; note = _; new = _; after = sh; orders = sh.orders; next = (refl, ap (accepted w) has.2, refl); ordered = refl })
  seat_comes w Inbox can none =
      let has = some_of (box_at sh.boxes w.id) can in
      none (record {
        answer = Said;
        note = _;
        new = _;
        after = _;
        orders = sh.orders;
        ordered = refl;
        next = (refl, record { parcel = has.0; rest = has.1; box = box_there (slice_get sh.boxes w.id) has.0 has.1 has.2; is = refl; after_is = refl });
      })
  seat_comes w (Of conn) can none = conn_comes w conn can none

-- ---- all actors

worker_comes : ReadsAlways → (old : State) → SaysSome old.shared.config old.shared.book → (number : ℕ) → has_turn old (WorkerOf number) ≡ true → ((n : Note) (new : State) → WorkerActs old number n new → ⊥) → ⊥
worker_comes reads old some number can none = by_worker (slice_get old.workers number) refl can where
  acts : (w : Worker) (seat : Seat) → slice_get old.workers number ≡ Some w → turn_of w (box_at old.shared.boxes w.id) ≡ Some seat → SeatActs w old.shared seat → ⊥
  acts w seat at turn a = none a.note _ (record {
    worker = w;
    next = a.new;
    answer = a.answer;
    shared = a.after;
    after = record a.after { orders = a.orders };
    at = at;
    turn = record { seat = seat; turn = turn; next = a.next };
    ordered = a.ordered;
    after_is = refl;
    new_is = refl;
  })

  by_worker : (o : Option Worker) → slice_get old.workers number ≡ o → is_some (option_and_then (λ (w : Worker). turn_of w (box_at old.shared.boxes w.id)) o) ≡ true → ⊥
  by_worker None e can = absurd cc
  by_worker (Some w) e can =
      let box = box_at old.shared.boxes w.id in
      let turn = is_there (turn_of w box) can in
      seat_comes reads old.shared some w turn.0 (found (can_act w box) (ring_from w.next_seat (seats_of w)) turn.0 turn.1) (acts w turn.0 e turn.1)

pump_acts : (old : State) → SaysSome old.shared.config old.shared.book → has_turn old ThePump ≡ true → ((n : Note) (new : State) → PumpActs old n new → ⊥) → ⊥
pump_acts old some can none =
    let box = box_at old.shared.boxes (last_of old.shared.boxes) in
    let tries = is_there (pump_try old.pump box) can in
    pump_comes old.pump old.shared some tries.0 (found (can_pump old.pump box) (PushHeld ∷ SendHeld ∷ SendNext ∷ Receives ∷ []) tries.0 tries.1)
    (λ works. none works.0.0 _ (record { pump = works.0.1; shared = works.0.2; turn = record { try = tries.0; tries = tries.1; is = works.1 }; new_is = refl }))

pub quiet : (old : State) → SaysSome old.shared.config old.shared.book → ReadsAlways → (actor : Actor) → ((n : Note) (new : State) → Turn old actor n new → ⊥) → has_turn old actor ≡ false
quiet old some reads (WorkerOf number) none = not_true _ (λ can. worker_comes reads old some number can none)
quiet old some reads ThePump none = not_true _ (λ can. pump_acts old some can none)
