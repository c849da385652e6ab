-- What notes say that the book answered is what it answered, and its history says so.
use Rattle.std.proofs.Common.{◌≡◌, ◌≤◌, ℕ, Bool, true, false, cond, List, [], ◌∷◌, ◌++◌, length, take, nat_le, nat_lt, slice_get, slice_set, Option, Some, None, option_map, refl, sym, subst, ap, ◌∙◌, append_assoc, ◌+◌, drop, inl, inr}
use Rattle.std.specs.Prelude.{◌==◌, ◌||◌, option_and_then}
use Rattle.std.specs.List.{AllByRecursion}
use Rattle.mq_capsule.specs.Writing.{capsule_text, datagram}
use Rattle.std.specs.Bool.{MatchBool}
use Rattle.std.proofs.Math.Seq.{take-append_seam}
use Rattle.mq_addr.specs.declared.entry.Asked.{Asked}
use Rattle.mq_addr.specs.declared.entry.Given.{Given}
use Rattle.mq_addr.specs.declared.range.Flow.{Flow}
use Rattle.mq_outside.specs.Nets.{Arrival}
use Rattle.mq_addr.specs.declared.kind.Kind.{Kind}
use Rattle.mq_addr.specs.declared.range.Range.{Range}
use Rattle.mq_talk.specs.declared.goal.Goal.{Goal}
use Rattle.mq_talk.specs.declared.book.Call.{Call}
use Rattle.mq_talk.specs.declared.book.Call.TheVariants as call
use Rattle.mq_talk.specs.declared.book.Entry.{Entry}
use Rattle.mq_talk.specs.declared.book.Reply.{Reply}
use Rattle.mq_talk.specs.declared.book.Reply.TheVariants as reply
use Rattle.mq_talk.specs.declared.note.From.{From}
use Rattle.mq_talk.specs.declared.note.From.TheVariants as source
use Rattle.mq_talk.specs.declared.note.Note.{Note}
use Rattle.mq_talk.specs.declared.note.Note.TheVariants as note
use Rattle.mq_talk.specs.declared.place.Origin.{Origin}
use Rattle.mq_talk.specs.declared.place.Origin.TheVariants as origin
use Rattle.mq_talk.specs.declared.place.Parcel.{Parcel}
use Rattle.mq_talk.specs.declared.place.Place.{Place}
use Rattle.mq_talk.specs.declared.place.Cause.TheVariants as cause
use Rattle.mq_talk.specs.declared.place.Verdict.{Verdict}
use Rattle.mq_talk.specs.declared.place.Verdict.TheVariants as verdict
use Rattle.mq_talk.specs.Answers.{IsAnswer}
use Rattle.mq_talk.specs.Judging.{IsJudged}
use Rattle.mq_talk.specs.Mails.{box_at, has_room}
use Rattle.mq_talk.specs.Packets.{flow_of}
use Rattle.mq_capsule.specs.Laws.{IsWithinLimits}
use Rattle.mq_machine.specs.declared.act.StreamAct.{StreamAct}
use Rattle.mq_machine.specs.declared.act.StreamAct.TheVariants as stream
use Rattle.mq_machine.specs.declared.setup.Setup.{Setup}
use Rattle.mq_machine.specs.Words.{onward}
use Rattle.mq_machine.specs.State.{Conn, Tunnel, Waiting, What, Packet, Value, Port, Offer, Held, Worker, Pump, Shared, State, held_of, tunnel_of, packets, waiting_bytes}
use Rattle.mq_machine.specs.Want.{Ask, Answer, Replied, Judged, want_of, stream_want, most_values}
use Rattle.mq_machine.specs.State.{values}
use Rattle.mq_machine.specs.Shared.{Asks, Answers, asked_by, where_full, inbox_of}
use Rattle.mq_machine.specs.Steps.{failed, port_failed, framed, framed_front, next_framed, frame_size, most_packets, most_waiting, queued, settled_note, passed_on, whole_note}
use Rattle.mq_machine.specs.Turn.{PumpTry, PushHeld, SendHeld, SendNext, Receives, PumpNext, parcel_pushed, net_sent, net_popped, net_judged, IsMet, IsReceived, with_arrivals, last_of, Actor, WorkerOf, ThePump, Turn, SeatNext, Seat, Offers, Inbox, Of, popped, accepted, tunnel_in, source_of}
use Rattle.mq_play.specs.declared.plan.Plan.{Plan}
use Rattle.mq_play.specs.Events.{state_of}
use Rattle.mq_play.proofs.Lists.{if_both, each_at, each_found, some_same}
use Rattle.mq_runs.specs.Runs.{Noted, Comes}
use Rattle.mq_runs.specs.Payloads.{IsNext}
use Rattle.mq_runs.specs.Written.{MayGo, ArrivesNext, IsWritten, IsTrueOf}
use Rattle.mq_runs.proofs.Asked.{Asked as AskedDue, keeps_asked}
use Rattle.mq_runs.proofs.Books.{Grows, grows_long, grows_on}
use Rattle.mq_runs.proofs.Facts.{InFront, Tells, OnlyCloses, failed_closes, port_failed_closes, front_wants, Opening, Closing, MayClose}
use Rattle.mq_runs.proofs.Kept.{cases_of, on_turn, on_run, first_has}
use Rattle.mq_runs.proofs.Nexts.{acts_tell, next_is}
use Rattle.mq_runs.proofs.Walks.{HandlesHeld, try_walk, map_was}

-- ---- the book's answers

-- the entry of a call's answer is the book's last
record Written (sh : Shared) (c : Call) (r : Reply) (at : ℕ) (after : Shared) : Type 0 where
  entry : Entry
  at_is : at ≡ length sh.book
  book : after.book ≡ sh.book ++ entry ∷ []
  call_is : entry.call ≡ c
  reply_is : entry.reply ≡ r

module _ (sh : Shared) (actor : ℕ) (after : Shared) where
  abbrev Book : List Entry → Type 0
  Book book = after.book ≡ book

  full_no_list : (c : Call) (entries live at : ℕ) (list : List Given) → reply.Assigned list at ≡ (where_full sh.book actor c (reply.HistoryFull entries live)).reply → ⊥
  full_no_list (call.Open conn stream names goal) entries live at list e = absurd cc
  full_no_list (call.Assign tunnel asked) entries live at list e = absurd cc
  full_no_list (call.Advertise tunnel ranges) entries live at list e = absurd cc
  full_no_list (call.Close tunnel) entries live at list e = absurd cc

  full_no_yes : (c : Call) (entries live at : ℕ) (accepts : Bool) → reply.Accepted accepts at ≡ (where_full sh.book actor c (reply.HistoryFull entries live)).reply → ⊥
  full_no_yes (call.Open conn stream names goal) entries live at accepts e = absurd cc
  full_no_yes (call.Assign tunnel asked) entries live at accepts e = absurd cc
  full_no_yes (call.Advertise tunnel ranges) entries live at accepts e = absurd cc
  full_no_yes (call.Close tunnel) entries live at accepts e = absurd cc

  at_assigned : (c : Call) (list : List Given) (at : ℕ) → IsAnswer sh.config sh.book c (reply.Assigned list at) → at ≡ length sh.book
  at_assigned (call.Open conn stream names goal) list at x = absurd x
  at_assigned (call.Assign tunnel asked) list at x = x.1
  at_assigned (call.Advertise tunnel ranges) list at x = absurd x
  at_assigned (call.Close tunnel) list at x = absurd x

  at_accepted : (c : Call) (accepts : Bool) (at : ℕ) → IsAnswer sh.config sh.book c (reply.Accepted accepts at) → at ≡ length sh.book
  at_accepted (call.Open conn stream names goal) accepts at x = absurd x
  at_accepted (call.Assign tunnel asked) accepts at x = absurd x
  at_accepted (call.Advertise tunnel ranges) accepts at x = x.1
  at_accepted (call.Close tunnel) accepts at x = absurd x

  said_assigned : (c : Call) (said : Reply) (list : List Given) (at : ℕ) → IsAnswer sh.config sh.book c said → reply.Assigned list at ≡ (asked_by sh.book actor c said).reply
      → after.book ≡ (asked_by sh.book actor c said).book → Written sh c (reply.Assigned list at) at after
  said_assigned c (reply.HistoryFull entries live) list at x e b = absurd (full_no_list c entries live at list e)
  said_assigned c (reply.Opened tunnel routes) list at x e b = absurd cc
  said_assigned c (reply.Assigned other place) list at x e b =
      let same : at ≡ place = cc in
      record { entry = record { actor = actor; call = c; reply = reply.Assigned other place }; at_is = same ∙ at_assigned c other place x; book = b; call_is = refl; reply_is = sym e }
  said_assigned c (reply.Accepted accepts place) list at x e b = absurd cc
  said_assigned c reply.Closed list at x e b = absurd cc

  said_accepted : (c : Call) (said : Reply) (accepts : Bool) (at : ℕ) → IsAnswer sh.config sh.book c said → reply.Accepted accepts at ≡ (asked_by sh.book actor c said).reply
      → after.book ≡ (asked_by sh.book actor c said).book → Written sh c (reply.Accepted accepts at) at after
  said_accepted c (reply.HistoryFull entries live) accepts at x e b = absurd (full_no_yes c entries live at accepts e)
  said_accepted c (reply.Opened tunnel routes) accepts at x e b = absurd cc
  said_accepted c (reply.Assigned other place) accepts at x e b = absurd cc
  said_accepted c (reply.Accepted other place) accepts at x e b =
      let same : at ≡ place = cc in
      record { entry = record { actor = actor; call = c; reply = reply.Accepted other place }; at_is = same ∙ at_accepted c other place x; book = b; call_is = refl; reply_is = sym e }
  said_accepted c reply.Closed accepts at x e b = absurd cc

  full_no_tunnel : (c : Call) (entries live tunnel : ℕ) (routes : List Range) → reply.Opened tunnel routes ≡ (where_full sh.book actor c (reply.HistoryFull entries live)).reply → ⊥
  full_no_tunnel (call.Open conn stream names goal) entries live tunnel routes e = absurd cc
  full_no_tunnel (call.Assign u asked) entries live tunnel routes e = absurd cc
  full_no_tunnel (call.Advertise u ranges) entries live tunnel routes e = absurd cc
  full_no_tunnel (call.Close u) entries live tunnel routes e = absurd cc

  said_opened : (conn on names : ℕ) (goal : Goal) (said : Reply) (tunnel : ℕ) (routes : List Range) → IsAnswer sh.config sh.book (call.Open conn on names goal) said
      → reply.Opened tunnel routes ≡ (asked_by sh.book actor (call.Open conn on names goal) said).reply → after.book ≡ (asked_by sh.book actor (call.Open conn on names goal) said).book
      → Written sh (call.Open conn on names goal) (reply.Opened tunnel routes) tunnel after
  said_opened conn on names goal (reply.HistoryFull entries live) tunnel routes x e b = absurd (full_no_tunnel (call.Open conn on names goal) entries live tunnel routes e)
  said_opened conn on names goal (reply.Opened other ways) tunnel routes x e b =
      let same : tunnel ≡ other = cc in
      record { entry = record { actor = actor; call = call.Open conn on names goal; reply = reply.Opened other ways }; at_is = same ∙ x.1; book = b; call_is = refl; reply_is = sym e }
  said_opened conn on names goal (reply.Assigned other place) tunnel routes x e b = absurd x
  said_opened conn on names goal (reply.Accepted accepts place) tunnel routes x e b = absurd x
  said_opened conn on names goal reply.Closed tunnel routes x e b = absurd x

  -- the entry of a close
  closed_entry : (tunnel : ℕ) → after.book ≡ sh.book ++ record { actor = actor; call = call.Close tunnel; reply = reply.Closed } ∷ [] → Written sh (call.Close tunnel) reply.Closed (length sh.book) after
  closed_entry tunnel b = record { entry = record { actor = actor; call = call.Close tunnel; reply = reply.Closed }; at_is = refl; book = b; call_is = refl; reply_is = refl }

  said_closed : (tunnel : ℕ) (c : Call) (said : Reply) → MayClose tunnel c → IsAnswer sh.config sh.book c said → reply.Closed ≡ (asked_by sh.book actor c said).reply → after.book ≡ (asked_by sh.book actor c said).book
      → Written sh (call.Close tunnel) reply.Closed (length sh.book) after
  said_closed tunnel (call.Open conn on names goal) said may x e b = absurd may
  said_closed tunnel (call.Close u) reply.Closed may x e b = subst (λ i. Written sh (call.Close i) reply.Closed (length sh.book) after) may (closed_entry u b)
  said_closed tunnel (call.Close u) (reply.HistoryFull entries live) may x e b = absurd x
  said_closed tunnel (call.Close u) (reply.Opened other ways) may x e b = absurd x
  said_closed tunnel (call.Close u) (reply.Assigned other place) may x e b = absurd x
  said_closed tunnel (call.Close u) (reply.Accepted accepts place) may x e b = absurd x
  said_closed tunnel (call.Assign u asked) (reply.HistoryFull entries live) may x e b = subst (λ i. Written sh (call.Close i) reply.Closed (length sh.book) after) may (closed_entry u b)
  said_closed tunnel (call.Assign u asked) (reply.Opened other ways) may x e b = absurd x
  said_closed tunnel (call.Assign u asked) (reply.Assigned other place) may x e b = absurd cc
  said_closed tunnel (call.Assign u asked) (reply.Accepted accepts place) may x e b = absurd x
  said_closed tunnel (call.Assign u asked) reply.Closed may x e b = absurd x
  said_closed tunnel (call.Advertise u ranges) (reply.HistoryFull entries live) may x e b = subst (λ i. Written sh (call.Close i) reply.Closed (length sh.book) after) may (closed_entry u b)
  said_closed tunnel (call.Advertise u ranges) (reply.Opened other ways) may x e b = absurd x
  said_closed tunnel (call.Advertise u ranges) (reply.Assigned other place) may x e b = absurd x
  said_closed tunnel (call.Advertise u ranges) (reply.Accepted accepts place) may x e b = absurd cc
  said_closed tunnel (call.Advertise u ranges) reply.Closed may x e b = absurd x

  book_is : (c : Call) (said : Reply) → after ≡ record sh { book = (asked_by sh.book actor c said).book } → after.book ≡ (asked_by sh.book actor c said).book
  book_is c said e = ap (λ (s : Shared). s.book) e

  -- a request for addresses is answered so only where it was asked
  wrote_list : (b : Bool) (tunnel : ℕ) (asked : List Asked) (list : List Given) (at : ℕ) → Answers actor sh (cond b (Ask (call.Close tunnel)) (Ask (call.Assign tunnel asked))) (Replied (reply.Assigned list at)) after
      → Written sh (call.Assign tunnel asked) (reply.Assigned list at) at after
  wrote_list true tunnel asked list at x = absurd (closed_no x.said x.is x.reply_is) where
    closed_no : (said : Reply) → IsAnswer sh.config sh.book (call.Close tunnel) said → reply.Assigned list at ≡ (asked_by sh.book actor (call.Close tunnel) said).reply → ⊥
    closed_no reply.Closed x e = absurd cc
    closed_no (reply.HistoryFull entries live) x e = x
    closed_no (reply.Opened u routes) x e = x
    closed_no (reply.Assigned other place) x e = x
    closed_no (reply.Accepted accepts place) x e = x
  wrote_list false tunnel asked list at x = said_assigned (call.Assign tunnel asked) x.said list at x.is x.reply_is (book_is (call.Assign tunnel asked) x.said x.after_is)

-- ---- the history

entry_at : (xs ys : List Entry) (e : Entry) → slice_get (xs ++ e ∷ ys) (length xs) ≡ Some e
entry_at [] ys e = refl
entry_at (x ∷ xs) ys e = entry_at xs ys e

module _ (here last : State) where
  -- a packet that may go on
  may_go : (sh : Shared) (at : ℕ) (from : Origin) (packet : List ℕ) (flow : Flow) (to : Place) → at ≡ length sh.book → flow_of packet ≡ Some flow → IsJudged sh.config sh.book from flow (verdict.Pass to)
      → Grows sh last.shared → MayGo last.shared.config last.shared.book at from packet to
  may_go sh at from packet flow to at_is flow_is judged g =
      let front : take at last.shared.book ≡ sh.book = rw (at_is, g.book) (take-append_seam sh.book g.more) in
      record {
        flow = flow;
        flow_is = flow_is;
        at_most = subst (λ k. k ≤ length last.shared.book) (sym at_is) (grows_long sh last.shared g);
        judged = rw (front, g.config) judged;
      }

  is_written : (c : Call) (r : Reply) (at : ℕ) (after : Shared) → Written here.shared c r at after → Grows after last.shared → IsWritten here last at c r
  is_written c r at after w g = record {
    entry = w.entry;
    at_is = w.at_is;
    has = rw (g.book, w.book, w.at_is) (rw append_assoc (entry_at here.shared.book g.more w.entry));
    call_is = w.call_is;
    reply_is = w.reply_is;
  }

  -- ---- tunnels that open and close, whatever the connection

  opened_true : (c : Conn) (answer : Answer) (after : Shared) (tunnel conn on : ℕ) (kind : Kind) → Answers c.actor here.shared (want_of c) answer after → Grows after last.shared → Opening c answer tunnel conn on kind
      → IsTrueOf here last (note.Opened tunnel conn on kind)
  opened_true c answer after tunnel conn on kind x k o =
      let ask = call.Open conn on c.actor o.goal in
      let y : Asks here.shared c.actor ask (reply.Opened tunnel o.routes) after = subst (λ r. Answers c.actor here.shared (Ask ask) r after) o.is (subst (λ w. Answers c.actor here.shared w answer after) o.wants x) in
      let w = said_opened here.shared c.actor after conn on c.actor o.goal y.said tunnel o.routes y.is y.reply_is (ap (λ (s : Shared). s.book) y.after_is) in
      (c.actor, o.goal, o.routes, o.kind_is, is_written ask (reply.Opened tunnel o.routes) tunnel after w k)

  closed_true : (c : Conn) (answer : Answer) (after : Shared) (tunnel : ℕ) → Answers c.actor here.shared (want_of c) answer after → Grows after last.shared → Closing c answer tunnel
      → IsWritten here last (length here.shared.book) (call.Close tunnel) reply.Closed
  closed_true c answer after tunnel x k o =
      let y : Asks here.shared c.actor o.asked reply.Closed after = subst (λ r. Answers c.actor here.shared (Ask o.asked) r after) o.is (subst (λ w. Answers c.actor here.shared w answer after) o.wants x) in
      let w = said_closed here.shared c.actor after tunnel o.asked y.said o.may y.is y.reply_is (ap (λ (s : Shared). s.book) y.after_is) in
      is_written (call.Close tunnel) reply.Closed (length here.shared.book) after w k

  -- ---- a connection's step

  module _ (number conn : ℕ) (worker : Worker) (held : Held) (works : slice_get here.workers number ≡ Some worker) (has : held_of worker conn ≡ Some held) (asked : AskedDue worker.setup.mtu held.conn) where
    now_is : (a : StreamAct) (f : InFront held.conn a) → IsNext here f.t.id a
    now_is a f = next_is here number conn worker held works has asked a f

    -- what the act of the connection itself tells
    true_by : (answer : Answer) (after : Shared) (said : Note) → Answers held.conn.actor here.shared (want_of held.conn) answer after → Grows here.shared last.shared → Grows after last.shared
        → Tells held.conn answer said → IsTrueOf here last said
    true_by answer after (note.Passed from n at to) x g k (packet, flow, f, from_is, answer_is) =
        let a = stream.Packet n packet flow in
        let y : Answers held.conn.actor here.shared (stream_want f.t a) (Judged (verdict.Pass to) at) after = subst (λ r. Answers held.conn.actor here.shared (stream_want f.t a) r after) answer_is (subst (λ w. Answers held.conn.actor here.shared w answer after) (front_wants held.conn a f) x) in
        let next = now_is a f in
        let P : From → Type 0 = λ from. IsTrueOf here last (note.Passed from n at to) in
        subst P (sym from_is) (y.0, (packet, flow, next, may_go here.shared at (origin.Tunnel f.t.id) packet flow to y.0 next.is.1 y.1 g))
    true_by answer after (note.Assigned tunnel at list) x g k (asked, f, tunnel_is, answer_is) =
        let a = stream.Assign asked in
        let y = subst (λ r. Answers held.conn.actor here.shared (stream_want f.t a) r after) answer_is (subst (λ w. Answers held.conn.actor here.shared w answer after) (front_wants held.conn a f) x) in
        let w = wrote_list here.shared held.conn.actor after (nat_le most_values (values f.t)) f.t.id asked list at y in
        subst (λ u. IsTrueOf here last (note.Assigned u at list)) (sym tunnel_is) (asked, is_written (call.Assign f.t.id asked) (reply.Assigned list at) at after w k)
    true_by answer after (note.Advertised tunnel at accepts) x g k (ranges, f, tunnel_is, answer_is) =
        let a = stream.Advertise ranges in
        let y : Asks here.shared held.conn.actor (call.Advertise f.t.id ranges) (reply.Accepted accepts at) after = subst (λ r. Answers held.conn.actor here.shared (stream_want f.t a) r after) answer_is (subst (λ w. Answers held.conn.actor here.shared w answer after) (front_wants held.conn a f) x) in
        let w = said_accepted here.shared held.conn.actor after (call.Advertise f.t.id ranges) y.said accepts at y.is y.reply_is (ap (λ (s : Shared). s.book) y.after_is) in
        subst (λ u. IsTrueOf here last (note.Advertised u at accepts)) (sym tunnel_is) (ranges, is_written (call.Advertise f.t.id ranges) (reply.Accepted accepts at) at after w k)
    true_by answer after (note.Opened tunnel conn on kind) x g k t = opened_true held.conn answer after tunnel conn on kind x k t
    true_by answer after (note.Closed tunnel reason left) x g k t = closed_true held.conn answer after tunnel x k t
    true_by answer after said x g k t = tt

  -- where its link or its port failed it tells nothing of these
  none_by : (c : Conn) (answer : Answer) (after : Shared) (said : Note) → Answers c.actor here.shared (want_of c) answer after → Grows after last.shared → OnlyCloses c → Tells c answer said → IsTrueOf here last said
  none_by c answer after (note.Passed from n at to) x k only (packet, flow, f, from_is, answer_is) = absurd (only (stream.Packet n packet flow) f)
  none_by c answer after (note.Assigned tunnel at list) x k only (asked, f, tunnel_is, answer_is) = absurd (only (stream.Assign asked) f)
  none_by c answer after (note.Advertised tunnel at accepts) x k only (ranges, f, tunnel_is, answer_is) = absurd (only (stream.Advertise ranges) f)
  none_by c answer after (note.Opened tunnel conn on kind) x k only t = opened_true c answer after tunnel conn on kind x k t
  none_by c answer after (note.Closed tunnel reason left) x k only t = closed_true c answer after tunnel x k t
  none_by c answer after said x k only t = tt

  -- nor does what is framed, and what comes to a tunnel
  abbrev TrueIn : Option (Note × Conn) → Type 0
  TrueIn None = Unit {0}
  TrueIn (Some d) = IsTrueOf here last d.0

  true_whole : (t : Tunnel) (w : Waiting) (what : What) → IsTrueOf here last (whole_note t w what)
  true_whole t w (Packet from n packet) = tt
  true_whole t w Value = tt

  true_front : (c : Conn) (t : Tunnel) (ws : List Waiting) → TrueIn (framed_front c t ws)
  true_front c t [] = tt
  true_front c t (w ∷ ws) =
      let size = frame_size c.front t.stream (length (drop w.framed w.capsule)) in
      if_both (λ (d : Note × Conn). IsTrueOf here last d.0) (nat_le (length w.capsule) (w.framed + size)) _ _ (true_whole t w w.what) tt

  true_settled : (o : Option (Note × Conn)) → TrueIn o → TrueIn (option_map settled_note o)
  true_settled None h = tt
  true_settled (Some d) h = h

  true_next : (c : Conn) (o : Option Tunnel) → TrueIn (option_and_then (λ (t : Tunnel). framed_front c t t.waiting) o)
  true_next c None = tt
  true_next c (Some t) = true_front c t t.waiting

  true_framed : (c : Conn) (d : Note × Conn) → framed c ≡ Some d → IsTrueOf here last d.0
  true_framed c d e = subst TrueIn e (true_settled (option_and_then (λ (t : Tunnel). framed_front c t t.waiting) (next_framed c)) (true_next c (next_framed c)))

  true_queued : (c : Conn) (t : Tunnel) (from : From) (n : ℕ) (packet : List ℕ) → IsTrueOf here last (queued c t from n packet).0
  true_queued c t from n packet =
      if_both (λ (d : Note × Conn). IsTrueOf here last d.0) (nat_le most_packets (packets t) || nat_lt most_waiting (waiting_bytes c + length (capsule_text (datagram packet)))) _ _ tt tt

  true_came : (c : Conn) (t : Tunnel) (from : From) (n : ℕ) (o : Option (List ℕ)) → IsTrueOf here last (passed_on c t from n o).0
  true_came c t from n None = tt
  true_came c t from n (Some packet) = true_queued c t from n packet

  true_received : (c : Conn) (p : Port) (datagram : List ℕ) (o : Option Tunnel) → TrueIn (option_map (λ (t : Tunnel). settled_note (queued c t (source.Port p.tunnel) p.received datagram)) o)
  true_received c p datagram None = tt
  true_received c p datagram (Some t) = true_queued c t (source.Port p.tunnel) p.received datagram

  -- ---- a worker's turn

  true_popped : (w : Worker) (parcel : Parcel) → IsTrueOf here last (popped w parcel).0
  true_popped w parcel =
      elim (cases_of (tunnel_in w parcel.to)) [
        | inl none ↦ rw none tt
        | inr (found, some) ↦ rw some (true_came found.0.conn found.1 (source_of parcel.from) parcel.n (onward parcel.packet))
      ]

  true_accepted : (w : Worker) (offered : List Offer) (said : Note) (new : Worker) → accepted w offered ≡ Some (said, new) → IsTrueOf here last said
  true_accepted w [] said new e = absurd cc
  true_accepted w (o ∷ offered) said new e = subst (λ (d : Note × Worker). IsTrueOf here last d.0) (some_same e) tt

  handles : (number conn : ℕ) (worker : Worker) (held : Held) → slice_get here.workers number ≡ Some worker → held_of worker conn ≡ Some held → AskedDue worker.setup.mtu held.conn → Grows here.shared last.shared
      → HandlesHeld worker.setup held here.shared (λ said new after. Grows after last.shared → IsTrueOf here last said)
  handles number conn worker held works has asked g = record {
    acts = λ answer said new after x k. true_by number conn worker held works has asked answer after said x.answers g k (acts_tell held (want_of held.conn) answer said new x.is);
    link_fails = λ link answer said new after x k. none_by (failed held.conn) answer after said x.answers k (failed_closes held.conn) (acts_tell (record held { conn = failed held.conn; link = link }) (want_of (failed held.conn)) answer said new x.is);
    port_fails = λ p t answer said new after is can x k. none_by (port_failed held.conn t) answer after said x.answers k (port_failed_closes held.conn t) (acts_tell (record held { conn = port_failed held.conn t }) (want_of (port_failed held.conn t)) answer said new x.is);
    frames = λ d is k. true_framed held.conn d is;
    writes = λ k. tt;
    reads = λ first c link took k. tt;
    ends = λ inside x can k. tt;
    receives = λ p datagram others d has is came k. subst TrueIn came (true_received held.conn p datagram (tunnel_of held.conn p.tunnel));
  }

  true_seat : (number : ℕ) (worker : Worker) (seat : Seat) (answer : Answer) (said : Note) (new : Worker) (after : Shared) → slice_get here.workers number ≡ Some worker
      → AllByRecursion (λ (h : Held). AskedDue worker.setup.mtu h.conn) worker.conns → Grows here.shared last.shared → SeatNext worker here.shared seat answer said new after → Grows after last.shared → IsTrueOf here last said
  true_seat number worker Offers answer said new after works asked g x k = true_accepted worker worker.offered said new x.1
  true_seat number worker Inbox answer said new after works asked g x k = subst (λ (d : Note × Worker). IsTrueOf here last d.0) x.1.is (true_popped worker x.1.parcel)
  true_seat number worker (Of conn) answer said new after works asked g x k =
      let held = each_found (λ (h : Held). AskedDue worker.setup.mtu h.conn) (λ (g : Held). g.conn.number == conn) worker.conns x.held asked x.has in
      try_walk worker.setup x.held here.shared (λ said new after. Grows after last.shared → IsTrueOf here last said) (handles number conn worker x.held works x.has held g) x.try answer said x.became after x.tries x.next k

  -- ---- the pump's turn

  abbrev TrueOf : Note × Pump × Shared → Type 0
  TrueOf d = IsTrueOf here last d.0

  true_pushed : (p : Pump) (sh : Shared) (parcel : Parcel) (b : Bool) → TrueOf (parcel_pushed p sh parcel b)
  true_pushed p sh parcel true = tt
  true_pushed p sh parcel false = tt

  true_sent : (p : Pump) (sh : Shared) (parcel : Parcel) → TrueOf (net_sent p sh parcel)
  true_sent p sh parcel = if_both TrueOf p.net.holds.send_fails _ _ tt (if_both TrueOf p.net.holds.send_waits _ _ tt tt)

  true_next_sent : (p : Pump) (sh : Shared) (i : ℕ) (box : List Parcel) (d : Note × Pump × Shared) → net_popped p sh i box ≡ Some d → TrueOf d
  true_next_sent p sh i [] d e = absurd cc
  true_next_sent p sh i (parcel ∷ rest) d e = subst TrueOf (some_same e) (true_sent p (record sh { boxes = slice_set sh.boxes i rest }) parcel)

  true_judged : (p : Pump) (n : ℕ) (packet : List ℕ) (flow : Flow) (said : Verdict) → ArrivesNext here n packet → flow_of packet ≡ Some flow → Grows here.shared last.shared
      → IsJudged here.shared.config here.shared.book origin.Net flow said → TrueOf (net_judged p here.shared n packet said)
  true_judged p n packet flow (verdict.Pass to) next is g x = (refl, (packet, next, may_go here.shared (length here.shared.book) origin.Net packet flow to refl is x g))
  true_judged p n packet flow verdict.Source next is g x = tt
  true_judged p n packet flow verdict.NoRoute next is g x = tt

  true_fits : (b : Bool) (p : Pump) (n : ℕ) (packet : List ℕ) (flow : Flow) (d : Note × Pump × Shared) → ArrivesNext here n packet → flow_of packet ≡ Some flow → Grows here.shared last.shared
      → MatchBool b (d ≡ (note.Dropped source.Net n cause.TooLong, p, here.shared)) ((said : Verdict) × IsJudged here.shared.config here.shared.book origin.Net flow said × (d ≡ net_judged p here.shared n packet said)) → TrueOf d
  true_fits true p n packet flow d next is g x = subst TrueOf (sym x) tt
  true_fits false p n packet flow d next is g x = subst TrueOf (sym x.2) (true_judged p n packet flow x.0 next is g x.1)

  true_met : (p : Pump) (n : ℕ) (packet : List ℕ) (o : Option Flow) (d : Note × Pump × Shared) → ArrivesNext here n packet → flow_of packet ≡ o → Grows here.shared last.shared → IsMet p here.shared n packet o d → TrueOf d
  true_met p n packet None d next is g x = subst TrueOf (sym x) tt
  true_met p n packet (Some flow) d next is g x = true_fits (nat_lt p.mtu (length packet)) p n packet flow d next is g x

  true_arrives : (arrived : List Arrival) (d : Note × Pump × Shared) → here.pump.net.holds.arrived ≡ arrived → Grows here.shared last.shared → IsReceived here.pump here.shared arrived d → TrueOf d
  true_arrives [] d is g x = absurd x
  true_arrives (first ∷ others) d is g x =
      true_met (record here.pump { net = with_arrivals others here.pump.net }) here.pump.net.received first.packet (flow_of first.packet) d
      (record { first = first; others = others; arrived = is; packet_is = refl; number = refl }) refl g x

  true_pump : (try : PumpTry) (d : Note × Pump × Shared) → Grows here.shared last.shared → PumpNext here.pump here.shared try d → TrueOf d
  true_pump PushHeld d g x =
      let was = map_was (λ (parcel : Parcel). parcel_pushed here.pump here.shared parcel (has_room here.shared.boxes (inbox_of here.shared.boxes parcel.to))) here.pump.to_push d x in
      subst TrueOf was.2 (true_pushed here.pump here.shared was.0 (has_room here.shared.boxes (inbox_of here.shared.boxes was.0.to)))
  true_pump SendHeld d g x =
      let was = map_was (net_sent here.pump here.shared) here.pump.to_send d x in
      subst TrueOf was.2 (true_sent here.pump here.shared was.0)
  true_pump SendNext d g x = true_next_sent here.pump here.shared (last_of here.shared.boxes) (box_at here.shared.boxes (last_of here.shared.boxes)) d x
  true_pump Receives d g x = true_arrives here.pump.net.holds.arrived d refl g x

  -- ---- all actors

  true_turn : (actor : Actor) (said : Note) (next : State) → AllByRecursion (λ (w : Worker). AllByRecursion (λ (h : Held). AskedDue w.setup.mtu h.conn) w.conns) here.workers
      → Grows here.shared next.shared → Grows next.shared last.shared → Turn here actor said next → IsTrueOf here last said
  true_turn (WorkerOf number) said next asked g k x =
      let w = each_at (λ (w : Worker). AllByRecursion (λ (h : Held). AskedDue w.setup.mtu h.conn) w.conns) here.workers number x.worker asked x.at in
      let now = ap (λ (s : State). s.shared) x.new_is ∙ x.after_is in
      let later = subst (λ (s : Shared). Grows s last.shared) now k in
      let behind : Grows x.shared last.shared = record { config = later.config; more = later.more; book = later.book } in
      true_seat number x.worker x.turn.seat x.answer said x.next x.shared x.at w (grows_on here.shared next.shared last.shared g k) x.turn.next behind
  true_turn ThePump said next asked g k x = true_pump x.turn.try (said, x.pump, x.shared) (grows_on here.shared next.shared last.shared g k) x.turn.is

pub written_true : IsWithinLimits → (plan : Plan) (here last : State) (actor : Actor) (said : Note) → Comes plan here (Noted actor said) last → IsTrueOf here last said
written_true limits plan here last actor said x =
    let K = λ (setup : Setup) (n : ℕ) (c : Conn). AskedDue setup.mtu c in
    let keeps = keeps_asked limits in
    let have = (on_run K keeps x.before (state_of plan) here (first_has K keeps plan) x.reaches).have in
    let step = on_turn K keeps here x.next actor said have x.goes in
    let later = on_run K keeps x.after x.next last step.have x.leads_on in
    true_turn here last actor said x.next have step.grows later.grows x.goes
