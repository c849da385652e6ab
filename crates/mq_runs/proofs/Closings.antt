-- A note that a tunnel closes is of a live tunnel, and says how many packets wait there.
use Rattle.std.proofs.Common.{◌≡◌, ℕ, Bool, true, false, List, [], ◌∷◌, length, nat_lt, Option, Some, None, option_map, refl, sym, subst, arith, inl, inr}
use Rattle.std.specs.Prelude.{find, ◌==◌, filter}
use Rattle.std.specs.Bool.{MatchBool}
use Rattle.mq_addr.specs.declared.range.Flow.{Flow}
use Rattle.mq_outside.specs.declared.PortPut.{PortPut}
use Rattle.mq_outside.specs.declared.PortPut.TheVariants as put
use Rattle.mq_outside.specs.Nets.{Arrival}
use Rattle.mq_talk.specs.declared.book.Reply.TheVariants as reply
use Rattle.mq_talk.specs.declared.note.End.{End}
use Rattle.mq_talk.specs.declared.note.From.{From}
use Rattle.mq_talk.specs.declared.note.From.TheVariants as source
use Rattle.mq_talk.specs.declared.note.Note.{Note}
use Rattle.mq_talk.specs.declared.note.Note.TheVariants as note
use Rattle.mq_talk.specs.declared.place.Cause.TheVariants as cause
use Rattle.mq_talk.specs.declared.place.Origin.TheVariants as origin
use Rattle.mq_talk.specs.declared.place.Parcel.{Parcel}
use Rattle.mq_talk.specs.declared.place.Verdict.{Verdict}
use Rattle.mq_talk.specs.declared.place.Verdict.TheVariants as verdict
use Rattle.mq_talk.specs.Judging.{IsJudged}
use Rattle.mq_talk.specs.Mails.{box_at, has_room}
use Rattle.mq_talk.specs.Packets.{flow_of}
use Rattle.mq_machine.specs.declared.act.Act.{Act}
use Rattle.mq_machine.specs.declared.act.Act.TheVariants as act
use Rattle.mq_machine.specs.declared.act.StreamAct.{StreamAct}
use Rattle.mq_machine.specs.declared.act.StreamAct.TheVariants as stream
use Rattle.mq_machine.specs.declared.act.Due.{Due}
use Rattle.mq_machine.specs.declared.act.Due.TheVariants as due
use Rattle.mq_machine.specs.declared.setup.Setup.{Setup}
use Rattle.mq_machine.specs.Done.{Done, dropped, sent, judged, stream_done, tunnel_done, act_done, due_done, ending_done, done_by, done}
use Rattle.mq_machine.specs.Shared.{inbox_of, ports_after}
use Rattle.mq_machine.specs.State.{Conn, Tunnel, Waiting, What, Packet, Value, Port, Held, Offer, Worker, Pump, Shared, is_packet, packets, tunnel_on, tunnel_of}
use Rattle.mq_machine.specs.Steps.{failed, port_failed, passed_on, queued, settled_note, whole_note}
use Rattle.mq_machine.specs.Turn.{source_of, with_conn, over_or, Seat, Offers, Inbox, Of, SeatNext, accepted, popped, tunnel_in, PumpTry, PushHeld, SendHeld, SendNext, Receives, PumpNext, parcel_pushed, net_sent, net_popped, net_judged, IsMet, IsReceived, with_arrivals, last_of}
use Rattle.mq_machine.specs.Want.{Want, Over, Answer, Said, Bound, Replied, Judged, Pushed, Put, want_of}
use Rattle.mq_machine.specs.Words.{onward}
use Rattle.mq_play.proofs.Lists.{if_both, some_same}
use Rattle.mq_runs.specs.Queues.{waiting_names}
use Rattle.mq_runs.proofs.Kept.{cases_of}
use Rattle.mq_runs.proofs.Ranks.{Among, found_among}
use Rattle.mq_runs.proofs.Shapes.{Framed, framed_tunnels, Comes, queued_tunnels}
use Rattle.mq_runs.proofs.Walks.{HandlesHeld, try_walk, map_was}

-- the packets that wait are those that have names
pub packets_long : (ws : List Waiting) → length (filter is_packet ws) ≡ length (waiting_names ws)
packets_long [] = refl
packets_long (w ∷ ws) = by_what w.what refl (packets_long ws) where
  by_what : (what : What) → w.what ≡ what → length (filter is_packet ws) ≡ length (waiting_names ws) → length (filter is_packet (w ∷ ws)) ≡ length (waiting_names (w ∷ ws))
  by_what (Packet from n packet) is rest = rw is (omega (arith, rest))
  by_what Value is rest = rw is (omega (arith, rest))

-- the live tunnel of one of these that closes
pub record Closes (ts : List Tunnel) (id left : ℕ) : Type 0 where
  pub t : Tunnel
  pub there : Among t ts
  pub id_is : t.id ≡ id
  pub left_is : left ≡ packets t

abbrev pub ClosesOf : List Tunnel → Note → Type 0
ClosesOf ts (note.Closed tunnel reason left) = Closes ts tunnel left
ClosesOf ts said = Unit {0}

module _ (ts : List Tunnel) where
  abbrev ClosesIn : Done → Type 0
  ClosesIn None = Unit {0}
  ClosesIn (Some d) = ClosesOf ts d.0

  closed_of : (t : Tunnel) → Among t ts → Closes ts t.id (packets t)
  closed_of t there = record { t = t; there = there; id_is = refl; left_is = refl }

  sent_closes : (c : Conn) (t : Tunnel) (n : ℕ) (payload : List ℕ) (did : PortPut) → ClosesIn (sent c t n payload did)
  sent_closes c t n payload put.Sent = tt
  sent_closes c t n payload put.Failed = tt
  sent_closes c t n payload put.NotNow = tt

  judged_closes : (c : Conn) (t : Tunnel) (n : ℕ) (packet : List ℕ) (said : Verdict) (at : ℕ) → ClosesOf ts (judged c t n packet said at).0
  judged_closes c t n packet (verdict.Pass to) at = tt
  judged_closes c t n packet verdict.Source at = tt
  judged_closes c t n packet verdict.NoRoute at = tt

  stream_closes : (c : Conn) (t : Tunnel) (a : StreamAct) (answer : Answer) → Among t ts → ClosesIn (stream_done c t a answer)
  stream_closes c t (stream.Payload n payload) (Put did limit) there = if_both ClosesIn (nat_lt limit (length payload)) (Some (dropped c t n cause.TooLong)) (sent c t n payload did) tt (sent_closes c t n payload did)
  stream_closes c t (stream.Packet n packet flow) (Judged said at) there = judged_closes c t n packet said at
  stream_closes c t (stream.Push n to packet) (Pushed true) there = tt
  stream_closes c t (stream.Push n to packet) (Pushed false) there = tt
  stream_closes c t (stream.Drop n cause) Said there = tt
  stream_closes c t (stream.Assign asked) (Replied (reply.Assigned list at)) there = tt
  stream_closes c t (stream.Assign asked) (Replied reply.Closed) there = closed_of t there
  stream_closes c t (stream.Advertise ranges) (Replied (reply.Accepted accepts at)) there = tt
  stream_closes c t (stream.Advertise ranges) (Replied reply.Closed) there = closed_of t there
  stream_closes c t (stream.Close reason) (Replied reply.Closed) there = closed_of t there
  stream_closes c t a answer there = tt

  tunnel_closes : (c : Conn) (on : ℕ) (o : Option Tunnel) (a : StreamAct) (answer : Answer) → c.tunnels ≡ ts → tunnel_on c on ≡ o → ClosesIn (tunnel_done c o a answer)
  tunnel_closes c on None a answer same is = tt
  tunnel_closes c on (Some t) a answer same is = stream_closes c t a answer (subst (Among t) same (found_among (λ (u : Tunnel). u.stream == on) c.tunnels t is))

  act_closes : (c : Conn) (a : Act) (answer : Answer) → c.tunnels ≡ ts → ClosesIn (act_done c a answer)
  act_closes c (act.Bind id goal) (Bound true) same = tt
  act_closes c (act.Bind id goal) (Bound false) same = tt
  act_closes c (act.Open id goal) (Replied (reply.Opened tunnel routes)) same = tt
  act_closes c (act.Open id goal) (Replied (reply.HistoryFull entries live)) same = tt
  act_closes c (act.Refuse id status rule) Said same = tt
  act_closes c (act.Reset id code) Said same = tt
  act_closes c (act.OfStream on a) answer same = tunnel_closes c on (tunnel_on c on) a answer same refl
  act_closes c a answer same = tt

  due_closes : (c : Conn) (ds : List Due) (answer : Answer) → c.tunnels ≡ ts → ClosesIn (due_done c ds answer)
  due_closes c [] answer same = tt
  due_closes c (due.Do a ∷ rest) answer same = act_closes (record c { due = rest }) a answer same
  due_closes c (due.Spend id size ∷ rest) answer same = tt
  due_closes c (due.Fault code ∷ rest) answer same = tt

  ending_closes : (c : Conn) (us : List Tunnel) (answer : Answer) → us ≡ ts → ClosesIn (ending_done c us answer)
  ending_closes c (t ∷ us) (Replied reply.Closed) same = closed_of t (subst (Among t) same (inl refl))
  ending_closes c us answer same = tt

  by_closes : (c : Conn) (e : Option End) (answer : Answer) → c.tunnels ≡ ts → ClosesIn (done_by c e answer)
  by_closes c None answer same = due_closes c c.due answer same
  by_closes c (Some why) answer same = ending_closes c c.tunnels answer same

  settled_closes : (o : Done) → ClosesIn o → ClosesIn (option_map settled_note o)
  settled_closes None h = tt
  settled_closes (Some d) h = h

  abbrev ClosesHeld : Option (Note × Option Held) → Type 0
  ClosesHeld None = Unit {0}
  ClosesHeld (Some d) = ClosesOf ts d.0

  with_conn_closes : (h : Held) (o : Done) → ClosesIn o → ClosesHeld (option_map (with_conn h) o)
  with_conn_closes h None p = tt
  with_conn_closes h (Some d) p = p

  over_closes : (h : Held) (want : Want) (answer : Answer) → h.conn.tunnels ≡ ts → ClosesHeld (over_or h want answer)
  over_closes h (Over reason) answer same = tt
  over_closes h want answer same = with_conn_closes (record h { ports = ports_after want answer h.ports }) (done h.conn answer) (settled_closes (done_by h.conn h.conn.ending answer) (by_closes h.conn h.conn.ending answer same))

  whole_closes : (t : Tunnel) (w : Waiting) (what : What) → ClosesOf ts (whole_note t w what)
  whole_closes t w (Packet from n packet) = tt
  whole_closes t w Value = tt

  framed_closes : (us vs : List Tunnel) (said : Note) → Framed us said vs → ClosesOf ts said
  framed_closes us vs said x = elim x.goes [
    | inl goes ↦ subst (ClosesOf ts) (sym goes.0) (whole_closes x.t x.w x.w.what)
    | inr goes ↦ subst (ClosesOf ts) (sym goes.1) tt
  ]

  comes_closes : (us vs : List Tunnel) (t : Tunnel) (from : From) (n : ℕ) (said : Note) → Comes us t from n said vs → ClosesOf ts said
  comes_closes us vs t from n said (inl x) = subst (ClosesOf ts) (sym x.said_is) tt
  comes_closes us vs t from n said (inr x) = subst (ClosesOf ts) (sym x.0) tt

  received_closes : (c : Conn) (p : Port) (datagram : List ℕ) (o : Option Tunnel) (d : Note × Conn) → option_map (λ (t : Tunnel). settled_note (queued c t (source.Port p.tunnel) p.received datagram)) o ≡ Some d → ClosesOf ts d.0
  received_closes c p datagram None d e = absurd cc
  received_closes c p datagram (Some t) d e =
      subst (λ (d : Note × Conn). ClosesOf ts d.0) (some_same e) (comes_closes c.tunnels _ t (source.Port p.tunnel) p.received _ (queued_tunnels c t (source.Port p.tunnel) p.received datagram))

handles_closes : (setup : Setup) (old : Held) (sh : Shared) → HandlesHeld setup old sh (λ said new after. ClosesOf old.conn.tunnels said)
handles_closes setup old sh =
    let ts = old.conn.tunnels in
    record {
      acts = λ answer said new after x. subst (ClosesHeld ts) x.is (over_closes ts old (want_of old.conn) answer refl);
      link_fails = λ link answer said new after x. subst (ClosesHeld ts) x.is (over_closes ts (record old { conn = failed old.conn; link = link }) (want_of (failed old.conn)) answer refl);
      port_fails = λ p t answer said new after is can x. subst (ClosesHeld ts) x.is (over_closes ts (record old { conn = port_failed old.conn t }) (want_of (port_failed old.conn t)) answer refl);
      frames = λ d is. framed_closes ts ts d.1.tunnels d.0 (framed_tunnels old.conn d is);
      writes = tt;
      reads = λ first c link took. tt;
      ends = λ inside x can. tt;
      receives = λ p datagram others d port arrived came. received_closes ts old.conn p datagram (tunnel_of old.conn p.tunnel) d came;
    }

-- ---- a worker's turn

pub record WorkerCloses (w : Worker) (id left : ℕ) : Type 0 where
  pub h : Held
  pub t : Tunnel
  pub among : Among h w.conns
  pub there : Among t h.conn.tunnels
  pub id_is : t.id ≡ id
  pub left_is : left ≡ packets t

abbrev WorkerClosesOf : Worker → Note → Type 0
WorkerClosesOf w (note.Closed tunnel reason left) = WorkerCloses w tunnel left
WorkerClosesOf w said = Unit {0}

held_closes : (w : Worker) (h : Held) (said : Note) → Among h w.conns → ClosesOf h.conn.tunnels said → WorkerClosesOf w said
held_closes w h (note.Closed tunnel reason left) among x = record { h = h; t = x.t; among = among; there = x.there; id_is = x.id_is; left_is = x.left_is }
held_closes w h said among x = tt

passed_closes : (w : Worker) (c : Conn) (t : Tunnel) (from : From) (n : ℕ) (o : Option (List ℕ)) → WorkerClosesOf w (passed_on c t from n o).0
passed_closes w c t from n None = tt
passed_closes w c t from n (Some packet) = comes_not (settled_note (queued c t from n packet)).0 (queued_tunnels c t from n packet) where
  comes_not : (said : Note) → Comes c.tunnels t from n said (settled_note (queued c t from n packet)).1.tunnels → WorkerClosesOf w said
  comes_not said (inl x) = subst (WorkerClosesOf w) (sym x.said_is) tt
  comes_not said (inr x) = subst (WorkerClosesOf w) (sym x.0) tt

popped_closes : (w : Worker) (parcel : Parcel) → WorkerClosesOf w (popped w parcel).0
popped_closes w parcel = elim (cases_of (tunnel_in w parcel.to)) [
  | inl none ↦ rw none tt
  | inr (found, some) ↦ rw some (passed_closes w found.0.conn found.1 (source_of parcel.from) parcel.n (onward parcel.packet))
]

accepted_closes : (w : Worker) (offered : List Offer) (said : Note) (new : Worker) → accepted w offered ≡ Some (said, new) → WorkerClosesOf w said
accepted_closes w [] said new e = absurd cc
accepted_closes w (o ∷ offered) said new e = subst (λ (d : Note × Worker). WorkerClosesOf w d.0) (some_same e) tt

pub seat_closes : (w : Worker) (sh : Shared) (seat : Seat) (answer : Answer) (said : Note) (new : Worker) (after : Shared) → SeatNext w sh seat answer said new after → WorkerClosesOf w said
seat_closes w sh Offers answer said new after x = accepted_closes w w.offered said new x.1
seat_closes w sh Inbox answer said new after x = subst (λ (d : Note × Worker). WorkerClosesOf w d.0) x.1.is (popped_closes w x.1.parcel)
seat_closes w sh (Of n) answer said new after x =
    held_closes w x.held said (found_among (λ (h : Held). h.conn.number == n) w.conns x.held x.has)
    (try_walk w.setup x.held sh (λ said new after. ClosesOf x.held.conn.tunnels said) (handles_closes w.setup x.held sh) x.try answer said x.became after x.tries x.next)

-- ---- the pump closes none

abbrev pub IsOpen : Note × Pump × Shared → Type 0
IsOpen d = open_note d.0 where
  open_note : Note → Type 0
  open_note (note.Closed tunnel reason left) = ⊥
  open_note said = Unit {0}

open_sent : (p : Pump) (sh : Shared) (parcel : Parcel) → IsOpen (net_sent p sh parcel)
open_sent p sh parcel = if_both IsOpen p.net.holds.send_fails _ _ tt (if_both IsOpen p.net.holds.send_waits _ _ tt tt)

open_pushed : (p : Pump) (sh : Shared) (parcel : Parcel) (b : Bool) → IsOpen (parcel_pushed p sh parcel b)
open_pushed p sh parcel true = tt
open_pushed p sh parcel false = tt

open_next : (p : Pump) (sh : Shared) (i : ℕ) (box : List Parcel) (d : Note × Pump × Shared) → net_popped p sh i box ≡ Some d → IsOpen d
open_next p sh i [] d e = absurd cc
open_next p sh i (parcel ∷ rest) d e = subst IsOpen (some_same e) (open_sent p (record sh { boxes = Rattle.std.specs.Prelude.slice_set sh.boxes i rest }) parcel)

open_judged : (p : Pump) (sh : Shared) (n : ℕ) (packet : List ℕ) (said : Verdict) → IsOpen (net_judged p sh n packet said)
open_judged p sh n packet (verdict.Pass to) = tt
open_judged p sh n packet verdict.Source = tt
open_judged p sh n packet verdict.NoRoute = tt

open_fits : (b : Bool) (p : Pump) (sh : Shared) (n : ℕ) (packet : List ℕ) (flow : Flow) (first d : Note × Pump × Shared) → IsOpen first
    → MatchBool b (d ≡ first) ((said : Verdict) × IsJudged sh.config sh.book origin.Net flow said × (d ≡ net_judged p sh n packet said)) → IsOpen d
open_fits true p sh n packet flow first d f x = subst IsOpen (sym x) f
open_fits false p sh n packet flow first d f x = subst IsOpen (sym x.2) (open_judged p sh n packet x.0)

open_met : (p : Pump) (sh : Shared) (n : ℕ) (packet : List ℕ) (o : Option Flow) (d : Note × Pump × Shared) → IsMet p sh n packet o d → IsOpen d
open_met p sh n packet None d x = subst IsOpen (sym x) tt
open_met p sh n packet (Some flow) d x = open_fits (nat_lt p.mtu (length packet)) p sh n packet flow _ d tt x

open_received : (p : Pump) (sh : Shared) (arrived : List Arrival) (d : Note × Pump × Shared) → IsReceived p sh arrived d → IsOpen d
open_received p sh [] d x = absurd x
open_received p sh (first ∷ others) d x = open_met (record p { net = with_arrivals others p.net }) sh p.net.received first.packet (flow_of first.packet) d x

pub pump_closes : (p : Pump) (sh : Shared) (try : PumpTry) (d : Note × Pump × Shared) → PumpNext p sh try d → IsOpen d
pump_closes p sh PushHeld d x =
    let was = map_was (λ (parcel : Parcel). parcel_pushed p sh parcel (has_room sh.boxes (inbox_of sh.boxes parcel.to))) p.to_push d x in
    subst IsOpen was.2 (open_pushed p sh was.0 (has_room sh.boxes (inbox_of sh.boxes was.0.to)))
pump_closes p sh SendHeld d x = let was = map_was (net_sent p sh) p.to_send d x in subst IsOpen was.2 (open_sent p sh was.0)
pump_closes p sh SendNext d x = open_next p sh (last_of sh.boxes) (box_at sh.boxes (last_of sh.boxes)) d x
pump_closes p sh Receives d x = open_received p sh p.net.holds.arrived d x
