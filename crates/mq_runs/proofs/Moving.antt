-- A step of a connection, with its ports and what is shared, ends a payload or moves it on.
use Rattle.std.proofs.Common.{◌≡◌, ◌≤◌, ◌<◌, ◌+◌, ℕ, Bool, true, false, cond, not, min, List, [], ◌∷◌, ◌++◌, length, nat_le, nat_lt, Option, Some, None, option_map, refl, subst, ap, ◌∙◌, arith, inl, inr, ◌⊎◌}
use Rattle.std.specs.Prelude.{◌==◌}
use Rattle.std.proofs.lemmas.Bool.{leb-true, le-leb}
use Rattle.mq_outside.specs.Counts.{last_count}
use Rattle.mq_talk.specs.declared.book.Call.TheVariants as call
use Rattle.mq_talk.specs.declared.book.Reply.TheVariants as reply
use Rattle.mq_talk.specs.declared.goal.Goal.TheVariants as goal
use Rattle.mq_talk.specs.declared.note.End.TheVariants as end
use Rattle.mq_talk.specs.declared.note.From.{From}
use Rattle.mq_talk.specs.declared.note.From.TheVariants as source
use Rattle.mq_talk.specs.declared.note.Note.{Note}
use Rattle.mq_talk.specs.declared.place.Parcel.{Parcel}
use Rattle.mq_machine.specs.declared.setup.Setup.{Setup}
use Rattle.mq_machine.specs.Done.{done}
use Rattle.mq_machine.specs.Lawful.{IsLawful}
use Rattle.mq_machine.specs.Reading.{TookNext}
use Rattle.mq_machine.specs.Shared.{Answers, pushing, port_of, port_sent, at_port, new_port, ports_after, inbox_of}
use Rattle.mq_machine.specs.State.{Conn, Tunnel, Port, Held, Shared, tunnel_of}
use Rattle.mq_machine.specs.Steps.{failed, port_failed, queued, settled_note, port_received}
use Rattle.mq_machine.specs.Turn.{source_of, over_or, write_count, with_conn}
use Rattle.mq_machine.specs.Want.{Want, Say, Bind, Ask, Judge, Push, Send, Over, Answer, Said, Bound, Replied, Judged, Pushed, Put, want_of}
use Rattle.mq_play.proofs.Lists.{if_both, some_same}
use Rattle.mq_runs.specs.Ends.{is_same, IsCounted}
use Rattle.mq_runs.proofs.Books.{grows_long, IsGivenAt, answer_grows}
use Rattle.mq_runs.proofs.Coming.{queued_down, framed_down, wrote_calm, finished_calm, given_up_calm, port_failed_calm}
use Rattle.mq_runs.proofs.Doing.{pushed, opens, done_down}
use Rattle.mq_runs.proofs.Flight.{Key, hit, past, past_less, is_own, own_sum, in_conn, end_of, FlowsOnce, calm_conn, calm_once}
use Rattle.mq_runs.proofs.Sums.{total, total_append, total_filter, total_push}
use Rattle.mq_runs.proofs.Took.{took_down, from_on, step_on}
use Rattle.mq_runs.proofs.Walks.{HandlesHeld, map_was}

-- ---- what is shared

abbrev pub parcel_hit : Key → Parcel → ℕ
parcel_hit k parcel = past k (source_of parcel.from) parcel.n

abbrev pub in_boxes : Key → List (List Parcel) → ℕ
in_boxes k boxes = total (λ (box : List Parcel). total (parcel_hit k) box) boxes

-- the tunnel that is its origin, or whose port is, isn't open yet
abbrev pub unopened : From → ℕ → ℕ
unopened (source.Tunnel t) n = from_on n t
unopened source.Net n = 0
unopened (source.Port t) n = from_on n t

abbrev pub in_shared : Key → Shared → ℕ
in_shared k sh = in_boxes k sh.boxes + unopened k.from (length sh.book)

pub from_less : (m n t : ℕ) → m ≤ n → from_on n t ≤ from_on m t
from_less m n t h = by_both (nat_le n t) (nat_le m t) refl refl where
  by_both : (a b : Bool) → nat_le n t ≡ a → nat_le m t ≡ b → cond a 1 0 ≤ cond b 1 0
  by_both true true x y = omega arith
  by_both true false x y = let one = leb-true n t x in let two = le-leb m t (omega (arith, one, h)) in absurd cc
  by_both false b x y = omega arith

unopened_less : (f : From) (m n : ℕ) → m ≤ n → unopened f n ≤ unopened f m
unopened_less (source.Tunnel t) m n h = from_less m n t h
unopened_less source.Net m n h = omega arith
unopened_less (source.Port t) m n h = from_less m n t h

-- what the opening of a tunnel lets come: payloads of its own, and those of its port
abbrev port_opens : Key → ℕ → ℕ
port_opens k tunnel = cond (is_same (source.Port tunnel) k.from) 1 0

opened_by : (f : From) (n m : ℕ) → n < m → cond (is_same (source.Tunnel n) f) 1 0 + cond (is_same (source.Port n) f) 1 0 + unopened f m ≤ unopened f n
opened_by (source.Tunnel t) n m h = let one = step_on n t in let two = from_less (n + 1) m t (omega (arith, h)) in omega (arith, one, two)
opened_by source.Net n m h = omega arith
opened_by (source.Port t) n m h = let one = step_on n t in let two = from_less (n + 1) m t (omega (arith, h)) in omega (arith, one, two)

-- what an answer lets come
abbrev pub lets : Key → Answer → ℕ
lets k (Replied (reply.Opened tunnel routes)) = cond (is_own k tunnel) 1 0 + port_opens k tunnel
lets k answer = 0

book_less : (k : Key) (n m : ℕ) (answer : Answer) → n ≤ m → IsGivenAt n m answer → lets k answer + unopened k.from m ≤ unopened k.from n
book_less k n m (Replied (reply.Opened tunnel routes)) long g = let one = opened_by k.from n m g.1 in rw g.0 one
book_less k n m (Replied (reply.HistoryFull entries live)) long g = let one = unopened_less k.from n m long in omega (arith, one)
book_less k n m (Replied (reply.Assigned list at)) long g = let one = unopened_less k.from n m long in omega (arith, one)
book_less k n m (Replied (reply.Accepted accepts at)) long g = let one = unopened_less k.from n m long in omega (arith, one)
book_less k n m (Replied reply.Closed) long g = let one = unopened_less k.from n m long in omega (arith, one)
book_less k n m Said long g = let one = unopened_less k.from n m long in omega (arith, one)
book_less k n m (Bound did) long g = let one = unopened_less k.from n m long in omega (arith, one)
book_less k n m (Judged said at) long g = let one = unopened_less k.from n m long in omega (arith, one)
book_less k n m (Pushed did) long g = let one = unopened_less k.from n m long in omega (arith, one)
book_less k n m (Put did limit) long g = let one = unopened_less k.from n m long in omega (arith, one)

-- a parcel goes into an inbox
pub pushing_less : (k : Key) (b : Bool) (sh : Shared) (parcel : Parcel) → in_boxes k (pushing b sh parcel).boxes ≤ in_boxes k sh.boxes + cond b (parcel_hit k parcel) 0
pushing_less k true sh parcel = total_push (parcel_hit k) sh.boxes (inbox_of sh.boxes parcel.to) parcel
pushing_less k false sh parcel = omega arith

pushed_is : (k : Key) (parcel : Parcel) (b : Bool) → cond b (parcel_hit k parcel) 0 ≡ pushed k (Push parcel) (Pushed b)
pushed_is k parcel true = refl
pushed_is k parcel false = refl

same_boxes : (k : Key) (sh after : Shared) (m : ℕ) → after.boxes ≡ sh.boxes → in_boxes k after.boxes ≤ in_boxes k sh.boxes + m
same_boxes k sh after m e = let same = ap (in_boxes k) e in omega (arith, same)

boxes_less : (k : Key) (actor : ℕ) (sh : Shared) (want : Want) (answer : Answer) (after : Shared) → Answers actor sh want answer after → in_boxes k after.boxes ≤ in_boxes k sh.boxes + pushed k want answer
boxes_less k actor sh Say Said after x = same_boxes k sh after 0 (ap (λ (s : Shared). s.boxes) x)
boxes_less k actor sh (Bind stream goal) (Bound b) after x = same_boxes k sh after 0 (ap (λ (s : Shared). s.boxes) x)
boxes_less k actor sh (Ask c) (Replied r) after x = same_boxes k sh after 0 (ap (λ (s : Shared). s.boxes) x.after_is)
boxes_less k actor sh (Judge tunnel n flow) (Judged v at) after x = same_boxes k sh after 0 (ap (λ (s : Shared). s.boxes) x.2)
boxes_less k actor sh (Push parcel) (Pushed b) after x =
    let same = ap (λ (s : Shared). in_boxes k s.boxes) x.1 in
    let one = pushing_less k b sh parcel in
    let two = pushed_is k parcel b in
    omega (arith, same, one, two)
boxes_less k actor sh (Send tunnel n payload) (Put answer limit) after x = same_boxes k sh after 0 (ap (λ (s : Shared). s.boxes) x)
boxes_less k actor sh (Over reason) Said after x = same_boxes k sh after 0 (ap (λ (s : Shared). s.boxes) x)
boxes_less k actor sh want answer after x = absurd x

pub shared_less : (k : Key) (actor : ℕ) (sh : Shared) (want : Want) (answer : Answer) (after : Shared) → Answers actor sh want answer after → lets k answer + in_shared k after ≤ in_shared k sh + pushed k want answer
shared_less k actor sh want answer after x =
    let so = answer_grows actor sh want answer after x in
    let boxes = boxes_less k actor sh want answer after x in
    let book = book_less k (length sh.book) (length after.book) answer (grows_long sh after so.grows) so.gives in
    omega (arith, boxes, book)

-- ---- ports

-- the payload may still come to the port
abbrev pub port_left : Key → Port → ℕ
port_left k p = cond (is_same (source.Port p.tunnel) k.from) (from_on p.received k.number) 0

abbrev pub in_ports : Key → List Port → ℕ
in_ports k ports = total (port_left k) ports

pub at_less : (k : Key) (tunnel : ℕ) (change : Port → Port) (ports : List Port) → ((p : Port) → port_left k (change p) ≤ port_left k p) → in_ports k (at_port tunnel change ports) ≤ in_ports k ports
at_less k tunnel change [] h = omega arith
at_less k tunnel change (p ∷ ports) h =
    let rest = at_less k tunnel change ports h in
    let here = if_both (λ (q : Port). port_left k q ≤ port_left k p) (p.tunnel == tunnel) (change p) p (h p) (omega arith) in
    omega (arith, rest, here)

sent_less : (k : Key) (payload : List ℕ) (p : Port) → port_left k (port_sent payload p) ≤ port_left k p
sent_less k payload p =
    if_both (λ (q : Port). port_left k q ≤ port_left k p) (nat_lt p.limit (length payload)) p _ (omega arith)
    (if_both (λ (q : Port). port_left k q ≤ port_left k p) p.send_fails (record p { send_fails = false }) (record p { sent = p.sent ++ payload ∷ [] }) (omega arith) (omega arith))

one_left : (b c : Bool) → cond b (cond c 1 0) 0 ≤ cond b 1 0
one_left true true = omega arith
one_left true false = omega arith
one_left false c = omega arith

abbrev port_lets : Key → Answer → ℕ
port_lets k (Replied (reply.Opened tunnel routes)) = port_opens k tunnel
port_lets k answer = 0

lets_both : (k : Key) (answer : Answer) → lets k answer ≡ opens k answer + port_lets k answer
lets_both k (Replied (reply.Opened tunnel routes)) = refl
lets_both k answer = refl

ports_less : (k : Key) (want : Want) (answer : Answer) (ports : List Port) → in_ports k (ports_after want answer ports) ≤ in_ports k ports + port_lets k answer
ports_less k (Ask (call.Open conn on actor (goal.Udp addr number))) (Replied (reply.Opened tunnel routes)) ports =
    let more = total_append (port_left k) ports (new_port tunnel addr number ∷ []) in
    let few = one_left (is_same (source.Port tunnel) k.from) (nat_le 0 k.number) in
    omega (arith, more, few)
ports_less k (Ask (call.Close tunnel)) (Replied reply.Closed) ports = let less = total_filter (port_left k) (λ (p : Port). not (p.tunnel == tunnel)) ports in omega (arith, less)
ports_less k (Send tunnel n payload) (Put put limit) ports = let less = at_less k tunnel (port_sent payload) ports (sent_less k payload) in omega (arith, less)
ports_less k want answer ports = omega arith

-- one more was received, while that can be counted
pub counted_step : (r n : ℕ) → n < last_count → cond (r == n) 1 0 + from_on (min (r + 1) last_count) n ≤ from_on r n
counted_step r n h = let one = step_on r n in let two = by_both (nat_le (min (r + 1) last_count) n) (nat_le (r + 1) n) refl refl in omega (arith, one, two) where
  by_both : (a b : Bool) → nat_le (min (r + 1) last_count) n ≡ a → nat_le (r + 1) n ≡ b → cond a 1 0 ≤ cond b 1 0
  by_both true true x y = omega arith
  by_both true false x y = let less = leb-true (min (r + 1) last_count) n x in let two = le-leb (r + 1) n (omega (arith, less, h)) in absurd cc
  by_both false b x y = omega arith

counted_port : (f : From) (n : ℕ) (t : ℕ) → IsCounted f n → (is_same (source.Port t) f ≡ false) ⊎ (n < last_count)
counted_port (source.Tunnel u) n t h = inl refl
counted_port source.Net n t h = inl refl
counted_port (source.Port u) n t h = inr h

received_less : (k : Key) (p : Port) → IsCounted k.from k.number → hit k (source.Port p.tunnel) p.received + port_left k (port_received p) ≤ port_left k p
received_less k p counted = elim (counted_port k.from k.number p.tunnel counted) [
  | inl other ↦ rw other (omega arith)
  | inr small ↦ own_sum (is_same (source.Port p.tunnel) k.from) (cond (p.received == k.number) 1 0) (from_on (min (p.received + 1) last_count) k.number) (from_on p.received k.number) (counted_step p.received k.number small)
]

receive_by : (k : Key) (tunnel : ℕ) (p q : Port) (ports : List Port) (b : Bool) → IsCounted k.from k.number → (q.tunnel == tunnel) ≡ b → cond b (Some q) (port_of ports tunnel) ≡ Some p
    → (port_of ports tunnel ≡ Some p → hit k (source.Port p.tunnel) p.received + in_ports k (at_port tunnel port_received ports) ≤ in_ports k ports)
    → hit k (source.Port p.tunnel) p.received + (port_left k (cond b (port_received q) q) + in_ports k (at_port tunnel port_received ports)) ≤ port_left k q + in_ports k ports
receive_by k tunnel p q ports true counted is e rest =
    let here = received_less k q counted in
    let same = ap (λ (p : Port). hit k (source.Port p.tunnel) p.received) (some_same e) in
    let others = at_less k tunnel port_received ports (λ p. let one = received_less k p counted in omega (arith, one)) in
    omega (arith, here, same, others)
receive_by k tunnel p q ports false counted is e rest = let one = rest e in omega (arith, one)

port_down : (k : Key) (tunnel : ℕ) (p : Port) (ports : List Port) → IsCounted k.from k.number → port_of ports tunnel ≡ Some p
    → hit k (source.Port p.tunnel) p.received + in_ports k (at_port tunnel port_received ports) ≤ in_ports k ports
port_down k tunnel p [] counted e = absurd cc
port_down k tunnel p (q ∷ ports) counted e = receive_by k tunnel p q ports (q.tunnel == tunnel) counted refl e (λ e. port_down k tunnel p ports counted e)

-- ---- a connection with its ports

abbrev pub in_held : Key → Held → ℕ
in_held k h = in_conn k h.conn + in_ports k h.ports

abbrev pub in_new : Key → Option Held → ℕ
in_new k None = 0
in_new k (Some h) = in_held k h

abbrev pub HasNumber : ℕ → Option Held → Type 0
HasNumber n None = Unit {0}
HasNumber n (Some h) = h.conn.number ≡ n

-- a step lets no more be than there was
pub record Moves (k : Key) (old : Held) (sh : Shared) (said : Note) (new : Option Held) (after : Shared) : Type 0 where
  pub down : end_of k said + in_new k new + in_shared k after ≤ in_held k old + in_shared k sh
  pub number : HasNumber old.conn.number new

-- what it does is what its act does
acted_moves : (k : Key) (h : Held) (sh : Shared) (want : Want) (answer : Answer) (said : Note) (new : Option Held) (after : Shared) → FlowsOnce k h.conn → want_of h.conn ≡ want
    → Answers h.conn.actor sh want answer after → over_or h want answer ≡ Some (said, new) → Moves k h sh said new after
acted_moves k h sh (Over reason) answer said new after once is x e =
    let shared = shared_less k h.conn.actor sh (Over reason) answer after x in
    let P : Note × Option Held → Type 0 = λ d. Moves k h sh d.0 d.1 after in
    subst P (some_same e) (record { down = omega (arith, shared); number = tt })
acted_moves k h sh want answer said new after once is x e =
    let with_ports : Held = record h { ports = ports_after want answer h.ports } in
    let was = map_was (with_conn with_ports) (done h.conn answer) (said, new) e in
    let did = done_down k h.conn once was.0.1 answer was.0.0 was.1 in
    let down = did.down in
    let wanted = ap (λ w. pushed k w answer) is in
    let shared = shared_less k h.conn.actor sh want answer after x in
    let ports = ports_less k want answer h.ports in
    let both = lets_both k answer in
    let P : Note × Option Held → Type 0 = λ d. Moves k h sh d.0 d.1 after in
    subst P was.2 (record { down = omega (arith, down, wanted, shared, ports, both); number = did.number })

-- on a connection that a failure left with no more
base_moves : (k : Key) (old base : Held) (sh : Shared) (said : Note) (new : Option Held) (after : Shared) → in_held k base ≤ in_held k old → base.conn.number ≡ old.conn.number → Moves k base sh said new after → Moves k old sh said new after
base_moves k old base sh said new after less number m =
    let down = m.down in
    record { down = omega (arith, down, less); number = has_by new (m.number) }
  where
    has_by : (new : Option Held) → HasNumber base.conn.number new → HasNumber old.conn.number new
    has_by None h = tt
    has_by (Some g) h = h ∙ number

received_by : (k : Key) (c : Conn) (p : Port) (datagram : List ℕ) (o : Option Tunnel) (d : Note × Conn) → option_map (λ (t : Tunnel). settled_note (queued c t (source.Port p.tunnel) p.received datagram)) o ≡ Some d
    → (end_of k d.0 + in_conn k d.1 ≤ in_conn k c + past k (source.Port p.tunnel) p.received) × (d.1.number ≡ c.number)
received_by k c p datagram None d e = absurd cc
received_by k c p datagram (Some t) d e =
    let did = queued_down k c t (source.Port p.tunnel) p.received datagram in
    let P : Note × Conn → Type 0 = λ d. (end_of k d.0 + in_conn k d.1 ≤ in_conn k c + past k (source.Port p.tunnel) p.received) × (d.1.number ≡ c.number) in
    subst P (some_same e) (did.down, did.number)

pub handles_moves : (k : Key) (setup : Setup) (old : Held) (sh : Shared) → IsCounted k.from k.number → IsLawful old.conn → FlowsOnce k old.conn
    → ((d : Conn) (bytes : List ℕ) → TookNext setup old.conn bytes d → IsLawful d) → HandlesHeld setup old sh (λ said new after. Moves k old sh said new after)
handles_moves k setup old sh counted lawful once reads = record {
  acts = λ answer said new after x. acted_moves k old sh (want_of old.conn) answer said new after once refl x.answers x.is;
  link_fails = λ link answer said new after x.
      let base : Held = record old { conn = failed old.conn; link = link } in
      let calm = given_up_calm k old.conn end.Link in
      let less = calm_conn k old.conn (failed old.conn) calm in
      base_moves k old base sh said new after (omega (arith, less)) refl
      (acted_moves k base sh (want_of (failed old.conn)) answer said new after (calm_once k old.conn (failed old.conn) calm once) refl x.answers x.is);
  port_fails = λ p t answer said new after is can x.
      let base : Held = record old { conn = port_failed old.conn t } in
      let calm = port_failed_calm k old.conn t in
      let less = calm_conn k old.conn (port_failed old.conn t) calm in
      base_moves k old base sh said new after (omega (arith, less)) refl
      (acted_moves k base sh (want_of (port_failed old.conn t)) answer said new after (calm_once k old.conn (port_failed old.conn t) calm once) refl x.answers x.is);
  frames = λ d is. let did = framed_down k old.conn d lawful.loose.alone is in let down = did.down in record { down = omega (arith, down); number = did.number };
  writes = let calm = wrote_calm k old.conn (write_count old) in let less = calm_conn k old.conn _ calm in record { down = omega (arith, less); number = calm.number };
  reads = λ first c link took. let did = took_down k setup old.conn c _ lawful (reads c _ took) took in let down = did.down in record { down = omega (arith, down); number = did.number };
  ends = λ inside x can. let calm = finished_calm k old.conn inside in let less = calm_conn k old.conn _ calm in record { down = omega (arith, less); number = calm.number };
  receives = λ p datagram others d port arrived came.
      let did = received_by k old.conn p datagram (tunnel_of old.conn p.tunnel) d came in
      let down = did.0 in
      let ports = port_down k p.tunnel p old.ports counted port in
      let less = past_less k (source.Port p.tunnel) p.received in
      record { down = omega (arith, down, ports, less); number = did.1 };
}
