-- A read brings each payload of its bytes once, with a number that is new.
use Rattle.std.proofs.Common.{◌≡◌, ◌≤◌, ◌+◌, ◌⊎◌, ℕ, Bool, true, false, cond, List, [], ◌∷◌, ◌++◌, length, nat_le, nat_lt, Option, Some, None, refl, sym, subst, ap, ◌∙◌, arith, inl, inr}
use Rattle.std.specs.Prelude.{find, ◌==◌}
use Rattle.std.specs.List.{list_any, AllByRecursion}
use Rattle.std.specs.Option.{is_some}
use Rattle.std.proofs.lemmas.Bool.{eqb-true, leb-true, le-leb}
use Rattle.mq_addr.specs.declared.kind.Kind.{Kind}
use Rattle.mq_addr.specs.declared.kind.Kind.TheVariants as kind
use Rattle.mq_addr.specs.declared.entry.Asked.{Asked}
use Rattle.mq_addr.specs.declared.entry.Given.{Given}
use Rattle.mq_addr.specs.declared.range.Flow.{Flow}
use Rattle.mq_addr.specs.declared.range.Range.{Range}
use Rattle.mq_capsule.specs.declared.item.Item.{Item}
use Rattle.mq_capsule.specs.declared.item.Item.TheVariants as item
use Rattle.mq_talk.specs.declared.goal.Goal.{Goal}
use Rattle.mq_talk.specs.declared.goal.Goal.TheVariants as goal
use Rattle.mq_talk.specs.declared.note.End.{End}
use Rattle.mq_talk.specs.declared.note.Why.TheVariants as why
use Rattle.mq_talk.specs.declared.place.Cause.TheVariants as cause
use Rattle.mq_talk.specs.Packets.{flow_of}
use Rattle.mq_machine.specs.declared.act.Act.TheVariants as act
use Rattle.mq_machine.specs.declared.act.StreamAct.{StreamAct}
use Rattle.mq_machine.specs.declared.act.StreamAct.TheVariants as stream
use Rattle.mq_machine.specs.declared.act.Due.{Due}
use Rattle.mq_machine.specs.declared.act.Due.TheVariants as due
use Rattle.mq_machine.specs.declared.setup.Setup.{Setup}
use Rattle.mq_machine.specs.Lawful.{kind_on, with_one, Follows, IsSeated, AreSeated, begins_on, IsLawful}
use Rattle.mq_machine.specs.Reading.{StreamEvent, Request, Malformed, Content, Reset, ConnectionError, Leads, Refused, max_udp, flow_act, payload_act, too_long_act, some_or_malformed, value_acts, item_acts, is_payload, payload_count, is_close, then_acts, acts_of, on_stream, EndsWith, has_values, BytesAsk, stream_of, more_bytes, mark_of, goal_act, ended_acts, error_acts, reset_acts, ContentAsks, EventAsks, EventsAsk, TookNext}
use Rattle.mq_machine.specs.Settle.{spending, passing, is_given_up, updating, settled, settle}
use Rattle.mq_machine.specs.Putting.{putting}
use Rattle.mq_machine.specs.State.{Conn, Stream, Tunnel, kind_of, owed}
use Rattle.mq_machine.specs.Words.{assigned_of, asked_of, ranges_of}
use Rattle.mq_machine.proofs.Lawful.Idle.{reads_idle}
use Rattle.mq_machine.proofs.Lawful.Lists.{In, in_has, kind_there}
use Rattle.mq_play.proofs.Lists.{if_both, some_same}
use Rattle.mq_runs.proofs.Flight.{Key, asks, due_asks, asked_on, count_of, left_of, left_on, flows, in_tunnels, is_own, settle_calm, settled_calm, passing_calm, Down, Calm}
use Rattle.mq_runs.proofs.Numbers.{by_cases}
use Rattle.mq_runs.proofs.Sums.{total, total_append}
use Rattle.mq_runs.proofs.Walks.{found_passes}

-- ---- numbers from one on

count_append : (xs ys : List Item) → payload_count (xs ++ ys) ≡ payload_count xs + payload_count ys
count_append [] ys = omega arith
count_append (x ∷ xs) ys = let rest = count_append xs ys in omega (arith, rest)

abbrev pub from_on : ℕ → ℕ → ℕ
from_on m n = cond (nat_le m n) 1 0

-- it is this one, or one of the later ones
step_by : (a b c : Bool) (m n : ℕ) → (m == n) ≡ a → nat_le (m + 1) n ≡ b → nat_le m n ≡ c → cond a 1 0 + cond b 1 0 ≤ cond c 1 0
step_by true true c m n x y z = let same = eqb-true m n x in let more = leb-true (m + 1) n y in absurd (omega (arith, same, more))
step_by true false true m n x y z = omega arith
step_by true false false m n x y z = let same = eqb-true m n x in let is = le-leb m n (omega (arith, same)) in absurd cc
step_by false true true m n x y z = omega arith
step_by false true false m n x y z = let more = leb-true (m + 1) n y in let is = le-leb m n (omega (arith, more)) in absurd cc
step_by false false true m n x y z = omega arith
step_by false false false m n x y z = omega arith

pub step_on : (m n : ℕ) → cond (m == n) 1 0 + from_on (m + 1) n ≤ from_on m n
step_on m n = step_by (m == n) (nat_le (m + 1) n) (nat_le m n) m n refl refl refl

module _ (k : Key) where
  -- ---- what items ask for

  abbrev pub asks_all : List StreamAct → ℕ
  asks_all acts = total (asks k) acts

  abbrev pub one : ℕ → ℕ
  one m = cond (m == k.number) 1 0

  flow_few : (mtu m : ℕ) (packet : List ℕ) (o : Option Flow) → asks k (flow_act mtu m packet o) ≤ one m
  flow_few mtu m packet None = omega arith
  flow_few mtu m packet (Some flow) = by_cases (λ a. asks k a ≤ one m) (nat_lt mtu (length packet)) (stream.Drop m cause.TooLong) (stream.Packet m packet flow) (λ e. omega arith) (λ e. omega arith)

  payload_few : (kind : Kind) (mtu m : ℕ) (payload : List ℕ) → asks k (payload_act kind mtu m payload) ≤ one m
  payload_few kind.Udp mtu m payload = by_cases (λ a. asks k a ≤ one m) (nat_lt max_udp (length payload)) (stream.Close why.Malformed) (stream.Payload m payload) (λ e. omega arith) (λ e. omega arith)
  payload_few kind.Ip mtu m payload = flow_few mtu m payload (flow_of payload)

  long_few : (kind : Kind) (m : ℕ) → asks k (too_long_act kind m) ≤ one m
  long_few kind.Udp m = omega arith
  long_few kind.Ip m = omega arith

  some_none : {A : Type 0} (f : A → List StreamAct) (o : Option A) → ((a : A) → asks_all (f a) ≡ 0) → asks_all (some_or_malformed f o) ≡ 0
  some_none f None h = refl
  some_none f (Some a) h = h a

  pub values_none : (type : ℕ) (value : List ℕ) → asks_all (value_acts type value) ≡ 0
  values_none type value =
      by_cases (λ acts. asks_all acts ≡ 0) (type == 1) _ _ (λ e. some_none (λ (list : List Given). []) (assigned_of value) (λ list. refl))
      (λ e. by_cases (λ acts. asks_all acts ≡ 0) (type == 2) _ _ (λ e. some_none (λ (list : List Asked). stream.Assign list ∷ []) (asked_of value) (λ list. refl))
      (λ e. some_none (λ (ranges : List Range). stream.Advertise ranges ∷ []) (ranges_of value) (λ ranges. refl)))

  pub item_few : (kind : Kind) (mtu m : ℕ) (i : Item) → asks_all (item_acts kind mtu m i) ≤ cond (is_payload i) (one m) 0
  item_few kind mtu m (item.Datagram context payload) =
      let here = by_cases (λ a. asks k a ≤ one m) (context == 0) (payload_act kind mtu m payload) (stream.Drop m cause.UnknownContext) (λ e. payload_few kind mtu m payload) (λ e. omega arith) in
      omega (arith, here)
  item_few kind mtu m (item.TooLongDatagram context size) =
      let here = by_cases (λ a. asks k a ≤ one m) (context == 0) (too_long_act kind m) (stream.Drop m cause.UnknownContext) (λ e. long_few kind m) (λ e. omega arith) in
      omega (arith, here)
  item_few kind mtu m (item.Control type value) = let none = values_none type value in omega (arith, none)
  item_few kind mtu m (item.Bad fault) = omega arith

  pub then_few : (acts more : List StreamAct) → asks_all (then_acts acts more) ≤ asks_all acts + asks_all more
  then_few acts more =
      let both = total_append (asks k) acts (cond (list_any is_close acts) [] more) in
      let last = by_cases (λ (l : List StreamAct). asks_all l ≤ asks_all more) (list_any is_close acts) [] more (λ e. omega arith) (λ e. omega arith) in
      omega (arith, both, last)

  kind_step : (b : Bool) (m : ℕ) → cond b (one m) 0 + from_on (m + cond b 1 0) k.number ≤ from_on m k.number
  kind_step true m = step_on m k.number
  kind_step false m = let same = ap (λ j. from_on j k.number) (none_more m) in omega (arith, same) where
    none_more : (m : ℕ) → m + 0 ≡ m
    none_more m = omega arith

  pub acts_few : (kind : Kind) (mtu m : ℕ) (items : List Item) → asks_all (acts_of kind mtu m items) + from_on (m + payload_count items) k.number ≤ from_on m k.number
  acts_few kind mtu m [] = let same = ap (λ j. from_on j k.number) (none_more m) in omega (arith, same) where
    none_more : (m : ℕ) → m + 0 ≡ m
    none_more m = omega arith
  acts_few kind mtu m (i ∷ items) =
      let next = m + cond (is_payload i) 1 0 in
      let rest = acts_few kind mtu next items in
      let here = item_few kind mtu m i in
      let both = then_few (item_acts kind mtu m i) (acts_of kind mtu next items) in
      let step = kind_step (is_payload i) m in
      let same : next + payload_count items ≡ m + payload_count (i ∷ items) = omega arith in
      let from = ap (λ j. from_on j k.number) same in
      omega (arith, rest, here, both, step, from)

  -- ---- what bytes ask for

  pub ends_none : (goal : Goal) (bytes : List ℕ) (ends : Bool) (acts : List StreamAct) → EndsWith goal bytes ends acts → asks_all acts ≡ 0
  ends_none goal bytes false acts h = ap asks_all h
  ends_none goal bytes true acts (inl h) = ap asks_all h.1
  ends_none goal bytes true acts (inr h) = ap asks_all h.1

  abbrev pub to_come : Stream → ℕ
  to_come s = from_on (count_of k s) k.number

  bytes_few : (mtu : ℕ) (s : Stream) (bytes : List ℕ) (ends : Bool) (acts : List StreamAct) → BytesAsk mtu s bytes ends acts → asks_all acts + to_come (record s { bytes = s.bytes ++ bytes }) ≤ to_come s
  bytes_few mtu s bytes ends acts x =
      let control = has_values s.goal in
      let before = k.readable control s.bytes in
      let after = k.readable control (s.bytes ++ bytes) in
      let was : count_of k s ≡ payload_count x.before = ap payload_count (k.once control s.bytes before.0 x.before before.1 x.was) in
      let now : count_of k (record s { bytes = s.bytes ++ bytes }) ≡ payload_count (x.before ++ x.items) = ap payload_count (k.once control (s.bytes ++ bytes) after.0 (x.before ++ x.items) after.1 x.is) in
      let both = now ∙ count_append x.before x.items in
      let few = acts_few (kind_of s.goal) mtu (payload_count x.before) x.items in
      let from_was = ap (λ j. from_on j k.number) was in
      let from_now = ap (λ j. from_on j k.number) both in
      let joined = then_few (acts_of (kind_of s.goal) mtu (payload_count x.before) x.items) x.last in
      let none = ends_none s.goal (s.bytes ++ bytes) ends x.last x.ends_in in
      let all = ap asks_all x.acts_are in
      omega (arith, few, from_was, from_now, joined, none, all)

  -- ---- events

  abbrev pub left_all : ℕ → List Stream → ℕ
  left_all id ss = total (left_of k id) ss

  abbrev pub begin : ℕ → Due → ℕ
  begin id d = cond (begins_on id d) 1 0

  abbrev pub begins : ℕ → List Due → ℕ
  begins id ds = total (begin id) ds

  pub marks_none : (id on : ℕ) (size : Option ℕ) → asked_on k id (mark_of on size) ≡ 0
  marks_none id on None = refl
  marks_none id on (Some n) = refl

  pub on_few : (id on : ℕ) (acts : List StreamAct) → asked_on k id (on_stream on acts) ≡ cond (on == id) (asks_all acts) 0
  on_few id on [] = none (on == id) where
    none : (b : Bool) → ◌≡◌ {A = ℕ} 0 (cond b 0 0)
    none true = refl
    none false = refl
  on_few id on (a ∷ acts) = let rest = on_few id on acts in let here = both (on == id) (asks k a) (asks_all acts) in omega (arith, rest, here) where
    both : (b : Bool) (m n : ℕ) → cond b m 0 + cond b n 0 ≡ cond b (m + n) 0
    both true m n = refl
    both false m n = omega arith

  pub more_none : (id on : ℕ) (bytes : List ℕ) (ss : List Stream) → stream_of ss on ≡ None → left_all id (more_bytes on bytes ss) ≡ left_all id ss
  more_none id on bytes [] e = refl
  more_none id on bytes (s ∷ ss) e = by_id (more_none id on bytes ss) (s.id == on) refl e where
    by_id : (stream_of ss on ≡ None → left_all id (more_bytes on bytes ss) ≡ left_all id ss) → (b : Bool) → (s.id == on) ≡ b → cond b (Some s) (stream_of ss on) ≡ None
        → left_all id (cond b (record s { bytes = s.bytes ++ bytes } ∷ ss) (s ∷ more_bytes on bytes ss)) ≡ left_all id (s ∷ ss)
    by_id rest true is e = absurd cc
    by_id rest false is e = let one = rest e in omega (arith, one)

  more_some : (id on : ℕ) (bytes : List ℕ) (ss : List Stream) (t : Stream) → stream_of ss on ≡ Some t
      → left_all id (more_bytes on bytes ss) + left_of k id t ≡ left_all id ss + left_of k id (record t { bytes = t.bytes ++ bytes })
  more_some id on bytes [] t e = absurd cc
  more_some id on bytes (s ∷ ss) t e = by_id (more_some id on bytes ss t) (s.id == on) refl e where
    by_id : (stream_of ss on ≡ Some t → left_all id (more_bytes on bytes ss) + left_of k id t ≡ left_all id ss + left_of k id (record t { bytes = t.bytes ++ bytes })) → (b : Bool) → (s.id == on) ≡ b
        → cond b (Some s) (stream_of ss on) ≡ Some t
        → left_all id (cond b (record s { bytes = s.bytes ++ bytes } ∷ ss) (s ∷ more_bytes on bytes ss)) + left_of k id t ≡ left_all id (s ∷ ss) + left_of k id (record t { bytes = t.bytes ++ bytes })
    by_id rest true is e =
        let same : s ≡ t = some_same e in
        let old = ap (left_of k id) same in
        let new = ap (λ (s : Stream). left_of k id (record s { bytes = s.bytes ++ bytes })) same in
        omega (arith, old, new)
    by_id rest false is e = let one = rest e in omega (arith, one)

  cond_less : (b : Bool) (x y z : ℕ) → x + y ≤ z → cond b x 0 + cond b y 0 ≤ cond b z 0
  cond_less true x y z h = h
  cond_less false x y z h = omega arith

  content_few : (mtu id on : ℕ) (bytes : List ℕ) (size : Option ℕ) (ends : Bool) (old : List Stream) (o : Option Stream) (acts : List Due) → stream_of old on ≡ o
      → ContentAsks mtu on bytes size ends o acts → asked_on k id acts + left_all id (more_bytes on bytes old) ≤ left_all id old
  content_few mtu id on bytes size ends old None acts is x =
      let none = ap (asked_on k id) x ∙ marks_none id on size in
      let same = more_none id on bytes old is in
      omega (arith, none, same)
  content_few mtu id on bytes size ends old (Some s) acts is x =
      let on_it : s.id ≡ on = eqb-true s.id on (found_passes (λ (s : Stream). s.id == on) old s is) in
      let few = bytes_few mtu s bytes ends x.0 x.1 in
      let all = ap (asked_on k id) x.2 ∙ total_append (due_asks k id) (on_stream on x.0) (mark_of on size) in
      let none = marks_none id on size in
      let those = on_few id on x.0 in
      let moved = more_some id on bytes old s is in
      let here : cond (on == id) (asks_all x.0) 0 + left_of k id (record s { bytes = s.bytes ++ bytes }) ≤ left_of k id s =
      rw on_it (cond_less (on == id) (asks_all x.0) (to_come (record s { bytes = s.bytes ++ bytes })) (to_come s) few) in
      omega (arith, all, none, those, moved, here)

  close_none : (id on : ℕ) (reason : _) → due_asks k id (due.Do (act.OfStream on (stream.Close reason))) ≡ 0
  close_none id on reason = by_id (on == id) where
    by_id : (b : Bool) → ◌≡◌ {A = ℕ} (cond b 0 0) 0
    by_id true = refl
    by_id false = refl

  pub ended_none : (id on : ℕ) (ends : Bool) → asked_on k id (ended_acts on ends) ≡ 0
  ended_none id on true = let one = close_none id on why.End in omega (arith, one)
  ended_none id on false = refl

  pub error_none : (id on code : ℕ) (o : Option Tunnel) → asked_on k id (error_acts on code o) ≡ 0
  error_none id on code None = refl
  error_none id on code (Some t) = let one = close_none id on why.Malformed in omega (arith, one)

  pub reset_none : (id on : ℕ) (o : Option Tunnel) → asked_on k id (reset_acts on o) ≡ 0
  reset_none id on None = refl
  reset_none id on (Some t) = let one = close_none id on why.Reset in omega (arith, one)

  pub goal_begins : (id on : ℕ) (goal : Goal) → (due_asks k id (due.Do (goal_act on goal)) ≡ 0) × (begin id (due.Do (goal_act on goal)) ≡ cond (on == id) 1 0)
  goal_begins id on (goal.Udp addr port) = (refl, refl)
  goal_begins id on (goal.Ip area protocol) = (refl, refl)

  one_few : (b c : Bool) → cond b (cond c 1 0) 0 ≤ cond b 1 0
  one_few true true = omega arith
  one_few true false = omega arith
  one_few false c = omega arith

  pub event_few : (id mtu : ℕ) (ts : List Tunnel) (old : List Stream) (e : StreamEvent) (acts : List Due) (new : List Stream) → EventAsks mtu ts old e acts new
      → asked_on k id acts + left_all id new ≤ left_all id old + begins id acts
  event_few id mtu ts old (Request on (Refused status rule) ends) acts new x = let a = ap (asked_on k id) x.0 in let n = ap (left_all id) x.1 in omega (arith, a, n)
  event_few id mtu ts old (Request on (Leads found) ends) acts new x =
      let a = ap (asked_on k id) x.0 in
      let b = ap (begins id) x.0 in
      let s : Stream = record { id = on; goal = found; bytes = [] } in
      let n = ap (left_all id) x.1 ∙ total_append (left_of k id) old (s ∷ []) in
      let g = goal_begins id on found in
      let none = g.0 in
      let first = g.1 in
      let few = one_few (on == id) (nat_le (count_of k s) k.number) in
      let ended = ended_none id on ends in
      omega (arith, a, b, n, none, first, few, ended)
  event_few id mtu ts old (Malformed on code) acts new x =
      let a = ap (asked_on k id) x.0 ∙ error_none id on code (find (λ (t : Tunnel). t.stream == on) ts) in let n = ap (left_all id) x.1 in omega (arith, a, n)
  event_few id mtu ts old (Content on bytes size ends) acts new x =
      let few = content_few mtu id on bytes size ends old (stream_of old on) acts refl x.0 in let n = ap (left_all id) x.1 in omega (arith, few, n)
  event_few id mtu ts old (Reset on) acts new x =
      let a = ap (asked_on k id) x.0 ∙ reset_none id on (find (λ (t : Tunnel). t.stream == on) ts) in let n = ap (left_all id) x.1 in omega (arith, a, n)
  event_few id mtu ts old (ConnectionError code) acts new x = let a = ap (asked_on k id) x.0 in let n = ap (left_all id) x.1 in omega (arith, a, n)

  pub events_few : (id mtu : ℕ) (ts : List Tunnel) (es : List StreamEvent) (old : List Stream) (acts : List Due) (new : List Stream) → EventsAsk mtu ts old es acts new
      → asked_on k id acts + left_all id new ≤ left_all id old + begins id acts
  events_few id mtu ts [] old acts new x = let a = ap (asked_on k id) x.0 in let n = ap (left_all id) x.1 in omega (arith, a, n)
  events_few id mtu ts (e ∷ es) old acts new x =
      let here = event_few id mtu ts old e x.0 x.1 x.3 in
      let later = events_few id mtu ts es x.1 x.2 new x.4 in
      let a = ap (asked_on k id) x.5 ∙ total_append (due_asks k id) x.0 x.2 in
      let b = ap (begins id) x.5 ∙ total_append (begin id) x.0 x.2 in
      omega (arith, here, later, a, b)

  -- ---- a tunnel opens on a stream once

  pub record Begins (id : ℕ) (live : ℕ → Option Kind) (ds : List Due) : Type 0 where
    pub few : begins id ds ≤ 1
    pub none : is_some (live id) ≡ true → begins id ds ≡ 0

  begins_by : (id on : ℕ) (kind : Kind) (live : ℕ → Option Kind) (rest : List Due) (b : Bool) → (on == id) ≡ b → live on ≡ None → (cond b (Some kind) (live id) ≡ with_one on kind live id)
      → Begins id (with_one on kind live) rest → (cond b 1 0 + begins id rest ≤ 1) × (is_some (live id) ≡ true → cond b 1 0 + begins id rest ≡ 0)
  begins_by id on kind live rest true is none same h =
      let later : begins id rest ≡ 0 = h.none (ap is_some (sym same)) in
      let empty : live id ≡ None = ap live (sym (eqb-true on id is)) ∙ none in
      (omega (arith, later), λ some. absurd (no_some (live id) empty some))
    where
      no_some : (o : Option Kind) → o ≡ None → is_some o ≡ true → ⊥
      no_some None e s = absurd cc
      no_some (Some kind) e s = absurd cc
  begins_by id on kind live rest false is none same h =
      let few = h.few in
      (omega (arith, few), λ some. let later = h.none (ap is_some (sym same) ∙ some) in omega (arith, later))

  pub follows_begins : (id : ℕ) (live : ℕ → Option Kind) (ds : List Due) → Follows live ds → Begins id live ds
  follows_begins id live [] h = record { few = omega arith; none = λ s. refl }
  follows_begins id live (due.Do (act.Bind on goal) ∷ rest) h =
      let x = begins_by id on (kind_of goal) live rest (on == id) refl h.0 refl (follows_begins id (with_one on (kind_of goal) live) rest h.2) in record { few = x.0; none = x.1 }
  follows_begins id live (due.Do (act.Open on goal) ∷ rest) h =
      let x = begins_by id on (kind_of goal) live rest (on == id) refl h.0 refl (follows_begins id (with_one on (kind_of goal) live) rest h.1) in record { few = x.0; none = x.1 }
  follows_begins id live (due.Do (act.Refuse on status rule) ∷ rest) h = let x = follows_begins id live rest h in let few = x.few in record { few = omega (arith, few); none = λ s. let none = x.none s in omega (arith, none) }
  follows_begins id live (due.Do (act.Reset on code) ∷ rest) h = let x = follows_begins id live rest h in let few = x.few in record { few = omega (arith, few); none = λ s. let none = x.none s in omega (arith, none) }
  follows_begins id live (due.Do (act.OfStream on a) ∷ rest) h = let x = follows_begins id live rest h.1 in let few = x.few in record { few = omega (arith, few); none = λ s. let none = x.none s in omega (arith, none) }
  follows_begins id live (due.Spend on size ∷ rest) h = let x = follows_begins id live rest h in let few = x.few in record { few = omega (arith, few); none = λ s. let none = x.none s in omega (arith, none) }
  follows_begins id live (due.Fault code ∷ rest) h = let x = follows_begins id live rest h in let few = x.few in record { few = omega (arith, few); none = λ s. let none = x.none s in omega (arith, none) }

  -- ---- the end of a read

  -- nothing flows behind a fault, and else all begins stay
  pub passed_begins : (id : ℕ) (ds : List Due) (c : Conn) → (flows k (passing ds c) id ≡ 0) ⊎ (begins id (passing ds c).due ≡ begins id ds)
  passed_begins id [] c = inr refl
  passed_begins id (due.Do a ∷ rest) c = inr refl
  passed_begins id (due.Spend on size ∷ rest) c = elim (passed_begins id rest (record c { front = spending c.front on size })) [ inl none ↦ inl none | inr same ↦ inr (omega (arith, same)) ]
  passed_begins id (due.Fault code ∷ rest) c = inl refl

  pub settled_due : (c : Conn) → (settled c).due ≡ c.due
  settled_due c = if_both (λ (d : Conn). d.due ≡ c.due) (is_given_up c.ending) c (putting c (updating c.front (owed c))) refl refl

  pub settled_tunnels : (c : Conn) → (settled c).tunnels ≡ c.tunnels
  settled_tunnels c = if_both (λ (d : Conn). d.tunnels ≡ c.tunnels) (is_given_up c.ending) c (putting c (updating c.front (owed c))) refl refl

  pub passed_tunnels : (ds : List Due) (c : Conn) → (passing ds c).tunnels ≡ c.tunnels
  passed_tunnels [] c = refl
  passed_tunnels (due.Do a ∷ rest) c = refl
  passed_tunnels (due.Spend on size ∷ rest) c = passed_tunnels rest (record c { front = spending c.front on size })
  passed_tunnels (due.Fault code ∷ rest) c = refl

  -- a data stream has its tunnel
  pub unseated_none : (id : ℕ) (ts : List Tunnel) (ss : List Stream) → AllByRecursion (IsSeated ts []) ss → is_some (kind_on ts id) ≡ false → left_all id ss ≡ 0
  unseated_none id ts [] h none = refl
  unseated_none id ts (s ∷ ss) h none = by_id (unseated_none id ts ss h.1 none) (s.id == id) refl where
    by_id : left_all id ss ≡ 0 → (b : Bool) → (s.id == id) ≡ b → cond b (to_come s) 0 + left_all id ss ≡ 0
    by_id rest true is =
        let there : is_some (kind_on ts id) ≡ true = ap (λ i. is_some (kind_on ts i)) (sym (eqb-true s.id id is)) ∙ ap is_some h.0 in
        absurd cc
    by_id rest false is = omega (arith, rest)

  -- what flows behind a read on a stream with a tunnel, and on any
  pub record Read (c d : Conn) (id : ℕ) : Type 0 where
    pub less : is_some (kind_on c.tunnels id) ≡ true → flows k d id ≤ flows k c id
    pub once : flows k c id ≤ 1 → flows k d id ≤ 1

  read_by : (c d : Conn) (id old now n : ℕ) (b : Bool) → is_some (kind_on c.tunnels id) ≡ b → flows k c id ≡ old → flows k d id ≤ now → (now ≡ 0) ⊎ ((now ≤ old + n) × (n ≤ 1) × (b ≡ true → n ≡ 0) × (b ≡ false → old ≡ 0)) → Read c d id
  read_by c d id old now n b is was h (inl none) = record { less = λ s. omega (arith, h, none); once = λ one. omega (arith, h, none) }
  read_by c d id old now n true is was h (inr x) =
      let most = x.0 in let none = x.2 refl in
      record { less = λ s. omega (arith, was, h, most, none); once = λ one. omega (arith, was, h, most, none, one) }
  read_by c d id old now n false is was h (inr x) =
      let most = x.0 in let few = x.1 in let none = x.3 refl in
      record { less = λ s. absurd cc; once = λ one. omega (arith, h, most, few, none) }

  pub took_read : (setup : Setup) (c d : Conn) (bytes : List ℕ) (id : ℕ) → IsLawful c → IsLawful d → TookNext setup c bytes d → (d.tunnels ≡ c.tunnels) × (d.number ≡ c.number) × Read c d id
  took_read setup c d bytes id lawful after x =
      let idle = reads_idle c lawful x.can in
      let mid : Conn = record c { front = x.front; streams = x.streams; due = x.acts; out = c.out ++ x.text } in
      let e = passing x.acts mid in
      let calm = settle_calm k mid in
      let tunnels : d.tunnels ≡ c.tunnels = ap (λ (c : Conn). c.tunnels) x.new_is ∙ settled_tunnels e ∙ passed_tunnels x.acts mid in
      let number : d.number ≡ c.number = ap (λ (c : Conn). c.number) x.new_is ∙ calm.number in
      let due_is : d.due ≡ e.due = ap (λ (c : Conn). c.due) x.new_is ∙ settled_due e in
      let follows : Follows (kind_on c.tunnels) e.due = subst (λ (ds : List Due). Follows (kind_on c.tunnels) ds) due_is (subst (λ (ts : List Tunnel). Follows (kind_on ts) d.due) tunnels after.loose.follows) in
      let begin_so = follows_begins id (kind_on c.tunnels) e.due follows in
      let seated : AllByRecursion (IsSeated c.tunnels []) c.streams =
      subst (λ (ds : List Due). AllByRecursion (IsSeated c.tunnels ds) c.streams) idle.due (subst (λ (o : Option End). AreSeated o c.tunnels c.due c.streams) idle.ending lawful.loose.seated) in
      let few = events_few id setup.mtu c.tunnels x.events c.streams x.acts x.streams x.asks in
      let was : flows k c id ≡ left_all id c.streams =
      ap (λ (o : Option End). asked_on k id c.due + left_on k id o c.streams) idle.ending ∙ ap (λ (ds : List Due). asked_on k id ds + left_all id c.streams) idle.due ∙ none_first (left_all id c.streams) in
      let mid_is : flows k mid id ≡ asked_on k id x.acts + left_all id x.streams = ap (λ (o : Option End). asked_on k id x.acts + left_on k id o x.streams) idle.ending in
      let new : flows k d id ≡ flows k (settle mid) id = ap (λ (c : Conn). flows k c id) x.new_is in
      let set = (settled_less e).less id in
      let passed = (passed_less mid).less id in (
        tunnels,
        number,
        elim (passed_begins id x.acts mid) [
          | inl none ↦ read_by c d id (left_all id c.streams) (flows k e id) 0 (is_some (kind_on c.tunnels id)) refl was (omega (arith, new, set)) (inl none)
          | inr same ↦ (
              let small = begin_so.few in
              read_by c d id (left_all id c.streams) (flows k e id) (begins id x.acts) (is_some (kind_on c.tunnels id)) refl was (omega (arith, new, set))
              (inr (omega (arith, passed, mid_is, few), omega (arith, same, small), λ some. let none = begin_so.none some in omega (arith, same, none), λ none. unseated_none id c.tunnels c.streams seated none)))
        ],
      )
    where
      none_first : (n : ℕ) → 0 + n ≡ n
      none_first n = omega arith

      settled_less : (c : Conn) → Calm k c (settled c)
      settled_less c = settled_calm k c

      passed_less : (c : Conn) → Calm k c (passing c.due c)
      passed_less c = passing_calm k c.due c (λ id. omega arith)

  -- ---- all tunnels

  in_less : (f g : ℕ → ℕ) (all ts : List Tunnel) → ((t : Tunnel) → In t ts → f t.stream ≤ g t.stream) → in_tunnels k f ts ≤ in_tunnels k g ts
  in_less f g all [] h = omega arith
  in_less f g all (t ∷ ts) h =
      let rest = in_less f g all ts (λ u among. h u (inr among)) in
      let here = own_by (is_own k t.id) (f t.stream) (g t.stream) (h t (inl refl)) in
      omega (arith, rest, here)
    where
      own_by : (b : Bool) (m n : ℕ) → m ≤ n → cond b m 0 ≤ cond b n 0
      own_by true m n h = h
      own_by false m n h = omega arith

  pub took_down : (setup : Setup) (c d : Conn) (bytes : List ℕ) → IsLawful c → IsLawful d → TookNext setup c bytes d → Down k c 0 0 d
  took_down setup c d bytes lawful after x =
      let tunnels = (took_read setup c d bytes 0 lawful after x).0 in
      let less = in_less (flows k d) (flows k c) c.tunnels c.tunnels (λ t among. (took_read setup c d bytes t.stream lawful after x).2.less (kind_there c.tunnels t.stream ∙ in_has c.tunnels t among)) in
      let same = ap (λ (ts : List Tunnel). in_tunnels k (flows k d) ts) tunnels in
      record {
        down = omega (arith, less, same);
        once = λ one id. (took_read setup c d bytes id lawful after x).2.once (one id);
        number = (took_read setup c d bytes 0 lawful after x).1;
      }
