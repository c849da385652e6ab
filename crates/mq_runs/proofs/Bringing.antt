-- What the items of a read bring of a payload: it is due, or may still come, or a close is due; or it is behind a close.
use Rattle.std.proofs.Common.{◌≡◌, ◌≤◌, ◌+◌, ℕ, Bool, true, false, cond, List, [], ◌∷◌, ◌++◌, length, nat_le, nat_lt, Option, Some, None, refl, sym, ap, ◌∙◌, arith, inl, inr}
use Rattle.std.specs.Prelude.{◌==◌, ◌&&◌, ◌||◌}
use Rattle.std.specs.List.{list_any}
use Rattle.std.proofs.lemmas.Bool.{eq-eqb, leb-true, le-leb}
use Rattle.mq_addr.specs.declared.kind.Kind.{Kind}
use Rattle.mq_addr.specs.declared.kind.Kind.TheVariants as kind
use Rattle.mq_addr.specs.declared.range.Flow.{Flow}
use Rattle.mq_capsule.specs.declared.item.Item.{Item}
use Rattle.mq_capsule.specs.declared.item.Item.TheVariants as item
use Rattle.mq_talk.specs.declared.note.Why.TheVariants as why
use Rattle.mq_talk.specs.declared.place.Cause.TheVariants as cause
use Rattle.mq_talk.specs.Packets.{flow_of}
use Rattle.mq_machine.specs.declared.act.StreamAct.{StreamAct}
use Rattle.mq_machine.specs.declared.act.StreamAct.TheVariants as stream
use Rattle.mq_machine.specs.Reading.{max_udp, flow_act, payload_act, too_long_act, item_acts, is_payload, payload_count, is_close, then_acts, acts_of, has_values, BytesAsk}
use Rattle.mq_machine.specs.State.{Stream, kind_of}
use Rattle.mq_runs.specs.Asking.{asks_close, is_behind_close}
use Rattle.mq_runs.proofs.Flight.{Key, asks, count_of}
use Rattle.mq_runs.proofs.Numbers.{by_cases}
use Rattle.mq_runs.proofs.Order.{le_or}
use Rattle.mq_runs.proofs.Sums.{total, total_append}
use Rattle.mq_runs.proofs.Took.{from_on, asks_all, to_come}
use Rattle.mq_runs.proofs.Ups.{close_act}

-- ---- numbers from one on

many_by : (a b c : Bool) (m n : ℕ) → (m == n) ≡ a → nat_le (m + 1) n ≡ b → nat_le m n ≡ c → cond c 1 0 ≤ cond a 1 0 + cond b 1 0
many_by true b c m n x y z = by_test c where
  by_test : (c : Bool) → cond c 1 0 ≤ 1 + cond b 1 0
  by_test true = omega arith
  by_test false = omega arith
many_by false true c m n x y z = by_test c where
  by_test : (c : Bool) → cond c 1 0 ≤ 0 + 1
  by_test true = omega arith
  by_test false = omega arith
many_by false false false m n x y z = omega arith
many_by false false true m n x y z =
    let most = leb-true m n z in
    elim (le_or (m + 1) n) [
      | inl less ↦ absurd (let yes = le-leb (m + 1) n less in let no = sym y ∙ yes in cc)
      | inr more ↦ absurd (let same : m ≡ n = omega (arith, most, more) in let yes = eq-eqb m n same in let no = sym x ∙ yes in cc)
    ]

step_many : (m n : ℕ) → from_on m n ≤ cond (m == n) 1 0 + from_on (m + 1) n
step_many m n = many_by (m == n) (nat_le (m + 1) n) (nat_le m n) m n refl refl refl

from_few : (m n : ℕ) → from_on m n ≤ 1
from_few m n = by_test (nat_le m n) where
  by_test : (b : Bool) → cond b 1 0 ≤ 1
  by_test true = omega arith
  by_test false = omega arith

-- ---- closes of acts

abbrev pub closes_all : Bool → List StreamAct → ℕ
closes_all closers acts = total (close_act closers) acts

module _ (k : Key) where
  abbrev one : ℕ → ℕ
  one m = cond (m == k.number) 1 0

  -- ---- what items ask for

  flow_many : (mtu m : ℕ) (packet : List ℕ) (o : Option Flow) → one m ≤ asks k (flow_act mtu m packet o) + close_act true (flow_act mtu m packet o)
  flow_many mtu m packet None = omega arith
  flow_many mtu m packet (Some flow) = by_cases (λ a. one m ≤ asks k a + close_act true a) (nat_lt mtu (length packet)) (stream.Drop m cause.TooLong) (stream.Packet m packet flow) (λ e. omega arith) (λ e. omega arith)

  one_few : (m : ℕ) → one m ≤ 1
  one_few m = by_test (m == k.number) where
    by_test : (b : Bool) → cond b 1 0 ≤ 1
    by_test true = omega arith
    by_test false = omega arith

  payload_many : (kind : Kind) (mtu m : ℕ) (payload : List ℕ) → one m ≤ asks k (payload_act kind mtu m payload) + close_act true (payload_act kind mtu m payload)
  payload_many kind.Udp mtu m payload =
      by_cases (λ a. one m ≤ asks k a + close_act true a) (nat_lt max_udp (length payload)) (stream.Close why.Malformed) (stream.Payload m payload) (λ e. let few = one_few m in omega (arith, few)) (λ e. omega arith)
  payload_many kind.Ip mtu m payload = flow_many mtu m payload (flow_of payload)

  long_many : (kind : Kind) (m : ℕ) → one m ≤ asks k (too_long_act kind m) + close_act true (too_long_act kind m)
  long_many kind.Udp m = let few = one_few m in omega (arith, few)
  long_many kind.Ip m = omega arith

  item_many : (kind : Kind) (mtu m : ℕ) (i : Item) → cond (is_payload i) (one m) 0 ≤ asks_all k (item_acts kind mtu m i) + closes_all true (item_acts kind mtu m i)
  item_many kind mtu m (item.Datagram context payload) =
      let here = by_cases (λ a. one m ≤ asks k a + close_act true a) (context == 0) (payload_act kind mtu m payload) (stream.Drop m cause.UnknownContext) (λ e. payload_many kind mtu m payload) (λ e. omega arith) in
      omega (arith, here)
  item_many kind mtu m (item.TooLongDatagram context size) =
      let here = by_cases (λ a. one m ≤ asks k a + close_act true a) (context == 0) (too_long_act kind m) (stream.Drop m cause.UnknownContext) (λ e. long_many kind m) (λ e. omega arith) in
      omega (arith, here)
  item_many kind mtu m (item.Control type value) = omega arith
  item_many kind mtu m (item.Bad fault) = omega arith

  any_by : (b : Bool) (acts : List StreamAct) → (list_any is_close acts ≡ true → 1 ≤ closes_all true acts) → (b || list_any is_close acts) ≡ true → 1 ≤ cond b 1 0 + closes_all true acts
  any_by true acts rest e = omega arith
  any_by false acts rest e = let one = rest e in omega (arith, one)

  any_closes : (acts : List StreamAct) → list_any is_close acts ≡ true → 1 ≤ closes_all true acts
  any_closes [] e = absurd cc
  any_closes (a ∷ acts) e = any_by (is_close a) acts (any_closes acts) e

  then_by : (b : Bool) (x tail : ℕ) (acts more : List StreamAct) → list_any is_close acts ≡ b → x ≤ 1 → x ≤ asks_all k acts + closes_all true acts + (asks_all k more + closes_all true more + tail)
      → x ≤ asks_all k (acts ++ cond b [] more) + closes_all true (acts ++ cond b [] more) + tail
  then_by true x tail acts more is few h =
      let one = any_closes acts is in
      let both = total_append (close_act true) acts [] in
      omega (arith, few, one, both)
  then_by false x tail acts more is few h =
      let asked = total_append (asks k) acts more in
      let close = total_append (close_act true) acts more in
      omega (arith, h, asked, close)

  then_many : (x tail : ℕ) (acts more : List StreamAct) → x ≤ 1 → x ≤ asks_all k acts + closes_all true acts + (asks_all k more + closes_all true more + tail) → x ≤ asks_all k (then_acts acts more) + closes_all true (then_acts acts more) + tail
  then_many x tail acts more few h = then_by (list_any is_close acts) x tail acts more refl few h

  kind_many : (b : Bool) (m : ℕ) → from_on m k.number ≤ cond b (one m) 0 + from_on (m + cond b 1 0) k.number
  kind_many true m = step_many m k.number
  kind_many false m = let same = ap (λ j. from_on j k.number) (none_more m) in omega (arith, same) where
    none_more : (m : ℕ) → m + 0 ≡ m
    none_more m = omega arith

  acts_many : (kind : Kind) (mtu m : ℕ) (items : List Item) → from_on m k.number ≤ asks_all k (acts_of kind mtu m items) + closes_all true (acts_of kind mtu m items) + from_on (m + payload_count items) k.number
  acts_many kind mtu m [] = let same = ap (λ j. from_on j k.number) (none_more m) in omega (arith, same) where
    none_more : (m : ℕ) → m + 0 ≡ m
    none_more m = omega arith
  acts_many kind mtu m (i ∷ items) =
      let next = m + cond (is_payload i) 1 0 in
      let rest = acts_many kind mtu next items in
      let here = item_many kind mtu m i in
      let step = kind_many (is_payload i) m in
      let same : next + payload_count items ≡ m + payload_count (i ∷ items) = omega arith in
      let from = ap (λ j. from_on j k.number) same in
      then_many (from_on m k.number) (from_on (m + payload_count (i ∷ items)) k.number) (item_acts kind mtu m i) (acts_of kind mtu next items) (from_few m k.number) (omega (arith, rest, here, step, from))

  -- ---- what bytes ask for

  count_append : (xs ys : List Item) → payload_count (xs ++ ys) ≡ payload_count xs + payload_count ys
  count_append [] ys = omega arith
  count_append (x ∷ xs) ys = let rest = count_append xs ys in omega (arith, rest)

  pub bytes_many : (mtu : ℕ) (s : Stream) (bytes : List ℕ) (ends : Bool) (acts : List StreamAct) → BytesAsk mtu s bytes ends acts → to_come k s ≤ asks_all k acts + closes_all true acts + to_come k (record s { bytes = s.bytes ++ bytes })
  bytes_many mtu s bytes ends acts x =
      let control = has_values s.goal in
      let before = k.readable control s.bytes in
      let after = k.readable control (s.bytes ++ bytes) in
      let was : count_of k s ≡ payload_count x.before = ap payload_count (k.once control s.bytes before.0 x.before before.1 x.was) in
      let now : count_of k (record s { bytes = s.bytes ++ bytes }) ≡ payload_count (x.before ++ x.items) = ap payload_count (k.once control (s.bytes ++ bytes) after.0 (x.before ++ x.items) after.1 x.is) in
      let both = now ∙ count_append x.before x.items in
      let many = acts_many (kind_of s.goal) mtu (payload_count x.before) x.items in
      let from_was = ap (λ j. from_on j k.number) was in
      let from_now = ap (λ j. from_on j k.number) both in
      let few = from_few (payload_count x.before) k.number in
      let tail = from_on (payload_count x.before + payload_count x.items) k.number in
      let all = then_many (from_on (payload_count x.before) k.number) tail (acts_of (kind_of s.goal) mtu (payload_count x.before) x.items) x.last few (omega (arith, many)) in
      let asked = ap (asks_all k) x.acts_are in
      let close = ap (closes_all true) x.acts_are in
      omega (arith, all, from_was, from_now, asked, close)

  -- ---- or it is behind a close

  open_flow : (mtu m : ℕ) (packet : List ℕ) (o : Option Flow) → is_close (flow_act mtu m packet o) ≡ false
  open_flow mtu m packet None = refl
  open_flow mtu m packet (Some flow) = by_cases (λ a. is_close a ≡ false) (nat_lt mtu (length packet)) (stream.Drop m cause.TooLong) (stream.Packet m packet flow) (λ e. refl) (λ e. refl)

  payload_same : (kind : Kind) (mtu m : ℕ) (payload : List ℕ) → is_close (payload_act kind mtu m payload) ≡ is_close (payload_act kind 0 0 payload)
  payload_same kind.Udp mtu m payload = same_by (nat_lt max_udp (length payload)) where
    same_by : (b : Bool) → is_close (cond b (stream.Close why.Malformed) (stream.Payload m payload)) ≡ is_close (cond b (stream.Close why.Malformed) (stream.Payload 0 payload))
    same_by true = refl
    same_by false = refl
  payload_same kind.Ip mtu m payload = open_flow mtu m payload (flow_of payload) ∙ sym (open_flow 0 0 payload (flow_of payload))

  long_same : (kind : Kind) (m : ℕ) → is_close (too_long_act kind m) ≡ is_close (too_long_act kind 0)
  long_same kind.Udp m = refl
  long_same kind.Ip m = refl

  context_same : (b : Bool) (m : ℕ) (a o : StreamAct) → is_close a ≡ is_close o → (is_close (cond b a (stream.Drop m cause.UnknownContext)) || false) ≡ (is_close (cond b o (stream.Drop 0 cause.UnknownContext)) || false)
  context_same true m a o same = ap (λ b. b || false) same
  context_same false m a o same = refl

  item_same : (kind : Kind) (mtu m : ℕ) (i : Item) → list_any is_close (item_acts kind mtu m i) ≡ asks_close kind i
  item_same kind mtu m (item.Datagram context payload) = context_same (context == 0) m (payload_act kind mtu m payload) (payload_act kind 0 0 payload) (payload_same kind mtu m payload)
  item_same kind mtu m (item.TooLongDatagram context size) = context_same (context == 0) m (too_long_act kind m) (too_long_act kind 0) (long_same kind m)
  item_same kind mtu m (item.Control type value) = refl
  item_same kind mtu m (item.Bad fault) = refl

  none_by : (b : Bool) (acts : List StreamAct) → (list_any is_close acts ≡ false → closes_all true acts ≡ 0) → (b || list_any is_close acts) ≡ false → cond b 1 0 + closes_all true acts ≡ 0
  none_by true acts rest e = absurd cc
  none_by false acts rest e = let none = rest e in omega (arith, none)

  none_closes : (acts : List StreamAct) → list_any is_close acts ≡ false → closes_all true acts ≡ 0
  none_closes [] e = refl
  none_closes (a ∷ acts) e = none_by (is_close a) acts (none_closes acts) e

  abbrev pub behind : Kind → ℕ → List Item → ℕ
  behind kind m items = cond (is_behind_close kind k.number m items) 1 0

  -- the first item's part
  behind_by : (b c : Bool) (kind : Kind) (mtu m : ℕ) (i : Item) (items : List Item) → nat_le m k.number ≡ b → list_any is_close (item_acts kind mtu m i) ≡ c
      → from_on (m + cond (is_payload i) 1 0) k.number ≤ asks_all k (acts_of kind mtu (m + cond (is_payload i) 1 0) items) + behind kind (m + cond (is_payload i) 1 0) items + from_on (m + payload_count (i ∷ items)) k.number
      → from_on m k.number ≤ asks_all k (acts_of kind mtu m (i ∷ items)) + behind kind m (i ∷ items) + from_on (m + payload_count (i ∷ items)) k.number
  behind_by false c kind mtu m i items late is rest = let none : from_on m k.number ≡ 0 = ap (λ b. cond b 1 0) late in omega (arith, none)
  behind_by true true kind mtu m i items early is rest =
      let later = is_behind_close kind k.number (m + cond (is_payload i) 1 0) items in
      let here : behind kind m (i ∷ items) ≡ cond (asks_close kind i || later) 1 0 = ap (λ b. cond (b && (asks_close kind i || later)) 1 0) early in
      let yes : ◌≡◌ {A = ℕ} (cond (asks_close kind i || later) 1 0) 1 = ap (λ b. cond (b || later) 1 0) (sym (item_same kind mtu m i) ∙ is) in
      let few = from_few m k.number in
      omega (arith, few, here, yes)
  behind_by true false kind mtu m i items early is rest =
      let next = m + cond (is_payload i) 1 0 in
      let later = is_behind_close kind k.number next items in
      let more = acts_of kind mtu next items in
      let here : behind kind m (i ∷ items) ≡ cond (asks_close kind i || later) 1 0 = ap (λ b. cond (b && (asks_close kind i || later)) 1 0) early in
      let no : ◌≡◌ {A = ℕ} (cond (asks_close kind i || later) 1 0) (behind kind next items) = ap (λ b. cond (b || later) 1 0) (sym (item_same kind mtu m i) ∙ is) in
      let asked = ap (λ b. asks_all k (item_acts kind mtu m i ++ cond b [] more)) is ∙ total_append (asks k) (item_acts kind mtu m i) more in
      let own = item_many kind mtu m i in
      let none = none_closes (item_acts kind mtu m i) is in
      let step = kind_many (is_payload i) m in
      omega (arith, rest, here, no, asked, own, none, step)

  acts_behind : (kind : Kind) (mtu m : ℕ) (items : List Item) → from_on m k.number ≤ asks_all k (acts_of kind mtu m items) + behind kind m items + from_on (m + payload_count items) k.number
  acts_behind kind mtu m [] = let same = ap (λ j. from_on j k.number) (none_more m) in omega (arith, same) where
    none_more : (m : ℕ) → m + 0 ≡ m
    none_more m = omega arith
  acts_behind kind mtu m (i ∷ items) =
      let next = m + cond (is_payload i) 1 0 in
      let rest = acts_behind kind mtu next items in
      let same : next + payload_count items ≡ m + payload_count (i ∷ items) = omega arith in
      let from = ap (λ j. from_on j k.number) same in
      behind_by (nat_le m k.number) (list_any is_close (item_acts kind mtu m i)) kind mtu m i items refl refl (omega (arith, rest, from))

  first_by : (a c r s : Bool) → cond r 1 0 ≤ cond s 1 0 → cond (a && (c || r)) 1 0 ≤ cond (a && (c || s)) 1 0
  first_by false c r s h = omega arith
  first_by true true r s h = omega arith
  first_by true false r s h = h

  behind_first : (kind : Kind) (m : ℕ) (xs ys : List Item) → behind kind m xs ≤ behind kind m (xs ++ ys)
  behind_first kind m [] ys = omega arith
  behind_first kind m (x ∷ xs) ys =
      let next = m + cond (is_payload x) 1 0 in
      first_by (nat_le m k.number) (asks_close kind x) (is_behind_close kind k.number next xs) (is_behind_close kind k.number next (xs ++ ys)) (behind_first kind next xs ys)

  late_by : (b : Bool) (m l : ℕ) (rest : Bool) → nat_le m k.number ≡ false → m ≤ l → nat_le l k.number ≡ b → ◌≡◌ {A = ℕ} (cond (b && rest) 1 0) 0
  late_by true m l rest late less is = absurd (let most = leb-true l k.number is in let yes = le-leb m k.number (omega (arith, most, less)) in let no = sym late ∙ yes in cc)
  late_by false m l rest late less is = refl

  behind_late : (kind : Kind) (m l : ℕ) (ys : List Item) → nat_le m k.number ≡ false → m ≤ l → behind kind l ys ≡ 0
  behind_late kind m l [] late less = refl
  behind_late kind m l (y ∷ ys) late less = late_by (nat_le l k.number) m l (asks_close kind y || is_behind_close kind k.number (l + cond (is_payload y) 1 0) ys) late less refl

  later_by : (b c r : Bool) (x : ℕ) → (b ≡ false → x ≡ 0) → x ≤ cond r 1 0 → x ≤ cond (b && (c || r)) 1 0
  later_by false c r x none h = let zero_x = none refl in omega (arith, zero_x)
  later_by true true r x none h = let few = bit r in omega (arith, h, few) where
    bit : (b : Bool) → cond b 1 0 ≤ 1
    bit true = omega arith
    bit false = omega arith
  later_by true false r x none h = h

  behind_later : (kind : Kind) (m : ℕ) (xs ys : List Item) → behind kind (m + payload_count xs) ys ≤ behind kind m (xs ++ ys)
  behind_later kind m [] ys = let same = ap (λ j. behind kind j ys) (none_more m) in omega (arith, same) where
    none_more : (m : ℕ) → m + 0 ≡ m
    none_more m = omega arith
  behind_later kind m (x ∷ xs) ys =
      let next = m + cond (is_payload x) 1 0 in
      let rest = behind_later kind next xs ys in
      let same : next + payload_count xs ≡ m + payload_count (x ∷ xs) = omega arith in
      let from = ap (λ j. behind kind j ys) same in
      later_by (nat_le m k.number) (asks_close kind x) (is_behind_close kind k.number next (xs ++ ys)) (behind kind (m + payload_count (x ∷ xs)) ys)
      (λ late. behind_late kind m (m + payload_count (x ∷ xs)) ys late (omega arith)) (omega (arith, rest, from))

  -- what counts of a data stream where closes don't: the payload was read, behind a close
  abbrev pub was_behind : Stream → ℕ
  was_behind s = cond (nat_le (count_of k s) k.number) 0 (behind (kind_of s.goal) 0 (k.readable (has_values s.goal) s.bytes).0)

  either : (a : Bool) (n : ℕ) → n ≤ 1 → n ≤ cond a 1 0 + cond a 0 n
  either true n few = omega (arith, few)
  either false n few = omega arith

  now_by : (a : Bool) (b x y : ℕ) → cond a 1 0 ≤ x + y → b ≤ y → cond a 1 0 + cond a 0 b ≤ x + y
  now_by true b x y all less = omega (arith, all)
  now_by false b x y all less = omega (arith, less)

  behind_few : (kind : Kind) (m : ℕ) (items : List Item) → behind kind m items ≤ 1
  behind_few kind m items = bit (is_behind_close kind k.number m items) where
    bit : (b : Bool) → cond b 1 0 ≤ 1
    bit true = omega arith
    bit false = omega arith

  pub bytes_behind : (mtu : ℕ) (s : Stream) (bytes : List ℕ) (ends : Bool) (acts : List StreamAct) → BytesAsk mtu s bytes ends acts
      → to_come k s + was_behind s ≤ asks_all k acts + closes_all false acts + (to_come k (record s { bytes = s.bytes ++ bytes }) + was_behind (record s { bytes = s.bytes ++ bytes }))
  bytes_behind mtu s bytes ends acts x =
      let control = has_values s.goal in
      let kind = kind_of s.goal in
      let next : Stream = record s { bytes = s.bytes ++ bytes } in
      let before = k.readable control s.bytes in
      let after = k.readable control (s.bytes ++ bytes) in
      let was : before.0 ≡ x.before = k.once control s.bytes before.0 x.before before.1 x.was in
      let now : after.0 ≡ x.before ++ x.items = k.once control (s.bytes ++ bytes) after.0 (x.before ++ x.items) after.1 x.is in
      let count_now : count_of k next ≡ payload_count x.before + payload_count x.items = ap payload_count now ∙ count_append x.before x.items in
      let many = acts_behind kind mtu (payload_count x.before) x.items in
      let from_was = ap (λ (items : List Item). from_on (payload_count items) k.number) was in
      let from_now = ap (λ j. from_on j k.number) count_now in
      let behind_was = ap (behind kind 0) was in
      let behind_now = ap (behind kind 0) now in
      let first = behind_first kind 0 x.before x.items in
      let later = behind_later kind 0 x.before x.items in
      let few = from_few (payload_count x.before) k.number in
      let from_zero = ap (λ j. behind kind j x.items) (none_before (payload_count x.before)) in
      let there = either (nat_le (count_of k next) k.number) (behind kind 0 after.0) (behind_few kind 0 after.0) in
      let asked = ap (asks_all k) x.acts_are ∙ total_append (asks k) (acts_of kind mtu (payload_count x.before) x.items) (cond (list_any is_close (acts_of kind mtu (payload_count x.before) x.items)) [] x.last) in
      let all = now_by (nat_le (count_of k s) k.number) (behind kind 0 before.0) (asks_all k acts) (to_come k next + was_behind next)
      (omega (arith, many, from_was, from_now, behind_now, later, from_zero, few, there, asked)) (omega (arith, behind_was, behind_now, first, there)) in
      omega (arith, all)
    where
      none_before : (n : ℕ) → 0 + n ≡ n
      none_before n = omega arith
