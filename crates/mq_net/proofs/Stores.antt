-- What waits, as it is kept: one more behind it, and how many answers it has.
use Rattle.std.proofs.Common.{◌≡◌, ℕ, zero, suc, add-one, ◌+◌, ◌-◌, ◌<◌, ◌≤◌, Bool, true, false, ◌&&◌, nat_lt, nat_le, ◌==◌, List, [], ◌∷◌, ◌++◌, length, take, drop, replicate, ◌^◌, refl, sym, subst, ap, ◌∙◌, arith}
use Rattle.std.specs.Prelude.{sum_by}
use Rattle.std.specs.List.{All}
use Rattle.std.proofs.lemmas.List.Elements.{All-push}
use Rattle.std.proofs.lemmas.List.Sums.{sum_by-cons}
use Rattle.std.proofs.lemmas.Bool.{cond-true, cond-false, lt-ltb, le-ltb, le-leb, lt-leb, ne_eqb}
use Rattle.std.proofs.lemmas.List.{take_all, take-append-le, drop-append-le, length-drop, length-take-le, append_assoc, append-nil, length_push, length-append}
use Rattle.mq_outside.specs.Nets.{Arrival, by_itself, answers_in}
use Rattle.mq_net.specs.declared.store.Waiting.{Waiting}
use Rattle.mq_net.specs.declared.store.Waiting.TheVariants.{Arrived, Answer}
use Rattle.mq_net.specs.Stores.{Store, an_answer, fits, after_answer, unpacked, count_of, bytes_of, IsShort, TakesFirst}

-- copies of a packet wait last
pub pushed : (waiting : List Waiting) (bytes packet : List ℕ) (more : ℕ)
    → unpacked (waiting ++ Arrived packet more ∷ []) bytes ≡ unpacked waiting bytes ++ replicate (more + 1) (by_itself packet)
pushed [] bytes packet more = append-nil (replicate (more + 1) (by_itself packet))
pushed (Arrived p m ∷ waiting) bytes packet more =
    ap (λ (l : List Arrival). replicate (m + 1) (by_itself p) ++ l) (pushed waiting bytes packet more)
    ∙ sym (append_assoc (replicate (m + 1) (by_itself p)) (unpacked waiting bytes) (replicate (more + 1) (by_itself packet)))
pushed (Answer size ∷ waiting) bytes packet more = ap (λ (l : List Arrival). an_answer (take size bytes) ∷ l) (pushed waiting (drop size bytes) packet more)

-- an answer waits last
pub answered : (waiting : List Waiting) (bytes answer : List ℕ) → bytes_of waiting ≡ length bytes
    → unpacked (waiting ++ Answer (length answer) ∷ []) (bytes ++ answer) ≡ unpacked waiting bytes ++ an_answer answer ∷ []
answered [] [] answer whole = ap (λ (l : List ℕ). an_answer l ∷ []) (take_all (length answer) answer (omega arith))
answered [] (b ∷ bytes) answer whole = absurd (omega (arith, whole))
answered (Arrived p m ∷ waiting) bytes answer whole =
    ap (λ (l : List Arrival). replicate (m + 1) (by_itself p) ++ l) (answered waiting bytes answer whole)
    ∙ sym (append_assoc (replicate (m + 1) (by_itself p)) (unpacked waiting bytes) (an_answer answer ∷ []))
answered (Answer size ∷ waiting) bytes answer whole =
    let within : size ≤ length bytes = omega (arith, whole) in
    let rest : bytes_of waiting ≡ length (drop size bytes) = rw length-drop (omega (arith, whole)) in
    ap (λ (l : List ℕ). an_answer l ∷ unpacked (waiting ++ Answer (length answer) ∷ []) (drop size (bytes ++ answer))) (take-append-le size bytes answer within)
    ∙ ap (λ (l : List ℕ). an_answer (take size bytes) ∷ unpacked (waiting ++ Answer (length answer) ∷ []) l) (drop-append-le size bytes answer within)
    ∙ ap (λ (l : List Arrival). an_answer (take size bytes) ∷ l) (answered waiting (drop size bytes) answer rest)

-- ---- how many answers there are

none_in : (n : ℕ) (packet : List ℕ) (arrived : List Arrival) → answers_in (replicate n (by_itself packet) ++ arrived) ≡ answers_in arrived
none_in zero packet arrived = refl
none_in (suc n) packet arrived = none_in n packet arrived

pub counted : (waiting : List Waiting) (bytes : List ℕ) → length (answers_in (unpacked waiting bytes)) ≡ count_of waiting
counted [] bytes = refl
counted (Arrived packet more ∷ waiting) bytes =
    ap (λ (l : List (List ℕ)). length l) (none_in (more + 1) packet (unpacked waiting bytes)) ∙ counted waiting bytes
counted (Answer size ∷ waiting) bytes = omega (arith, counted waiting (drop size bytes))

pub summed : (waiting : List Waiting) (bytes : List ℕ) → bytes_of waiting ≡ length bytes → sum_by length (answers_in (unpacked waiting bytes)) ≡ length bytes
summed [] bytes whole = whole
summed (Arrived packet more ∷ waiting) bytes whole =
    ap (λ (l : List (List ℕ)). sum_by length l) (none_in (more + 1) packet (unpacked waiting bytes)) ∙ summed waiting bytes whole
summed (Answer size ∷ waiting) bytes whole =
    let within : size ≤ length bytes = omega (arith, whole) in
    let rest : bytes_of waiting ≡ length (drop size bytes) = rw length-drop (omega (arith, whole)) in
    let here : length (take size bytes) ≡ size = length-take-le size bytes within in
    let behind : length (drop size bytes) ≡ length bytes - size = length-drop size bytes in
    sum_by-cons length (take size bytes) (answers_in (unpacked waiting (drop size bytes))) ∙ omega (arith, here, behind, within, summed waiting (drop size bytes) rest)

shifted : (count room : ℕ) → nat_lt count (count + room) ≡ nat_lt 0 room
shifted count zero = le-ltb count (count + 0) (omega arith) ∙ sym (le-ltb 0 0 (omega arith))
shifted count (suc room) = lt-ltb count (count + suc room) (omega arith) ∙ sym (lt-ltb 0 (suc room) (omega arith))

-- whether there is room for one more answer
pub room_is : (waiting : List Waiting) (bytes answer : List ℕ) (room most : ℕ) → bytes_of waiting ≡ length bytes
    → fits (record { arrived = unpacked waiting bytes; most = count_of waiting + room; most_bytes = most }) answer ≡ (nat_lt 0 room && nat_le (length bytes + length answer) most)
room_is waiting bytes answer room most whole =
    ap (λ n. nat_lt n (count_of waiting + room) && nat_le (sum_by length (answers_in (unpacked waiting bytes)) + length answer) most) (counted waiting bytes)
    ∙ ap (λ n. nat_lt (count_of waiting) (count_of waiting + room) && nat_le (n + length answer) most) (summed waiting bytes whole)
    ∙ ap (λ b. b && nat_le (length bytes + length answer) most) (shifted (count_of waiting) room)

-- ---- one more

pub count_pushed : (waiting : List Waiting) (packet : List ℕ) (more : ℕ) → count_of (waiting ++ Arrived packet more ∷ []) ≡ count_of waiting
count_pushed [] packet more = refl
count_pushed (Arrived p m ∷ waiting) packet more = count_pushed waiting packet more
count_pushed (Answer size ∷ waiting) packet more = ap (λ n. 1 + n) (count_pushed waiting packet more)

pub bytes_pushed : (waiting : List Waiting) (packet : List ℕ) (more : ℕ) → bytes_of (waiting ++ Arrived packet more ∷ []) ≡ bytes_of waiting
bytes_pushed [] packet more = refl
bytes_pushed (Arrived p m ∷ waiting) packet more = bytes_pushed waiting packet more
bytes_pushed (Answer size ∷ waiting) packet more = ap (λ n. size + n) (bytes_pushed waiting packet more)

pub count_answered : (waiting : List Waiting) (size : ℕ) → count_of (waiting ++ Answer size ∷ []) ≡ count_of waiting + 1
count_answered [] size = refl
count_answered (Arrived p m ∷ waiting) size = count_answered waiting size
count_answered (Answer n ∷ waiting) size = omega (arith, count_answered waiting size)

pub bytes_answered : (waiting : List Waiting) (size : ℕ) → bytes_of (waiting ++ Answer size ∷ []) ≡ bytes_of waiting + size
bytes_answered [] size = omega arith
bytes_answered (Arrived p m ∷ waiting) size = bytes_answered waiting size
bytes_answered (Answer n ∷ waiting) size = omega (arith, bytes_answered waiting size)

-- what waits, as it is kept, with room for so many answers more
abbrev pub kept : List Waiting → List ℕ → ℕ → ℕ → Store
kept waiting bytes room most = record { arrived = unpacked waiting bytes; most = count_of waiting + room; most_bytes = most }

-- what holds of what is kept
abbrev pub IsKept : List Waiting → List ℕ → ℕ → ℕ → Type 0
IsKept waiting bytes room capacity = (bytes_of waiting ≡ length bytes) × (length waiting + room ≤ capacity) × (count_of waiting + room < 2 ^ 32) × All IsShort waiting

pub push_keeps : (waiting after : List Waiting) (bytes packet : List ℕ) (more room old capacity : ℕ) → after ≡ waiting ++ Arrived packet more ∷ []
    → IsKept waiting bytes room old → length packet ≤ 65535 → length waiting + (room + 1) ≤ capacity → IsKept after bytes room capacity
push_keeps waiting after bytes packet more room old capacity is keeps short within =
    let len : length after ≡ length waiting + 1 = ap (λ (l : List Waiting). length l) is ∙ length_push waiting (Arrived packet more) in (
      ap (λ (l : List Waiting). bytes_of l) is ∙ bytes_pushed waiting packet more ∙ keeps.0,
      omega (arith, len, within),
      rw (is, count_pushed waiting packet more) keeps.2,
      subst (λ (l : List Waiting). All IsShort l) (sym is) (All-push IsShort waiting (Arrived packet more) keeps.3 short),
    )

pub push_shows : (waiting after : List Waiting) (bytes packet : List ℕ) (more room most : ℕ) → after ≡ waiting ++ Arrived packet more ∷ []
    → kept after bytes room most ≡ record (kept waiting bytes room most) { arrived = unpacked waiting bytes ++ replicate (more + 1) (by_itself packet) }
push_shows waiting after bytes packet more room most is =
    ap (λ (l : List Waiting). kept l bytes room most) is
    ∙ ap (λ (l : List Arrival). record { arrived = l; most = count_of (waiting ++ Arrived packet more ∷ []) + room; most_bytes = most }) (pushed waiting bytes packet more)
    ∙ ap (λ n. record { arrived = unpacked waiting bytes ++ replicate (more + 1) (by_itself packet); most = n + room; most_bytes = most }) (count_pushed waiting packet more)

-- ---- an answer, in a room that it may or may not find

pub answer_keeps : (waiting after : List Waiting) (bytes answer ring : List ℕ) (room old capacity : ℕ) → after ≡ waiting ++ Answer (length answer) ∷ [] → ring ≡ bytes ++ answer
    → IsKept waiting bytes room old → 0 < room → length answer ≤ 65535 → old ≡ capacity → IsKept after ring (room - 1) capacity
answer_keeps waiting after bytes answer ring room old capacity is joined keeps some short same =
    let len : length after ≡ length waiting + 1 = ap (λ (l : List Waiting). length l) is ∙ length_push waiting (Answer (length answer)) in
    let count : count_of after ≡ count_of waiting + 1 = ap (λ (l : List Waiting). count_of l) is ∙ count_answered waiting (length answer) in
    let size : bytes_of after ≡ bytes_of waiting + length answer = ap (λ (l : List Waiting). bytes_of l) is ∙ bytes_answered waiting (length answer) in
    let ring_len : length ring ≡ length bytes + length answer = ap (λ (l : List ℕ). length l) joined ∙ length-append bytes answer in (
      omega (arith, size, ring_len, keeps.0),
      omega (arith, len, keeps.1, some, same),
      omega (arith, count, keeps.2, some),
      subst (λ (l : List Waiting). All IsShort l) (sym is) (All-push IsShort waiting (Answer (length answer)) keeps.3 short),
    )

pub placed : (waiting after : List Waiting) (bytes answer ring : List ℕ) (room most limit : ℕ) → bytes_of waiting ≡ length bytes → 0 < room → length bytes + length answer ≤ most
    → after ≡ waiting ++ Answer (length answer) ∷ [] → ring ≡ bytes ++ answer → limit ≡ most → kept after ring (room - 1) limit ≡ after_answer (kept waiting bytes room most) answer
placed waiting after bytes answer ring room most limit whole some within is joined same =
    let found : (nat_lt 0 room && nat_le (length bytes + length answer) most) ≡ true = rw (lt-ltb 0 room some, le-leb _ _ within) refl in
    let arrived : unpacked after ring ≡ unpacked waiting bytes ++ an_answer answer ∷ [] = rw (is, joined) (answered waiting bytes answer whole) in
    let count : count_of after + (room - 1) ≡ count_of waiting + room = rw is (omega (arith, count_answered waiting (length answer), some)) in
    ap (λ n. kept after ring (room - 1) n) same
    ∙ ap (λ (l : List Arrival). record { arrived = l; most = count_of after + (room - 1); most_bytes = most }) arrived
    ∙ ap (λ n. record { arrived = unpacked waiting bytes ++ an_answer answer ∷ []; most = n; most_bytes = most }) count
    ∙ sym (cond-true _ _ _ (room_is waiting bytes answer room most whole ∙ found))

swallowed : (waiting : List Waiting) (bytes answer : List ℕ) (room most : ℕ) → bytes_of waiting ≡ length bytes → (nat_lt 0 room && nat_le (length bytes + length answer) most) ≡ false
    → kept waiting bytes room most ≡ after_answer (kept waiting bytes room most) answer
swallowed waiting bytes answer room most whole none = sym (cond-false _ _ _ (room_is waiting bytes answer room most whole ∙ none))

pub none_more : (waiting : List Waiting) (bytes answer : List ℕ) (room most : ℕ) → bytes_of waiting ≡ length bytes → room ≡ 0
    → kept waiting bytes room most ≡ after_answer (kept waiting bytes room most) answer
none_more waiting bytes answer room most whole none =
    swallowed waiting bytes answer room most whole (ap (λ b. b && nat_le (length bytes + length answer) most) (le-ltb 0 room (omega (arith, none))))

none_of : (b : Bool) → (b && false) ≡ false
none_of true = refl
none_of false = refl

pub too_long : (waiting : List Waiting) (bytes answer : List ℕ) (room most : ℕ) → bytes_of waiting ≡ length bytes → most < length bytes + length answer
    → kept waiting bytes room most ≡ after_answer (kept waiting bytes room most) answer
too_long waiting bytes answer room most whole past =
    swallowed waiting bytes answer room most whole (ap (λ b. nat_lt 0 room && b) (lt-leb (length bytes + length answer) most past) ∙ none_of (nat_lt 0 room))

-- ---- the first

pub one_copy : (more : ℕ) (packet : List ℕ) (arrived : List Arrival) → replicate (more + 1) (by_itself packet) ++ arrived ≡ by_itself packet ∷ (replicate more (by_itself packet) ++ arrived)
one_copy more packet arrived = rw (add-one more) refl

is_some_number : (n : ℕ) → (suc n == 0) ≡ false
is_some_number n = ne_eqb (suc n) 0 (λ e. omega (arith, e))

-- nothing waits exactly where nothing is kept
pub none_waits : (waiting : List Waiting) (bytes : List ℕ) → (length (unpacked waiting bytes) == 0) ≡ (length waiting == 0)
none_waits [] bytes = refl
none_waits (Arrived packet more ∷ waiting) bytes =
    ap (λ (l : List Arrival). length l == 0) (one_copy more packet (unpacked waiting bytes))
    ∙ is_some_number (length (replicate more (by_itself packet) ++ unpacked waiting bytes))
    ∙ sym (is_some_number (length waiting))
none_waits (Answer size ∷ waiting) bytes = is_some_number (length (unpacked waiting (drop size bytes))) ∙ sym (is_some_number (length waiting))

-- a copy is taken, behind which the others wait
pub takes_copy : (items rest after : List Waiting) (bytes packet front : List ℕ) (more room most : ℕ) → items ≡ Arrived packet more ∷ rest
    → unpacked after bytes ≡ replicate more (by_itself packet) ++ unpacked rest bytes → count_of after ≡ count_of rest → front ≡ packet
    → TakesFirst (kept items bytes room most) (kept after bytes room most) front
takes_copy items rest after bytes packet front more room most is behind count copied = record {
  first = by_itself packet;
  others = replicate more (by_itself packet) ++ unpacked rest bytes;
  arrived_are = ap (λ (l : List Waiting). unpacked l bytes) is ∙ one_copy more packet (unpacked rest bytes);
  packet_is = copied;
  after_is =
      ap (λ (l : List Arrival). record { arrived = l; most = count_of after + room; most_bytes = most }) behind
      ∙ ap (λ n. record { arrived = replicate more (by_itself packet) ++ unpacked rest bytes; most = n + room; most_bytes = most }) (count ∙ sym (ap (λ (l : List Waiting). count_of l) is));
}

pub more_copies : (rest after : List Waiting) (bytes packet : List ℕ) (more fewer : ℕ) → after ≡ Arrived packet fewer ∷ rest → fewer + 1 ≡ more
    → unpacked after bytes ≡ replicate more (by_itself packet) ++ unpacked rest bytes
more_copies rest after bytes packet more fewer is one =
    ap (λ (l : List Waiting). unpacked l bytes) is ∙ ap (λ n. replicate n (by_itself packet) ++ unpacked rest bytes) one

pub last_copy : (rest : List Waiting) (bytes packet : List ℕ) (more : ℕ) → more ≡ 0 → unpacked rest bytes ≡ replicate more (by_itself packet) ++ unpacked rest bytes
last_copy rest bytes packet more none = rw none refl

pub takes_answer : (items rest : List Waiting) (bytes ring front : List ℕ) (size room most limit : ℕ) → items ≡ Answer size ∷ rest → ring ≡ drop size bytes → front ≡ take size bytes
    → limit ≡ most → TakesFirst (kept items bytes room most) (kept rest ring (room + 1) limit) front
takes_answer items rest bytes ring front size room most limit is left copied same = record {
  first = an_answer (take size bytes);
  others = unpacked rest (drop size bytes);
  arrived_are = ap (λ (l : List Waiting). unpacked l bytes) is;
  packet_is = copied;
  after_is =
      let count : count_of rest + (room + 1) ≡ count_of items + room = rw is (omega arith) in
      ap (λ n. kept rest ring (room + 1) n) same
      ∙ ap (λ (l : List ℕ). kept rest l (room + 1) most) left
      ∙ ap (λ n. record { arrived = unpacked rest (drop size bytes); most = n; most_bytes = most }) count;
}
