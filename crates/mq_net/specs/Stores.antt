-- What waits in a network, in a room for answers that was taken before; and how it is kept.
use Rattle.std.specs.Prelude.{◌≡◌, ℕ, ◌+◌, ◌≤◌, ◌&&◌, Bool, true, List, [], ◌∷◌, ◌++◌, length, take, drop, replicate, sum_by, nat_lt, nat_le, if◌then◌else◌, Option, Some, None}
use Rattle.mq_outside.specs.Nets.{Arrival, by_itself, answers_in}
use Rattle.mq_net.specs.declared.store.Waiting.{Waiting}
use Rattle.mq_net.specs.declared.store.Waiting.TheVariants.{Arrived, Answer}

pub record Store : Type 0 where
  -- oldest first
  pub arrived : List Arrival
  -- the most answers that wait, and their most bytes
  pub most : ℕ
  pub most_bytes : ℕ

abbrev pub new_store : ℕ → ℕ → Store
new_store most most_bytes = record { arrived = []; most = most; most_bytes = most_bytes }

abbrev pub an_answer : List ℕ → Arrival
an_answer packet = record { packet = packet; is_answer = true }

-- there is room for one more answer
abbrev pub fits : Store → List ℕ → Bool
fits s answer = nat_lt (length (answers_in s.arrived)) s.most && nat_le (sum_by length (answers_in s.arrived) + length answer) s.most_bytes

-- an answer waits last, or is swallowed
abbrev pub after_answer : Store → List ℕ → Store
after_answer s answer = if fits s answer then record s { arrived = s.arrived ++ an_answer answer ∷ [] } else s

-- the first was taken
pub record TakesFirst (before after : Store) (packet : List ℕ) : Type 0 where
  pub first : Arrival
  pub others : List Arrival
  pub arrived_are : before.arrived ≡ first ∷ others
  pub packet_is : packet ≡ first.packet
  pub after_is : after ≡ record before { arrived = others }

abbrev pub Takes : Store → Store → List ℕ → Option ℕ → Type 0
Takes before after buffer None = (before.arrived ≡ []) × (after ≡ before)
Takes before after buffer (Some size) = (size ≤ 65535) × (size ≤ length buffer) × TakesFirst before after (take size buffer)

-- ---- how it is kept: copies of a packet stand for themselves, and the bytes of all answers stand in one list

abbrev pub unpacked : List Waiting → List ℕ → List Arrival
unpacked [] bytes = []
unpacked (Arrived packet more ∷ waiting) bytes = replicate (more + 1) (by_itself packet) ++ unpacked waiting bytes
unpacked (Answer size ∷ waiting) bytes = an_answer (take size bytes) ∷ unpacked waiting (drop size bytes)

-- how many answers wait, and how many bytes they have
abbrev pub count_of : List Waiting → ℕ
count_of [] = 0
count_of (Arrived packet more ∷ waiting) = count_of waiting
count_of (Answer size ∷ waiting) = 1 + count_of waiting

abbrev pub bytes_of : List Waiting → ℕ
bytes_of [] = 0
bytes_of (Arrived packet more ∷ waiting) = bytes_of waiting
bytes_of (Answer size ∷ waiting) = size + bytes_of waiting

abbrev pub IsShort : Waiting → Type 0
IsShort (Arrived packet more) = length packet ≤ 65535
IsShort (Answer size) = size ≤ 65535
