-- Steps, one after another.
use Rattle.std.proofs.Common.{◌≡◌, ℕ, ◌+◌, ◌*◌, ◌/◌, ◌%◌, ◌<◌, ◌≤◌, Bool, List, [], ◌∷◌, ◌++◌, length, take, drop, get_or, Result, Ok, Err, sym, ◌∙◌, ap, arith, append_assoc, append-nil, length-append}
use Rattle.std.proofs.lemmas.Grind.{flat_map-append}
use Rattle.std.proofs.lemmas.List.{take-append-drop, take_more}
use Rattle.mq_huff.specs.declared.fault.HuffFault.{HuffFault}
use Rattle.mq_huff.specs.declared.fault.HuffFault.TheVariants.{Padding, Eos, NoMemory}
use Rattle.mq_huff.specs.Code.{bits_of, code_of}
use Rattle.mq_huff.specs.Answer.{Tells}
use Rattle.mq_huff.specs.Coded.{bits, joined, AreBytes, IsCoded, IsBadlyPadded}
use Rattle.mq_huff.specs.State.{read_at, Steps}
use Rattle.mq_huff.proofs.Bits.{bits_of-add, bits_of_low}
use Rattle.mq_huff.proofs.Rules.{state_padded, state_unpadded}
use Rattle.mq_huff.proofs.Unique.{state_no_code}

pub joined-append : (a b : List ℕ) → joined (a ++ b) ≡ joined a ++ joined b
joined-append a b = flat_map-append code_of a b

pub bits-append : (a b : List ℕ) → bits (a ++ b) ≡ bits a ++ bits b
bits-append a b = flat_map-append (bits_of 8) a b

pub joined_symbol : (before : List ℕ) (read next : List Bool) (s : ℕ) → read ≡ code_of s ++ next → joined before ++ read ≡ joined (before ++ s ∷ []) ++ next
joined_symbol before read next s h =
    ap (λ x. joined before ++ x) h
    ∙ sym (append_assoc (joined before) (code_of s) next)
    ∙ ap (λ x. joined before ++ x ++ next) (sym (append-nil (code_of s)))
    ∙ ap (λ x. x ++ next) (sym (joined-append before (s ∷ [])))

pub joined_end : (before : List ℕ) (read : List Bool) → ((rest : List Bool) × (read ≡ code_of 256 ++ rest)) → (rest : List Bool) × (joined before ++ read ≡ joined before ++ code_of 256 ++ rest)
joined_end before read h = (h.0, ap (λ x. joined before ++ x) h.1 ∙ sym (append_assoc (joined before) (code_of 256) h.0))

-- a step that failed has failed with more bits too
pub fails_still : (before after : List ℕ) (x y : List Bool) (fault : HuffFault) → Steps before after x (Err fault) → Steps before after (x ++ y) (Err fault)
fails_still before after x y Padding h = h
fails_still before after x y Eos h =
    (h.0 ++ y, sym (append_assoc (joined before) x y) ∙ ap (λ z. z ++ y) h.1 ∙ append_assoc (joined after ++ code_of 256) h.0 y)
fails_still before after x y NoMemory h = h

-- a step and then another
pub then_steps : (before between after : List ℕ) (x y : List Bool) (middle : ℕ) (r : Result ℕ HuffFault) →
    joined before ++ x ≡ joined between ++ read_at middle → Steps between after (read_at middle ++ y) r → Steps before after (x ++ y) r
then_steps before between after x y middle (Ok next) h k =
    sym (append_assoc (joined before) x y) ∙ ap (λ z. z ++ y) h ∙ append_assoc (joined between) (read_at middle) y ∙ k
then_steps before between after x y middle (Err Padding) h k = k
then_steps before between after x y middle (Err Eos) h k =
    (k.0, sym (append_assoc (joined before) x y) ∙ ap (λ z. z ++ y) h ∙ append_assoc (joined between) (read_at middle) y ∙ k.1)
then_steps before between after x y middle (Err NoMemory) h k = k

-- the eight bits of a byte are its upper four and its lower four
pub halves : (byte : ℕ) → bits_of 8 byte ≡ bits_of 4 (byte / 16) ++ bits_of 4 (byte % 16)
halves byte =
    let z : byte ≡ byte / 16 * 16 + byte % 16 = omega arith in
    bits_of-add 4 4 byte
    ∙ ap (λ x. bits_of 4 (byte / 16) ++ x) (ap (λ x. bits_of 4 x) z ∙ bits_of_low 4 4 (byte / 16) (byte % 16) (omega arith))

-- the state before, and a byte by halves
pub by_halves : (read : List Bool) (byte : ℕ) → read ++ bits_of 8 byte ≡ read ++ bits_of 4 (byte / 16) ++ bits_of 4 (byte % 16)
by_halves read byte = ap (λ x. read ++ x) (halves byte) ∙ sym (append_assoc read (bits_of 4 (byte / 16)) (bits_of 4 (byte % 16)))

-- one more byte of a text
pub bits_more : (xs : List ℕ) (i : ℕ) → i < length xs → bits (take (i + 1) xs) ≡ bits (take i xs) ++ bits_of 8 (get_or xs i 0)
bits_more xs i h =
    ap (λ x. bits x) (take_more xs i 0 h)
    ∙ bits-append (take i xs) (get_or xs i 0 ∷ [])
    ∙ ap (λ x. bits (take i xs) ++ x) (append-nil (bits_of 8 (get_or xs i 0)))

pub walked : (xs before after : List ℕ) (i state next : ℕ) → i < length xs → bits (take i xs) ≡ joined before ++ read_at state →
    joined before ++ (read_at state ++ bits_of 8 (get_or xs i 0)) ≡ joined after ++ read_at next → bits (take (i + 1) xs) ≡ joined after ++ read_at next
walked xs before after i state next lt h k =
    bits_more xs i lt
    ∙ ap (λ x. x ++ bits_of 8 (get_or xs i 0)) h
    ∙ append_assoc (joined before) (read_at state) (bits_of 8 (get_or xs i 0))
    ∙ k

-- what a fault tells of the whole text
pub told : (xs before after : List ℕ) (i state : ℕ) (fault : HuffFault) → i < length xs → AreBytes after → bits (take i xs) ≡ joined before ++ read_at state →
    Steps before after (read_at state ++ bits_of 8 (get_or xs i 0)) (Err fault) → Tells xs (Err fault)
told xs before after i state Padding lt b h k = absurd k
told xs before after i state NoMemory lt b h k = tt
told xs before after i state Eos lt b h k =
    let front = bits_more xs i lt ∙ ap (λ x. x ++ bits_of 8 (get_or xs i 0)) h ∙ append_assoc (joined before) (read_at state) (bits_of 8 (get_or xs i 0)) ∙ k.1 in
    let whole = ap (λ x. bits x) (sym (take-append-drop (i + 1) xs)) ∙ bits-append (take (i + 1) xs) (drop (i + 1) xs) in
    record {
      text = after;
      rest = k.0 ++ bits (drop (i + 1) xs);
      are_bytes = b;
      met = whole ∙ ap (λ x. x ++ bits (drop (i + 1) xs)) front ∙ append_assoc (joined after ++ code_of 256) k.0 (bits (drop (i + 1) xs));
    }

-- what the state at the end tells
pub ends_coded : (xs out : List ℕ) (state : ℕ) → state < 8 → AreBytes out → bits xs ≡ joined out ++ read_at state → IsCoded out xs
ends_coded xs out state lt b h = record {
  are_bytes = b;
  padding = state;
  short = lt;
  spelled = h ∙ ap (λ x. joined out ++ x) (state_padded state lt);
}

pub ends_badly : (xs out : List ℕ) (state : ℕ) → 8 ≤ state → state < 256 → AreBytes out → bits xs ≡ joined out ++ read_at state → IsBadlyPadded xs
ends_badly xs out state le lt b h = record {
  text = out;
  rest = read_at state;
  are_bytes = b;
  spelled = h;
  last = state_no_code state lt;
  bad = state_unpadded state le lt;
}

-- nothing was read at first
pub start : [] ≡ joined [] ++ read_at 0
start = sym (state_padded 0 (omega arith))

-- one more byte's code
pub joined_more : (xs : List ℕ) (i : ℕ) → i < length xs → joined (take (i + 1) xs) ≡ joined (take i xs) ++ code_of (get_or xs i 0)
joined_more xs i h =
    ap (λ x. joined x) (take_more xs i 0 h)
    ∙ joined-append (take i xs) (get_or xs i 0 ∷ [])
    ∙ ap (λ x. joined (take i xs) ++ x) (append-nil (code_of (get_or xs i 0)))

pub length-joined_more : (xs : List ℕ) (i : ℕ) → i < length xs → length (joined (take (i + 1) xs)) ≡ length (joined (take i xs)) + length (code_of (get_or xs i 0))
length-joined_more xs i h = ap (λ x. length x) (joined_more xs i h) ∙ length-append (joined (take i xs)) (code_of (get_or xs i 0))
