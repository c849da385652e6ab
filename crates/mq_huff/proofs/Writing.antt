-- Bits that are collected and written as bytes.
use Rattle.std.proofs.Common.{◌≡◌, ℕ, ◌+◌, ◌-◌, ◌*◌, ◌/◌, ◌%◌, ◌^◌, ◌<◌, ◌≤◌, Bool, true, List, [], ◌∷◌, ◌++◌, length, take, get_or, refl, sym, ◌∙◌, ap, subst, arith, append_assoc, append-nil, mul_comm}
use Rattle.std.specs.Prelude.{replicate}
use Rattle.std.specs.Int.{w32, to_be_bytes}
use Rattle.std.proofs.lemmas.Nat.{shr_split, shl_whole, pow-add, shr_below, mul-add-lt, pow_below}
use Rattle.mq_huff.specs.Code.{bits_of, code_of}
use Rattle.mq_huff.specs.Coded.{bits, joined}
use Rattle.mq_huff.specs.Encoded.{Appends, AppendsBits, AppendsPadded}
use Rattle.mq_huff.proofs.Bits.{bits_of-add, bits_of_low, bits_of-ones}
use Rattle.mq_huff.proofs.Reading.{bits-append, joined_more}

-- bits above those that are looked at don't matter
pub bits_of-mod : (k n : ℕ) → bits_of k (n % 2 ^ k) ≡ bits_of k n
bits_of-mod k n =
    sym (bits_of_low k k (n / 2 ^ k) (n % 2 ^ k) (omega arith)) ∙ ap (λ x. bits_of k x) (shr_split n k)

-- a word moved up, with a number below it
pub moved : (word waiting size : ℕ) → word < 2 ^ waiting → waiting + size ≤ 62 → word * 2 ^ size % 2 ^ 64 ≡ word * 2 ^ size
moved word waiting size h r = shl_whole word waiting size 64 h (omega arith)

pub below : (word waiting number size : ℕ) → word < 2 ^ waiting → number < 2 ^ size → word * 2 ^ size + number < 2 ^ (waiting + size)
below word waiting number size h f =
    let l = mul-add-lt word (2 ^ size) number (2 ^ waiting) h f in
    subst (λ x. word * 2 ^ size + number < x) (mul_comm (2 ^ size) (2 ^ waiting) ∙ sym (pow-add 2 waiting size)) l

-- numbers of at most 62 bits fit a word
pub fits_word : (n k : ℕ) → n < 2 ^ k → k ≤ 62 → n < 2 ^ 64
fits_word n k h le =
    let p = pow_below k 64 (omega arith) in
    omega arith

byte_of : (n : ℕ) → bits_of 8 (n % 256) ≡ bits_of 8 n
byte_of n = bits_of-mod 8 n

-- the bits of a number's four bytes
pub bits_of_four : (n : ℕ) → bits (to_be_bytes w32 n) ≡ bits_of 32 n
bits_of_four n =
    ap (λ x. x ++ (bits_of 8 (n / 65536 % 256) ++ (bits_of 8 (n / 256 % 256) ++ (bits_of 8 (n % 256) ++ [])))) (byte_of (n / 16777216))
    ∙ ap (λ x. bits_of 8 (n / 16777216) ++ (x ++ (bits_of 8 (n / 256 % 256) ++ (bits_of 8 (n % 256) ++ [])))) (byte_of (n / 65536))
    ∙ ap (λ x. bits_of 8 (n / 16777216) ++ (bits_of 8 (n / 65536) ++ (x ++ (bits_of 8 (n % 256) ++ [])))) (byte_of (n / 256))
    ∙ ap (λ x. bits_of 8 (n / 16777216) ++ (bits_of 8 (n / 65536) ++ (bits_of 8 (n / 256) ++ x))) (append-nil (bits_of 8 (n % 256)) ∙ byte_of n)
    ∙ ap (λ x. bits_of 8 (n / 16777216) ++ (bits_of 8 (n / 65536) ++ x)) (sym (bits_of-add 8 8 n))
    ∙ ap (λ x. bits_of 8 (n / 16777216) ++ x) (sym (bits_of-add 8 16 n))
    ∙ sym (bits_of-add 8 24 n)

-- the upper 32 bits that wait, written
pub word_put : (old new : List ℕ) (word left waiting : ℕ) → left + 32 ≡ waiting → new ≡ old ++ to_be_bytes w32 (word / 2 ^ left) →
    AppendsBits old new (bits_of left (word % 2 ^ left)) (bits_of waiting word)
word_put old new word left waiting e h =
    let z : 32 + left ≡ waiting = omega arith in
    record {
      written = to_be_bytes w32 (word / 2 ^ left);
      appended = h;
      spelled =
          ap (λ x. x ++ bits_of left (word % 2 ^ left)) (bits_of_four (word / 2 ^ left))
          ∙ ap (λ x. bits_of 32 (word / 2 ^ left) ++ x) (bits_of-mod left word)
          ∙ sym (bits_of-add 32 left word)
          ∙ ap (λ k. bits_of k word) z;
    }

-- one byte of those that wait, written
pub byte_put : (old mid new : List ℕ) (all : List Bool) (padded left : ℕ) → 8 ≤ left → AppendsBits old mid (bits_of left padded) all →
    new ≡ mid ++ (padded / 2 ^ (left - 8) % 256) ∷ [] → AppendsBits old new (bits_of (left - 8) padded) all
byte_put old mid new all padded left le a h =
    let byte : ℕ = padded / 2 ^ (left - 8) % 256 in
    let z : left ≡ 8 + (left - 8) = omega arith in
    record {
      written = a.written ++ byte ∷ [];
      appended = h ∙ ap (λ x. x ++ byte ∷ []) a.appended ∙ append_assoc old a.written (byte ∷ []);
      spelled =
          ap (λ x. x ++ bits_of (left - 8) padded) (bits-append a.written (byte ∷ []) ∙ ap (λ x. bits a.written ++ x) (append-nil (bits_of 8 byte) ∙ byte_of (padded / 2 ^ (left - 8))))
          ∙ append_assoc (bits a.written) (bits_of 8 (padded / 2 ^ (left - 8))) (bits_of (left - 8) padded)
          ∙ ap (λ x. bits a.written ++ x) (sym (bits_of-add 8 (left - 8) padded) ∙ ap (λ k. bits_of k padded) (sym z))
          ∙ a.spelled;
    }

pub nothing_put : (old : List ℕ) (all : List Bool) → AppendsBits old old all all
nothing_put old all = record { written = []; appended = sym (append-nil old); spelled = refl }

pub more_waiting : (old new : List ℕ) (waiting all more wait' all' : List Bool) → AppendsBits old new waiting all → wait' ≡ waiting ++ more → all' ≡ all ++ more → AppendsBits old new wait' all'
more_waiting old new waiting all more wait' all' a e f = record {
  written = a.written;
  appended = a.appended;
  spelled = ap (λ x. bits a.written ++ x) e ∙ sym (append_assoc (bits a.written) waiting more) ∙ ap (λ x. x ++ more) a.spelled ∙ sym f;
}

pub puts : (old mid new : List ℕ) (waiting left all : List Bool) → AppendsBits old mid waiting all → AppendsBits mid new left waiting → AppendsBits old new left all
puts old mid new waiting left all a b = record {
  written = a.written ++ b.written;
  appended = b.appended ∙ ap (λ x. x ++ b.written) a.appended ∙ append_assoc old a.written b.written;
  spelled =
      ap (λ x. x ++ left) (bits-append a.written b.written)
      ∙ append_assoc (bits a.written) (bits b.written) left
      ∙ ap (λ x. bits a.written ++ x) b.spelled
      ∙ a.spelled;
}

pub puts_padded : (old mid new : List ℕ) (waiting all : List Bool) → AppendsBits old mid waiting all → AppendsPadded mid new waiting → AppendsPadded old new all
puts_padded old mid new waiting all a b = record {
  written = a.written ++ b.written;
  padding = b.padding;
  short = b.short;
  appended = b.appended ∙ ap (λ x. x ++ b.written) a.appended ∙ append_assoc old a.written b.written;
  spelled =
      bits-append a.written b.written
      ∙ ap (λ x. bits a.written ++ x) b.spelled
      ∙ sym (append_assoc (bits a.written) waiting (replicate b.padding true))
      ∙ ap (λ x. x ++ replicate b.padding true) a.spelled;
}

pub some_put : (old new : List ℕ) (waiting all : List Bool) → AppendsBits old new waiting all → Appends old new
some_put old new waiting all a = record { written = a.written; appended = a.appended }

pub then_put : (old mid new : List ℕ) (waiting all : List Bool) → AppendsBits old mid waiting all → Appends mid new → Appends old new
then_put old mid new waiting all a b = record {
  written = a.written ++ b.written;
  appended = b.appended ∙ ap (λ x. x ++ b.written) a.appended ∙ append_assoc old a.written b.written;
}

-- all is written, with the padding
pub all_put : (old new : List ℕ) (front : List Bool) (all : List Bool) (padded padding : ℕ) → padding < 8 → all ≡ front ++ bits_of padding (2 ^ padding - 1) →
    AppendsBits old new (bits_of 0 padded) all → AppendsPadded old new front
unfolding bits_of
all_put old new front all padded padding lt e a = record {
  written = a.written;
  padding = padding;
  short = lt;
  appended = a.appended;
  spelled = sym (append-nil (bits a.written)) ∙ a.spelled ∙ e ∙ ap (λ x. front ++ x) (bits_of-ones padding);
}

-- the upper 32 bits fit four bytes
pub split_fits : (word waiting : ℕ) → 32 ≤ waiting → word < 2 ^ waiting → word / 2 ^ (waiting - 32) < 2 ^ 32
split_fits word waiting le h =
    let z : waiting ≡ 32 + (waiting - 32) = omega arith in
    shr_below word 32 (waiting - 32) (subst (λ k. word < 2 ^ k) z h)

-- one more code waits
pub code_waits : (old new xs : List ℕ) (i word waiting size number size' number' word' : ℕ) → i < length xs →
    AppendsBits old new (bits_of waiting word) (joined (take i xs)) → code_of (get_or xs i 0) ≡ bits_of size number → size' ≡ size → number' ≡ number →
    bits_of (waiting + size') word' ≡ bits_of waiting word ++ bits_of size' number' → AppendsBits old new (bits_of (waiting + size') word') (joined (take (i + 1) xs))
code_waits old new xs i word waiting size number size' number' word' lt a code e f h =
    let c : code_of (get_or xs i 0) ≡ bits_of size' number' = code ∙ sym (ap (λ k. bits_of k number') e ∙ ap (λ n. bits_of size n) f) in
    more_waiting old new (bits_of waiting word) (joined (take i xs)) (bits_of size' number') (bits_of (waiting + size') word') (joined (take (i + 1) xs)) a h
    (joined_more xs i lt ∙ ap (λ x. joined (take i xs) ++ x) c)
