-- Texts in lower-case hex.
use Rattle.std.proofs.Common.{◌≡◌, ◌≢◌, ℕ, zero, suc, ◌+◌, ◌*◌, ◌/◌, ◌%◌, ◌<◌, ◌==◌, nat_lt, Bool, true, ◌&&◌, ◌⊎◌, inl, inr, List, [], ◌∷◌, length, slice_index, All, Option, Some, None, Result, Ok, Err, refl, sym, ◌∙◌, ap, arith, if◌then◌else◌}
use Rattle.std.specs.Result.{result_unwrap_or}
use Rattle.std.proofs.lemmas.Bool.{and_parts, cases_lt, eqb-true}
use Rattle.std.proofs.lemmas.Bool.Decides.{nat_tests}
use Rattle.std.proofs.lemmas.List.Elements.{All-cons, All-head, All-tail, All-nil, All-from_get_or}
use Rattle.std.proofs.lemmas.List.{get_or_past}
use Rattle.hex.specs.Hex.{IsBytes, decode_of, decode_pairs, digit_or_error, hex_digit_value, encode_lower, encode_with, lower_digits, pair_value, value_at, ◌>>=◌}
use Rattle.hex.specs.declared.error.FromHexError.{FromHexError}
use Rattle.hex.specs.declared.error.FromHexError.TheVariants.{OutOfMemory}
use Rattle.hex.proofs.HexLemmas.{decode_of-encode_lower, decode_of-ok, decode_of-even}
use Rattle.mq_text.specs.Cut.{Lacks}

-- the text is these bytes in hex
abbrev pub IsHexOf : List ℕ → List ℕ → Type 0
IsHexOf text bytes = All (λ b. b < 256) bytes × (text ≡ encode_lower bytes)

-- no capital hex digit
abbrev pub IsLow : ℕ → Type 0
IsLow c = (c < 65) ⊎ (70 < c)

-- the lower-case digit of a value
abbrev glyph : ℕ → ℕ
glyph d = if nat_lt d 10 then 48 + d else 87 + d

abbrev all_glyphs : ℕ → Bool
all_glyphs zero = true
all_glyphs (suc n) = (slice_index lower_digits n == glyph n) && all_glyphs n

glyph_below : (n k : ℕ) → all_glyphs n ≡ true → k < n → (slice_index lower_digits k == glyph k) ≡ true
glyph_below zero k h lt = absurd (omega arith)
glyph_below (suc n) k h lt =
    let parts = and_parts (slice_index lower_digits n == glyph n) (all_glyphs n) h in
    elim (cases_lt k n) [
      | inl below ↦ glyph_below n k parts.1 below
      | inr top ↦ let e : k ≡ n = omega arith in rw e parts.0
    ]

digit_is : (d : ℕ) → d < 16 → slice_index lower_digits d ≡ glyph d
digit_is d h = eqb-true (slice_index lower_digits d) (glyph d) (glyph_below 16 d refl h)

low_glyph : (d : ℕ) → d < 16 → IsLow (glyph d)
low_glyph d h =
    elim (cases_lt d 10) [
      | inl small ↦ (let e : glyph d ≡ 48 + d = grind (arith, nat_tests) in inl (omega arith))
      | inr great ↦ (let e : glyph d ≡ 87 + d = grind (arith, nat_tests) in inr (omega arith))
    ]

low_digit : (d : ℕ) → d < 16 → IsLow (slice_index lower_digits d)
low_digit d h = rw (digit_is d h) (low_glyph d h)

-- a digit that isn't a capital is the lower-case one of its value
read_glyph : (c v : ℕ) → IsLow c → hex_digit_value c ≡ Some v → (v < 16) × (c ≡ glyph v)
read_glyph c v low e = grind (arith, nat_tests)

read_digit : (c v : ℕ) → IsLow c → hex_digit_value c ≡ Some v → (v < 16) × (c ≡ slice_index lower_digits v)
read_digit c v low e = let r = read_glyph c v low e in (r.0, r.1 ∙ sym (digit_is v r.0))

-- what `encode` writes has no capitals
pub low_encoded : (bytes : List ℕ) → IsBytes bytes → All IsLow (encode_lower bytes)
unfolding encode_with
low_encoded [] h = All-nil IsLow
low_encoded (b ∷ bs) h =
    let fits : b < 256 = h 0 in
    All-cons IsLow (slice_index lower_digits (b / 16)) (slice_index lower_digits (b % 16) ∷ encode_lower bs) (low_digit (b / 16) (omega arith))
    (All-cons IsLow (slice_index lower_digits (b % 16)) (encode_lower bs) (low_digit (b % 16) (omega arith)) (low_encoded bs (λ k. h (suc k))))

bind_ok : {A B : Type 0} (r : Result A FromHexError) (f : A → Result B FromHexError) (y : B)
    → (r >>= f) ≡ Ok y → (x : A) × (r ≡ Ok x) × (f x ≡ Ok y)
bind_ok (Ok x) f y h = (x, refl, h)
bind_ok (Err e) f y h = cc h

value_read : (c i : ℕ) (o : Option ℕ) (v : ℕ) → digit_or_error c i o ≡ Ok v → o ≡ Some v
value_read c i (Some w) v h = ap Some (ap (λ (r : Result ℕ FromHexError). result_unwrap_or r 0) h)
value_read c i None v h = cc h

-- the digits of a byte that two digits spell
pair_digits : (a b high low : ℕ) (rest : List ℕ) → high < 16 → low < 16 → a ≡ slice_index lower_digits high → b ≡ slice_index lower_digits low
    → a ∷ b ∷ encode_lower rest ≡ encode_lower ((high * 16 + low) ∷ rest)
unfolding encode_with
pair_digits a b high low rest h l first second =
    let top : (high * 16 + low) / 16 ≡ high = omega arith in
    let bottom : (high * 16 + low) % 16 ≡ low = omega arith in
    rw (top, bottom, first, second) refl

-- pairs of digits without capitals are what `encode` writes
low_pairs : (i : ℕ) (text bytes : List ℕ) → All IsLow text → decode_pairs i text ≡ Ok bytes → text ≡ encode_lower bytes
unfolding decode_pairs encode_with
low_pairs i [] bytes low h =
    let e : [] ≡ bytes = ap (λ (r : Result (List ℕ) FromHexError). result_unwrap_or r []) h in
    rw (← e) refl
low_pairs i (a ∷ []) bytes low h = cc h
low_pairs i (a ∷ b ∷ rest) bytes low h =
    let p0 = bind_ok (pair_value a b i) _ bytes h in
    let p1 = bind_ok (value_at a i) _ p0.0 p0.1 in
    let p2 = bind_ok (value_at b (i + 1)) _ p0.0 p1.2 in
    let p3 = bind_ok (decode_pairs (i + 2) rest) _ bytes p0.2 in
    let tail = All-tail IsLow a (b ∷ rest) low in
    let va = read_digit a p1.0 (All-head IsLow a (b ∷ rest) low) (value_read a i (hex_digit_value a) p1.0 p1.1) in
    let vb = read_digit b p2.0 (All-head IsLow b rest tail) (value_read b (i + 1) (hex_digit_value b) p2.0 p2.1) in
    let ih = low_pairs (i + 2) rest p3.0 (All-tail IsLow b rest tail) p3.1 in
    let byte : p1.0 * 16 + p2.0 ≡ p0.0 = ap (λ (r : Result ℕ FromHexError). result_unwrap_or r 0) p2.2 in
    let e : p0.0 ∷ p3.0 ≡ bytes = ap (λ (r : Result (List ℕ) FromHexError). result_unwrap_or r []) p3.2 in
    ap (λ (xs : List ℕ). a ∷ b ∷ xs) ih
    ∙ pair_digits a b p1.0 p2.0 p3.0 va.0 vb.0 va.1 vb.1
    ∙ ap (λ (x : ℕ). encode_lower (x ∷ p3.0)) byte
    ∙ ap encode_lower e

-- every element is a byte, as `hex` says it
bytes_from_all : (xs : List ℕ) → All (λ b. b < 256) xs → IsBytes xs
bytes_from_all xs h i =
    elim (cases_lt i (length xs)) [
      | inl here ↦ h i 0 here
      | inr past ↦ (let none : slice_index xs i ≡ 0 = get_or_past xs i 0 past in omega (arith, none))
    ]

all_from_bytes : (xs : List ℕ) → IsBytes xs → All (λ b. b < 256) xs
all_from_bytes xs h = All-from_get_or (λ b. b < 256) xs 0 (λ i lt. h i)

-- what `decode` reads of a text without capitals
pub hex_says : (text bytes : List ℕ) → All IsLow text → decode_of text ≡ Ok bytes → IsHexOf text bytes
hex_says text bytes low e =
    let read = decode_of-ok text bytes e in
    (all_from_bytes bytes read.3, low_pairs 0 text bytes low (sym (decode_of-even text read.0) ∙ e))

-- a text in hex is read
pub hex_read : (text bytes : List ℕ) → IsHexOf text bytes → decode_of text ≡ Ok bytes
hex_read text bytes h = ap decode_of h.1 ∙ decode_of-encode_lower bytes (bytes_from_all bytes h.0)

pub hex_low : (text bytes : List ℕ) → IsHexOf text bytes → All IsLow text
hex_low text bytes h = let text_is = h.1 in rw text_is (low_encoded bytes (bytes_from_all bytes h.0))

pub one_hex : (text a b : List ℕ) → IsHexOf text a → IsHexOf text b → a ≡ b
one_hex text a b h k = ap (λ (r : Result (List ℕ) FromHexError). result_unwrap_or r []) (sym (hex_read text a h) ∙ hex_read text b k)

-- a text that `decode` refuses isn't hex
pub hex_refused : (text : List ℕ) (e : FromHexError) → (e ≢ OutOfMemory) → (e ≡ OutOfMemory) ⊎ (decode_of text ≡ Err e) → (value : List ℕ) → IsHexOf text value → ⊥
hex_refused text e n (inl is) value h = n is
hex_refused text e n (inr is) value h = let read = hex_read text value h in cc

-- no digit is a space
digit_seen : (d : ℕ) → d < 16 → slice_index lower_digits d ≡ 32 → ⊥
digit_seen d h e =
    elim (cases_lt d 10) [
      | inl small ↦ (let is : glyph d ≡ 48 + d = grind (arith, nat_tests) in absurd (omega (arith, digit_is d h, e, is)))
      | inr great ↦ (let is : glyph d ≡ 87 + d = grind (arith, nat_tests) in absurd (omega (arith, digit_is d h, e, is)))
    ]

encoded_lacks : (bytes : List ℕ) → IsBytes bytes → Lacks 32 (encode_lower bytes)
unfolding encode_with
encoded_lacks [] h = tt
encoded_lacks (b ∷ bs) h =
    let fits : b < 256 = h 0 in
    (digit_seen (b / 16) (omega arith), (digit_seen (b % 16) (omega arith), encoded_lacks bs (λ k. h (suc k))))

pub hex_lacks : (bytes : List ℕ) → All (λ b. b < 256) bytes → Lacks 32 (encode_lower bytes)
hex_lacks bytes h = encoded_lacks bytes (bytes_from_all bytes h)
