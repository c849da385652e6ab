-- Numbers and bytes in texts without a byte.
use Rattle.std.proofs.Common.{◌≡◌, ◌≢◌, ◌⊎◌, ℕ, zero, suc, ◌+◌, ◌<◌, ◌≤◌, ◌^◌, ◌/◌, ◌%◌, ◌&&◌, Bool, true, inl, inr, List, [], ◌∷◌, ◌++◌, length, slice_index, decimal, nat_lt, refl, arith}
use Rattle.std.specs.Prelude.{All}
use Rattle.std.proofs.lemmas.Bool.{and_parts, cases_lt, ltb-true}
use Rattle.std.proofs.lemmas.Fmt.{decimal_by_steps}
use Rattle.std.proofs.lemmas.List.{get_or_past}
use Rattle.hex.specs.Hex.{IsBytes, encode_lower, encode_with, lower_digits}
use Rattle.mq_text.specs.Cut.{Lacks}
use Rattle.mq_addr.specs.declared.addr.Addr.{Addr}
use Rattle.mq_addr.specs.declared.addr.Addr.TheVariants.{V4, V6}
use Rattle.mq_addr.specs.Block.{width}

lacks_push : (b : ℕ) (xs : List ℕ) (x : ℕ) → Lacks b xs → x ≢ b → Lacks b (xs ++ x ∷ [])
lacks_push b [] x h n = (n, tt)
lacks_push b (y ∷ ys) x h n = (h.0, lacks_push b ys x h.1 n)

-- digits are from 48 to 57
pub lacks_decimal : (b n : ℕ) → b < 48 ⊎ 57 < b → n < 2 ^ 64 → Lacks b (decimal n)
lacks_decimal b n (inl low) small =
    decimal_by_steps (λ _ ds. Lacks b ds) (λ n h. (λ e. absurd (omega arith), tt)) (λ n ds h l. lacks_push b ds (48 + n % 10) l (λ e. absurd (omega arith))) n small
lacks_decimal b n (inr high) small =
    decimal_by_steps (λ _ ds. Lacks b ds) (λ n h. (λ e. absurd (omega arith), tt)) (λ n ds h l. lacks_push b ds (48 + n % 10) l (λ e. absurd (omega arith))) n small

width_small : (a : Addr) → width a ≤ 128
width_small (V4 bits) = omega arith
width_small (V6 bits) = omega arith

pub length_small : (a : Addr) (n : ℕ) → n ≤ width a → n < 2 ^ 64
length_small a n h = let small = width_small a in omega (arith, h, small)

pub bytes_of : (xs : List ℕ) → All (λ b. b < 256) xs → IsBytes xs
bytes_of xs h i =
    elim (cases_lt i (length xs)) [
      | inl here ↦ h i 0 here
      | inr past ↦ (let none : slice_index xs i ≡ 0 = get_or_past xs i 0 past in omega (arith, none))
    ]

-- hex digits are above 47
abbrev all_high : ℕ → Bool
all_high zero = true
all_high (suc n) = nat_lt 47 (slice_index lower_digits n) && all_high n

digit_high : (n k : ℕ) → all_high n ≡ true → k < n → nat_lt 47 (slice_index lower_digits k) ≡ true
digit_high zero k h lt = absurd (omega arith)
digit_high (suc n) k h lt =
    let parts = and_parts (nat_lt 47 (slice_index lower_digits n)) (all_high n) h in
    elim (cases_lt k n) [
      | inl below ↦ digit_high n k parts.1 below
      | inr top ↦ let e : k ≡ n = omega arith in rw e parts.0
    ]

digit_differs : (b d : ℕ) → b < 48 → d < 16 → slice_index lower_digits d ≢ b
digit_differs b d low h e = let high : 47 < slice_index lower_digits d = ltb-true 47 (slice_index lower_digits d) (digit_high 16 d refl h) in omega arith

encoded_lacks : (b : ℕ) → b < 48 → (bytes : List ℕ) → IsBytes bytes → Lacks b (encode_lower bytes)
unfolding encode_with
encoded_lacks b low [] h = tt
encoded_lacks b low (x ∷ xs) h =
    let fits : x < 256 = h 0 in
    (digit_differs b (x / 16) low (omega arith), (digit_differs b (x % 16) low (omega arith), encoded_lacks b low xs (λ k. h (suc k))))

pub hex_lacks : (b : ℕ) → b < 48 → (bytes : List ℕ) → All (λ x. x < 256) bytes → Lacks b (encode_lower bytes)
hex_lacks b low bytes h = encoded_lacks b low bytes (bytes_of bytes h)
