-- Integers, byte by byte.
use Rattle.std.proofs.Common.{◌≡◌, ℕ, ◌+◌, ◌-◌, ◌*◌, ◌%◌, ◌^◌, ◌<◌, ◌≤◌, zero, suc, cond, List, [], ◌∷◌, length, Some, None, Result, Ok, Err, refl, sym, ◌∙◌, ap, subst, arith, pow-suc, add-one, lit≤}
use Rattle.std.proofs.lemmas.Bool.{lt-ltb, le-ltb}
use Rattle.std.proofs.lemmas.Nat.{mul-le}
use Rattle.std.proofs.lemmas.Option.{none-some, same_Some}
use Rattle.std.specs.Prelude.{Option, nat_lt, OkIff}
use Rattle.std.specs.Result.{result_ok}
use Rattle.mq_hpack.specs.Integer.{further, integer_of}

-- what a further byte is worth
pub worth_small : (i : ℕ) → i < 5 → 128 ^ i ≤ 268435456
worth_small zero h = lit≤ tt
worth_small (suc zero) h = lit≤ tt
worth_small (suc (suc zero)) h = lit≤ tt
worth_small (suc (suc (suc zero))) h = lit≤ tt
worth_small (suc (suc (suc (suc zero)))) h = lit≤ tt
worth_small (suc (suc (suc (suc (suc i))))) h = absurd (omega arith)

pub worth_next : (i : ℕ) → 128 ^ i * 128 ≡ 128 ^ (i + 1)
worth_next i = sym (ap (λ k. 128 ^ k) (add-one i) ∙ pow-suc 128 i)

pub part_small : (b w : ℕ) → b ≤ 255 → w ≤ 268435456 → b * w ≤ 68451041280
part_small b w h k = mul-le b w 255 268435456 h k

pub part_below : (b w : ℕ) → b ≤ 127 → b * w ≤ 127 * w
part_below b w h = mul-le b w 127 w h (omega arith)

pub last_byte : (i w n b : ℕ) (bs : List ℕ) → i < 5 → b < 128 → further (5 - i) w n (b ∷ bs) ≡ cond (nat_lt (n + b * w) (2 ^ 32)) (Some (n + b * w, bs)) None
last_byte i w n b bs h lt =
    let e : 5 - i ≡ suc (4 - i) = omega arith in
    ap (λ k. further k w n (b ∷ bs)) e ∙ ap (λ t. cond t (cond (nat_lt (n + b * w) (2 ^ 32)) (Some (n + b * w, bs)) None) (further (4 - i) (w * 128) (n + (b - 128) * w) bs)) (lt-ltb b 128 lt)

pub more_byte : (i w n b : ℕ) (bs : List ℕ) → i < 5 → 128 ≤ b → further (5 - i) w n (b ∷ bs) ≡ further (5 - (i + 1)) (w * 128) (n + (b - 128) * w) bs
more_byte i w n b bs h le =
    let e : 5 - i ≡ suc (4 - i) = omega arith in
    let f : 4 - i ≡ 5 - (i + 1) = omega arith in
    ap (λ k. further k w n (b ∷ bs)) e
    ∙ ap (λ t. cond t (cond (nat_lt (n + b * w) (2 ^ 32)) (Some (n + b * w, bs)) None) (further (4 - i) (w * 128) (n + (b - 128) * w) bs)) (le-ltb b 128 le)
    ∙ ap (λ k. further k (w * 128) (n + (b - 128) * w) bs) f

-- a number that ends is given where it fits, and none where it doesn't
pub whole_is : (n : ℕ) (after : List ℕ) → n < 2 ^ 32 → cond {A = Option (ℕ × List ℕ)} (nat_lt n (2 ^ 32)) (Some (n, after)) None ≡ Some (n, after)
whole_is n after h = ap (λ t. cond t (Some (n, after)) None) (lt-ltb n (2 ^ 32) h)

pub too_large : (n : ℕ) (after : List ℕ) → 2 ^ 32 ≤ n → cond {A = Option (ℕ × List ℕ)} (nat_lt n (2 ^ 32)) (Some (n, after)) None ≡ None
too_large n after h = ap (λ t. cond t (Some (n, after)) None) (le-ltb n (2 ^ 32) h)

-- the last byte, as the code has it
pub ended : (i w n b full : ℕ) (bytes rest : List ℕ) (first : ℕ) (after : List ℕ) → further 5 1 full bytes ≡ further (5 - i) w n rest → rest ≡ first ∷ after → b ≡ first → i < 5 → first < 128 →
    further 5 1 full bytes ≡ cond (nat_lt (n + b * w) (2 ^ 32)) (Some (n + b * w, after)) None
ended i w n b full bytes rest first after e f g h lt =
    e ∙ ap (λ xs. further (5 - i) w n xs) (f ∙ ap (λ x. x ∷ after) (sym g)) ∙ last_byte i w n b after h (omega (arith, g, lt))

-- what a conversion to 32 bits tells of the number
pub fits : {E : Type 0} (r : Result ℕ E) (n w : ℕ) → OkIff r (n < 2 ^ 32) n → result_ok r ≡ Some w → (n < 2 ^ 32) × (w ≡ n)
fits (Ok x) n w h e = (h.0, sym (same_Some x w e) ∙ h.1)
fits (Err e) n w h k = absurd (none-some w k)

pub fits_not : {E : Type 0} (r : Result ℕ E) (n : ℕ) → OkIff r (n < 2 ^ 32) n → result_ok r ≡ None → 2 ^ 32 ≤ n
fits_not (Ok x) n h k = absurd (none-some x (sym k))
fits_not (Err e) n h k = omega (arith, h)

-- a first byte that isn't full
pub first_byte : (prefix b : ℕ) (bs : List ℕ) → b % 2 ^ prefix < 2 ^ prefix - 1 → integer_of prefix (b ∷ bs) ≡ Some (b % 2 ^ prefix, bs)
unfolding integer_of
first_byte prefix b bs h = ap (λ t. cond t (Some (b % 2 ^ prefix, bs)) (further 5 1 (2 ^ prefix - 1) bs)) (lt-ltb (b % 2 ^ prefix) (2 ^ prefix - 1) h)

pub full_byte : (prefix b : ℕ) (bs : List ℕ) → 2 ^ prefix - 1 ≤ b % 2 ^ prefix → integer_of prefix (b ∷ bs) ≡ further 5 1 (2 ^ prefix - 1) bs
unfolding integer_of
full_byte prefix b bs h = ap (λ t. cond t (Some (b % 2 ^ prefix, bs)) (further 5 1 (2 ^ prefix - 1) bs)) (le-ltb (b % 2 ^ prefix) (2 ^ prefix - 1) h)

pub no_byte : (prefix : ℕ) (bs : List ℕ) → length bs ≡ 0 → integer_of prefix bs ≡ None
unfolding integer_of
no_byte prefix [] h = refl
no_byte prefix (x ∷ xs) h = absurd (omega arith)

-- one less than a power of two, of up to eight bits
pub full_small : (prefix : ℕ) → prefix ≤ 8 → 2 ^ prefix ≤ 256
full_small zero h = lit≤ tt
full_small (suc zero) h = lit≤ tt
full_small (suc (suc zero)) h = lit≤ tt
full_small (suc (suc (suc zero))) h = lit≤ tt
full_small (suc (suc (suc (suc zero)))) h = lit≤ tt
full_small (suc (suc (suc (suc (suc zero))))) h = lit≤ tt
full_small (suc (suc (suc (suc (suc (suc zero)))))) h = lit≤ tt
full_small (suc (suc (suc (suc (suc (suc (suc zero))))))) h = lit≤ tt
full_small (suc (suc (suc (suc (suc (suc (suc (suc zero)))))))) h = lit≤ tt
full_small (suc (suc (suc (suc (suc (suc (suc (suc (suc n))))))))) h = absurd (omega arith)

-- the same, as the code has them
pub first_byte_at : (prefix k b first : ℕ) (rest bytes : List ℕ) → k ≡ 2 ^ prefix → bytes ≡ first ∷ rest → b ≡ first → b % k < k - 1 → integer_of prefix bytes ≡ Some (b % k, rest)
first_byte_at prefix k b first rest bytes e f g h =
    let lt : b % 2 ^ prefix < 2 ^ prefix - 1 = subst (λ (n : ℕ). b % n < n - 1) e h in
    ap (λ xs. integer_of prefix xs) (f ∙ ap (λ x. x ∷ rest) (sym g)) ∙ first_byte prefix b rest lt ∙ ap (λ n. Some (b % n, rest)) (sym e)

pub full_byte_at : (prefix k b first : ℕ) (rest bytes : List ℕ) → k ≡ 2 ^ prefix → bytes ≡ first ∷ rest → b ≡ first → k - 1 ≤ b % k → integer_of prefix bytes ≡ further 5 1 (k - 1) rest
full_byte_at prefix k b first rest bytes e f g h =
    let le : 2 ^ prefix - 1 ≤ b % 2 ^ prefix = subst (λ (n : ℕ). n - 1 ≤ b % n) e h in
    ap (λ xs. integer_of prefix xs) (f ∙ ap (λ x. x ∷ rest) (sym g)) ∙ full_byte prefix b rest le ∙ ap (λ n. further 5 1 (n - 1) rest) (sym e)
