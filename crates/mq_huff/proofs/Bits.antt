-- The bits of numbers, in one list and in parts.
use Rattle.std.proofs.Common.{◌≡◌, ℕ, ◌+◌, ◌-◌, ◌*◌, ◌/◌, ◌%◌, ◌^◌, ◌<◌, ◌≤◌, ◌==◌, zero, suc, true, ◌∷◌, ◌++◌, length, refl, sym, ◌∙◌, ap, arith, add_comm, zero-add}
use Rattle.std.specs.Prelude.{replicate}
use Rattle.std.proofs.lemmas.Nat.{shr-shr, shr_high}
use Rattle.std.proofs.lemmas.Nat.Bits.{bit_at_cat_low, bit_at_ones}
use Rattle.mq_huff.specs.Code.{bits_of}

pub length-bits_of : (k n : ℕ) → length (bits_of k n) ≡ k
unfolding bits_of
length-bits_of zero n = refl
length-bits_of (suc k) n = ap (λ x. suc x) (length-bits_of k n)

pub bits_of-add : (a k n : ℕ) → bits_of (a + k) n ≡ bits_of a (n / 2 ^ k) ++ bits_of k n
unfolding bits_of
bits_of-add zero k n = ap (λ x. bits_of x n) (zero-add k)
bits_of-add (suc a) k n =
    let e : suc a + k ≡ suc (a + k) = omega arith in
    let d : n / 2 ^ (a + k) ≡ n / 2 ^ k / 2 ^ a = ap (λ x. n / 2 ^ x) (add_comm a k) ∙ sym (shr-shr n k a) in
    ap (λ x. bits_of x n) e ∙ (ap (λ x. (x % 2 == 1) ∷ bits_of (a + k) n) d ∙ ap (λ x. (n / 2 ^ k / 2 ^ a % 2 == 1) ∷ x) (bits_of-add a k n))

-- what stands above the bits doesn't matter
pub bits_of_low : (j k v n : ℕ) → j ≤ k → bits_of j (v * 2 ^ k + n) ≡ bits_of j n
unfolding bits_of
bits_of_low zero k v n h = refl
bits_of_low (suc j) k v n h =
    let lt : j < k = omega arith in
    let le : j ≤ k = omega arith in
    let e = bit_at_cat_low v k n j lt in
    ap (λ x. (x == 1) ∷ bits_of j (v * 2 ^ k + n)) e ∙ ap (λ x. (n / 2 ^ j % 2 == 1) ∷ x) (bits_of_low j k v n le)

pub bits_of-joined : (a k v n : ℕ) → n < 2 ^ k → bits_of (a + k) (v * 2 ^ k + n) ≡ bits_of a v ++ bits_of k n
bits_of-joined a k v n h =
    let le : k ≤ k = omega arith in
    bits_of-add a k (v * 2 ^ k + n)
    ∙ (ap (λ x. bits_of a x ++ bits_of k (v * 2 ^ k + n)) (shr_high v k n h)
    ∙ ap (λ x. bits_of a v ++ x) (bits_of_low k k v n le))

ones_below : (j k : ℕ) → j ≤ k → bits_of j (2 ^ k - 1) ≡ replicate j true
unfolding bits_of
ones_below zero k h = refl
ones_below (suc j) k h =
    let lt : j < k = omega arith in
    let le : j ≤ k = omega arith in
    ap (λ x. (x == 1) ∷ bits_of j (2 ^ k - 1)) (bit_at_ones k j lt) ∙ ap (λ x. true ∷ x) (ones_below j k le)

pub bits_of-ones : (k : ℕ) → bits_of k (2 ^ k - 1) ≡ replicate k true
bits_of-ones k = ones_below k k (omega arith)
