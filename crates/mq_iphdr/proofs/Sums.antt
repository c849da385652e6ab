-- Ones' complement sums.
use Rattle.std.proofs.Common.{◌≡◌, ℕ, ◌+◌, ◌-◌, ◌*◌, ◌≤◌, List, [], ◌∷◌, length, take, drop, slice_index, refl, arith}
use Rattle.std.proofs.lemmas.List.{take_all}
use Rattle.mq_addr.specs.Packet.{ones_add, ones_sum_from}

-- a word is added
pub word_added : (sum : ℕ) (bytes : List ℕ) → 2 ≤ length bytes
    → ones_sum_from sum bytes ≡ ones_sum_from (ones_add sum (slice_index bytes 0 * 256 + slice_index bytes 1)) (drop 2 bytes)
unfolding ones_sum_from
word_added sum [] p = absurd (omega (arith, p))
word_added sum (a ∷ []) p = absurd (omega (arith, p))
word_added sum (a ∷ b ∷ bytes) p = refl

pub behind_word : (bytes : List ℕ) → 2 ≤ length bytes → take (length bytes - 2) (drop 2 bytes) ≡ drop 2 bytes
behind_word [] p = absurd (omega (arith, p))
behind_word (a ∷ []) p = absurd (omega (arith, p))
behind_word (a ∷ b ∷ bytes) p = take_all _ bytes (omega arith)

pub odd_added : (sum : ℕ) (bytes : List ℕ) → length bytes ≡ 1 → ones_sum_from sum bytes ≡ ones_add sum (slice_index bytes 0 * 256)
unfolding ones_sum_from
odd_added sum [] p = absurd (omega (arith, p))
odd_added sum (a ∷ []) p = refl
odd_added sum (a ∷ b ∷ bytes) p = absurd (omega (arith, p))

pub none_added : (sum : ℕ) (bytes : List ℕ) → length bytes ≡ 0 → ones_sum_from sum bytes ≡ sum
unfolding ones_sum_from
none_added sum [] p = refl
none_added sum (a ∷ bytes) p = absurd (omega (arith, p))
