-- A step changes one of the three words.
use Rattle.std.proofs.Common.{◌≡◌, ℕ, List, length, set, ◌∙◌, arith, length-set, get_or-set_other, get_or-set_same, replicate, refl}
use Rattle.mq_turn.specs.Rule.{HasWords}

pub set_next : (ws : List ℕ) (next served count n m : ℕ) → HasWords ws next served count → n ≡ m → HasWords (set ws 0 n) m served count
set_next ws next served count n m h is = let size : length ws ≡ 33 = h.size in record {
  size = length-set ws 0 n ∙ h.size;
  next_is = get_or-set_same ws 0 n 0 (omega arith) ∙ is;
  served_is = get_or-set_other ws 0 16 n 0 (λ e. omega arith) ∙ h.served_is;
  count_is = get_or-set_other ws 0 32 n 0 (λ e. omega arith) ∙ h.count_is;
}

pub set_served : (ws : List ℕ) (next served count n m : ℕ) → HasWords ws next served count → n ≡ m → HasWords (set ws 16 n) next m count
set_served ws next served count n m h is = let size : length ws ≡ 33 = h.size in record {
  size = length-set ws 16 n ∙ h.size;
  next_is = get_or-set_other ws 16 0 n 0 (λ e. omega arith) ∙ h.next_is;
  served_is = get_or-set_same ws 16 n 0 (omega arith) ∙ is;
  count_is = get_or-set_other ws 16 32 n 0 (λ e. omega arith) ∙ h.count_is;
}

pub set_count : (ws : List ℕ) (next served count n m : ℕ) → HasWords ws next served count → n ≡ m → HasWords (set ws 32 n) next served m
set_count ws next served count n m h is = let size : length ws ≡ 33 = h.size in record {
  size = length-set ws 32 n ∙ h.size;
  next_is = get_or-set_other ws 32 0 n 0 (λ e. omega arith) ∙ h.next_is;
  served_is = get_or-set_other ws 32 16 n 0 (λ e. omega arith) ∙ h.served_is;
  count_is = get_or-set_same ws 32 n 0 (omega arith) ∙ is;
}

pub no_words : HasWords (replicate 33 0) 0 0 0
no_words = record { size = refl; next_is = refl; served_is = refl; count_is = refl }
