-- Integers as they are written.
use Rattle.std.proofs.Common.{◌≡◌, ℕ, ◌+◌, ◌-◌, ◌/◌, ◌%◌, ◌^◌, ◌<◌, ◌≤◌, zero, suc, cond, List, [], ◌∷◌, ◌++◌, refl, sym, ◌∙◌, ap, arith}
use Rattle.std.proofs.lemmas.Bool.{lt-ltb, le-ltb}
use Rattle.std.proofs.lemmas.List.{append_assoc}
use Rattle.mq_hpack.specs.Encoder.{sevens, spelled}

-- a number that fits the first byte, and one that doesn't
pub spelled_short : (form prefix n : ℕ) → n < 2 ^ prefix - 1 → spelled form prefix n ≡ (form + n) ∷ []
unfolding spelled
spelled_short form prefix n h = ap (λ b. cond b ((form + n) ∷ []) ((form + (2 ^ prefix - 1)) ∷ sevens n (n - (2 ^ prefix - 1)))) (lt-ltb n (2 ^ prefix - 1) h)

pub spelled_long : (form prefix n : ℕ) → 2 ^ prefix - 1 ≤ n → spelled form prefix n ≡ (form + (2 ^ prefix - 1)) ∷ sevens n (n - (2 ^ prefix - 1))
unfolding spelled
spelled_long form prefix n h = ap (λ b. cond b ((form + n) ∷ []) ((form + (2 ^ prefix - 1)) ∷ sevens n (n - (2 ^ prefix - 1)))) (le-ltb n (2 ^ prefix - 1) h)

-- the last byte, and one before it
pub last_seven : (k n : ℕ) → n ≤ k → n < 128 → sevens k n ≡ n ∷ []
last_seven zero n e h = refl
last_seven (suc k) n e h = ap (λ b. cond b (n ∷ []) ((n % 128 + 128) ∷ sevens k (n / 128))) (lt-ltb n 128 h)

pub more_sevens : (k n : ℕ) → 128 ≤ n → sevens (suc k) n ≡ (n % 128 + 128) ∷ sevens k (n / 128)
more_sevens k n h = ap (λ b. cond b (n ∷ []) ((n % 128 + 128) ∷ sevens k (n / 128))) (le-ltb n 128 h)

-- one byte more is written
pub record Left (left : ℕ) (new after : List ℕ) : Type 0 where
  pub fewer : ℕ
  pub enough : left / 128 ≤ fewer
  pub written : new ++ sevens fewer (left / 128) ≡ after

pub one_more : (steps left : ℕ) (old new after : List ℕ) → 128 ≤ left → left ≤ steps
    → new ≡ old ++ (left % 128 + 128) ∷ [] → old ++ sevens steps left ≡ after
    → Left left new after
one_more zero left old new after h l n e = absurd (omega arith)
one_more (suc k) left old new after h l n e = record {
  fewer = k;
  enough = omega arith;
  written = ap (λ xs. xs ++ sevens k (left / 128)) n ∙ append_assoc old ((left % 128 + 128) ∷ []) (sevens k (left / 128))
      ∙ ap (λ xs. old ++ xs) (sym (more_sevens k left h)) ∙ e;
}
