-- Numbers of one digit and of two.
use Rattle.std.proofs.Common.{◌≡◌, ◌≢◌, ℕ, ◌+◌, ◌*◌, ◌/◌, ◌%◌, ◌<◌, ◌≤◌, List, [], ◌∷◌, ◌++◌, Option, Some, None, decimal, sym, ap, ◌∙◌, arith}
use Rattle.std.specs.Option.{IfSome}
use Rattle.std.proofs.lemmas.Fmt.{decimal_digit, decimal_step}
use Rattle.mq_text.specs.Number.{Spells}

-- a number of two digits
pub two_digits : (n : ℕ) → 10 ≤ n → n < 100 → decimal n ≡ (48 + n / 10) ∷ (48 + n % 10) ∷ []
two_digits n h small =
    decimal_step n h (omega arith) ∙ ap (λ (ds : List ℕ). ds ++ ((48 + n % 10) ∷ [])) (decimal_digit (n / 10) (omega arith))

-- what a text of one digit spells
pub one_digit : (o : Option ℕ) (digit : ℕ) (text : List ℕ) → text ≡ digit ∷ [] → IfSome o (λ n. (n < 10) × (digit ≡ n + 48)) → IfSome o (λ n. (n < 10) × Spells text n)
one_digit None digit text is h = tt
one_digit (Some n) digit text is h =
    let same : digit ≡ 48 + n = omega (arith, h.1) in
    (h.0, is ∙ ap (λ (d : ℕ). d ∷ []) same ∙ sym (decimal_digit n h.0))

-- what a text of two digits spells
pub both_digits : (text : List ℕ) (first second tens ones : ℕ) → text ≡ first ∷ second ∷ [] → (tens < 10) × (first ≡ tens + 48) → (ones < 10) × (second ≡ ones + 48)
    → tens ≢ 0 → (10 * tens + ones < 100) × Spells text (10 * tens + ones)
both_digits text first second tens ones is high low some =
    let more : 0 < tens = omega (arith, some) in
    let n : ℕ = 10 * tens + ones in
    let a : first ≡ 48 + n / 10 = omega (arith, high.0, high.1, low.0) in
    let b : second ≡ 48 + n % 10 = omega (arith, high.0, low.0, low.1) in
    (omega (arith, high.0, low.0), is ∙ rw (a, b) (sym (two_digits n (omega (arith, more)) (omega (arith, high.0, low.0)))))
