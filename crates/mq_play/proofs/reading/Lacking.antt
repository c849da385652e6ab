-- Texts without a byte.
use Rattle.std.proofs.Common.{◌≡◌, ◌≢◌, ℕ, ◌+◌, ◌<◌, ◌≤◌, ◌^◌, ◌%◌, Bool, true, false, List, [], ◌∷◌, ◌++◌, decimal, refl, sym, ◌∙◌, ap, nat_lt, arith}
use Rattle.std.proofs.lemmas.Bool.{and_parts}
use Rattle.std.proofs.lemmas.Fmt.{decimal_by_steps}
use Rattle.std.specs.List.{list_all}
use Rattle.mq_text.specs.Cut.{Lacks}

-- all bytes are of a class that the one isn't in
pub class_lacks : (p : ℕ → Bool) (b : ℕ) (text : List ℕ) → p b ≡ false → list_all p text ≡ true → Lacks b text
class_lacks p b [] other h = tt
class_lacks p b (x ∷ xs) other h =
    let parts = and_parts (p x) (list_all p xs) h in
    let differs : x ≢ b = λ e. (let yes : p b ≡ true = sym (ap p e) ∙ parts.0 in cc) in
    (differs, class_lacks p b xs other parts.1)

pub lacks_both : (b : ℕ) (xs ys : List ℕ) → Lacks b xs → Lacks b ys → Lacks b (xs ++ ys)
lacks_both b [] ys h k = k
lacks_both b (x ∷ xs) ys h k = (h.0, lacks_both b xs ys h.1 k)

abbrev pub is_visible : ℕ → Bool
is_visible b = nat_lt 32 b

lacks_push : (b : ℕ) (xs : List ℕ) (x : ℕ) → Lacks b xs → x ≢ b → Lacks b (xs ++ x ∷ [])
lacks_push b [] x h n = (n, tt)
lacks_push b (y ∷ ys) x h n = (h.0, lacks_push b ys x h.1 n)

-- no digit is a space
pub lacks_decimal : (n : ℕ) → n < 2 ^ 64 → Lacks 32 (decimal n)
lacks_decimal n small =
    decimal_by_steps (λ _ ds. Lacks 32 ds)
    (λ n h. (λ e. absurd (omega arith), tt))
    (λ n ds h l. lacks_push 32 ds (48 + n % 10) l (λ e. absurd (omega arith))) n small

-- no digit is `*`
pub starless : (n : ℕ) → n < 2 ^ 64 → Lacks 42 (decimal n)
starless n small =
    decimal_by_steps (λ _ ds. Lacks 42 ds)
    (λ n h. (λ e. absurd (omega arith), tt))
    (λ n ds h l. lacks_push 42 ds (48 + n % 10) l (λ e. absurd (omega arith))) n small

-- no digit is a letter
pub letterless : (b n : ℕ) → 58 ≤ b → n < 2 ^ 64 → Lacks b (decimal n)
letterless b n high small =
    decimal_by_steps (λ _ ds. Lacks b ds)
    (λ n h. (λ e. absurd (omega arith), tt))
    (λ n ds h l. lacks_push b ds (48 + n % 10) l (λ e. absurd (omega arith))) n small

pub holds_separator : (b : ℕ) (xs ys : List ℕ) → Lacks b (xs ++ b ∷ ys) → ⊥
holds_separator b [] ys h = h.0 refl
holds_separator b (x ∷ xs) ys h = holds_separator b xs ys h.1
