-- The checksum of the header of a generated packet.
use Rattle.std.proofs.Common.{◌≡◌, ℕ, ◌+◌, ◌-◌, ◌*◌, ◌/◌, ◌%◌, ◌<◌, ◌≤◌, ◌⊎◌, inl, inr, ◌∷◌, refl, ◌∙◌, ap, arith}
use Rattle.std.specs.Int.{w32, to_be_bytes}
use Rattle.std.proofs.lemmas.Bool.{cases_lt, cond-false, cond-true, le-ltb, lt-ltb}
use Rattle.mq_addr.specs.Packet.{ones_add, ones_sum, ones_sum_from}

-- two words, without a carry
no_carry : (a b : ℕ) → a + b < 65536 → ones_add a b ≡ a + b
unfolding ones_add
no_carry a b less = cond-true _ _ _ (lt-ltb (a + b) 65536 less)

-- one more word
more : (s t w u : ℕ) → s ≡ t → t + w ≡ u → u < 65536 → ones_add s w ≡ u
more s t w u e sum less = ap (λ (x : ℕ). ones_add x w) e ∙ no_carry t w (omega arith) ∙ sum

-- the words in front of the checksum have no carry
pub front_words : (n : ℕ) → n < 512
    → ones_add (ones_add (ones_add (ones_add (ones_add 0 17664) (n / 256 % 256 * 256 + n % 256)) 0) 0) 16401 ≡ 17664 + n + 16401
front_words n short =
    let e0 = more 0 0 17664 17664 refl (omega arith) (omega arith) in
    let e1 = more _ 17664 (n / 256 % 256 * 256 + n % 256) (17664 + n) e0 (omega arith) (omega arith) in
    let e2 = more _ (17664 + n) 0 (17664 + n) e1 (omega arith) (omega arith) in
    let e3 = more _ (17664 + n) 0 (17664 + n) e2 (omega arith) (omega arith) in
    more _ (17664 + n) 16401 (17664 + n + 16401) e3 refl (omega arith)

-- nor have those in front of the target's address, where the checksum is zero
first_words : (n client : ℕ) → n < 512 → client < 256
    → ones_add (ones_add (ones_add (ones_add (ones_add (ones_add (ones_add (ones_add 0 17664) (n / 256 % 256 * 256 + n % 256)) 0) 0) 16401) 0) 2560) (0 + client) ≡ 17664 + n + 16401 + 2560 + client
first_words n client short few =
    let e0 = more _ (17664 + n + 16401) 0 (17664 + n + 16401) (front_words n short) (omega arith) (omega arith) in
    let e1 = more _ (17664 + n + 16401) 2560 (17664 + n + 16401 + 2560) e0 refl (omega arith) in
    more _ (17664 + n + 16401 + 2560) (0 + client) (17664 + n + 16401 + 2560 + client) e1 (omega arith) (omega arith)

-- the words of a header whose checksum is zero
pub header_sum : (n client target : ℕ) → n < 512 → client < 256 → target < 4294967296
    → ones_sum (69 ∷ 0 ∷ n / 256 % 256 ∷ n % 256 ∷ 0 ∷ 0 ∷ 0 ∷ 0 ∷ 64 ∷ 17 ∷ 0 ∷ 0 ∷ 10 ∷ 0 ∷ 0 ∷ client ∷ to_be_bytes w32 target)
    ≡ ones_add (ones_add (17664 + n + 16401 + 2560 + client) (target / 65536)) (target % 65536)
unfolding ones_sum ones_sum_from
header_sum n client target short few fits =
    let high : target / 16777216 % 256 * 256 + target / 65536 % 256 ≡ target / 65536 = omega arith in
    let low : target / 256 % 256 * 256 + target % 256 ≡ target % 65536 = omega arith in
    ap (λ (s : ℕ). ones_add (ones_add s (target / 16777216 % 256 * 256 + target / 65536 % 256)) (target / 256 % 256 * 256 + target % 256)) (first_words n client short few)
    ∙ ap (λ (w : ℕ). ones_add (ones_add (17664 + n + 16401 + 2560 + client) w) (target / 256 % 256 * 256 + target % 256)) high
    ∙ ap (λ (w : ℕ). ones_add (ones_add (17664 + n + 16401 + 2560 + client) (target / 65536)) w) low

-- ---- with the checksum in its place

-- what an addition comes to
added : (a b : ℕ) → ((a + b < 65536) × (ones_add a b ≡ a + b)) ⊎ ((65536 ≤ a + b) × (ones_add a b ≡ a + b - 65535))
unfolding ones_add
added a b =
    elim (cases_lt (a + b) 65536) [
      | inl h ↦ inl (h, cond-true _ _ _ (lt-ltb _ _ h))
      | inr h ↦ inr (h, cond-false _ _ _ (le-ltb _ _ h))
    ]

small : (a b : ℕ) → a ≤ 65535 → b ≤ 65535 → ones_add a b ≤ 65535
small a b p q =
    elim (added a b) [
      | inl h ↦ omega (arith, h.0, h.1)
      | inr h ↦ omega (arith, h.0, h.1, p, q)
    ]

swapped : (s t w : ℕ) → s ≤ 65535 → t ≤ 65535 → w ≤ 65535 → ones_add (ones_add s t) w ≡ ones_add (ones_add s w) t
swapped s t w p q r =
    let st = added s t in let sw = added s w in let stw = added (ones_add s t) w in let swt = added (ones_add s w) t in
    grind (arith, st, sw, stw, swt, p, q, r)

-- the first of five words is added last
late : (s t u v w x : ℕ) → s ≤ 65535 → t ≤ 65535 → u ≤ 65535 → v ≤ 65535 → w ≤ 65535 → x ≤ 65535
    → ones_add (ones_add (ones_add (ones_add (ones_add s t) u) v) w) x ≡ ones_add (ones_add (ones_add (ones_add (ones_add s u) v) w) x) t
late s t u v w x ps pt pu pv pw px =
    let su = small s u ps pu in
    let suv = small (ones_add s u) v su pv in
    let suvw = small (ones_add (ones_add s u) v) w suv pw in
    ap (λ (n : ℕ). ones_add (ones_add (ones_add n v) w) x) (swapped s t u ps pt pu)
    ∙ ap (λ (n : ℕ). ones_add (ones_add n w) x) (swapped (ones_add s u) t v su pt pv)
    ∙ ap (λ (n : ℕ). ones_add n x) (swapped (ones_add (ones_add s u) v) t w suv pt pw)
    ∙ swapped (ones_add (ones_add (ones_add s u) v) w) t x suvw pt px

-- a sum and what it lacks to ffff
comes_to_all : (n : ℕ) → n ≤ 65535 → ones_add n (65535 - n) ≡ 65535
comes_to_all n p =
    elim (added n (65535 - n)) [
      | inl h ↦ omega (arith, h.1, p)
      | inr h ↦ omega (arith, h.0, p)
    ]

-- the words of a header with its checksum
pub sum_back : (n client h l k : ℕ) → n < 512 → client < 256 → h ≤ 65535 → l ≤ 65535
    → k ≡ 65535 - ones_add (ones_add (17664 + n + 16401 + 2560 + client) h) l
    → ones_add (ones_add (ones_add (ones_add (ones_add (17664 + n + 16401) k) 2560) (0 + client)) h) l ≡ 65535
sum_back n client h l k short few ph pl is =
    let s = more (17664 + n + 16401) (17664 + n + 16401) 2560 (17664 + n + 16401 + 2560) refl refl (omega arith) in
    let t = more _ (17664 + n + 16401 + 2560) (0 + client) (17664 + n + 16401 + 2560 + client) s (omega arith) (omega arith) in
    let fits = small _ l (small (17664 + n + 16401 + 2560 + client) h (omega arith) ph) pl in
    late (17664 + n + 16401) k 2560 (0 + client) h l (omega arith) (omega (arith, is)) (omega arith) (omega arith) ph pl
    ∙ ap (λ (x : ℕ). ones_add (ones_add (ones_add x h) l) k) t
    ∙ ap (λ (x : ℕ). ones_add (ones_add (ones_add (17664 + n + 16401 + 2560 + client) h) l) x) is
    ∙ comes_to_all _ fits
