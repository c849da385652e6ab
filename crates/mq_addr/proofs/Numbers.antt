-- Aligned blocks of numbers.
use Rattle.std.proofs.Common.{◌≡◌, ℕ, ◌+◌, ◌*◌, ◌-◌, ◌/◌, ◌^◌, ◌<◌, ◌≤◌, ap, sym, ◌∙◌, subst, arith}
use Rattle.std.proofs.lemmas.Nat.{pow_pos, pow-add, div_below, le-div, mul-le}
use Rattle.std.proofs.Math.Nat.{div-lt_iff_lt-mul, div-mul-le_self}
use Rattle.mq_addr.specs.declared.addr.Addr.{Addr}
use Rattle.mq_addr.specs.declared.addr.Addr.TheVariants.{V4, V6}
use Rattle.mq_addr.specs.Block.{SameVersion}
use Rattle.mq_addr.specs.Aligned.{after}

split : (b w : ℕ) → b ≤ w → 2 ^ w ≡ 2 ^ (w - b) * 2 ^ b
split b w h = let e : w ≡ (w - b) + b = omega arith in ap (λ k. 2 ^ k) e ∙ pow-add 2 (w - b) b

pub after_fits : (n b w : ℕ) → b ≤ w → n < 2 ^ w → after n b ≤ 2 ^ w
after_fits n b w h less =
    let q : n / 2 ^ b < 2 ^ (w - b) = div_below n (2 ^ b) (2 ^ (w - b)) (pow_pos b) (subst (λ k. n < k) (split b w h) less) in
    let same : 2 ^ b ≤ 2 ^ b = omega arith in
    let up : n / 2 ^ b + 1 ≤ 2 ^ (w - b) = omega arith in
    subst (λ k. after n b ≤ k) (sym (split b w h)) (mul-le (n / 2 ^ b + 1) (2 ^ b) (2 ^ (w - b)) (2 ^ b) up same)

pub same_block : (at s m : ℕ) → at ≤ s → s < after at m → s / 2 ^ m ≡ at / 2 ^ m
same_block at s m low high =
    let start : at / 2 ^ m * 2 ^ m ≤ at = div-mul-le_self at (2 ^ m) in
    let below : at / 2 ^ m * 2 ^ m ≤ s = omega arith in
    let lower : at / 2 ^ m ≤ s / 2 ^ m = le-div (at / 2 ^ m) s (2 ^ m) (pow_pos m) below in
    let upper : s / 2 ^ m < at / 2 ^ m + 1 = div_below s (2 ^ m) (at / 2 ^ m + 1) (pow_pos m) high in
    omega arith

pub below_after : (s at m : ℕ) → s / 2 ^ m ≡ at / 2 ^ m → s < after at m
below_after s at m same = let less : s / 2 ^ m < at / 2 ^ m + 1 = omega arith in (div-lt_iff_lt-mul {k = 2 ^ m} {x = s} {y = at / 2 ^ m + 1} (pow_pos m)).0 less

pub turned : (a b : Addr) → SameVersion a b → SameVersion b a
turned (V4 a) (V4 b) h = tt
turned (V4 a) (V6 b) h = absurd h
turned (V6 a) (V4 b) h = absurd h
turned (V6 a) (V6 b) h = tt

pub joined : (a b c : Addr) → SameVersion a b → SameVersion b c → SameVersion a c
joined (V4 a) (V4 b) (V4 c) h k = tt
joined (V4 a) (V4 b) (V6 c) h k = absurd k
joined (V4 a) (V6 b) c h k = absurd h
joined (V6 a) (V4 b) c h k = absurd h
joined (V6 a) (V6 b) (V4 c) h k = absurd k
joined (V6 a) (V6 b) (V6 c) h k = tt
