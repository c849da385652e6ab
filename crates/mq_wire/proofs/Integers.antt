-- An integer at the front is decided by its own bytes, and no spelling is shorter than the one that is written.
use Rattle.std.proofs.Common.{◌≡◌, ℕ, zero, suc, ◌-◌, ◌<◌, ◌≤◌, ◌^◌, ◌%◌, Bool, true, false, cond, ltb, List, [], ◌∷◌, ◌++◌, length, take, Option, Some, None, refl, sym, ap, ◌∙◌, arith}
use Rattle.std.specs.Int.{Width, w8, w16, w32, w64, byte_len, from_be_bytes}
use Rattle.std.proofs.lemmas.Bool.{ltb-false, ltb-true, le-ltb, cond-false}
use Rattle.std.proofs.lemmas.List.{take_at, length-append, length-take-le}
use Rattle.std.proofs.lemmas.Bool.Decides.{nat_tests}
use Rattle.mq_wire.specs.Integer.{int_of, int_at, spelling_of}

-- a test that gave a value, and one that gave none
none_or : {A : Type 0} (b : Bool) (x y : A) → cond b None (Some x) ≡ Some y → (b ≡ false) × (x ≡ y)
none_or true x y e = absurd cc
none_or false x y e = (refl, cc)

or_none : {A : Type 0} (b : Bool) (x : A) → cond b None (Some x) ≡ None → b ≡ true
or_none true x e = refl
or_none false x e = absurd cc

-- how long the spelling of a small number is
short_1 : (n : ℕ) → n < 2 ^ 6 → length (spelling_of n) ≤ 1
unfolding spelling_of
short_1 n h = grind (arith, nat_tests)

short_2 : (n : ℕ) → n < 2 ^ 14 → length (spelling_of n) ≤ 2
unfolding spelling_of
short_2 n h = grind (arith, nat_tests)

short_4 : (n : ℕ) → n < 2 ^ 30 → length (spelling_of n) ≤ 4
unfolding spelling_of
short_4 n h = grind (arith, nat_tests)

short_8 : (n : ℕ) → n < 2 ^ 62 → length (spelling_of n) ≤ 8
unfolding spelling_of
short_8 n h = grind (arith, nat_tests)

-- what stands at the front, and that it is so whatever follows
pub record IsInt (bytes : List ℕ) (x : ℕ × ℕ) : Type 0 where
  pub within : x.1 ≤ length bytes
  pub some : 0 < x.1
  pub few : x.1 ≤ 8
  pub below : x.0 < 2 ^ 62
  pub shortest : length (spelling_of x.0) ≤ x.1
  pub stays : (more : List ℕ) → int_of (take x.1 bytes ++ more) ≡ Some x

-- one of four widths, by three tests
abbrev by_tests : Bool → Bool → Bool → List ℕ → Option (ℕ × ℕ)
by_tests p q r bytes =
    cond p (int_at w8 (2 ^ 6) bytes) (cond q (int_at w16 (2 ^ 14) bytes) (cond r (int_at w32 (2 ^ 30) bytes) (int_at w64 (2 ^ 62) bytes)))

record Picked (p q r : Bool) : Type 0 where
  w : Width
  limit : ℕ
  some : 0 < byte_len w
  few : byte_len w ≤ 8
  limits : (0 < limit) × (limit ≤ 2 ^ 62)
  shortest : (n : ℕ) → n < limit → length (spelling_of n) ≤ byte_len w
  same : (bytes : List ℕ) → by_tests p q r bytes ≡ int_at w limit bytes

picked : (p q r : Bool) → Picked p q r
picked true q r = record { w = w8; limit = 2 ^ 6; some = omega arith; few = omega arith; limits = (omega arith, omega arith); shortest = short_1; same = λ bytes. refl }
picked false true r = record { w = w16; limit = 2 ^ 14; some = omega arith; few = omega arith; limits = (omega arith, omega arith); shortest = short_2; same = λ bytes. refl }
picked false false true = record { w = w32; limit = 2 ^ 30; some = omega arith; few = omega arith; limits = (omega arith, omega arith); shortest = short_4; same = λ bytes. refl }
picked false false false = record { w = w64; limit = 2 ^ 62; some = omega arith; few = omega arith; limits = (omega arith, omega arith); shortest = short_8; same = λ bytes. refl }

take_cons : (n b : ℕ) (bs : List ℕ) → 0 < n → take n (b ∷ bs) ≡ b ∷ take (n - 1) bs
take_cons zero b bs l = absurd (omega arith)
take_cons (suc n) b bs l = let e : n ≡ suc n - 1 = omega arith in ap (λ (k : ℕ). b ∷ take k bs) e

-- the tests see the first byte alone
first_byte : (b : ℕ) (bs : List ℕ) → int_of (b ∷ bs) ≡ by_tests (ltb b 64) (ltb b 128) (ltb b 192) (b ∷ bs)
unfolding int_of
first_byte b bs = refl

at_stays : (w : Width) (limit : ℕ) (bytes more : List ℕ) (x : ℕ × ℕ) → byte_len w ≤ length bytes → (from_be_bytes w (take (byte_len w) bytes) % limit, byte_len w) ≡ x
    → int_at w limit (take (byte_len w) bytes ++ more) ≡ Some x
at_stays w limit bytes more x long is =
    let front = take (byte_len w) bytes in
    let len : length front ≡ byte_len w = length-take-le (byte_len w) bytes long in
    let enough : byte_len w ≤ length (front ++ more) = omega (arith, length-append front more) in
    cond-false _ None _ (le-ltb _ _ enough)
    ∙ ap (λ (f : List ℕ). Some (from_be_bytes w f % limit, byte_len w)) (take_at front more (byte_len w) len) ∙ ap (λ (v : ℕ × ℕ). Some v) is

pub int_front : (bytes : List ℕ) (x : ℕ × ℕ) → int_of bytes ≡ Some x → IsInt bytes x
int_front [] x e = absurd (unfold int_of in cc)
int_front (b ∷ bs) x e =
    let pick = picked (ltb b 64) (ltb b 128) (ltb b 192) in
    let there = none_or (ltb (length (b ∷ bs)) (byte_len pick.w)) _ x (sym (pick.same (b ∷ bs)) ∙ sym (first_byte b bs) ∙ e) in
    let long : byte_len pick.w ≤ length (b ∷ bs) = ltb-false _ _ there.0 in
    let size : byte_len pick.w ≡ x.1 = ap (λ (v : ℕ × ℕ). v.1) there.1 in
    let small : from_be_bytes pick.w (take (byte_len pick.w) (b ∷ bs)) % pick.limit < pick.limit = omega (arith, pick.limits.0) in
    let value : from_be_bytes pick.w (take (byte_len pick.w) (b ∷ bs)) % pick.limit ≡ x.0 = ap (λ (v : ℕ × ℕ). v.0) there.1 in
    let low : x.0 < pick.limit = omega (arith, small, value) in
    record {
      below = omega (arith, low, pick.limits.1);
      shortest = omega (arith, size, pick.shortest x.0 low);
      within = omega (arith, size, long);
      some = omega (arith, size, pick.some);
      few = omega (arith, size, pick.few);
      stays = λ more.
          let cons = take_cons (byte_len pick.w) b bs pick.some in
          let seen = ap (λ (f : List ℕ). f ++ more) cons in
          let front : int_of (take (byte_len pick.w) (b ∷ bs) ++ more) ≡ Some x =
          ap int_of seen ∙ first_byte b (take (byte_len pick.w - 1) bs ++ more) ∙ pick.same (b ∷ take (byte_len pick.w - 1) bs ++ more)
          ∙ ap (int_at pick.w pick.limit) (sym seen) ∙ at_stays pick.w pick.limit (b ∷ bs) more x long there.1 in
          ap (λ (n : ℕ). int_of (take n (b ∷ bs) ++ more)) (sym size) ∙ front;
    }

-- without an integer there are fewer than eight bytes
pub int_none : (bytes : List ℕ) → int_of bytes ≡ None → length bytes < 8
int_none [] e = omega arith
int_none (b ∷ bs) e =
    let pick = picked (ltb b 64) (ltb b 128) (ltb b 192) in
    let short = or_none (ltb (length (b ∷ bs)) (byte_len pick.w)) _ (sym (pick.same (b ∷ bs)) ∙ sym (first_byte b bs) ∙ e) in
    let less : length (b ∷ bs) < byte_len pick.w = ltb-true _ _ short in
    omega (arith, less, pick.few)
