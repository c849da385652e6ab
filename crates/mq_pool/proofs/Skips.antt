-- From a block that a taken one overlaps to the next start.
use Rattle.std.proofs.Common.{◌≡◌, ℕ, ◌+◌, ◌*◌, ◌-◌, ◌/◌, ◌%◌, ◌^◌, ◌<◌, ◌≤◌, max, get_or, length as length_of, List, ap, sym, ◌∙◌, refl, subst, arith, inl, inr}
use Rattle.std.specs.List.{Contains}
use Rattle.std.proofs.lemmas.Nat.{shr-shr, pow_pos, pow-add, div_below, le-div, mul-le}
use Rattle.std.proofs.lemmas.Bool.{cases_lt}
use Rattle.std.proofs.Math.Nat.{div-lt_iff_lt-mul, div-mul-le_self, mul-mod_left, mul-div_cancel, mul_assoc}
use Rattle.mq_addr.specs.declared.addr.Addr.{Addr}
use Rattle.mq_addr.specs.declared.addr.Addr.TheVariants.{V4, V6}
use Rattle.mq_addr.specs.declared.prefix.Prefix.{Prefix}
use Rattle.mq_addr.specs.Block.{width, bits_of, SameVersion, free_bits, first_bits, Overlap}
use Rattle.mq_addr.specs.Aligned.{after}
use Rattle.mq_addr.specs.Cover.{version_of, IsWithinByBits}
use Rattle.mq_pool.specs.Search.{IsSpare, IsStart, NoneBefore, IsBehind, IsTry}
use Rattle.mq_pool.specs.declared.search.Try.{Try}
use Rattle.mq_pool.specs.declared.search.Try.TheVariants.{Free, Behind, End}

-- numbers that agree without n bits agree without more
coarser : (x y n m : ℕ) → n ≤ m → x / 2 ^ n ≡ y / 2 ^ n → x / 2 ^ m ≡ y / 2 ^ m
coarser x y n m h e =
    let sum : n + (m - n) ≡ m = omega arith in
    let at : (z : ℕ) → z / 2 ^ n / 2 ^ (m - n) ≡ z / 2 ^ m = λ z. shr-shr z n (m - n) ∙ ap (λ k. z / 2 ^ k) sum in
    sym (at x) ∙ ap (λ z. z / 2 ^ (m - n)) e ∙ at y

itself : (a : Addr) → SameVersion a a
itself (V4 a) = tt
itself (V6 a) = tt

joined : (a b c : Addr) → SameVersion a b → SameVersion b c → SameVersion a c
joined (V4 a) (V4 b) (V4 c) h k = tt
joined (V4 a) (V4 b) (V6 c) h k = absurd k
joined (V4 a) (V6 b) c h k = absurd h
joined (V6 a) (V4 b) c h k = absurd h
joined (V6 a) (V6 b) (V4 c) h k = absurd k
joined (V6 a) (V6 b) (V6 c) h k = tt

same_width : (a b : Addr) → SameVersion a b → width a ≡ width b
same_width (V4 a) (V4 b) h = refl
same_width (V4 a) (V6 b) h = absurd h
same_width (V6 a) (V4 b) h = absurd h
same_width (V6 a) (V6 b) h = refl

split : (b w : ℕ) → b ≤ w → 2 ^ w ≡ 2 ^ (w - b) * 2 ^ b
split b w h = let e : w ≡ (w - b) + b = omega arith in ap (λ k. 2 ^ k) e ∙ pow-add 2 (w - b) b

pub after_fits : (n b w : ℕ) → b ≤ w → n < 2 ^ w → after n b ≤ 2 ^ w
after_fits n b w h less =
    let q : n / 2 ^ b < 2 ^ (w - b) = div_below n (2 ^ b) (2 ^ (w - b)) (pow_pos b) (subst (λ k. n < k) (split b w h) less) in
    let same : 2 ^ b ≤ 2 ^ b = omega arith in
    let up : n / 2 ^ b + 1 ≤ 2 ^ (w - b) = omega arith in
    subst (λ k. after n b ≤ k) (sym (split b w h)) (mul-le (n / 2 ^ b + 1) (2 ^ b) (2 ^ (w - b)) (2 ^ b) up same)

pub same_block : (at s m : ℕ) → at ≤ s → s < after at m → s / 2 ^ m ≡ at / 2 ^ m
same_block at s m low high =
    let start : at / 2 ^ m * 2 ^ m ≤ at = div-mul-le_self at (2 ^ m) in
    let below : at / 2 ^ m * 2 ^ m ≤ s = omega arith in
    let lower : at / 2 ^ m ≤ s / 2 ^ m = le-div (at / 2 ^ m) s (2 ^ m) (pow_pos m) below in
    let upper : s / 2 ^ m < at / 2 ^ m + 1 = div_below s (2 ^ m) (at / 2 ^ m + 1) (pow_pos m) high in
    omega arith

pub below_after : (s at m : ℕ) → s / 2 ^ m ≡ at / 2 ^ m → s < after at m
below_after s at m same = let less : s / 2 ^ m < at / 2 ^ m + 1 = omega arith in (div-lt_iff_lt-mul {k = 2 ^ m} {x = s} {y = at / 2 ^ m + 1} (pow_pos m)).0 less

pub even : (q f m : ℕ) → f ≤ m → q * 2 ^ m % 2 ^ f ≡ 0
even q f m h =
    let is : q * 2 ^ m ≡ q * 2 ^ (m - f) * 2 ^ f = ap (λ k. q * k) (split f m h) ∙ sym (mul_assoc q (2 ^ (m - f)) (2 ^ f)) in
    ap (λ k. k % 2 ^ f) is ∙ mul-mod_left (q * 2 ^ (m - f)) (2 ^ f)

pub turned : (a b : Addr) → SameVersion a b → SameVersion b a
turned (V4 a) (V4 b) h = tt
turned (V4 a) (V6 b) h = absurd h
turned (V6 a) (V4 b) h = absurd h
turned (V6 a) (V6 b) h = tt

pub one_version : (a b : Addr) → SameVersion a b → version_of a ≡ version_of b
one_version (V4 a) (V4 b) h = refl
one_version (V4 a) (V6 b) h = absurd h
one_version (V6 a) (V4 b) h = absurd h
one_version (V6 a) (V6 b) h = refl

pub by_version : (a b : Addr) → version_of a ≡ version_of b → SameVersion a b
by_version (V4 a) (V4 b) h = tt
by_version (V4 a) (V6 b) h = absurd (omega arith)
by_version (V6 a) (V4 b) h = absurd (omega arith)
by_version (V6 a) (V6 b) h = tt

-- a block of the same length that begins in the longer of a block and what overlaps it has an address of that
blocked : (t block other : Prefix) (m : ℕ) → Overlap t block → SameVersion block.addr other.addr → free_bits other ≡ free_bits block → m ≡ max (free_bits block) (free_bits t)
    → bits_of other.addr / 2 ^ m ≡ bits_of block.addr / 2 ^ m → Overlap t other
blocked t block other m (x, h, k) version free is same =
    elim (cases_lt (free_bits t) (free_bits block)) [
      | inl less ↦
          let top : m ≡ free_bits block = omega arith in
          let at = λ (a b : ℕ). a / 2 ^ free_bits block ≡ b / 2 ^ free_bits block in
          let here : bits_of other.addr / 2 ^ free_bits block ≡ bits_of block.addr / 2 ^ free_bits block = subst (λ n. bits_of other.addr / 2 ^ n ≡ bits_of block.addr / 2 ^ n) top same in
          let met : bits_of x / 2 ^ free_bits block ≡ bits_of other.addr / 2 ^ free_bits block = k.agrees ∙ sym here in (
            x,
            h,
            record {
              version = joined other.addr block.addr x (turned block.addr other.addr version) k.version;
              agrees = subst (λ n. bits_of x / 2 ^ n ≡ bits_of other.addr / 2 ^ n) (sym free) met;
            },
          )
      | inr more ↦
          let top : m ≡ free_bits t = omega arith in
          let here : bits_of other.addr / 2 ^ free_bits t ≡ bits_of block.addr / 2 ^ free_bits t = subst (λ n. bits_of other.addr / 2 ^ n ≡ bits_of block.addr / 2 ^ n) top same in
          let up = coarser (bits_of x) (bits_of block.addr) (free_bits block) (free_bits t) more k.agrees in (
            other.addr,
            record {
              version = joined t.addr x other.addr h.version (joined x block.addr other.addr (turned block.addr x k.version) version);
              agrees = here ∙ sym up ∙ h.agrees;
            },
            record { version = itself other.addr; agrees = refl },
          )
    ]

-- what a spare block says of its numbers
pub spare_free : (whole other : Prefix) (taken : List Prefix) (length : ℕ) → IsSpare whole taken length other
    → SameVersion whole.addr other.addr × (free_bits other ≡ width whole.addr - length)
spare_free whole other taken length spare =
    let version = by_version whole.addr other.addr (sym spare.of.version_is) in
    (version, ap (λ k. k - other.length) (sym (same_width whole.addr other.addr version)) ∙ ap (λ k. width whole.addr - k) spare.of.length_is)

pub skipped : (whole t block : Prefix) (taken : List Prefix) (length at m : ℕ) → Contains taken t → Overlap t block → SameVersion whole.addr block.addr
    → bits_of block.addr ≡ at → block.length ≡ length → m ≡ max (free_bits block) (free_bits t) → NoneBefore whole taken length at (after at m)
skipped whole t block taken length at m (k, within, is) h version start long top other spare low =
    elim (cases_lt (bits_of other.addr) (after at m)) [
      | inl less ↦
          let same = same_block at (bits_of other.addr) m low less in
          let free = spare_free whole other taken length spare in
          let size : free_bits block ≡ width whole.addr - length = ap (λ n. n - block.length) (sym (same_width whole.addr block.addr version)) ∙ ap (λ n. width whole.addr - n) long in
          let hit = blocked t block other m h (joined block.addr whole.addr other.addr (turned whole.addr block.addr version) free.0) (free.1 ∙ sym size) top
          (same ∙ ap (λ n. n / 2 ^ m) (sym start)) in
          absurd (spare.apart k t within (subst (λ p. Overlap p other) (sym is) hit))
      | inr more ↦ more
    ]

-- a spare block starts in the whole
pub in_whole : IsWithinByBits → (whole other : Prefix) (taken : List Prefix) (length : ℕ) → IsSpare whole taken length other
    → bits_of other.addr / 2 ^ free_bits whole ≡ first_bits (free_bits whole) whole.addr
in_whole law whole other taken length spare = ((law other whole).0 spare.within).1.agrees

pub none_left : IsWithinByBits → (whole : Prefix) (taken : List Prefix) (length at m : ℕ) → IsStart whole length at → NoneBefore whole taken length at (after at m)
    → after at (free_bits whole) ≤ after at m → (other : Prefix) → IsSpare whole taken length other → at ≤ bits_of other.addr → ⊥
none_left law whole taken length at m start none end other spare low =
    let far = none other spare low in
    let near = below_after (bits_of other.addr) at (free_bits whole) (in_whole law whole other taken length spare ∙ sym start.inside) in
    omega (arith, far, near)

pub next_start : (whole : Prefix) (length at m : ℕ) → IsStart whole length at → width whole.addr - length ≤ m → after at m < after at (free_bits whole)
    → (at < after at m) × IsStart whole length (after at m)
next_start whole length at m start more less =
    let rises : at < after at m = below_after at at m refl in
    let low : at ≤ after at m = omega arith in
    let same = same_block at (after at m) (free_bits whole) low less in
    let room : free_bits whole ≤ width whole.addr = omega arith in
    let fit = after_fits at (free_bits whole) (width whole.addr) room start.fits in
    let below : after at m < 2 ^ width whole.addr = omega (arith, fit, less) in (
      rises,
      record {
        length_fits = start.length_fits;
        smaller = start.smaller;
        fits = below;
        even = even (at / 2 ^ m + 1) (width whole.addr - length) m more;
        inside = same ∙ start.inside;
      },
    )

pub is_spare : IsWithinByBits → (whole block : Prefix) (taken : List Prefix) (length at : ℕ) → IsStart whole length at → SameVersion whole.addr block.addr → bits_of block.addr ≡ at
    → block.length ≡ length → ((k : ℕ) (d : Prefix) → k < length_of taken → ¬ (Overlap (get_or taken k d) block)) → IsSpare whole taken length block
is_spare law whole block taken length at start version is long apart =
    let wide = same_width whole.addr block.addr version in
    let size : free_bits block ≡ width whole.addr - length = ap (λ n. n - block.length) (sym wide) ∙ ap (λ n. width whole.addr - n) long in
    record {
      of = record {
        prefix = record {
          fits = subst (λ n. block.length ≤ n) wide (subst (λ n. n ≤ width whole.addr) (sym long) start.length_fits);
          zeros = ap (λ n. n % 2 ^ free_bits block) is ∙ ap (λ n. at % 2 ^ n) size ∙ start.even;
        };
        fits = subst (λ n. bits_of block.addr < 2 ^ n) wide (subst (λ n. n < 2 ^ width whole.addr) (sym is) start.fits);
        version_is = sym (one_version whole.addr block.addr version);
        length_is = long;
      };
      within = (law block whole).1 (
        subst (λ n. n ≤ free_bits whole) (sym size) start.smaller,
        record {
          version = version;
          agrees = ap (λ n. n / 2 ^ free_bits whole) is ∙ start.inside;
        },
      );
      apart = apart;
    }

-- what is behind a block that a taken one overlaps
pub tried : IsWithinByBits → (whole t block : Prefix) (taken : List Prefix) (length at m : ℕ) (result : Try) → IsStart whole length at → Contains taken t → Overlap t block
    → SameVersion whole.addr block.addr → bits_of block.addr ≡ at → block.length ≡ length → m ≡ max (free_bits block) (free_bits t) → IsBehind whole at m result
    → IsTry whole taken length at result
tried law whole t block taken length at m (Free found) start has h version is long top behind = absurd behind
tried law whole t block taken length at m (Behind next) start has h version is long top behind =
    let wide = same_width whole.addr block.addr version in
    let size : free_bits block ≡ width whole.addr - length = ap (λ n. n - block.length) (sym wide) ∙ ap (λ n. width whole.addr - n) long in
    let more : width whole.addr - length ≤ m = omega (arith, size, top) in
    let less : after at m < after at (free_bits whole) = subst (λ n. n < after at (free_bits whole)) behind.0 behind.1 in
    let on = next_start whole length at m start more less in
    let none = skipped whole t block taken length at m has h version is long top in
    (subst (λ n. at < n) (sym behind.0) on.0, subst (λ n. IsStart whole length n) (sym behind.0) on.1, subst (λ n. NoneBefore whole taken length at n) (sym behind.0) none)
tried law whole t block taken length at m End start has h version is long top behind =
    none_left law whole taken length at m start (skipped whole t block taken length at m has h version is long top) behind

-- the first start of a whole
pub first_start : (whole : Prefix) (length at : ℕ) → at ≡ bits_of whole.addr / 2 ^ free_bits whole * 2 ^ free_bits whole → length ≤ width whole.addr
    → width whole.addr - length ≤ free_bits whole → bits_of whole.addr < 2 ^ width whole.addr → IsStart whole length at
first_start whole length at is long room fits =
    let low : bits_of whole.addr / 2 ^ free_bits whole * 2 ^ free_bits whole ≤ bits_of whole.addr = div-mul-le_self (bits_of whole.addr) (2 ^ free_bits whole) in
    let below : at < 2 ^ width whole.addr = omega (arith, is, low, fits) in
    record {
      length_fits = long;
      smaller = room;
      fits = below;
      even = ap (λ n. n % 2 ^ (width whole.addr - length)) is ∙ even (bits_of whole.addr / 2 ^ free_bits whole) (width whole.addr - length) (free_bits whole) room;
      inside = ap (λ n. n / 2 ^ free_bits whole) is ∙ mul-div_cancel (bits_of whole.addr / 2 ^ free_bits whole) (pow_pos (free_bits whole));
    }

pub none_before : IsWithinByBits → (whole : Prefix) (taken : List Prefix) (length at : ℕ) → at ≡ bits_of whole.addr / 2 ^ free_bits whole * 2 ^ free_bits whole
    → NoneBefore whole taken length 0 at
none_before law whole taken length at is other spare low =
    let same = in_whole law whole other taken length spare in
    let from : at ≡ bits_of other.addr / 2 ^ free_bits whole * 2 ^ free_bits whole = is ∙ ap (λ n. n * 2 ^ free_bits whole) (sym same) in
    let under = div-mul-le_self (bits_of other.addr) (2 ^ free_bits whole) in
    subst (λ n. n ≤ bits_of other.addr) (sym from) under

-- a whole that is shorter than the length has none
pub too_small : IsWithinByBits → (whole : Prefix) (taken : List Prefix) (length : ℕ) → free_bits whole < width whole.addr - length → (other : Prefix) → IsSpare whole taken length other → ⊥
too_small law whole taken length less other spare =
    let free = (spare_free whole other taken length spare).1 in
    let fit = ((law other whole).0 spare.within).0 in
    omega (arith, free, fit, less)
