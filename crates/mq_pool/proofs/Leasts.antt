-- The least of several finds.
use Rattle.std.proofs.Common.{◌≡◌, ℕ, ◌+◌, ◌<◌, ◌≤◌, ◌⊎◌, Option, Some, None, List, length, get_or, ap, sym, ◌∙◌, subst, arith, inl, inr, ⊎_elim}
use Rattle.std.proofs.lemmas.Bool.{cases_lt}
use Rattle.mq_addr.specs.declared.addr.Addr.{Addr}
use Rattle.mq_addr.specs.declared.addr.Addr.TheVariants.{V4, V6}
use Rattle.mq_addr.specs.declared.prefix.Prefix.{Prefix}
use Rattle.mq_addr.specs.Block.{width, bits_of}
use Rattle.mq_addr.specs.Cover.{version_of, IsWithinByBits, IsOf, IsFree, IsLeast, IsLeastFree}
use Rattle.mq_pool.specs.Search.{earlier, IsHere, IsAmong, IsSpare, IsFormat}
use Rattle.mq_pool.proofs.Skips.{one_version}

-- the same blocks have the same least
pub least_same : (P Q : Prefix → Type 0) → ((b : Prefix) → P b → Q b) → ((b : Prefix) → Q b → P b) → (found : Option Prefix) → IsLeast P found → IsLeast Q found
least_same P Q to from (Some b) h = (to b h.0, λ other q. h.1 other (from other q))
least_same P Q to from None h = λ other q. h other (from other q)

earlier_of : (a b : Prefix) → ((earlier (Some a) (Some b) ≡ Some a) × (bits_of a.addr ≤ bits_of b.addr)) ⊎ ((earlier (Some a) (Some b) ≡ Some b) × (bits_of b.addr < bits_of a.addr))
earlier_of a b =
    elim (cases_lt (bits_of b.addr) (bits_of a.addr)) [
      | inl less ↦ inr (grind (arith, less), less)
      | inr more ↦ inl (grind (arith, more), more)
    ]

over : {a b c : ℕ} → a ≤ b → b ≤ c → a ≤ c
over h k = omega arith

strict : {a b : ℕ} → a < b → a ≤ b
strict h = omega arith

-- the least of two kinds is the earlier of the two leasts
pub least_of_both : (P Q : Prefix → Type 0) (a b : Option Prefix) → IsLeast P a → IsLeast Q b → IsLeast (λ x. P x ⊎ Q x) (earlier a b)
least_of_both P Q None None h k = λ other e. ⊎_elim (λ p. h other p) (λ q. k other q) e
least_of_both P Q None (Some b) h k = (inr k.0, λ other e. ⊎_elim (λ p. absurd (h other p)) (λ q. k.1 other q) e)
least_of_both P Q (Some a) None h k = (inl h.0, λ other e. ⊎_elim (λ p. h.1 other p) (λ q. absurd (k other q)) e)
least_of_both P Q (Some a) (Some b) h k =
    elim (earlier_of a b) [
      | inl (is, less) ↦ subst (λ r. IsLeast (λ x. P x ⊎ Q x) r) (sym is) (inl h.0, λ (other : Prefix) (e : P other ⊎ Q other). ⊎_elim (λ p. h.1 other p) (λ q. over less (k.1 other q)) e)
      | inr (is, less) ↦ subst (λ r. IsLeast (λ x. P x ⊎ Q x) r) (sym is) (inr k.0, λ (other : Prefix) (e : P other ⊎ Q other). ⊎_elim (λ p. over (strict less) (h.1 other p)) (λ q. k.1 other q) e)
    ]

-- nothing is among none
pub none_yet : (pool taken : List Prefix) (version size : ℕ) → IsLeast (λ block. IsAmong pool taken version size 0 block) None
none_yet pool taken version size other h = absurd (omega (arith, h.counted))

wider : (pool taken : List Prefix) (version size count : ℕ) (whole : Prefix) → ((d : Prefix) → get_or pool count d ≡ whole) → (b : Prefix)
    → IsAmong pool taken version size count b ⊎ IsHere whole taken version size b → IsAmong pool taken version size (count + 1) b
wider pool taken version size count whole at b (inl e) = let less : e.place < count + 1 = omega (arith, e.counted) in record { place = e.place; whole = e.whole; counted = less; is = e.is; here = e.here }
wider pool taken version size count whole at b (inr e) = let less : count < count + 1 = omega arith in record { place = count; whole = whole; counted = less; is = at whole; here = e }

last_or_before : (pool taken : List Prefix) (version size count : ℕ) (whole : Prefix) → ((d : Prefix) → get_or pool count d ≡ whole) → (b : Prefix)
    → IsAmong pool taken version size (count + 1) b → IsAmong pool taken version size count b ⊎ IsHere whole taken version size b
last_or_before pool taken version size count whole at b e =
    elim (cases_lt e.place count) [
      | inl less ↦ inl (record { place = e.place; whole = e.whole; counted = less; is = e.is; here = e.here })
      | inr more ↦
          let same : e.place ≡ count = omega (arith, e.counted, more) in
          let found : e.whole ≡ whole = sym e.is ∙ ap (λ n. get_or pool n e.whole) same ∙ at e.whole in
          inr (subst (λ w. IsHere w taken version size b) found e.here)
    ]

-- with one block of the pool more
pub one_more : (pool taken : List Prefix) (version size count : ℕ) (whole : Prefix) (best found : Option Prefix) → ((d : Prefix) → get_or pool count d ≡ whole)
    → IsLeast (λ block. IsAmong pool taken version size count block) best → IsLeast (λ block. IsHere whole taken version size block) found
    → IsLeast (λ block. IsAmong pool taken version size (count + 1) block) (earlier best found)
one_more pool taken version size count whole best found at h k =
    least_same (λ block. IsAmong pool taken version size count block ⊎ IsHere whole taken version size block) (λ block. IsAmong pool taken version size (count + 1) block)
    (λ b e. wider pool taken version size count whole at b e) (λ b e. last_or_before pool taken version size count whole at b e) (earlier best found)
    (least_of_both (λ block. IsAmong pool taken version size count block) (λ block. IsHere whole taken version size block) best found h k)

-- among all of the pool is free
pub all_seen : (pool taken : List Prefix) (version size : ℕ) (found : Option Prefix) → IsLeast (λ block. IsAmong pool taken version size (length pool) block) found
    → IsLeastFree pool taken version size found
all_seen pool taken version size found h =
    least_same (λ block. IsAmong pool taken version size (length pool) block) (λ block. IsOf version size block × IsFree pool taken block)
    (λ b e. (e.here.of, record { inside = (e.place, e.whole, e.counted, e.is, e.here.within); apart = e.here.apart }))
    (λ b e. record {
      place = e.1.inside.0;
      whole = e.1.inside.1;
      counted = e.1.inside.2;
      is = e.1.inside.3;
      here = record { of = e.0; within = e.1.inside.4; apart = e.1.apart };
    }) found h

-- a block of the pool of another version has none
pub other_version : IsWithinByBits → (whole : Prefix) (taken : List Prefix) (version size : ℕ) → (version_of whole.addr ≡ version → ⊥) → (other : Prefix) → IsHere whole taken version size other → ⊥
other_version law whole taken version size differs other here =
    differs (one_version whole.addr other.addr ((law other whole).0 here.within).1.version ∙ here.of.version_is)

-- in a block of the pool of this version
pub this_version : (whole : Prefix) (taken : List Prefix) (version size : ℕ) (found : Option Prefix) → version_of whole.addr ≡ version
    → IsLeast (λ block. IsSpare whole taken size block) found → IsLeast (λ block. IsHere whole taken version size block) found
this_version whole taken version size found is h =
    least_same (λ block. IsSpare whole taken size block) (λ block. IsHere whole taken version size block)
    (λ b e. record { of = subst (λ v. IsOf v size b) is e.of; within = e.within; apart = e.apart })
    (λ b e. record { of = subst (λ v. IsOf v size b) (sym is) e.of; within = e.within; apart = e.apart }) found h

-- the length fits the version
pub fits : (a : Addr) (version size : ℕ) → IsFormat version size → version_of a ≡ version → size ≤ width a
fits (V4 n) version size (inl h) is = h.1
fits (V4 n) version size (inr h) is = absurd (omega (arith, h.0, is))
fits (V6 n) version size (inl h) is = absurd (omega (arith, h.0, is))
fits (V6 n) version size (inr h) is = h.1
