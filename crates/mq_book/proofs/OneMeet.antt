-- Maximal intervals are told by the addresses that they have.
use Rattle.std.proofs.Common.{◌≡◌, ℕ, zero, suc, ◌+◌, ◌<◌, ◌≤◌, ◌⊎◌, List, [], ◌∷◌, length, Option, ap, sym, ◌∙◌, refl, subst, arith, inl, inr}
use Rattle.std.proofs.lemmas.Bool.{cases_order}
use Rattle.mq_addr.specs.declared.addr.Addr.{Addr}
use Rattle.mq_addr.specs.declared.addr.Addr.TheVariants.{V4, V6}
use Rattle.mq_addr.specs.declared.prefix.Prefix.{Prefix}
use Rattle.mq_addr.specs.declared.range.Range.{Range}
use Rattle.mq_addr.specs.Block.{bits_of, SameVersion}
use Rattle.mq_addr.specs.Cover.{version_of}
use Rattle.mq_addr.specs.Ranges.{IsRange, InRange, Precedes, AreMaximal, Has, IsMeet}

one_version : (a b : Addr) → SameVersion a b → version_of a ≡ version_of b
one_version (V4 a) (V4 b) h = refl
one_version (V4 a) (V6 b) h = absurd h
one_version (V6 a) (V4 b) h = absurd h
one_version (V6 a) (V6 b) h = refl

by_version : (a b : Addr) → version_of a ≡ version_of b → SameVersion a b
by_version (V4 a) (V4 b) h = tt
by_version (V4 a) (V6 b) h = absurd (omega arith)
by_version (V6 a) (V4 b) h = absurd (omega arith)
by_version (V6 a) (V6 b) h = tt

pub same_addr : (a b : Addr) → version_of a ≡ version_of b → bits_of a ≡ bits_of b → a ≡ b
same_addr (V4 a) (V4 b) v e = ap V4 e
same_addr (V4 a) (V6 b) v e = absurd (omega arith)
same_addr (V6 a) (V4 b) v e = absurd (omega arith)
same_addr (V6 a) (V6 b) v e = ap V6 e

-- an address of this number
at_number : (a : Addr) (n : ℕ) → (x : Addr) × (version_of x ≡ version_of a) × (bits_of x ≡ n)
at_number (V4 a) n = (V4 n, refl, refl)
at_number (V6 a) n = (V6 n, refl, refl)

abbrev Covers : ℕ → Addr → Range → Type 0
Covers protocol a r = (r.protocol ≡ protocol) × InRange r a

tail : (r : Range) (rs : List Range) → AreMaximal (r ∷ rs) → AreMaximal rs
tail r rs m = record {
  ranges_are = λ k d less. let below : suc k < length (r ∷ rs) = omega (arith, less) in m.ranges_are (suc k) d below;
  apart = λ i j d less within. let up : suc i < suc j = omega (arith, less) in let below : suc j < length (r ∷ rs) = omega (arith, within) in m.apart (suc i) (suc j) d up below;
}

head : (r : Range) (rs : List Range) → AreMaximal (r ∷ rs) → IsRange r
head r rs m = let less : 0 < length (r ∷ rs) = omega arith in m.ranges_are 0 r less

has_head : (r : Range) (rs : List Range) (protocol : ℕ) (a : Addr) → Covers protocol a r → Has (r ∷ rs) protocol a
has_head r rs protocol a c = let less : 0 < length (r ∷ rs) = omega arith in (0, r, less, refl, c)

has_tail : (r : Range) (rs : List Range) (protocol : ℕ) (a : Addr) → Has rs protocol a → Has (r ∷ rs) protocol a
has_tail r rs protocol a (k, y, less, is, c) = let below : suc k < length (r ∷ rs) = omega (arith, less) in (suc k, y, below, is, c)

has_none : (protocol : ℕ) (a : Addr) → Has [] protocol a → ⊥
has_none protocol a (k, y, less, is, c) = omega (arith, less)

-- what has an address is the first, or behind it
member : (r : Range) (rs : List Range) (protocol : ℕ) (a : Addr) → AreMaximal (r ∷ rs) → Has (r ∷ rs) protocol a → Covers protocol a r ⊎ ((s : Range) × Precedes 1 r s × Covers protocol a s × Has rs protocol a)
member r rs protocol a m (zero, y, less, is, c) = inl (subst (Covers protocol a) (sym is) c)
member r rs protocol a m (suc k, y, less, is, c) =
    let up : 0 < suc k = omega arith in
    let below : k < length rs = omega (arith, less) in
    inr (y, subst (λ s. Precedes 1 r s) is (m.apart 0 (suc k) y up less), c, (k, y, below, is, c))

-- the numbers of a range that has an address
record Numbers (r : Range) (protocol : ℕ) (a : Addr) : Type 0 where
  version : version_of r.first ≡ version_of a
  own : r.protocol ≡ protocol
  low : bits_of r.first ≤ bits_of a
  high : bits_of a ≤ bits_of r.last

numbers : (r : Range) (protocol : ℕ) (a : Addr) → Covers protocol a r → Numbers r protocol a
numbers r protocol a c = record { version = one_version r.first a c.1.version; own = c.0; low = c.1.low; high = c.1.high }

-- the first range of a list is not above an address that the list has
abbrev Low : Range → ℕ → Addr → Type 0
Low r protocol a =
    (version_of r.first < version_of a)
    ⊎ ((version_of r.first ≡ version_of a) × (r.protocol < protocol))
    ⊎ ((version_of r.first ≡ version_of a) × (r.protocol ≡ protocol) × (bits_of r.first ≤ bits_of a))

behind : (r s : Range) (protocol : ℕ) (a : Addr) → bits_of r.first ≤ bits_of r.last → Numbers s protocol a → Precedes 1 r s → Low r protocol a
behind r s protocol a up n (inl less) = let v = n.version in inl (omega (arith, less, v))
behind r s protocol a up n (inr (inl (v, less))) = let o = n.own in inr (inl (v ∙ n.version, omega (arith, less, o)))
behind r s protocol a up n (inr (inr (v, e, less))) = let l = n.low in inr (inr (v ∙ n.version, e ∙ n.own, omega (arith, less, l, up)))

low : (r : Range) (rs : List Range) (protocol : ℕ) (a : Addr) → AreMaximal (r ∷ rs) → Has (r ∷ rs) protocol a → Low r protocol a
low r rs protocol a m h = elim (member r rs protocol a m h) [
  | inl c ↦ let n = numbers r protocol a c in inr (inr (n.version, n.own, n.low))
  | inr (s, p, c, more) ↦ behind r s protocol a (head r rs m).rising (numbers s protocol a c) p
]

-- no address is both in the first range and in one behind it, for one protocol
not_both : (r s : Range) (protocol : ℕ) (a : Addr) → Numbers r protocol a → Numbers s protocol a → Precedes 1 r s → ⊥
not_both r s protocol a n k (inl less) = omega (arith, less, n.version, k.version)
not_both r s protocol a n k (inr (inl (v, less))) = omega (arith, less, n.own, k.own)
not_both r s protocol a n k (inr (inr (v, e, less))) = omega (arith, less, n.high, k.low)

-- two ranges with one start
record Level (r s : Range) : Type 0 where
  version : version_of r.first ≡ version_of s.first
  own : r.protocol ≡ s.protocol
  starts : bits_of r.first ≡ bits_of s.first

level : (r s : Range) → Low r s.protocol s.first → Low s r.protocol r.first → Level r s
level r s (inl a) (inl b) = absurd (omega (arith, a, b))
level r s (inl a) (inr (inl (v, b))) = absurd (omega (arith, a, v))
level r s (inl a) (inr (inr (v, e, b))) = absurd (omega (arith, a, v))
level r s (inr (inl (v, a))) (inl b) = absurd (omega (arith, v, b))
level r s (inr (inl (v, a))) (inr (inl (w, b))) = absurd (omega (arith, a, b))
level r s (inr (inl (v, a))) (inr (inr (w, e, b))) = absurd (omega (arith, a, e))
level r s (inr (inr (v, e, a))) (inl b) = absurd (omega (arith, v, b))
level r s (inr (inr (v, e, a))) (inr (inl (w, b))) = absurd (omega (arith, e, b))
level r s (inr (inr (v, e, a))) (inr (inr (w, f, b))) = let same : bits_of r.first ≡ bits_of s.first = omega (arith, a, b) in record { version = v; own = e; starts = same }

own_first : (r : Range) (rs : List Range) → AreMaximal (r ∷ rs) → Has (r ∷ rs) r.protocol r.first
own_first r rs m =
    let up = head r rs m in
    let here : bits_of r.first ≤ bits_of r.first = omega arith in
    has_head r rs r.protocol r.first (refl, record { version = by_version r.first r.first refl; low = here; high = up.rising })

-- the list has no address behind its first range, up to the next
not_next : (r : Range) (rs : List Range) (a : Addr) → AreMaximal (r ∷ rs) → version_of r.first ≡ version_of a → bits_of a ≡ bits_of r.last + 1 → Has (r ∷ rs) r.protocol a → ⊥
not_next r rs a m v e h = elim (member r rs r.protocol a m h) [
  | inl c ↦ omega (arith, e, c.1.high)
  | inr (s, inl less, c, more) ↦ let n = numbers s r.protocol a c in omega (arith, less, v, n.version)
  | inr (s, inr (inl (w, less)), c, more) ↦ omega (arith, less, c.0)
  | inr (s, inr (inr (w, f, less)), c, more) ↦ omega (arith, less, e, c.1.low)
]

-- of two with one start none ends earlier
not_shorter : (r s : Range) (rs ss : List Range) → AreMaximal (r ∷ rs) → AreMaximal (s ∷ ss) → Level r s
    → ((protocol : ℕ) (a : Addr) → Has (s ∷ ss) protocol a → Has (r ∷ rs) protocol a) → bits_of r.last < bits_of s.last → ⊥
not_shorter r s rs ss m k is all less =
    let x = at_number s.first (bits_of r.last + 1) in
    let up = (head r rs m).rising in
    let number = x.2 in
    let start = is.starts in
    let low : bits_of s.first ≤ bits_of x.0 = omega (arith, number, start, up) in
    let high : bits_of x.0 ≤ bits_of s.last = omega (arith, number, less) in
    let has : Has (s ∷ ss) s.protocol x.0 = has_head s ss s.protocol x.0 (refl, record { version = by_version s.first x.0 (sym x.1); low = low; high = high }) in
    not_next r rs x.0 m (is.version ∙ sym x.1) number (subst (λ p. Has (r ∷ rs) p x.0) (sym is.own) (all s.protocol x.0 has))

same_range : (r s : Range) → r.first ≡ s.first → r.last ≡ s.last → r.protocol ≡ s.protocol → r ≡ s
same_range r s a b c =
    let by_first : Addr → Range = λ x. record { first = x; last = r.last; protocol = r.protocol } in
    let by_last : Addr → Range = λ x. record { first = s.first; last = x; protocol = r.protocol } in
    let by_own : ℕ → Range = λ x. record { first = s.first; last = s.last; protocol = x } in
    ap by_first a ∙ ap by_last b ∙ ap by_own c

turned : (r s : Range) → Level r s → Level s r
turned r s is = record { version = sym is.version; own = sym is.own; starts = sym is.starts }

same_head : (r s : Range) (rs ss : List Range) → AreMaximal (r ∷ rs) → AreMaximal (s ∷ ss)
    → ((protocol : ℕ) (a : Addr) → Has (r ∷ rs) protocol a → Has (s ∷ ss) protocol a) → ((protocol : ℕ) (a : Addr) → Has (s ∷ ss) protocol a → Has (r ∷ rs) protocol a) → r ≡ s
same_head r s rs ss m k to from =
    let low_s = low s ss r.protocol r.first k (to r.protocol r.first (own_first r rs m)) in
    let low_r = low r rs s.protocol s.first m (from s.protocol s.first (own_first s ss k)) in
    let is = level r s low_r low_s in
    let ends : bits_of r.last ≡ bits_of s.last = elim (cases_order (bits_of r.last) (bits_of s.last)) [
      | inl same ↦ same
      | inr (inl less) ↦ absurd (not_shorter r s rs ss m k is from less)
      | inr (inr more) ↦ absurd (not_shorter s r ss rs k m (turned r s is) to more)
    ] in
    let version : version_of r.last ≡ version_of s.last = sym (one_version r.first r.last (head r rs m).version) ∙ is.version ∙ one_version s.first s.last (head s ss k).version in
    same_range r s (same_addr r.first s.first is.version is.starts) (same_addr r.last s.last version ends) is.own

-- behind equal first ranges the same addresses are left
same_tail : (r : Range) (rs ss : List Range) → AreMaximal (r ∷ rs) → AreMaximal (r ∷ ss) → ((protocol : ℕ) (a : Addr) → Has (r ∷ rs) protocol a → Has (r ∷ ss) protocol a)
    → (protocol : ℕ) (a : Addr) → Has rs protocol a → Has ss protocol a
same_tail r rs ss m k to protocol a (n, y, less, is, c) =
    let within : suc n < length (r ∷ rs) = omega (arith, less) in
    let up : 0 < suc n = omega arith in
    let apart : Precedes 1 r y = subst (λ s. Precedes 1 r s) is (m.apart 0 (suc n) y up within) in
    elim (member r ss protocol a k (to protocol a (has_tail r rs protocol a (n, y, less, is, c)))) [
      | inl d ↦ absurd (not_both r y protocol a (numbers r protocol a d) (numbers y protocol a c) apart)
      | inr (s, p, d, more) ↦ more
    ]

pub one_list : (rs ss : List Range) → AreMaximal rs → AreMaximal ss → ((protocol : ℕ) (a : Addr) → Has rs protocol a → Has ss protocol a)
    → ((protocol : ℕ) (a : Addr) → Has ss protocol a → Has rs protocol a) → rs ≡ ss
one_list [] [] m k to from = refl
one_list [] (s ∷ ss) m k to from = absurd (has_none s.protocol s.first (from s.protocol s.first (own_first s ss k)))
one_list (r ∷ rs) [] m k to from = absurd (has_none r.protocol r.first (to r.protocol r.first (own_first r rs m)))
one_list (r ∷ rs) (s ∷ ss) m k to from =
    let same = same_head r s rs ss m k to from in
    let k_r : AreMaximal (r ∷ ss) = subst (λ x. AreMaximal (x ∷ ss)) (sym same) k in
    let to_r : (protocol : ℕ) (a : Addr) → Has (r ∷ rs) protocol a → Has (r ∷ ss) protocol a = λ protocol a h. subst (λ x. Has (x ∷ ss) protocol a) (sym same) (to protocol a h) in
    let from_r : (protocol : ℕ) (a : Addr) → Has (r ∷ ss) protocol a → Has (r ∷ rs) protocol a = λ protocol a h. from protocol a (subst (λ x. Has (x ∷ ss) protocol a) same h) in
    let rest = one_list rs ss (tail r rs m) (tail r ss k_r) (same_tail r rs ss m k_r to_r) (same_tail r ss rs k_r m from_r) in
    ap (λ l. r ∷ l) rest ∙ ap (λ x. x ∷ ss) same

-- what a request meets is one list
pub one_meet : (ranges : List Range) (area : Option Prefix) (asked : Option ℕ) (a b : List Range) → IsMeet ranges area asked a → IsMeet ranges area asked b → a ≡ b
one_meet ranges area asked a b m k = one_list a b m.maximal k.maximal (λ p x h. (k.same p x).1 ((m.same p x).0 h)) (λ p x h. (m.same p x).1 ((k.same p x).0 h))
