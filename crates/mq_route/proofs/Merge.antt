-- What a range put into a list of maximal intervals leaves.
use Rattle.std.proofs.Common.{◌≡◌, ℕ, zero, suc, ◌+◌, ◌<◌, ◌≤◌, ◌⊎◌, Bool, true, false, cond, List, [], ◌∷◌, length, get_or, ap, sym, ◌∙◌, refl, subst, arith, inl, inr, ⊎_elim, drop, length-drop}
use Rattle.std.proofs.lemmas.Bool.{cases_lt, cases_order}
use Rattle.std.proofs.lemmas.List.{drop_more}
use Rattle.std.proofs.lemmas.Bool.Decides.{nat_tests}
use Rattle.std.specs.List.{Any, All, AllPairs}
use Rattle.mq_addr.specs.declared.addr.Addr.{Addr}
use Rattle.mq_addr.specs.declared.addr.Addr.TheVariants.{V4, V6}
use Rattle.mq_addr.specs.declared.range.Range.{Range}
use Rattle.mq_addr.specs.Block.{bits_of, SameVersion}
use Rattle.mq_addr.specs.Cover.{version_of}
use Rattle.mq_addr.specs.Ranges.{IsRange, InRange, Precedes}
use Rattle.mq_route.specs.Puts.{hull, lower, higher, precedes, put}

-- an element of a list is the first or another
any_cons : (P : Range → Type 0) (r : Range) (rs : List Range) → Any P (r ∷ rs) → P r ⊎ Any P rs
any_cons P r rs (zero, y, less, is, p) = inl (subst P (sym is) p)
any_cons P r rs (suc k, y, less, is, p) = let below : k < length rs = omega (arith, less) in inr (k, y, below, is, p)

any_head : (P : Range → Type 0) (r : Range) (rs : List Range) → P r → Any P (r ∷ rs)
any_head P r rs p = let less : 0 < length (r ∷ rs) = omega arith in (0, r, less, refl, p)

any_tail : (P : Range → Type 0) (r : Range) (rs : List Range) → Any P rs → Any P (r ∷ rs)
any_tail P r rs (k, y, less, is, p) = let below : suc k < length (r ∷ rs) = omega (arith, less) in (suc k, y, below, is, p)

-- each of a list
data_all : (P : Range → Type 0) (r : Range) (rs : List Range) → P r → All P rs → All P (r ∷ rs)
data_all P r rs p ps zero d less = p
data_all P r rs p ps (suc k) d less = let below : k < length rs = omega (arith, less) in ps k d below

all_head : (P : Range → Type 0) (r : Range) (rs : List Range) → All P (r ∷ rs) → P r
all_head P r rs ps = let less : 0 < length (r ∷ rs) = omega arith in ps 0 r less

all_tail : (P : Range → Type 0) (r : Range) (rs : List Range) → All P (r ∷ rs) → All P rs
all_tail P r rs ps k d less = let below : suc k < length (r ∷ rs) = omega (arith, less) in ps (suc k) d below

-- what is before what, from the test and back
before : (r s : Range) → precedes r s ≡ true → Precedes 1 r s
before r s h = grind (arith, nat_tests, h)

not_before : (r s : Range) → precedes r s ≡ false → Precedes 1 r s → ⊥
not_before r s h k = grind (arith, nat_tests, h, k)

ways_by : (h r : Range) (rs : List Range) (b c : Bool) → precedes h r ≡ b → precedes r h ≡ c → ((precedes h r ≡ true) × (put h (r ∷ rs) ≡ h ∷ r ∷ rs))
    ⊎ (((precedes r h ≡ true) × (put h (r ∷ rs) ≡ r ∷ put h rs)) ⊎ ((precedes h r ≡ false) × (precedes r h ≡ false) × (put h (r ∷ rs) ≡ put (hull h r) rs)))
ways_by h r rs true c e f = inl (e, ap (λ b. cond b (h ∷ r ∷ rs) (cond (precedes r h) (r ∷ put h rs) (put (hull h r) rs))) e)
ways_by h r rs false true e f =
    inr (inl (f, ap (λ b. cond b (h ∷ r ∷ rs) (cond (precedes r h) (r ∷ put h rs) (put (hull h r) rs))) e ∙ ap (λ b. cond b (r ∷ put h rs) (put (hull h r) rs)) f))
ways_by h r rs false false e f =
    inr (inr (e, f, ap (λ b. cond b (h ∷ r ∷ rs) (cond (precedes r h) (r ∷ put h rs) (put (hull h r) rs))) e ∙ ap (λ b. cond b (r ∷ put h rs) (put (hull h r) rs)) f))

-- three ways of a put
ways : (h r : Range) (rs : List Range) → ((precedes h r ≡ true) × (put h (r ∷ rs) ≡ h ∷ r ∷ rs))
    ⊎ (((precedes r h ≡ true) × (put h (r ∷ rs) ≡ r ∷ put h rs)) ⊎ ((precedes h r ≡ false) × (precedes r h ≡ false) × (put h (r ∷ rs) ≡ put (hull h r) rs)))
ways h r rs = ways_by h r rs (precedes h r) (precedes r h) refl refl

put_stops : (h r : Range) (rs : List Range) → precedes h r ≡ true → put h (r ∷ rs) ≡ h ∷ r ∷ rs
put_stops h r rs e = ap (λ b. cond b (h ∷ r ∷ rs) (cond (precedes r h) (r ∷ put h rs) (put (hull h r) rs))) e

pub stops_at : (h : Range) (list : List Range) (i : ℕ) (d : Range) → i < length list → precedes h (get_or list i d) ≡ true → put h (drop i list) ≡ h ∷ drop i list
stops_at h list i d less e =
    let more = drop_more list i d less in
    subst (λ l. put h l ≡ h ∷ l) (sym more) (put_stops h (get_or list i d) (drop (i + 1) list) e)

none_left : (h : Range) (list : List Range) → length list ≡ 0 → put h list ≡ h ∷ list
none_left h [] e = refl
none_left h (r ∷ rs) e = absurd (omega arith)

pub stops_behind : (h : Range) (list : List Range) (i : ℕ) → length list ≤ i → put h (drop i list) ≡ h ∷ drop i list
stops_behind h list i more = let none : length (drop i list) ≡ 0 = omega (arith, length-drop i list) in none_left h (drop i list) none

-- two ranges neither of which is before the other
record Touch (h r : Range) : Type 0 where
  version : version_of r.first ≡ version_of h.first
  protocol : r.protocol ≡ h.protocol
  low : bits_of h.first ≤ bits_of r.last + 1
  high : bits_of r.first ≤ bits_of h.last + 1

touch : (h r : Range) → (Precedes 1 h r → ⊥) → (Precedes 1 r h → ⊥) → Touch h r
touch h r a b =
    elim (cases_order (version_of r.first) (version_of h.first)) [
      | inl version ↦ elim (cases_order r.protocol h.protocol) [
        | inl protocol ↦ elim (cases_lt (bits_of r.last + 1) (bits_of h.first)) [
          | inl less ↦ absurd (b (inr (inr (version, protocol, less))))
          | inr low ↦ elim (cases_lt (bits_of h.last + 1) (bits_of r.first)) [
            | inl less ↦ absurd (a (inr (inr (sym version, sym protocol, less))))
            | inr high ↦ record { version = version; protocol = protocol; low = low; high = high }
          ]
        ]
        | inr (inl less) ↦ absurd (b (inr (inl (version, less))))
        | inr (inr more) ↦ absurd (a (inr (inl (sym version, more))))
      ]
      | inr (inl less) ↦ absurd (b (inl less))
      | inr (inr more) ↦ absurd (a (inl more))
    ]

-- the lower and the higher of two addresses
lower_is : (a b : Addr) → ((lower a b ≡ a) × (bits_of a ≤ bits_of b)) ⊎ ((lower a b ≡ b) × (bits_of b < bits_of a))
lower_is a b = elim (cases_lt (bits_of b) (bits_of a)) [
  | inl less ↦ inr (grind (arith, less), less)
  | inr more ↦ inl (grind (arith, more), more)
]

higher_is : (a b : Addr) → ((higher a b ≡ b) × (bits_of a ≤ bits_of b)) ⊎ ((higher a b ≡ a) × (bits_of b < bits_of a))
higher_is a b = elim (cases_lt (bits_of b) (bits_of a)) [
  | inl less ↦ inr (grind (arith, less), less)
  | inr more ↦ inl (grind (arith, more), more)
]

joined : (a b c : Addr) → SameVersion a b → SameVersion b c → SameVersion a c
joined (V4 a) (V4 b) (V4 c) h k = tt
joined (V4 a) (V4 b) (V6 c) h k = absurd k
joined (V4 a) (V6 b) c h k = absurd h
joined (V6 a) (V4 b) c h k = absurd h
joined (V6 a) (V6 b) (V4 c) h k = absurd k
joined (V6 a) (V6 b) (V6 c) h k = tt

by_version : (a b : Addr) → version_of a ≡ version_of b → SameVersion a b
by_version (V4 a) (V4 b) h = tt
by_version (V4 a) (V6 b) h = absurd (omega arith)
by_version (V6 a) (V4 b) h = absurd (omega arith)
by_version (V6 a) (V6 b) h = tt

one_version : (a b : Addr) → SameVersion a b → version_of a ≡ version_of b
one_version (V4 a) (V4 b) h = refl
one_version (V4 a) (V6 b) h = absurd h
one_version (V6 a) (V4 b) h = absurd h
one_version (V6 a) (V6 b) h = refl

lower_n : (a b : Addr) → (bits_of (lower a b) ≤ bits_of a) × (bits_of (lower a b) ≤ bits_of b) × ((bits_of (lower a b) ≡ bits_of a) ⊎ (bits_of (lower a b) ≡ bits_of b))
lower_n a b = elim (lower_is a b) [
  | inl (e, le) ↦ let n : bits_of (lower a b) ≡ bits_of a = ap bits_of e in (omega (arith, n), omega (arith, n, le), inl n)
  | inr (e, le) ↦ let n : bits_of (lower a b) ≡ bits_of b = ap bits_of e in (omega (arith, n, le), omega (arith, n), inr n)
]

higher_n : (a b : Addr) → (bits_of a ≤ bits_of (higher a b)) × (bits_of b ≤ bits_of (higher a b)) × ((bits_of (higher a b) ≡ bits_of a) ⊎ (bits_of (higher a b) ≡ bits_of b))
higher_n a b = elim (higher_is a b) [
  | inl (e, le) ↦ let n : bits_of (higher a b) ≡ bits_of b = ap bits_of e in (omega (arith, n, le), omega (arith, n), inr n)
  | inr (e, le) ↦ let n : bits_of (higher a b) ≡ bits_of a = ap bits_of e in (omega (arith, n), omega (arith, n, le), inl n)
]

lower_v : (a b : Addr) (v : ℕ) → version_of a ≡ v → version_of b ≡ v → version_of (lower a b) ≡ v
lower_v a b v p q = ⊎_elim (λ e. ap version_of e.0 ∙ p) (λ e. ap version_of e.0 ∙ q) (lower_is a b)

higher_v : (a b : Addr) (v : ℕ) → version_of a ≡ v → version_of b ≡ v → version_of (higher a b) ≡ v
higher_v a b v p q = ⊎_elim (λ e. ap version_of e.0 ∙ q) (λ e. ap version_of e.0 ∙ p) (higher_is a b)

-- the numbers of a hull
record HullIs (h r : Range) : Type 0 where
  version : version_of (hull h r).first ≡ version_of h.first
  last_version : version_of (hull h r).last ≡ version_of h.first
  low_h : bits_of (hull h r).first ≤ bits_of h.first
  low_r : bits_of (hull h r).first ≤ bits_of r.first
  high_h : bits_of h.last ≤ bits_of (hull h r).last
  high_r : bits_of r.last ≤ bits_of (hull h r).last
  first_is : (bits_of (hull h r).first ≡ bits_of h.first) ⊎ (bits_of (hull h r).first ≡ bits_of r.first)
  last_is : (bits_of (hull h r).last ≡ bits_of h.last) ⊎ (bits_of (hull h r).last ≡ bits_of r.last)

hull_is : (h r : Range) → IsRange h → IsRange r → Touch h r → HullIs h r
hull_is h r a b t =
    let low = lower_n h.first r.first in
    let high = higher_n h.last r.last in
    record {
      version = lower_v h.first r.first (version_of h.first) refl t.version;
      last_version = higher_v h.last r.last (version_of h.first) (sym (one_version h.first h.last a.version)) (sym (one_version r.first r.last b.version) ∙ t.version);
      low_h = low.0;
      low_r = low.1;
      high_h = high.0;
      high_r = high.1;
      first_is = low.2;
      last_is = high.2;
    }

-- the hull is a range
hull_range : (h r : Range) → IsRange h → IsRange r → Touch h r → IsRange (hull h r)
hull_range h r a b t =
    let is = hull_is h r a b t in
    let up : bits_of (hull h r).first ≤ bits_of (hull h r).last = omega (arith, is.low_h, is.high_h, a.rising) in
    record { version = by_version (hull h r).first (hull h r).last (is.version ∙ sym is.last_version); rising = up }

-- an address of the hull of two that touch is one of either
in_hull : (h r : Range) → IsRange h → IsRange r → Touch h r → (a : Addr) → InRange (hull h r) a → InRange h a ⊎ InRange r a
in_hull h r p q t a i =
    let is = hull_is h r p q t in
    let version : version_of h.first ≡ version_of a = sym is.version ∙ one_version (hull h r).first a i.version in
    let to_h = by_version h.first a version in
    let to_r = by_version r.first a (t.version ∙ version) in
    elim (cases_lt (bits_of a) (bits_of h.first)) [
      | inl less ↦
          let low : bits_of r.first ≤ bits_of a = ⊎_elim (λ e. absurd (omega (arith, e, less, i.low))) (λ e. omega (arith, e, i.low)) is.first_is in
          let high : bits_of a ≤ bits_of r.last = omega (arith, less, t.low) in
          inr (record { version = to_r; low = low; high = high })
      | inr more ↦ elim (cases_lt (bits_of h.last) (bits_of a)) [
        | inl over ↦
            let low : bits_of r.first ≤ bits_of a = omega (arith, over, t.high) in
            let high : bits_of a ≤ bits_of r.last = ⊎_elim (λ e. absurd (omega (arith, e, over, i.high))) (λ e. omega (arith, e, i.high)) is.last_is in
            inr (record { version = to_r; low = low; high = high })
        | inr under ↦ inl (record { version = to_h; low = more; high = under })
      ]
    ]

hull_has_h : (h r : Range) → IsRange h → IsRange r → Touch h r → (a : Addr) → InRange h a → InRange (hull h r) a
hull_has_h h r p q t a i =
    let is = hull_is h r p q t in
    let low : bits_of (hull h r).first ≤ bits_of a = omega (arith, is.low_h, i.low) in
    let high : bits_of a ≤ bits_of (hull h r).last = omega (arith, is.high_h, i.high) in
    record { version = by_version (hull h r).first a (is.version ∙ one_version h.first a i.version); low = low; high = high }

hull_has_r : (h r : Range) → IsRange h → IsRange r → Touch h r → (a : Addr) → InRange r a → InRange (hull h r) a
hull_has_r h r p q t a i =
    let is = hull_is h r p q t in
    let low : bits_of (hull h r).first ≤ bits_of a = omega (arith, is.low_r, i.low) in
    let high : bits_of a ≤ bits_of (hull h r).last = omega (arith, is.high_r, i.high) in
    record { version = by_version (hull h r).first a (is.version ∙ sym t.version ∙ one_version r.first a i.version); low = low; high = high }

-- what is before both of two that touch is before their hull
before_hull : (x h r : Range) → IsRange h → IsRange r → Touch h r → Precedes 1 x h → Precedes 1 x r → Precedes 1 x (hull h r)
before_hull x h r p q t (inl less) k = let is = hull_is h r p q t in let v = is.version in inl (omega (arith, less, v))
before_hull x h r p q t (inr (inl (v, less))) k = let is = hull_is h r p q t in inr (inl (v ∙ sym is.version, less))
before_hull x h r p q t (inr (inr (v, e, less))) (inl k) = absurd (omega (arith, v, k, t.version))
before_hull x h r p q t (inr (inr (v, e, less))) (inr (inl (w, k))) = absurd (omega (arith, e, k, t.protocol))
before_hull x h r p q t (inr (inr (v, e, less))) (inr (inr (w, f, k))) =
    let is = hull_is h r p q t in
    let under : bits_of x.last + 1 < bits_of (hull h r).first = ⊎_elim (λ z. omega (arith, z, less)) (λ z. omega (arith, z, k)) is.first_is in
    inr (inr (v ∙ sym is.version, e, under))

-- what is before a range that is before a third is before that
through : (x y z : Range) → IsRange y → Precedes 1 x y → Precedes 1 y z → Precedes 1 x z
through x y z p h k = grind (arith, p.rising, h, k)

-- each of what a put leaves keeps what the range and the list keep
put_keeps : (Q : Range → Type 0) → ((h r : Range) → IsRange h → IsRange r → Touch h r → Q h → Q r → Q (hull h r)) → (h : Range) (rs : List Range) → IsRange h → All IsRange rs → Q h → All Q rs → All Q (put h rs)
put_keeps Q hull_q h [] p ps q qs = data_all Q h [] q qs
put_keeps Q hull_q h (r ∷ rs) p ps q qs =
    let pr = all_head IsRange r rs ps in
    let prs = all_tail IsRange r rs ps in
    let qr = all_head Q r rs qs in
    let qrs = all_tail Q r rs qs in
    elim (ways h r rs) [
      | inl (e, is) ↦ subst (λ l. All Q l) (sym is) (data_all Q h (r ∷ rs) q qs)
      | inr (inl (e, is)) ↦ subst (λ l. All Q l) (sym is) (data_all Q r (put h rs) qr (put_keeps Q hull_q h rs p prs q qrs))
      | inr (inr (e, f, is)) ↦
          let t = touch h r (not_before h r e) (not_before r h f) in
          subst (λ l. All Q l) (sym is) (put_keeps Q hull_q (hull h r) rs (hull_range h r p pr t) prs (hull_q h r p pr t q qr) qrs)
    ]

pub put_ranges : (h : Range) (rs : List Range) → IsRange h → All IsRange rs → All IsRange (put h rs)
put_ranges h rs p ps = put_keeps IsRange (λ a b x y t _ _. hull_range a b x y t) h rs p ps p ps

pairs_cons : (r : Range) (rs : List Range) → All (λ s. Precedes 1 r s) rs → AllPairs (Precedes 1) rs → AllPairs (Precedes 1) (r ∷ rs)
pairs_cons r rs h k i zero d less within = absurd (omega (arith, less))
pairs_cons r rs h k zero (suc j) d less within = let below : j < length rs = omega (arith, within) in h j d below
pairs_cons r rs h k (suc i) (suc j) d less within = let below : j < length rs = omega (arith, within) in let lower : i < j = omega (arith, less) in k i j d lower below

pairs_head : (r : Range) (rs : List Range) → AllPairs (Precedes 1) (r ∷ rs) → All (λ s. Precedes 1 r s) rs
pairs_head r rs h k d less = let up : 0 < suc k = omega arith in let below : suc k < length (r ∷ rs) = omega (arith, less) in h 0 (suc k) d up below

pairs_tail : (r : Range) (rs : List Range) → AllPairs (Precedes 1) (r ∷ rs) → AllPairs (Precedes 1) rs
pairs_tail r rs h i j d less within = let up : suc i < suc j = omega (arith, less) in let below : suc j < length (r ∷ rs) = omega (arith, within) in h (suc i) (suc j) d up below

pub put_apart : (h : Range) (rs : List Range) → IsRange h → All IsRange rs → AllPairs (Precedes 1) rs → AllPairs (Precedes 1) (put h rs)
put_apart h [] p ps k = pairs_cons h [] (λ i d less. absurd (omega (arith, less))) k
put_apart h (r ∷ rs) p ps k =
    let pr = all_head IsRange r rs ps in
    let prs = all_tail IsRange r rs ps in
    let kr = pairs_head r rs k in
    let krs = pairs_tail r rs k in
    elim (ways h r rs) [
      | inl (e, is) ↦
          let hr = before h r e in
          subst (λ l. AllPairs (Precedes 1) l) (sym is) (pairs_cons h (r ∷ rs) (data_all (λ s. Precedes 1 h s) r rs hr (λ i d less. through h r (get_or rs i d) pr hr (kr i d less))) k)
      | inr (inl (e, is)) ↦
          subst (λ l. AllPairs (Precedes 1) l) (sym is)
          (pairs_cons r (put h rs) (put_keeps (λ s. Precedes 1 r s) (λ a b x y t m n. before_hull r a b x y t m n) h rs p prs (before r h e) kr) (put_apart h rs p prs krs))
      | inr (inr (e, f, is)) ↦
          let t = touch h r (not_before h r e) (not_before r h f) in
          subst (λ l. AllPairs (Precedes 1) l) (sym is) (put_apart (hull h r) rs (hull_range h r p pr t) prs krs)
    ]

-- the list has the address in a range of this protocol, or the range put into it has
abbrev pub Covers : ℕ → Addr → Range → Type 0
Covers protocol a r = (r.protocol ≡ protocol) × InRange r a

pub put_has : (h : Range) (rs : List Range) (protocol : ℕ) (a : Addr) → IsRange h → All IsRange rs → Any (Covers protocol a) (put h rs) → Covers protocol a h ⊎ Any (Covers protocol a) rs
put_has h [] protocol a p ps i = any_cons (Covers protocol a) h [] i
put_has h (r ∷ rs) protocol a p ps i =
    let pr = all_head IsRange r rs ps in
    let prs = all_tail IsRange r rs ps in
    elim (ways h r rs) [
      | inl (e, is) ↦ any_cons (Covers protocol a) h (r ∷ rs) (subst (λ l. Any (Covers protocol a) l) is i)
      | inr (inl (e, is)) ↦
          ⊎_elim (λ c. inr (any_head (Covers protocol a) r rs c))
          (λ c. ⊎_elim (λ d. inl d) (λ d. inr (any_tail (Covers protocol a) r rs d)) (put_has h rs protocol a p prs c))
          (any_cons (Covers protocol a) r (put h rs) (subst (λ l. Any (Covers protocol a) l) is i))
      | inr (inr (e, f, is)) ↦
          let t = touch h r (not_before h r e) (not_before r h f) in
          ⊎_elim (λ c. ⊎_elim (λ x. inl (c.0, x)) (λ x. inr (any_head (Covers protocol a) r rs (t.protocol ∙ c.0, x))) (in_hull h r p pr t a c.1))
          (λ c. inr (any_tail (Covers protocol a) r rs c))
          (put_has (hull h r) rs protocol a (hull_range h r p pr t) prs (subst (λ l. Any (Covers protocol a) l) is i))
    ]

pub put_gets : (h : Range) (rs : List Range) (protocol : ℕ) (a : Addr) → IsRange h → All IsRange rs → Covers protocol a h ⊎ Any (Covers protocol a) rs → Any (Covers protocol a) (put h rs)
put_gets h [] protocol a p ps i = ⊎_elim (λ c. any_head (Covers protocol a) h [] c) (λ c. any_tail (Covers protocol a) h [] c) i
put_gets h (r ∷ rs) protocol a p ps i =
    let pr = all_head IsRange r rs ps in
    let prs = all_tail IsRange r rs ps in
    elim (ways h r rs) [
      | inl (e, is) ↦ subst (λ l. Any (Covers protocol a) l) (sym is) (⊎_elim (λ c. any_head (Covers protocol a) h (r ∷ rs) c) (λ c. any_tail (Covers protocol a) h (r ∷ rs) c) i)
      | inr (inl (e, is)) ↦
          subst (λ l. Any (Covers protocol a) l) (sym is)
          (⊎_elim (λ c. any_tail (Covers protocol a) r (put h rs) (put_gets h rs protocol a p prs (inl c)))
          (λ c. ⊎_elim (λ d. any_head (Covers protocol a) r (put h rs) d) (λ d. any_tail (Covers protocol a) r (put h rs) (put_gets h rs protocol a p prs (inr d))) (any_cons (Covers protocol a) r rs c)) i)
      | inr (inr (e, f, is)) ↦
          let t = touch h r (not_before h r e) (not_before r h f) in
          let on = hull_range h r p pr t in
          subst (λ l. Any (Covers protocol a) l) (sym is)
          (⊎_elim (λ c. put_gets (hull h r) rs protocol a on prs (inl (c.0, hull_has_h h r p pr t a c.1)))
          (λ c. ⊎_elim (λ d. put_gets (hull h r) rs protocol a on prs (inl (sym t.protocol ∙ d.0, hull_has_r h r p pr t a d.1))) (λ d. put_gets (hull h r) rs protocol a on prs (inr d)) (any_cons (Covers protocol a) r rs c)) i)
    ]
