-- A meet has no more ranges than the list that is met.
use Rattle.std.proofs.Common.{◌≡◌, ◌≢◌, ℕ, ◌+◌, ◌-◌, ◌*◌, ◌/◌, ◌^◌, ◌<◌, ◌≤◌, List, [], ◌∷◌, length, get_or, Option, Some, None, ap, sym, ◌∙◌, refl, subst, arith, inl, inr, suc}
use Rattle.std.specs.List.{Any, remove}
use Rattle.std.proofs.lemmas.Bool.{cases_order}
use Rattle.std.proofs.lemmas.Nat.{pow_pos, le-div}
use Rattle.std.proofs.lemmas.List.{get_or_default}
use Rattle.std.proofs.lemmas.List.Edits.{length-remove, get_or-remove_below, get_or-remove_above}
use Rattle.std.proofs.Math.Nat.{div-mul-le_self}
use Rattle.mq_addr.specs.declared.addr.Addr.{Addr}
use Rattle.mq_addr.specs.declared.addr.Addr.TheVariants.{V4, V6}
use Rattle.mq_addr.specs.declared.prefix.Prefix.{Prefix}
use Rattle.mq_addr.specs.declared.range.Range.{Range}
use Rattle.mq_addr.specs.Block.{bits_of, free_bits, SameVersion}
use Rattle.mq_addr.specs.Cover.{version_of}
use Rattle.mq_addr.specs.Ranges.{InRange, Precedes, AreMaximal, InScope, Has, IsMetAt, IsMeet, met}
use Rattle.mq_ipcaps.specs.Lists.{AreRoutes}

-- ---- where each has a partner, and no two have one in common, there are at least as many partners

-- one of the others is still there
still : {Y : Type 0} (P : Y → Type 0) (ys : List Y) (k j : ℕ) (y : Y) → k < length ys → j < length ys
    → get_or ys j y ≡ y → P y → j ≢ k → Any P (remove ys k)
still P ys k j y less within is holds ne =
    let long = length-remove ys k less in
    elim (cases_order j k) [
      | inl same ↦ absurd (ne same)
      | inr (inl below) ↦
          let inside : j < length (remove ys k) = omega (arith, below, less, long) in
          (j, y, inside, get_or-remove_below ys k y j below less ∙ is, holds)
      | inr (inr above) ↦
          let inside : j - 1 < length (remove ys k) = omega (arith, above, within, long) in
          let past : k ≤ j - 1 = omega (arith, above) in
          let next : j - 1 + 1 ≡ j = omega (arith, above) in
          (j - 1, y, inside, get_or-remove_above ys k y (j - 1) past less ∙ ap (λ i. get_or ys i y) next ∙ is, holds)
    ]

pub partners : {X Y : Type 0} (R : X → Y → Type 0) (xs : List X) (ys : List Y)
    → ((i : ℕ) (d : X) → i < length xs → Any (λ y. R (get_or xs i d) y) ys)
    → ((i j : ℕ) (d : X) → i < j → j < length xs → (y : Y) → R (get_or xs i d) y → R (get_or xs j d) y → ⊥)
    → length xs ≤ length ys
partners R [] ys each apart = omega arith
partners R (x ∷ xs) ys each apart =
    let first : 0 < length (x ∷ xs) = omega arith in
    let here = each 0 x first in
    let k = here.0 in
    let less : k < length ys = here.2 in
    let long = length-remove ys k less in
    let rest = partners R xs (remove ys k) (λ i d within.
    let below : suc i < length (x ∷ xs) = omega (arith, within) in
    let up : 0 < suc i = omega arith in
    let there = each (suc i) d below in
    let y = there.1 in
    still (λ z. R (get_or xs i d) z) ys k there.0 y less there.2 there.3 there.4
    (λ same. apart 0 (suc i) d up below y
    (subst (λ z. R x z)
    (sym here.3 ∙ get_or_default ys k here.1 y less ∙ ap (λ n. get_or ys n y) (sym same) ∙ there.3) here.4) there.4))
    (λ i j d up within y a b.
    let higher : suc i < suc j = omega (arith, up) in
    let below : suc j < length (x ∷ xs) = omega (arith, within) in
    apart (suc i) (suc j) d higher below y a b) in
    omega (arith, long, rest)

-- ---- addresses between two of a block

one_version : (a b : Addr) → SameVersion a b → version_of a ≡ version_of b
one_version (V4 a) (V4 b) h = refl
one_version (V4 a) (V6 b) h = absurd h
one_version (V6 a) (V4 b) h = absurd h
one_version (V6 a) (V6 b) h = refl

by_version : (a b : Addr) → version_of a ≡ version_of b → SameVersion a b
by_version (V4 a) (V4 b) h = tt
by_version (V4 a) (V6 b) h = absurd (omega arith)
by_version (V6 a) (V4 b) h = absurd (omega arith)
by_version (V6 a) (V6 b) h = tt

-- an address of this number
at_number : (a : Addr) (n : ℕ) → (x : Addr) × (version_of x ≡ version_of a) × (bits_of x ≡ n)
at_number (V4 a) n = (V4 n, refl, refl)
at_number (V6 a) n = (V6 n, refl, refl)

rising : (m n f : ℕ) → m ≤ n → m / 2 ^ f ≤ n / 2 ^ f
rising m n f up =
    let start : m / 2 ^ f * 2 ^ f ≤ m = div-mul-le_self m (2 ^ f) in
    let below : m / 2 ^ f * 2 ^ f ≤ n = omega (arith, start, up) in
    le-div (m / 2 ^ f) n (2 ^ f) (pow_pos f) below

between : (area : Option Prefix) (a b x : Addr) → InScope area a → InScope area b → version_of x ≡ version_of a
    → bits_of a ≤ bits_of x → bits_of x ≤ bits_of b → InScope area x
between None a b x ha hb v low high = tt
between (Some block) a b x ha hb v low high =
    let f = free_bits block in
    let lower = rising (bits_of a) (bits_of x) f low in
    let upper = rising (bits_of x) (bits_of b) f high in
    let from = ha.agrees in
    let to = hb.agrees in
    record {
      version = by_version block.addr x (one_version block.addr a ha.version ∙ sym v);
      agrees = omega (arith, lower, upper, from, to);
    }

-- ---- maximal intervals

-- the list has no address right behind one of its ranges
not_behind : (out : List Range) (i : ℕ) (o : Range) (x : Addr) → AreMaximal out → i < length out → get_or out i o ≡ o
    → version_of x ≡ version_of o.first
    → bits_of x ≡ bits_of o.last + 1 → Has out o.protocol x → ⊥
not_behind out i o x m less is v number (k, s, within, at, (own, in_s)) =
    let up : bits_of o.first ≤ bits_of o.last =
    subst (λ (r : Range). bits_of r.first ≤ bits_of r.last) is (m.ranges_are i o less).rising in
    let sv : version_of s.first ≡ version_of o.first = one_version s.first x in_s.version ∙ v in
    let low = in_s.low in
    let high = in_s.high in
    elim (cases_order k i) [
      | inl same ↦
          let one : s ≡ o = sym at ∙ get_or_default out k s o within ∙ ap (λ n. get_or out n o) same ∙ is in
          let top : bits_of s.last ≡ bits_of o.last = ap (λ (r : Range). bits_of r.last) one in
          omega (arith, top, high, number)
      | inr (inl below) ↦
          let before : Precedes 1 s o =
          subst (λ r. Precedes 1 s r) (get_or_default out i s o less ∙ is)
          (subst (λ r. Precedes 1 r (get_or out i s)) at (m.apart k i s below less)) in
          elim before [
            | inl older ↦ omega (arith, older, sv)
            | inr (inl (w, lower)) ↦ omega (arith, lower, own)
            | inr (inr (w, e, gap)) ↦ omega (arith, gap, high, number, up)
          ]
      | inr (inr above) ↦
          let after : Precedes 1 o s =
          subst (λ r. Precedes 1 r s) (get_or_default out i s o less ∙ is)
          (subst (λ r. Precedes 1 (get_or out i s) r) at (m.apart i k s above within)) in
          elim after [
            | inl older ↦ omega (arith, older, sv)
            | inr (inl (w, lower)) ↦ omega (arith, lower, own)
            | inr (inr (w, e, gap)) ↦ omega (arith, gap, low, number)
          ]
    ]

-- a range that is met has the first address of the one that it is met in
abbrev Leads : Option ℕ → Range → Range → Type 0
Leads asked o r = (met asked r.protocol ≡ Some o.protocol) × InRange r o.first

own_first : (out : List Range) (i : ℕ) (d : Range) → AreMaximal out → i < length out
    → Has out (get_or out i d).protocol (get_or out i d).first
own_first out i d m less =
    let o = get_or out i d in
    let up = (m.ranges_are i d less).rising in
    let here : bits_of o.first ≤ bits_of o.first = omega arith in
    let in_o : InRange o o.first = record { version = by_version o.first o.first refl; low = here; high = up } in
    (i, o, less, get_or_default out i o d less, (refl, in_o))

some_same : (o : Option ℕ) (m n : ℕ) → o ≡ Some m → o ≡ Some n → m ≡ n
some_same o m n a b = cc

-- no two intervals have a range that they are met in in common
one_each : (ranges : List Range) (area : Option Prefix) (asked : Option ℕ) (out : List Range)
    → IsMeet ranges area asked out → (i j : ℕ) (d : Range) → i < j → j < length out → (y : Range)
    → Any (λ r. r ≡ y) ranges → Leads asked (get_or out i d) y → Leads asked (get_or out j d) y → ⊥
one_each ranges area asked out meet i j d less within y has a b =
    let m = meet.maximal in
    let inside : i < length out = omega (arith, less, within) in
    let o = get_or out i d in
    let p = get_or out j d in
    let low = a.1.low in
    let high = b.1.high in
    let up = (m.ranges_are i d inside).rising in
    let ov = one_version y.first o.first a.1.version in
    let pv = one_version y.first p.first b.1.version in
    let same = some_same (met asked y.protocol) o.protocol p.protocol a.0 b.0 in
    elim (m.apart i j d less within) [
      | inl older ↦ omega (arith, older, ov, pv)
      | inr (inl (w, lower)) ↦ omega (arith, lower, same)
      | inr (inr (w, e, gap)) ↦
          let x = at_number o.first (bits_of o.last + 1) in
          let number = x.2 in
          let from : bits_of o.first ≤ bits_of x.0 = omega (arith, number, up) in
          let to : bits_of x.0 ≤ bits_of p.first = omega (arith, number, gap) in
          let y_low : bits_of y.first ≤ bits_of x.0 = omega (arith, from, low) in
          let y_high : bits_of x.0 ≤ bits_of y.last = omega (arith, to, high) in
          let first = (meet.same o.protocol o.first).0 (own_first out i d m inside) in
          let last = (meet.same p.protocol p.first).0 (own_first out j d m within) in
          let scope = between area o.first p.first x.0 first.0 last.0 x.1 from to in
          let at : InRange y x.0 =
          record { version = by_version y.first x.0 (ov ∙ sym x.1); low = y_low; high = y_high } in
          let is_met : IsMetAt ranges area asked o.protocol x.0 =
          (scope, (has.0, y, has.2, get_or_default ranges has.0 y has.1 has.2 ∙ has.3 ∙ has.4, (a.0, at))) in
          not_behind out i o x.0 m inside (get_or_default out i o d inside) x.1 number
          ((meet.same o.protocol x.0).1 is_met)
    ]

-- the same, of a range of the list
abbrev Meets : List Range → Option ℕ → Range → Range → Type 0
Meets ranges asked o r = Any (λ s. s ≡ r) ranges × Leads asked o r

each_meets : (ranges : List Range) (area : Option Prefix) (asked : Option ℕ) (out : List Range)
    → IsMeet ranges area asked out → (i : ℕ) (d : Range) → i < length out
    → Any (λ r. Meets ranges asked (get_or out i d) r) ranges
each_meets ranges area asked out meet i d less =
    let o = get_or out i d in
    let first = (meet.same o.protocol o.first).0 (own_first out i d meet.maximal less) in
    let has = first.1 in
    (has.0, has.1, has.2, has.3, ((has.0, has.1, has.2, has.3, refl), has.4))

pub meet_short : (ranges : List Range) (area : Option Prefix) (asked : Option ℕ) (out : List Range)
    → IsMeet ranges area asked out → length out ≤ length ranges
meet_short ranges area asked out meet =
    partners (λ o r. Meets ranges asked o r) out ranges (λ i d less. each_meets ranges area asked out meet i d less)
    (λ i j d less within y a b. one_each ranges area asked out meet i j d less within y a.0 a.1 b.1)

-- ---- they are in order

closer : (r s : Range) → Precedes 1 r s → Precedes 0 r s
closer r s (inl older) = inl older
closer r s (inr (inl lower)) = inr (inl lower)
closer r s (inr (inr (v, e, gap))) =
    let before : bits_of r.last + 0 < bits_of s.first = omega (arith, gap) in
    inr (inr (v, e, before))

pub meet_routes : (ranges : List Range) (area : Option Prefix) (asked : Option ℕ) (out : List Range)
    → length ranges ≤ 32 → IsMeet ranges area asked out → AreRoutes out
meet_routes ranges area asked out few meet =
    let short = meet_short ranges area asked out meet in
    record {
      few = omega (arith, few, short);
      ordered = record {
        ranges_are = meet.maximal.ranges_are;
        ordered = λ i j d less within. closer (get_or out i d) (get_or out j d) (meet.maximal.apart i j d less within);
      };
    }

pub no_routes : AreRoutes []
no_routes = record {
  few = omega arith;
  ordered = record {
    ranges_are = λ k d less. absurd (omega (arith, less));
    ordered = λ i j d less within. absurd (omega (arith, within));
  };
}
