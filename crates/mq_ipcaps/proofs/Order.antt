-- Ranges that are each in order behind the one before are ordered, and the other way round.
use Rattle.std.proofs.Common.{◌≡◌, suc, ◌<◌, ◌≤◌, Bool, true, false, cond, not, ltb, eqb, List, [], ◌∷◌, length, get_or, Option, Some, None, ◌⊎◌, inl, inr, refl, ap, arith}
use Rattle.std.specs.List.{All, AllPairs}
use Rattle.std.proofs.lemmas.Bool.{and_parts, and_from, not-true, not-false, ltb-true, ltb-false, lt-ltb, le-ltb, eqb-true, eq-eqb, ne_eqb}
use Rattle.std.proofs.lemmas.List.Elements.{All-nil, All-cons, All-head, All-tail}
use Rattle.std.proofs.lemmas.List.Kept.{AllPairs-cons}
use Rattle.mq_addr.specs.declared.range.Range.{Range}
use Rattle.mq_addr.specs.Block.{bits_of, SameVersion}
use Rattle.mq_addr.specs.Cover.{version_of}
use Rattle.mq_addr.specs.Ranges.{IsRange, Precedes, IsOrdered}
use Rattle.mq_ipcaps.specs.Reading.{is_behind, is_behind_any, is_in_order}
use Rattle.mq_ipcaps.proofs.Items.{Chain}

either : (b : Bool) (x y : Bool) → cond b x y ≡ true → ((b ≡ true) × (x ≡ true)) ⊎ ((b ≡ false) × (y ≡ true))
either true x y e = inl (refl, e)
either false x y e = inr (refl, e)

pub precedes : (r s : Range) → is_behind r s ≡ true → Precedes 0 r s
unfolding is_behind
precedes r s e =
    elim (either (not (eqb (version_of r.first) (version_of s.first))) (ltb (version_of r.first) (version_of s.first)) _ e) [
      | inl v ↦ inl (ltb-true _ _ v.1)
      | inr v ↦
          let same : version_of r.first ≡ version_of s.first = eqb-true _ _ (not-false _ v.0) in
          elim (either (not (eqb r.protocol s.protocol)) (ltb r.protocol s.protocol) (ltb (bits_of r.last) (bits_of s.first)) v.1) [
            | inl p ↦ inr (inl (same, ltb-true _ _ p.1))
            | inr p ↦ inr (inr (same, eqb-true _ _ (not-false _ p.0), omega (arith, ltb-true _ _ p.1)))
          ]
    ]

first_way : (b : Bool) (x y : Bool) → b ≡ true → x ≡ true → cond b x y ≡ true
first_way true x y e f = f
first_way false x y e f = absurd cc

second_way : (b : Bool) (x y : Bool) → b ≡ false → y ≡ true → cond b x y ≡ true
second_way true x y e f = absurd cc
second_way false x y e f = f

pub behind : (r s : Range) → Precedes 0 r s → is_behind r s ≡ true
unfolding is_behind
behind r s h =
    let vs : Bool = not (eqb (version_of r.first) (version_of s.first)) in
    let v : Bool = ltb (version_of r.first) (version_of s.first) in
    let ps : Bool = not (eqb r.protocol s.protocol) in
    let p : Bool = ltb r.protocol s.protocol in
    let b : Bool = ltb (bits_of r.last) (bits_of s.first) in
    elim h [
      | inl lower ↦ first_way vs v (cond ps p b) (ap not (ne_eqb _ _ (λ e. omega (arith, e, lower)))) (lt-ltb _ _ lower)
      | inr one ↦ elim one [
        | inl lower ↦ second_way vs v (cond ps p b) (ap not (eq-eqb _ _ lower.0)) (first_way ps p b (ap not (ne_eqb _ _ (λ e. omega (arith, e, lower.1)))) (lt-ltb _ _ lower.1))
        | inr same ↦ second_way vs v (cond ps p b) (ap not (eq-eqb _ _ same.0)) (second_way ps p b (ap not (eq-eqb _ _ same.1)) (lt-ltb _ _ (omega (arith, same.2))))
      ]
    ]

through : (r s t : Range) → bits_of s.first ≤ bits_of s.last → Precedes 0 r s → Precedes 0 s t → Precedes 0 r t
through r s t rising a b = grind (arith, rising, a, b)

-- what a range that was read has
pub record InOrder (before : Option Range) (range : Range) : Type 0 where
  pub version : SameVersion range.first range.last
  pub order : is_in_order before range ≡ true

rising : (before : Option Range) (range : Range) → is_in_order before range ≡ true → bits_of range.first ≤ bits_of range.last
unfolding is_in_order
rising before range e = ltb-false _ _ (not-true _ (and_parts (not (ltb (bits_of range.last) (bits_of range.first))) (is_behind_any before range) e).0)

follows : (before range : Range) → is_in_order (Some before) range ≡ true → Precedes 0 before range
unfolding is_in_order
follows before range e = precedes before range (and_parts (not (ltb (bits_of range.last) (bits_of range.first))) (is_behind before range) e).1

pub range_is : (before : Option Range) (range : Range) → InOrder before range → IsRange range
range_is before range is = record { version = is.version; rising = rising before range is.order }

all_behind : (before : Range) (list : List Range) → Chain InOrder (Some before) list → All (Precedes 0 before) list
all_behind before [] chain = All-nil (Precedes 0 before)
all_behind before (r ∷ rs) chain =
    let first = follows before r chain.0.order in
    let later = all_behind r rs chain.1 in
    All-cons (Precedes 0 before) r rs first (λ k d lt. through before r (get_or rs k d) (rising (Some before) r chain.0.order) first (later k d lt))

pub pairs : (before : Option Range) (list : List Range) → Chain InOrder before list → AllPairs (Precedes 0) list
pairs before [] chain = λ i j d lt in_list. absurd (omega arith)
pairs before (r ∷ rs) chain = AllPairs-cons (Precedes 0) r rs (all_behind r rs chain.1) (pairs (Some r) rs chain.1)

-- the other way round

in_order : (before : Option Range) (range : Range) → IsRange range → is_behind_any before range ≡ true → InOrder before range
unfolding is_in_order
in_order before range is e = record { version = is.version; order = and_from _ _ (ap not (le-ltb _ _ is.rising)) e }

pairs_head : (r : Range) (rs : List Range) → AllPairs (Precedes 0) (r ∷ rs) → All (Precedes 0 r) rs
pairs_head r rs h k d less = let up : 0 < suc k = omega arith in let within : suc k < length (r ∷ rs) = omega (arith, less) in h 0 (suc k) d up within

pairs_tail : (r : Range) (rs : List Range) → AllPairs (Precedes 0) (r ∷ rs) → AllPairs (Precedes 0) rs
pairs_tail r rs h i j d less within = let up : suc i < suc j = omega (arith, less) in let below : suc j < length (r ∷ rs) = omega (arith, within) in h (suc i) (suc j) d up below

chain_behind : (before : Range) (list : List Range) → All IsRange list → AllPairs (Precedes 0) list → All (Precedes 0 before) list → Chain InOrder (Some before) list
chain_behind before [] are apart all = tt
chain_behind before (r ∷ rs) are apart all =
    (in_order (Some before) r (All-head IsRange r rs are) (behind before r (All-head (Precedes 0 before) r rs all)), chain_behind r rs (All-tail IsRange r rs are) (pairs_tail r rs apart) (pairs_head r rs apart))

pub chain_from : (list : List Range) → IsOrdered list → Chain InOrder None list
chain_from [] is = tt
chain_from (r ∷ rs) is =
    (in_order None r (All-head IsRange r rs is.ranges_are) refl, chain_behind r rs (All-tail IsRange r rs is.ranges_are) (pairs_tail r rs is.ordered) (pairs_head r rs is.ordered))
