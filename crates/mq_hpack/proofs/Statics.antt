-- The static table as one text: a test that the checker computes, and what it means at each place.
use Rattle.std.proofs.Common.{◌≡◌, ℕ, ◌+◌, ◌-◌, ◌<◌, ◌≤◌, ◌==◌, zero, suc, Bool, true, false, ◌&&◌, List, [], ◌∷◌, length, get_or, Option, Some, IsTrue, refl, sym, ◌∙◌, ap, subst, arith, add-one}
use Rattle.std.specs.Prelude.{nat_le}
use Rattle.std.specs.List.{slice_get}
use Rattle.std.proofs.lemmas.Bool.{eqb-true, leb-true}
use borrow.Rule.Slice.PartMut.{mid_of}
use Rattle.mq_hpack.specs.declared.field.Field.{Field}
use Rattle.mq_hpack.specs.declared.static_table.TheConstants.{STARTS, MIDDLES, TEXT}
use Rattle.mq_hpack.specs.Static.{static_fields}
use Rattle.mq_hpack.proofs.Found.{length-static}

unfoldable pub same : List ℕ → List ℕ → Bool
same [] [] = true
same [] (y ∷ ys) = false
same (x ∷ xs) [] = false
same (x ∷ xs) (y ∷ ys) = x == y && same xs ys

-- each name stands from a start to a middle, and its value from there to the next start
unfoldable placed : ℕ → List ℕ → List Field → List ℕ → List ℕ → Bool
placed n text [] ss ms = true
placed n text (f ∷ fs) [] ms = false
placed n text (f ∷ fs) (s ∷ []) ms = false
placed n text (f ∷ fs) (s ∷ e ∷ ss) [] = false
placed n text (f ∷ fs) (s ∷ e ∷ ss) (m ∷ ms) =
    (nat_le s m && (nat_le m e && nat_le e n))
    && ((same f.name (mid_of s (m - s) text) && same f.value (mid_of m (e - m) text)) && placed n text fs (e ∷ ss) ms)

all_placed : IsTrue (placed 684 TEXT static_fields STARTS MIDDLES)
unfolding placed same static_fields
all_placed = refl

pub both : (a b : Bool) → (a && b) ≡ true → (a ≡ true) × (b ≡ true)
both true true h = (refl, refl)
both true false h = cc
both false b h = cc

pub is_same : (xs ys : List ℕ) → same xs ys ≡ true → xs ≡ ys
unfolding same
is_same [] [] h = refl
is_same [] (y ∷ ys) h = cc
is_same (x ∷ xs) [] h = cc
is_same (x ∷ xs) (y ∷ ys) h =
    let p = both (x == y) (same xs ys) h in
    ap (λ z. z ∷ xs) (eqb-true x y p.0) ∙ ap (λ zs. y ∷ zs) (is_same xs ys p.1)

-- a field of the text, and that its bounds are in order
pub record Place (n : ℕ) (text : List ℕ) (s m e : ℕ) (found : Option Field) : Type 0 where
  pub starts : s ≤ m
  pub ends : m ≤ e
  pub within : e ≤ n
  pub is : found ≡ Some (record { name = mid_of s (m - s) text; value = mid_of m (e - m) text })

field_is : (f : Field) (name value : List ℕ) → f.name ≡ name → f.value ≡ value → f ≡ record { name = name; value = value }
field_is f name value a b =
    let made : List ℕ → List ℕ → Field = λ x y. record { name = x; value = y } in
    ap (λ x. made x f.value) a ∙ ap (λ y. made name y) b

place_at : (n : ℕ) (text : List ℕ) (fs : List Field) (ss ms : List ℕ) (at : ℕ) → placed n text fs ss ms ≡ true → at < length fs →
    Place n text (get_or ss at 0) (get_or ms at 0) (get_or ss (suc at) 0) (slice_get fs at)
unfolding placed
place_at n text [] ss ms at h lt = absurd (omega arith)
place_at n text (f ∷ fs) [] ms at h lt = cc
place_at n text (f ∷ fs) (s ∷ []) ms at h lt = cc
place_at n text (f ∷ fs) (s ∷ e ∷ ss) [] at h lt = cc
place_at n text (f ∷ fs) (s ∷ e ∷ ss) (m ∷ ms) zero h lt =
    let p = both (nat_le s m && (nat_le m e && nat_le e n)) _ h in
    let q = both (nat_le s m) _ p.0 in
    let r = both (nat_le m e) _ q.1 in
    let t = both (same f.name (mid_of s (m - s) text) && same f.value (mid_of m (e - m) text)) _ p.1 in
    let u = both (same f.name (mid_of s (m - s) text)) _ t.0 in
    record {
      starts = leb-true s m q.0;
      ends = leb-true m e r.0;
      within = leb-true e n r.1;
      is = ap (λ x. Some x) (field_is f _ _ (is_same _ _ u.0) (is_same _ _ u.1));
    }
place_at n text (f ∷ fs) (s ∷ e ∷ ss) (m ∷ ms) (suc at) h lt =
    let p = both (nat_le s m && (nat_le m e && nat_le e n)) _ h in
    let t = both (same f.name (mid_of s (m - s) text) && same f.value (mid_of m (e - m) text)) _ p.1 in
    place_at n text fs (e ∷ ss) ms at t.1 (omega arith)

pub static_at : (at : ℕ) → at < 61 → Place 684 TEXT (get_or STARTS at 0) (get_or MIDDLES at 0) (get_or STARTS (at + 1) 0) (slice_get static_fields at)
static_at at h =
    let l = length-static in
    let P : ℕ → Type 0 = λ k. Place 684 TEXT (get_or STARTS at 0) (get_or MIDDLES at 0) (get_or STARTS k 0) (slice_get static_fields at) in
    subst P (sym (add-one at)) (place_at 684 TEXT static_fields STARTS MIDDLES at all_placed (omega arith))
