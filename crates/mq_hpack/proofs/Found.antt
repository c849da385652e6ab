-- The field at an index.
use Rattle.std.proofs.Common.{◌≡◌, ℕ, ◌+◌, ◌-◌, ◌<◌, ◌≤◌, zero, suc, List, [], ◌∷◌, ◌++◌, length, get_or, Some, None, refl, sym, ◌∙◌, ap, subst, arith, add-one}
use Rattle.std.specs.List.{slice_get}
use Rattle.mq_hpack.specs.declared.field.Field.{Field}
use Rattle.mq_hpack.specs.Static.{static_fields}
use Rattle.mq_hpack.specs.Table.{Table, field_at}

pub length-static : length static_fields ≡ 61
unfolding static_fields
length-static = refl

pub field_next : (t : Table) (index at : ℕ) → index ≡ at + 1 → field_at t index ≡ slice_get (static_fields ++ t.fields) at
unfolding field_at
field_next t index at e = ap (λ i. field_at t i) (e ∙ add-one at)

within_front : (xs fs : List Field) (at : ℕ) → at < length xs → slice_get (xs ++ fs) at ≡ slice_get xs at
within_front [] fs at h = absurd (omega arith)
within_front (x ∷ xs) fs zero h = refl
within_front (x ∷ xs) fs (suc at) h = within_front xs fs at (omega arith)

pub found_front : (t : Table) (index at : ℕ) (f : Field) → index ≡ at + 1 → at < 61 → slice_get static_fields at ≡ Some f → field_at t index ≡ Some f
found_front t index at f i h e =
    let l = length-static in
    field_next t index at i ∙ within_front static_fields t.fields at (omega arith) ∙ e

behind_front : (xs fs : List Field) (at : ℕ) → length xs ≤ at → slice_get (xs ++ fs) at ≡ slice_get fs (at - length xs)
behind_front [] fs at h = let z : at ≡ at - 0 = omega arith in ap (λ k. slice_get fs k) z
behind_front (x ∷ xs) fs zero h = absurd (omega arith)
behind_front (x ∷ xs) fs (suc at) h =
    let z : at - length xs ≡ suc at - suc (length xs) = omega arith in
    behind_front xs fs at (omega arith) ∙ ap (λ k. slice_get fs k) z

got : (fs : List Field) (k : ℕ) (f : Field) → k < length fs → f ≡ get_or fs k f → slice_get fs k ≡ Some f
got [] k f h e = absurd (omega arith)
got (x ∷ fs) zero f h e = ap (λ y. Some y) (sym e)
got (x ∷ fs) (suc k) f h e = got fs k f (omega arith) e

got_none : (fs : List Field) (k : ℕ) → length fs ≤ k → slice_get fs k ≡ None
got_none [] k h = refl
got_none (x ∷ fs) zero h = absurd (omega arith)
got_none (x ∷ fs) (suc k) h = got_none fs k (omega arith)

pub found_dynamic : (t : Table) (index at : ℕ) (f : Field) → index ≡ at + 1 → 61 ≤ at → at - 61 < length t.fields → f ≡ get_or t.fields (at - 61) f → field_at t index ≡ Some f
found_dynamic t index at f i h lt e =
    let l = length-static in
    let z : at - length static_fields ≡ at - 61 = omega arith in
    field_next t index at i ∙ behind_front static_fields t.fields at (omega arith) ∙ ap (λ k. slice_get t.fields k) z ∙ got t.fields (at - 61) f lt e

pub found_none : (t : Table) (index at : ℕ) → index ≡ at + 1 → 61 ≤ at → length t.fields ≤ at - 61 → field_at t index ≡ None
found_none t index at i h le =
    let l = length-static in
    let z : at - length static_fields ≡ at - 61 = omega arith in
    field_next t index at i ∙ behind_front static_fields t.fields at (omega arith) ∙ ap (λ k. slice_get t.fields k) z ∙ got_none t.fields (at - 61) le

pub found_zero : (t : Table) (index : ℕ) → index ≡ 0 → field_at t index ≡ None
unfolding field_at
found_zero t index e = ap (λ i. field_at t i) e

pub found_in : (t : Table) (items : List Field) (index at : ℕ) (f : Field) → items ≡ t.fields → index ≡ at + 1 → 61 ≤ at → at - 61 < length items → f ≡ get_or items (at - 61) f → field_at t index ≡ Some f
found_in t items index at f z i h lt e =
    found_dynamic t index at f i h (subst (λ (xs : List Field). at - 61 < length xs) z lt) (e ∙ ap (λ xs. get_or xs (at - 61) f) z)

pub found_none_in : (t : Table) (items : List Field) (index at : ℕ) → items ≡ t.fields → index ≡ at + 1 → 61 ≤ at → length items ≤ at - 61 → field_at t index ≡ None
found_none_in t items index at z i h le = found_none t index at i h (subst (λ (xs : List Field). length xs ≤ at - 61) z le)
