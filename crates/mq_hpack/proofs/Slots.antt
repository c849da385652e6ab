-- Which place the slot of a name leads to: a test that the checker computes, and what it means.
use Rattle.std.proofs.Common.{◌≡◌, ℕ, ◌+◌, ◌-◌, ◌<◌, ◌≤◌, ◌==◌, ◌⊎◌, inl, inr, zero, suc, Bool, true, false, ◌&&◌, ◌||◌, List, [], ◌∷◌, length, get_or, Option, Some, None, IsTrue, refl, sym, ◌∙◌, ap, subst, arith}
use Rattle.std.specs.Prelude.{nat_eq, nat_le, nat_lt, not}
use Rattle.std.specs.Cmp.Lexicographic.{pointwise, other_text}
use Rattle.std.specs.List.{slice_get}
use Rattle.std.proofs.lemmas.Bool.{eqb-true, leb-true, ltb-true, cases_lt}
use Rattle.mq_hpack.specs.declared.field.Field.{Field}
use Rattle.mq_hpack.specs.declared.search.TheConstants.{PLACES}
use Rattle.mq_hpack.specs.Slot.{slot}
use Rattle.mq_hpack.specs.Static.{static_fields}
use Rattle.mq_hpack.specs.Encoder.{IsLeast, NoneBefore}
use Rattle.mq_hpack.proofs.Statics.{both, is_same, same}

pub slot_empty : (name : List ℕ) → length name ≡ 0 → 0 ≡ slot name
unfolding slot
slot_empty [] h = refl
slot_empty (b ∷ bs) h = absurd (omega arith)

-- the place that the slot of a name leads to
unfoldable pub place : List ℕ → ℕ
place name = get_or PLACES (slot name) 0

unfoldable has_name : Option Field → List ℕ → Bool
has_name None name = false
has_name (Some g) name = same g.name name

-- Each name's slot leads to its own place or one before it, with the same name there. Where it isn't its own,
-- the field before has the name too.
unfoldable settled : ℕ → Field → List Field → Bool
settled k before [] = true
settled k before (f ∷ fs) =
    (nat_le (place f.name) k && has_name (slice_get static_fields (place f.name)) f.name)
    && ((place f.name == k || same before.name f.name) && settled (suc k) f fs)

no_field : Field
no_field = record { name = []; value = [] }

all_settled : IsTrue (settled 0 no_field static_fields)
unfolding settled has_name place slot same static_fields no_field
all_settled = refl

-- where a slot leads is within the table
unfoldable below : ℕ → List ℕ → Bool
below n [] = true
below n (p ∷ ps) = nat_lt p n && below n ps

all_below : IsTrue (below 61 PLACES)
unfolding below
all_below = refl

below_at : (n : ℕ) (ps : List ℕ) (i : ℕ) → below n ps ≡ true → 0 < n → get_or ps i 0 < n
unfolding below
below_at n [] i h some = some
below_at n (p ∷ ps) zero h some = ltb-true p n (both (nat_lt p n) (below n ps) h).0
below_at n (p ∷ ps) (suc i) h some = below_at n ps i (both (nat_lt p n) (below n ps) h).1 some

pub place_below : (i : ℕ) → get_or PLACES i 0 < 61
place_below i = below_at 61 PLACES i all_below (omega arith)

pub place_is : (name : List ℕ) (i at : ℕ) → i ≡ slot name → at ≡ get_or PLACES i 0 → at ≡ place name
unfolding place
place_is name i at e h = h ∙ ap (λ k. get_or PLACES k 0) e

-- what the test says of a field at its place
pub record Settled (k : ℕ) (f : Field) : Type 0 where
  pub no_later : place f.name ≤ k
  pub there : Field
  pub found : slice_get static_fields (place f.name) ≡ Some there
  pub named : there.name ≡ f.name

found_name : (k : ℕ) (f : Field) (found : Option Field) → slice_get static_fields (place f.name) ≡ found → place f.name ≤ k → has_name found f.name ≡ true → Settled k f
unfolding has_name
found_name k f None e le h = cc
found_name k f (Some g) e le h = record { no_later = le; there = g; found = e; named = is_same g.name f.name h }

settled_in : (n : ℕ) (before : Field) (fs : List Field) (i : ℕ) (f : Field) → settled n before fs ≡ true → slice_get fs i ≡ Some f → Settled (n + i) f
unfolding settled
settled_in n before [] i f h e = cc
settled_in n before (x ∷ fs) zero f h e =
    let p = both (nat_le (place x.name) n && has_name (slice_get static_fields (place x.name)) x.name) _ h in
    let q = both (nat_le (place x.name) n) _ p.0 in
    let le = leb-true (place x.name) n q.0 in
    let is : x ≡ f = cc in
    subst (λ (y : Field). Settled (n + 0) y) is (found_name (n + 0) x (slice_get static_fields (place x.name)) refl (omega arith) q.1)
settled_in n before (x ∷ fs) (suc i) f h e =
    let p = both (nat_le (place x.name) n && has_name (slice_get static_fields (place x.name)) x.name) _ h in
    let q = both (place x.name == n || same before.name x.name) _ p.1 in
    let z : suc n + i ≡ n + suc i = omega arith in
    subst (λ (k : ℕ). Settled k f) z (settled_in (suc n) x fs i f q.1 e)

either : (a b : Bool) → (a || b) ≡ true → (a ≡ true) ⊎ (b ≡ true)
either true b h = inl refl
either false b h = inr h

follows_first : (n : ℕ) (before : Field) (fs : List Field) (f : Field) → settled n before fs ≡ true → slice_get fs 0 ≡ Some f → (place f.name ≡ n) ⊎ (before.name ≡ f.name)
unfolding settled
follows_first n before [] f h e = cc
follows_first n before (x ∷ fs) f h e =
    let p = both (nat_le (place x.name) n && has_name (slice_get static_fields (place x.name)) x.name) _ h in
    let q = both (place x.name == n || same before.name x.name) _ p.1 in
    let is : x ≡ f = cc in
    subst (λ (y : Field). (place y.name ≡ n) ⊎ (before.name ≡ y.name)) is (elim (either (place x.name == n) (same before.name x.name) q.0) [
      | inl own ↦ inl (eqb-true (place x.name) n own)
      | inr shared ↦ inr (is_same before.name x.name shared)
    ])

follows_in : (n : ℕ) (before : Field) (fs : List Field) (i : ℕ) (a f : Field) → settled n before fs ≡ true → slice_get fs i ≡ Some a → slice_get fs (suc i) ≡ Some f →
    (place f.name ≡ n + suc i) ⊎ (a.name ≡ f.name)
unfolding settled
follows_in n before [] i a f h e g = cc
follows_in n before (x ∷ fs) zero a f h e g =
    let p = both (nat_le (place x.name) n && has_name (slice_get static_fields (place x.name)) x.name) _ h in
    let q = both (place x.name == n || same before.name x.name) _ p.1 in
    let is : x ≡ a = cc in
    let z : suc n ≡ n + 1 = omega arith in
    subst (λ (k : ℕ). (place f.name ≡ k) ⊎ (a.name ≡ f.name)) z
    (subst (λ (y : Field). (place f.name ≡ suc n) ⊎ (y.name ≡ f.name)) is (follows_first (suc n) x fs f q.1 g))
follows_in n before (x ∷ fs) (suc i) a f h e g =
    let p = both (nat_le (place x.name) n && has_name (slice_get static_fields (place x.name)) x.name) _ h in
    let q = both (place x.name == n || same before.name x.name) _ p.1 in
    let z : suc n + suc i ≡ n + suc (suc i) = omega arith in
    subst (λ (k : ℕ). (place f.name ≡ k) ⊎ (a.name ≡ f.name)) z (follows_in (suc n) x fs i a f q.1 e g)

pub settled_at : (k : ℕ) (f : Field) → slice_get static_fields k ≡ Some f → Settled k f
settled_at k f e =
    let z : 0 + k ≡ k = omega arith in
    subst (λ (j : ℕ). Settled j f) z (settled_in 0 no_field static_fields k f all_settled e)

-- a field that isn't the first of its name follows one that has it
follows_at : (k : ℕ) (a f : Field) → slice_get static_fields k ≡ Some a → slice_get static_fields (suc k) ≡ Some f → (place f.name ≡ suc k) ⊎ (a.name ≡ f.name)
follows_at k a f e g =
    let z : 0 + suc k ≡ suc k = omega arith in
    subst (λ (j : ℕ). (place f.name ≡ j) ⊎ (a.name ≡ f.name)) z (follows_in 0 no_field static_fields k a f all_settled e g)

-- no field before a name's place has that name
pub none_before : (name : List ℕ) (at : ℕ) → at ≡ place name → NoneBefore at (λ g. g.name ≡ name)
none_before name at e = λ k g lt there is.
    let s = settled_at k g there in
    let z = ap (λ (n : List ℕ). place n) is in
    let le : place g.name ≤ k = s.no_later in
    omega arith

-- and where the field there has another, none has it
pub none_has_name : (name : List ℕ) (at : ℕ) (f : Field) → at ≡ place name → slice_get static_fields at ≡ Some f → (f.name ≡ name → ⊥) → NoneBefore 61 (λ g. g.name ≡ name)
none_has_name name at f p e other = λ k g lt there is.
    let s = settled_at k g there in
    let z : slice_get static_fields at ≡ Some s.there = ap (λ j. slice_get static_fields j) (p ∙ ap (λ (n : List ℕ). place n) (sym is)) ∙ s.found in
    let w : f ≡ s.there = cc in
    other (ap (λ (y : Field). y.name) w ∙ s.named ∙ is)

negated : (b : Bool) → true ≡ not b → false ≡ b
negated true h = cc
negated false h = refl

pub other_name : (xs ys : List ℕ) → true ≡ not (pointwise nat_eq xs ys) → xs ≡ ys → ⊥
other_name xs ys h = other_text xs ys (negated (pointwise nat_eq xs ys) h)

one_less : (fs : List Field) (k : ℕ) (g : Field) → slice_get fs (suc k) ≡ Some g → (f : Field) × (slice_get fs k ≡ Some f)
one_less [] k g e = cc
one_less (x ∷ fs) zero g e = (x, refl)
one_less (x ∷ fs) (suc k) g e = one_less fs k g e

-- between the first field of a name and another one that has it, all have it
all_between : (name : List ℕ) (from at d : ℕ) (f g : Field) → place name ≤ from → from ≤ at → slice_get static_fields at ≡ Some f → slice_get static_fields (at + d) ≡ Some g → g.name ≡ name → f.name ≡ name
all_between name from at zero f g first le e h is =
    let z : at + 0 ≡ at = omega arith in
    let w : slice_get static_fields at ≡ Some g = ap (λ k. slice_get static_fields k) (sym z) ∙ h in
    let same : f ≡ g = cc in
    ap (λ (y : Field). y.name) same ∙ is
all_between name from at (suc d) f g first le e h is =
    let z : at + suc d ≡ suc (at + d) = omega arith in
    let w : slice_get static_fields (suc (at + d)) ≡ Some g = ap (λ k. slice_get static_fields k) (sym z) ∙ h in
    let a = one_less static_fields (at + d) g w in
    elim (follows_at (at + d) a.0 g a.1 w) [
      | inl own ↦
          let p = ap (λ (n : List ℕ). place n) is in
          absurd (omega arith)
      | inr shared ↦ all_between name from at d f a.0 first le e a.1 (shared ∙ is)
    ]

-- behind the fields of a name, which stand together, no field has it
pub none_behind : (field f : Field) (from at : ℕ) → IsLeast (λ g. g.name ≡ field.name) (Some from) → from ≤ at → slice_get static_fields at ≡ Some f → (f.name ≡ field.name → ⊥) →
    NoneBefore at (λ g. g ≡ field) → NoneBefore 61 (λ g. g ≡ field)
none_behind field f from at least le e other none = λ k g lt h is. elim (cases_lt k at) [
  | inl before ↦ none k g before h is
  | inr behind ↦
      let s = settled_at from least.0 least.1 in
      let p = ap (λ (n : List ℕ). place n) least.2 in
      let first : place field.name ≤ from = omega (arith, s.no_later) in
      let z : k ≡ at + (k - at) = omega arith in
      other (all_between field.name from at (k - at) f g first le e (ap (λ j. slice_get static_fields j) (sym z) ∙ h) (ap (λ (y : Field). y.name) is))
]
