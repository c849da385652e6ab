-- Two lists whose elements stand in a relation, place by place.
use Rattle.std.proofs.Common.{◌≡◌, ◌≢◌, inl, inr, ◌⊎◌, ℕ, zero, suc, ◌+◌, ◌<◌, ◌≤◌, List, [], ◌∷◌, length, map, remove, slice_get, slice_set, Some, refl, sym, ap, subst, ◌∙◌, arith}
use Rattle.std.proofs.lemmas.Bool.{cases_eq}
use Rattle.mq_actor.proofs.Lists.{get_set_same, get_set_other, get_removed}

-- they stand in it at each place
pub record Pointwise {A B : Type 0} (R : A → B → Type 0) (xs : List A) (ys : List B) : Type 0 where
  pub size : length xs ≡ length ys
  pub at : (i : ℕ) (x : A) (y : B) → slice_get xs i ≡ Some x → slice_get ys i ≡ Some y → R x y

-- or at each place but one
pub record PointwiseBut {A B : Type 0} (R : A → B → Type 0) (place : ℕ) (xs : List A) (ys : List B) : Type 0 where
  pub size : length xs ≡ length ys
  pub at : (i : ℕ) (x : A) (y : B) → i ≢ place → slice_get xs i ≡ Some x → slice_get ys i ≡ Some y → R x y

-- a list is as long with another element
pub set_size : {A : Type 0} (xs : List A) (i : ℕ) (x : A) → length (slice_set xs i x) ≡ length xs
set_size [] zero x = refl
set_size [] (suc i) x = refl
set_size (y ∷ xs) zero x = refl
set_size (y ∷ xs) (suc i) x = ap (λ (n : ℕ). suc n) (set_size xs i x)

pub within : {A : Type 0} (xs : List A) (i : ℕ) (x : A) → slice_get xs i ≡ Some x → i < length xs
within [] i x at = absurd cc
within (y ∷ xs) zero x at = omega arith
within (y ∷ xs) (suc i) x at = let lt = within xs i x at in omega (arith, lt)

-- what stands at a place within the length
pub there : {A : Type 0} (xs : List A) (i : ℕ) → i < length xs → (x : A) × (slice_get xs i ≡ Some x)
there [] i lt = absurd (omega (arith, lt))
there (x ∷ xs) zero lt = (x, refl)
there (x ∷ xs) (suc i) lt = there xs i (omega (arith, lt))

one_there : {A : Type 0} (xs : List A) (i : ℕ) (x y : A) → slice_get xs i ≡ Some x → slice_get xs i ≡ Some y → x ≡ y
one_there xs i x y a b = let e : Some x ≡ Some y = sym a ∙ b in cc

-- both are set there
pub pointwise_set : {A B : Type 0} (R : A → B → Type 0) (place : ℕ) (xs : List A) (ys : List B) (x : A) (y : B) → PointwiseBut R place xs ys → R x y
    → place < length xs → Pointwise R (slice_set xs place x) (slice_set ys place y)
pointwise_set {A} {B} R place xs ys x y but here lt = record { size = set_size xs place x ∙ but.size ∙ sym (set_size ys place y); at = by_place } where
  by_case : (i : ℕ) (a : A) (b : B) → (i ≡ place) ⊎ (i ≡ place → ⊥) → slice_get (slice_set xs place x) i ≡ Some a → slice_get (slice_set ys place y) i ≡ Some b → R a b
  by_case i a b (inl same) at_a at_b =
      let size = but.size in
      let old_x = there xs place lt in
      let old_y = there ys place (omega (arith, size, lt)) in
      let ea : x ≡ a = one_there (slice_set xs place x) place x a (get_set_same xs place old_x.0 x old_x.1) (ap (λ (k : ℕ). slice_get (slice_set xs place x) k) (sym same) ∙ at_a) in
      let eb : y ≡ b = one_there (slice_set ys place y) place y b (get_set_same ys place old_y.0 y old_y.1) (ap (λ (k : ℕ). slice_get (slice_set ys place y) k) (sym same) ∙ at_b) in
      let P : A → Type 0 = λ u. R u b in
      let Q : B → Type 0 = λ u. R x u in
      subst P ea (subst Q eb here)
  by_case i a b (inr not) at_a at_b =
      but.at i a b not (sym (get_set_other xs place i x (λ e. not (sym e))) ∙ at_a) (sym (get_set_other ys place i y (λ e. not (sym e))) ∙ at_b)

  by_place : (i : ℕ) (a : A) (b : B) → slice_get (slice_set xs place x) i ≡ Some a → slice_get (slice_set ys place y) i ≡ Some b → R a b
  by_place i a b at_a at_b = by_case i a b (cases_eq i place) at_a at_b

removed_size : {A : Type 0} (xs : List A) (i : ℕ) → i < length xs → length (remove xs i) + 1 ≡ length xs
removed_size [] i lt = absurd (omega (arith, lt))
removed_size (x ∷ xs) zero lt = omega arith
removed_size (x ∷ xs) (suc i) lt = let e = removed_size xs i (omega (arith, lt)) in omega (arith, e)

-- or both are removed there
pub pointwise_removed : {A B : Type 0} (R : A → B → Type 0) (place : ℕ) (xs : List A) (ys : List B) → PointwiseBut R place xs ys → place < length xs
    → Pointwise R (remove xs place) (remove ys place)
pointwise_removed {A} {B} R place xs ys but lt = record {
  size = let a = removed_size xs place lt in let s = but.size in let b = removed_size ys place (omega (arith, s, lt)) in omega (arith, a, b, s);
  at = λ i a b at_a at_b. by_sides i a b (get_removed xs place i a at_a) (get_removed ys place i b at_b);
} where
  Side : {C : Type 0} → List C → ℕ → C → Type 0
  Side zs i c = ((i < place) × (slice_get zs i ≡ Some c)) ⊎ ((place ≤ i) × (slice_get zs (suc i) ≡ Some c))

  by_sides : (i : ℕ) (a : A) (b : B) → Side xs i a → Side ys i b → R a b
  by_sides i a b (inl (less, at_a)) (inl (less_b, at_b)) = but.at i a b (λ e. omega (arith, e, less)) at_a at_b
  by_sides i a b (inl (less, at_a)) (inr (more, at_b)) = absurd (omega (arith, less, more))
  by_sides i a b (inr (more, at_a)) (inl (less, at_b)) = absurd (omega (arith, less, more))
  by_sides i a b (inr (more, at_a)) (inr (more_b, at_b)) = but.at (suc i) a b (λ e. omega (arith, e, more)) at_a at_b

-- lists of one length, whose elements have the same at each place
pub same_map : {A B C : Type 0} (f : A → C) (g : B → C) (xs : List A) (ys : List B) → Pointwise (λ x y. f x ≡ g y) xs ys → map f xs ≡ map g ys
same_map f g [] [] same = refl
same_map f g [] (y ∷ ys) same = let s = same.size in absurd (omega (arith, s))
same_map f g (x ∷ xs) [] same = let s = same.size in absurd (omega (arith, s))
same_map {A} {B} {C} f g (x ∷ xs) (y ∷ ys) same =
    let here : f x ≡ g y = same.at 0 x y refl refl in
    let s = same.size in
    let rest = same_map f g xs ys (record { size = omega (arith, s); at = λ i a b at_a at_b. same.at (suc i) a b at_a at_b }) in
    ap {B = List C} (λ (c : C). c ∷ map f xs) here ∙ ap {B = List C} (λ (cs : List C). g y ∷ cs) rest
