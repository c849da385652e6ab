-- What is first among the elements of a list that pass a test, and what stands before it.
use Rattle.std.proofs.Common.{◌≡◌, ℕ, zero, suc, ◌<◌, Bool, true, false, cond}
use Rattle.std.proofs.Common.{List, [], ◌∷◌, ◌++◌, All, Option, Some, None, slice_get, filter, find, take_while, refl, sym, ap, subst, ◌∙◌, arith}
use Rattle.std.proofs.lemmas.List.Elements.{All-cons, All-head, All-tail, All-nil}
use Rattle.std.proofs.lemmas.List.Sums.{take_while-cons}

-- ---- of two choices

either : {A : Type 0} (P : A → Type 0) (b : Bool) (x y : A) → (b ≡ true → P x) → (b ≡ false → P y) → P (cond b x y)
either P true x y if_true if_false = if_true refl
either P false x y if_true if_false = if_false refl

-- ---- the first of those that pass

module _ {A : Type 0} (can passes : A → Bool) where
  -- none of those that pass can
  pub none_passing : (xs : List A) → ((a : ℕ) (x : A) → slice_get xs a ≡ Some x → passes x ≡ true → can x ≡ false)
      → find can (filter passes xs) ≡ None
  none_passing [] none = refl
  none_passing (x ∷ xs) none =
      let rest : find can (filter passes xs) ≡ None = none_passing xs (λ a y at. none (suc a) y at) in
      either (λ (ys : List A). find can ys ≡ None) (passes x) (x ∷ filter passes xs) (filter passes xs)
      (λ is. ap {B = Option A} (λ (b : Bool). cond b (Some x) (find can (filter passes xs))) (none 0 x refl is) ∙ rest)
      (λ not_so. rest)

  -- the one that can, where those before it that pass cannot
  pub first_passing : (xs : List A) (b : ℕ) (y : A) → slice_get xs b ≡ Some y → passes y ≡ true → can y ≡ true
      → ((a : ℕ) (x : A) → slice_get xs a ≡ Some x → passes x ≡ true → a < b → can x ≡ false) → find can (filter passes xs) ≡ Some y
  first_passing [] b y at is can_y before = absurd cc
  first_passing (x ∷ xs) zero y at is can_y before =
      let e : x ≡ y = cc in
      let P : A → Type 0 = λ z. find can (filter passes (z ∷ xs)) ≡ Some y in
      subst P (sym e)
      (ap {B = Option A} (λ (b : Bool). find can (cond b (y ∷ filter passes xs) (filter passes xs))) is
      ∙ ap {B = Option A} (λ (b : Bool). cond b (Some y) (find can (filter passes xs))) can_y)
  first_passing (x ∷ xs) (suc b) y at is can_y before =
      let rest : find can (filter passes xs) ≡ Some y = first_passing xs b y at is can_y (λ a z at_a so lt. before (suc a) z at_a so (omega (arith, lt))) in
      either (λ (ys : List A). find can ys ≡ Some y) (passes x) (x ∷ filter passes xs) (filter passes xs)
      (λ so. ap {B = Option A} (λ (b : Bool). cond b (Some x) (find can (filter passes xs))) (before 0 x refl so (omega arith)) ∙ rest)
      (λ not_so. rest)

-- ---- what stands before the first that fails

module _ {A : Type 0} (goes : A → Bool) (W : A → Type 0) where
  -- one more in front
  pub while_cons : (x : A) (xs : List A) → W x → All W (take_while goes xs) → All W (take_while goes (x ∷ xs))
  while_cons x xs here rest =
      let P : List A → Type 0 = λ ys. All W ys in
      subst P (sym (take_while-cons goes x xs))
      (either P (goes x) (x ∷ take_while goes xs) [] (λ is. All-cons W x (take_while goes xs) here rest) (λ is. All-nil W))

  -- all in front
  pub while_append : (xs ys : List A) → All W xs → All W (take_while goes ys) → All W (take_while goes (xs ++ ys))
  while_append [] ys all rest = rest
  while_append (x ∷ xs) ys all rest = while_cons x (xs ++ ys) (All-head W x xs all) (while_append xs ys (All-tail W x xs all) rest)

  -- all of those that pass
  pub all_passing : (passes : A → Bool) (xs : List A) → ((a : ℕ) (x : A) → slice_get xs a ≡ Some x → passes x ≡ true → W x)
      → All W (filter passes xs)
  all_passing passes [] each = All-nil W
  all_passing passes (x ∷ xs) each =
      let rest = all_passing passes xs (λ a y at. each (suc a) y at) in
      either (λ (ys : List A). All W ys) (passes x) (x ∷ filter passes xs) (filter passes xs)
      (λ is. All-cons W x (filter passes xs) (each 0 x refl is) rest)
      (λ not_so. rest)

  -- those that pass and stand before one that passes and fails
  pub while_passing : (passes : A → Bool) (xs ys : List A) (b : ℕ) (y : A) → slice_get xs b ≡ Some y → passes y ≡ true → goes y ≡ false
      → ((a : ℕ) (x : A) → slice_get xs a ≡ Some x → passes x ≡ true → a < b → W x) → All W (take_while goes (filter passes xs ++ ys))
  while_passing passes [] ys b y at is fails before = absurd cc
  while_passing passes (x ∷ xs) ys zero y at is fails before =
      let e : x ≡ y = cc in
      let P : List A → Type 0 = λ zs. All W zs in
      let Q : A → Type 0 = λ z. All W (take_while goes (filter passes (z ∷ xs) ++ ys)) in
      subst Q (sym e)
      (subst P
      (sym
      (ap {B = List A} (λ (b : Bool). take_while goes (cond b (y ∷ filter passes xs) (filter passes xs) ++ ys)) is
      ∙ take_while-cons goes y (filter passes xs ++ ys)
      ∙ ap {B = List A} (λ (b : Bool). cond b (y ∷ take_while goes (filter passes xs ++ ys)) []) fails))
      (All-nil W))
  while_passing passes (x ∷ xs) ys (suc b) y at is fails before =
      let rest = while_passing passes xs ys b y at is fails (λ a z at_a so lt. before (suc a) z at_a so (omega (arith, lt))) in
      either (λ (zs : List A). All W (take_while goes (zs ++ ys))) (passes x) (x ∷ filter passes xs) (filter passes xs)
      (λ so. while_cons x (filter passes xs ++ ys) (before 0 x refl so (omega arith)) rest)
      (λ not_so. rest)
