-- Lists, element by element.
use Rattle.std.proofs.Common.{◌≡◌, ℕ, zero, suc, Bool, true, false, cond, List, [], ◌∷◌, ◌++◌, map, slice_get, slice_set, Option, Some, ap, subst}
use Rattle.std.specs.Prelude.{if◌then◌else◌}
use Rattle.std.specs.List.{AllByRecursion, filter}
use Rattle.std.specs.Option.{unwrap_or}

pub some_same : {A : Type 0} {x y : A} → Some x ≡ Some y → x ≡ y
some_same {A} {x} {y} h = ap (λ o. unwrap_or o x) h

-- what holds of both holds of the one
pub if_both : {A : Type 0} (P : A → Type 0) (b : Bool) (x y : A) → P x → P y → P (if b then x else y)
if_both P true x y h k = h
if_both P false x y h k = k

pub each_append : {A : Type 0} (P : A → Type 0) (xs ys : List A) → AllByRecursion P xs → AllByRecursion P ys → AllByRecursion P (xs ++ ys)
each_append P [] ys h k = k
each_append P (x ∷ xs) ys h k = (h.0, each_append P xs ys h.1 k)

pub each_behind : {A : Type 0} (P : A → Type 0) (xs ys : List A) → AllByRecursion P (xs ++ ys) → AllByRecursion P ys
each_behind P [] ys h = h
each_behind P (x ∷ xs) ys h = each_behind P xs ys h.1

pub each_filter : {A : Type 0} (P : A → Type 0) (p : A → Bool) (xs : List A) → AllByRecursion P xs → AllByRecursion P (filter p xs)
each_filter P p [] h = tt
each_filter P p (x ∷ xs) h =
    let rest = each_filter P p xs h.1 in
    if_both (λ ys. AllByRecursion P ys) (p x) (x ∷ filter p xs) (filter p xs) (h.0, rest) rest

pub each_map : {A B : Type 0} (P : A → Type 0) (Q : B → Type 0) (f : A → B) (xs : List A) → ((x : A) → P x → Q (f x)) → AllByRecursion P xs → AllByRecursion Q (map f xs)
each_map P Q f [] h k = tt
each_map P Q f (x ∷ xs) h k = (h x k.0, each_map P Q f xs h k.1)

pub each_at : {A : Type 0} (P : A → Type 0) (xs : List A) (i : ℕ) (x : A) → AllByRecursion P xs → slice_get xs i ≡ Some x → P x
each_at P [] zero x h e = absurd cc
each_at P [] (suc i) x h e = absurd cc
each_at P (y ∷ ys) zero x h e = subst P (some_same e) h.0
each_at P (y ∷ ys) (suc i) x h e = each_at P ys i x h.1 e

pub each_set : {A : Type 0} (P : A → Type 0) (xs : List A) (i : ℕ) (x : A) → AllByRecursion P xs → P x → AllByRecursion P (slice_set xs i x)
each_set P [] zero x h k = tt
each_set P [] (suc i) x h k = tt
each_set P (y ∷ ys) zero x h k = (k, h.1)
each_set P (y ∷ ys) (suc i) x h k = (h.0, each_set P ys i x h.1 k)

find_kept : {A : Type 0} (P : A → Type 0) (b : Bool) (x y : A) (o : Option A) → P x → (o ≡ Some y → P y) → cond b (Some x) o ≡ Some y → P y
find_kept P true x y o h k e = subst P (some_same e) h
find_kept P false x y o h k e = k e

pub each_found : {A : Type 0} (P : A → Type 0) (p : A → Bool) (xs : List A) (y : A) → AllByRecursion P xs → Rattle.std.specs.Prelude.find p xs ≡ Some y → P y
each_found P p [] y h e = absurd cc
each_found P p (x ∷ xs) y h e = find_kept P (p x) x y (Rattle.std.specs.Prelude.find p xs) h.0 (each_found P p xs y h.1) e
