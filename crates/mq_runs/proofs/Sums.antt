-- Sums over lists of which a part changes.
use Rattle.std.proofs.Common.{◌≡◌, ◌≤◌, ◌+◌, ℕ, zero, suc, Bool, true, false, cond, List, [], ◌∷◌, ◌++◌, map, slice_get, slice_set, Some, refl, ap, arith}
use Rattle.std.specs.List.{filter}
use Rattle.std.specs.Option.{unwrap_or}
use Rattle.mq_play.proofs.Lists.{some_same}

abbrev pub total : {A : Type 0} → (A → ℕ) → List A → ℕ
total f [] = 0
total f (x ∷ xs) = f x + total f xs

pub total_append : {A : Type 0} (f : A → ℕ) (xs ys : List A) → total f (xs ++ ys) ≡ total f xs + total f ys
total_append f [] ys = omega arith
total_append f (x ∷ xs) ys = let rest = total_append f xs ys in omega (arith, rest)

pub total_less : {A : Type 0} (f g : A → ℕ) (xs : List A) → ((x : A) → f x ≤ g x) → total f xs ≤ total g xs
total_less f g [] h = omega arith
total_less f g (x ∷ xs) h = let rest = total_less f g xs h in let here = h x in omega (arith, rest, here)

filter_by : {A : Type 0} (f : A → ℕ) (b : Bool) (x : A) (xs ys : List A) → total f ys ≤ total f xs → total f (cond b (x ∷ ys) ys) ≤ f x + total f xs
filter_by f true x xs ys h = omega (arith, h)
filter_by f false x xs ys h = omega (arith, h)

pub total_filter : {A : Type 0} (f : A → ℕ) (p : A → Bool) (xs : List A) → total f (filter p xs) ≤ total f xs
total_filter f p [] = omega arith
total_filter f p (x ∷ xs) = filter_by f (p x) x xs (filter p xs) (total_filter f p xs)

pub total_map : {A : Type 0} (f : A → ℕ) (g : A → A) (xs : List A) → ((x : A) → f (g x) ≤ f x) → total f (map g xs) ≤ total f xs
total_map f g [] h = omega arith
total_map f g (x ∷ xs) h = let rest = total_map f g xs h in let here = h x in omega (arith, rest, here)

pub total_set : {A : Type 0} (f : A → ℕ) (xs : List A) (i : ℕ) (x y : A) → slice_get xs i ≡ Some x → total f (slice_set xs i y) + f x ≡ total f xs + f y
total_set f [] zero x y e = absurd cc
total_set f [] (suc i) x y e = absurd cc
total_set f (z ∷ xs) zero x y e = let same = ap f (some_same e) in omega (arith, same)
total_set f (z ∷ xs) (suc i) x y e = let rest = total_set f xs i x y e in omega (arith, rest)

-- one more stands at the end of one of some lists
pub total_push : {A : Type 0} (f : A → ℕ) (xss : List (List A)) (i : ℕ) (x : A) → total (λ xs. total f xs) (slice_set xss i (unwrap_or (slice_get xss i) [] ++ x ∷ [])) ≤ total (λ xs. total f xs) xss + f x
total_push f [] zero x = omega arith
total_push f [] (suc i) x = omega arith
total_push f (xs ∷ xss) zero x = let more = total_append f xs (x ∷ []) in omega (arith, more)
total_push f (xs ∷ xss) (suc i) x = let rest = total_push f xss i x in omega (arith, rest)

pub total_zero : {A : Type 0} (f : A → ℕ) (xs : List A) → ((x : A) → f x ≡ 0) → total f xs ≡ 0
total_zero f [] h = refl
total_zero f (x ∷ xs) h = let here = h x in let rest = total_zero f xs h in omega (arith, here, rest)

-- ---- numbers that count where something is so

pub cond_fewer : (b : Bool) (m : ℕ) → cond b m 0 ≤ m
cond_fewer true m = omega arith
cond_fewer false m = omega arith

pub cond_less : (b : Bool) (m n : ℕ) → m ≤ n → cond b m 0 ≤ cond b n 0
cond_less true m n h = h
cond_less false m n h = omega arith
