-- Lists in which something stands behind something else, and sums to which one element gives all.
use Rattle.std.proofs.Common.{◌≡◌, ◌≤◌, ◌+◌, ◌⊎◌, ℕ, zero, suc, Bool, true, false, cond, List, [], ◌∷◌, ◌++◌, nat_lt, slice_get, Some, refl, subst, ap, arith, inl, inr}
use Rattle.std.specs.Prelude.{find}
use Rattle.std.proofs.lemmas.Bool.{lt-ltb, ltb-true}
use Rattle.mq_play.proofs.Lists.{some_same}
use Rattle.std.specs.List.{filter}
use Rattle.mq_runs.proofs.Sums.{total, total_append, total_filter, cond_less}

-- how much of f stands behind something of g
abbrev pub behind : {A : Type 0} → (A → ℕ) → (A → ℕ) → List A → ℕ
behind f g [] = 0
behind f g (x ∷ xs) = cond (nat_lt 0 (g x)) (total f xs) 0 + behind f g xs

cond_push : (b : Bool) (m n y c : ℕ) → m ≡ n + (y + 0) → y ≤ 1 → (b ≡ true → 1 ≤ c) → cond b m 0 ≤ cond b n 0 + cond (nat_lt 0 y) c 0
cond_push false m n y c e few one = omega arith
cond_push true m n zero c e few one = omega (arith, e)
cond_push true m n (suc y) c e few one =
    let least = one refl in
    let is : nat_lt 0 (suc y) ≡ true = lt-ltb 0 (suc y) (omega arith) in
    rw is (omega (arith, e, few, least))

cond_more : (b : Bool) (m n : ℕ) → cond b m 0 + cond b n 0 ≡ cond b (m + n) 0
cond_more true m n = refl
cond_more false m n = omega arith

-- one more stands at the end
pub behind_push : {A : Type 0} (f g : A → ℕ) (xs : List A) (y : A) → f y ≤ 1 → behind f g (xs ++ y ∷ []) ≤ behind f g xs + cond (nat_lt 0 (f y)) (total g xs) 0
behind_push f g [] y few = none (nat_lt 0 (g y)) (nat_lt 0 (f y)) where
  none : (b c : Bool) → cond b 0 0 + 0 ≤ 0 + cond c 0 0
  none true true = omega arith
  none true false = omega arith
  none false true = omega arith
  none false false = omega arith
behind_push f g (x ∷ xs) y few =
    let rest = behind_push f g xs y few in
    let more = total_append f xs (y ∷ []) in
    let here = cond_push (nat_lt 0 (g x)) (total f (xs ++ y ∷ [])) (total f xs) (f y) (g x) more few (λ e. let some = ltb-true 0 (g x) e in omega (arith, some)) in
    let both = cond_more (nat_lt 0 (f y)) (g x) (total g xs) in
    omega (arith, rest, here, both)

-- nothing stands behind the front
pub behind_front : {A : Type 0} (f g : A → ℕ) (x : A) (xs : List A) → 1 ≤ g x → behind f g (x ∷ xs) ≡ 0 → total f xs ≡ 0
behind_front f g x xs some none =
    let is : nat_lt 0 (g x) ≡ true = lt-ltb 0 (g x) (omega (arith, some)) in
    let now : total f xs + behind f g xs ≡ 0 = subst (λ b. cond b (total f xs) 0 + behind f g xs ≡ 0) is none in
    omega (arith, now)

filter_by : {A : Type 0} (f g : A → ℕ) (b : Bool) (x : A) (xs ys : List A) → total f ys ≤ total f xs → behind f g ys ≤ behind f g xs → behind f g (cond b (x ∷ ys) ys) ≤ behind f g (x ∷ xs)
filter_by f g true x xs ys h l = let here = cond_less (nat_lt 0 (g x)) (total f ys) (total f xs) h in omega (arith, here, l)
filter_by f g false x xs ys h l = omega (arith, l)

-- nothing comes to stand behind where some go
pub behind_filter : {A : Type 0} (f g : A → ℕ) (p : A → Bool) (xs : List A) → behind f g (filter p xs) ≤ behind f g xs
behind_filter f g p [] = omega arith
behind_filter f g p (x ∷ xs) = filter_by f g (p x) x xs (filter p xs) (total_filter f p xs) (behind_filter f g p xs)

cond_none : (b : Bool) (m : ℕ) → m ≡ 0 → cond b m 0 ≡ 0
cond_none true m h = h
cond_none false m h = refl

zero_test : (n : ℕ) → n ≡ 0 → nat_lt 0 n ≡ false
zero_test zero e = refl
zero_test (suc n) e = absurd (omega (arith, e))

-- nor behind what isn't there
pub none_behind : {A : Type 0} (f g : A → ℕ) (xs : List A) → total g xs ≡ 0 → behind f g xs ≡ 0
none_behind f g [] e = refl
none_behind f g (x ∷ xs) e =
    let rest = none_behind f g xs (omega (arith, e)) in
    let no = zero_test (g x) (omega (arith, e)) in
    rw no (omega (arith, rest))

-- one list behind another
pub behind_append : {A : Type 0} (f g : A → ℕ) (xs ys : List A) → (total g xs ≡ 0) ⊎ (total f ys ≡ 0) → behind f g (xs ++ ys) ≤ behind f g xs + behind f g ys
behind_append f g [] ys h = omega arith
behind_append f g (x ∷ xs) ys (inl none) =
    let rest = behind_append f g xs ys (inl (omega (arith, none))) in
    let no = zero_test (g x) (omega (arith, none)) in
    rw no (omega (arith, rest))
behind_append f g (x ∷ xs) ys (inr none) =
    let rest = behind_append f g xs ys (inr none) in
    let same = total_append f xs ys in
    let here = cond_less (nat_lt 0 (g x)) (total f (xs ++ ys)) (total f xs) (omega (arith, same, none)) in
    omega (arith, rest, here)

pub zero_or : (n : ℕ) → (n ≡ 0) ⊎ (1 ≤ n)
zero_or zero = inl refl
zero_or (suc n) = inr (omega arith)

-- ---- one of a list

abbrev pub Among : {A : Type 0} → A → List A → Type 0
Among x [] = ⊥
Among x (y ∷ ys) = (y ≡ x) ⊎ Among x ys

among_by : {A : Type 0} (b : Bool) (p : A → Bool) (x y : A) (ys : List A) → cond b (Some y) (find p ys) ≡ Some x → (find p ys ≡ Some x → Among x ys) → Among x (y ∷ ys)
among_by true p x y ys e rest = inl (some_same e)
among_by false p x y ys e rest = inr (rest e)

pub found_among : {A : Type 0} (p : A → Bool) (xs : List A) (x : A) → find p xs ≡ Some x → Among x xs
found_among p [] x e = absurd cc
found_among p (y ∷ ys) x e = among_by (p y) p x y ys e (found_among p ys x)

pub at_among : {A : Type 0} (xs : List A) (i : ℕ) (x : A) → slice_get xs i ≡ Some x → Among x xs
at_among [] zero x e = absurd cc
at_among [] (suc i) x e = absurd cc
at_among (y ∷ ys) zero x e = inl (some_same e)
at_among (y ∷ ys) (suc i) x e = inr (at_among ys i x e)

pub among_less : {A : Type 0} (f : A → ℕ) (xs : List A) (x : A) → Among x xs → f x ≤ total f xs
among_less f [] x h = absurd h
among_less f (y ∷ ys) x (inl same) = let one = ap f same in omega (arith, one)
among_less f (y ∷ ys) x (inr more) = let rest = among_less f ys x more in omega (arith, rest)

-- where none counts, none gives
pub none_total : {A : Type 0} (f u : A → ℕ) (xs : List A) → ((x : A) → u x ≡ 0 → f x ≡ 0) → total u xs ≡ 0 → total f xs ≡ 0
none_total f u [] h e = refl
none_total f u (x ∷ xs) h e =
    let here = h x (omega (arith, e)) in
    let rest = none_total f u xs h (omega (arith, e)) in
    omega (arith, here, rest)

-- where one counts alone, it gives all
pub only_one : {A : Type 0} (f u : A → ℕ) (xs : List A) (x : A) → Among x xs → 1 ≤ u x → total u xs ≤ 1 → ((y : A) → u y ≡ 0 → f y ≡ 0) → total f xs ≤ f x
only_one f u [] x among some few h = absurd among
only_one f u (y ∷ ys) x (inl same) some few h =
    let count = ap u same in
    let one = ap f same in
    let rest = none_total f u ys h (omega (arith, count, some, few)) in
    omega (arith, one, rest)
only_one f u (y ∷ ys) x (inr more) some few h =
    let there = among_less u ys x more in
    let here = h y (omega (arith, there, some, few)) in
    let rest = only_one f u ys x more some (omega (arith, few)) h in
    omega (arith, here, rest)
