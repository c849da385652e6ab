-- How many slots of a table pass a test, as a port is put into it.
use Rattle.std.proofs.Common.{◌≡◌, ◌≢◌, ◌+◌, ℕ, zero, suc, Bool, false, cond, List, [], ◌∷◌, Option, Some, None, refl, ap, sym, ◌∙◌, slice_index_or, All, arith}
use Rattle.std.specs.Prelude.{count_by}
use Rattle.std.proofs.lemmas.Bool.{cond-false}
use Rattle.std.proofs.lemmas.List.Sums.{sum_by-cons}
use Rattle.std.proofs.lemmas.List.Elements.{All-head, All-tail}

count_cons : {X : Type 0} (p : X → Bool) (x : X) (xs : List X) → count_by p (x ∷ xs) ≡ cond (p x) 1 0 + count_by p xs
count_cons p x xs = sum_by-cons (λ x. cond (p x) 1 0) x xs

count_no : {X : Type 0} (p : X → Bool) (x : X) (xs : List X) → p x ≡ false → count_by p (x ∷ xs) ≡ count_by p xs
count_no p x xs fails = let one = count_cons p x xs in let none = cond-false {A = ℕ} (p x) 1 0 fails in omega (arith, one, none)

-- tables that find the same under each key
count_same : {X : Type 0} (p : Option X → Bool) → p None ≡ false → (xs ys : List (Option X))
    → ((k : ℕ) → slice_index_or ys k None ≡ slice_index_or xs k None) → count_by p ys ≡ count_by p xs
count_same p none [] [] same = refl
count_same p none [] (y ∷ ys) same =
    let rest = count_same p none [] ys (λ k. same (suc k)) in
    count_no p y ys (ap p (same zero) ∙ none) ∙ rest
count_same p none (x ∷ xs) [] same =
    let rest = count_same p none xs [] (λ k. same (suc k)) in
    rest ∙ sym (count_no p x xs (ap p (sym (same zero)) ∙ none))
count_same p none (x ∷ xs) (y ∷ ys) same =
    let rest = count_same p none xs ys (λ k. same (suc k)) in
    let head = ap {B = ℕ} (λ v. cond (p v) 1 0) (same zero) in
    let one = count_cons p x xs in
    let two = count_cons p y ys in
    omega (arith, rest, head, one, two)

-- a table that finds one value more
pub count_new : {X : Type 0} (p : Option X → Bool) → p None ≡ false → (xs ys : List (Option X)) (key : ℕ) (v : X)
    → slice_index_or xs key None ≡ None → slice_index_or ys key None ≡ Some v
    → ((k : ℕ) → k ≢ key → slice_index_or ys k None ≡ slice_index_or xs k None) → count_by p ys ≡ count_by p xs + cond (p (Some v)) 1 0
count_new p none xs [] key v free at others = absurd cc
count_new p none [] (y ∷ ys) zero v free at others =
    let rest = count_same p none [] ys (λ k. others (suc k) (λ e. omega (arith, e))) in
    let head = ap {B = ℕ} (λ v. cond (p v) 1 0) at in
    let one = count_cons p y ys in
    omega (arith, rest, head, one)
count_new p none [] (y ∷ ys) (suc key) v free at others =
    let rest = count_new p none [] ys key v refl at (λ k ne. others (suc k) (λ e. ne (omega (arith, e)))) in
    let head = count_no p y ys (ap p (others zero (λ e. omega (arith, e))) ∙ none) in
    omega (arith, rest, head)
count_new p none (x ∷ xs) (y ∷ ys) zero v free at others =
    let rest = count_same p none xs ys (λ k. others (suc k) (λ e. omega (arith, e))) in
    let head = ap {B = ℕ} (λ v. cond (p v) 1 0) at in
    let was = count_no p x xs (ap p free ∙ none) in
    let one = count_cons p y ys in
    omega (arith, rest, head, was, one)
count_new p none (x ∷ xs) (y ∷ ys) (suc key) v free at others =
    let rest = count_new p none xs ys key v free at (λ k ne. others (suc k) (λ e. ne (omega (arith, e)))) in
    let head = ap {B = ℕ} (λ v. cond (p v) 1 0) (others zero (λ e. omega (arith, e))) in
    let one = count_cons p x xs in
    let two = count_cons p y ys in
    omega (arith, rest, head, one, two)

-- an empty table
pub count_empty : {X : Type 0} (p : Option X → Bool) → p None ≡ false → (xs : List (Option X)) → All (λ slot. slot ≡ None) xs → count_by p xs ≡ 0
count_empty p none [] all = refl
count_empty p none (x ∷ xs) all =
    let rest = count_empty p none xs (All-tail (λ slot. slot ≡ None) x xs all) in
    count_no p x xs (ap p (All-head (λ slot. slot ≡ None) x xs all) ∙ none) ∙ rest
