-- Fronts of lists that grow, and what is told of them.
use Rattle.std.proofs.Common.{◌≡◌, ℕ, zero, suc, ◌-◌, List, [], ◌∷◌, ◌++◌, length, take, slice_get, Option, Some, None, refl, sym, ap, subst, ◌∙◌, arith, append_assoc}
use Rattle.std.specs.List.{flat_map}
use Rattle.std.specs.Iterator.{Yields}
use Rattle.std.specs.Vec.Iter.{into_iter_items, into_iter_steps}
use Rattle.std.specs.declared.vec.IntoIter.{IntoIter}
use Rattle.std.proofs.lemmas.List.{take_all}
use Rattle.mq_outside.specs.Links.{and_then}
use Rattle.mq_udp.specs.Talks.{Tells, lines_text}

-- the front of two lists
pub take_both : {A : Type 0} (n : ℕ) (xs ys : List A) → take n (xs ++ ys) ≡ take n xs ++ take (n - length xs) ys
take_both n [] ys = let e : n ≡ n - 0 = omega arith in ap (λ (k : ℕ). take k ys) e ∙ ap (λ (zs : List _). zs ++ take (n - 0) ys) (sym (take_all n [] (omega arith)))
take_both zero (x ∷ xs) ys = let e : 0 ≡ 0 - suc (length xs) = omega arith in ap (λ (k : ℕ). take k ys) e
take_both (suc n) (x ∷ xs) ys =
    let e : n - length xs ≡ suc n - suc (length xs) = omega arith in
    ap (λ (zs : List _). x ∷ zs) (take_both n xs ys ∙ ap (λ (k : ℕ). take n xs ++ take k ys) e)

-- one more of a list
pub take_next : {A : Type 0} (n : ℕ) (xs : List A) (x : A) → slice_get xs n ≡ Some x → take n xs ++ x ∷ [] ≡ take (suc n) xs
take_next zero [] x e = absurd cc
take_next zero (y ∷ xs) x e = let same : y ≡ x = cc in ap (λ (z : _). z ∷ []) (sym same)
take_next (suc n) [] x e = absurd cc
take_next (suc n) (y ∷ xs) x e = ap (λ (zs : List _). y ∷ zs) (take_next n xs x e)

pub flat_both : {A B : Type 0} (f : A → List B) (xs ys : List A) → flat_map f (xs ++ ys) ≡ flat_map f xs ++ flat_map f ys
flat_both f [] ys = refl
flat_both f (x ∷ xs) ys = ap (λ (rest : List _). f x ++ rest) (flat_both f xs ys) ∙ sym (append_assoc (f x) (flat_map f xs) (flat_map f ys))

pub lines_both : (xs ys : List (List ℕ)) → lines_text (xs ++ ys) ≡ lines_text xs ++ lines_text ys
lines_both xs ys = flat_both _ xs ys

-- what is told goes on
pub tells_more : (o : Option (List ℕ)) (told more : List ℕ) → Tells o told → Tells (and_then o more) (told ++ more)
tells_more None told more t = tt
tells_more (Some bytes) told more t = ap (λ (xs : List ℕ). xs ++ more) t

pub tells_same : (o : Option (List ℕ)) (a b : List ℕ) → a ≡ b → Tells o a → Tells o b
tells_same o a b e t = subst (Tells o) e t

-- ---- what the iterator of a vector has given is a front of its items

taken_front : {X A : Type 0} (s : IntoIter X A) (xs : List X) (t : IntoIter X A) → Yields into_iter_steps s xs t → into_iter_items s ≡ xs ++ into_iter_items t
taken_front s [] t y = ap into_iter_items y
taken_front s (x ∷ xs) t y = y.1.0 ∙ ap (λ ys. x ∷ ys) (taken_front y.0 xs t y.2)

-- with the one that comes
pub taken_next : {X A : Type 0} (s : IntoIter X A) (xs : List X) (t u : IntoIter X A) (x : X) → Yields into_iter_steps s xs t
    → into_iter_items t ≡ x ∷ into_iter_items u → into_iter_items s ≡ xs ++ x ∷ into_iter_items u
taken_next s xs t u x y e = taken_front s xs t y ∙ ap (λ l. xs ++ l) e
