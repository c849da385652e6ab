-- What stands at the front of a queue.
use Rattle.std.proofs.Common.{◌≡◌, List, [], ◌∷◌, slice_get, Some, sym, ◌∙◌}

-- a queue in which this stands at the front
pub front_is : {A : Type 0} (xs : List A) (found : A) → slice_get xs 0 ≡ Some found → (rest : List A) × (xs ≡ found ∷ rest)
front_is [] found is = absurd cc
front_is (x ∷ xs) found is = let e : x ≡ found = cc in (xs, cc)

-- two that stand at the front are one
pub same_front : {A : Type 0} (xs : List A) (a b : A) (ys zs : List A) → xs ≡ a ∷ ys → xs ≡ b ∷ zs → a ≡ b
same_front xs a b ys zs is was = let e : a ∷ ys ≡ b ∷ zs = sym is ∙ was in cc
