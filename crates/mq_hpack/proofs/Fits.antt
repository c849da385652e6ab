-- The longest front of a table that fits.
use Rattle.std.proofs.Common.{◌≡◌, ℕ, ◌+◌, ◌-◌, ◌<◌, ◌≤◌, inl, inr, cond, List, [], ◌∷◌, ◌++◌, refl, sym, ◌∙◌, ap, arith, add-zero}
use Rattle.std.specs.List.{sum_by}
use Rattle.std.proofs.lemmas.List.Sums.{sum_by-append, sum_by-cons}
use Rattle.std.proofs.lemmas.Bool.{cases_lt, le-leb, lt-leb}
use Rattle.mq_hpack.specs.declared.field.Field.{Field}
use Rattle.mq_hpack.specs.Table.{size_of, fitting}

fits_first : (limit : ℕ) (f : Field) (fs : List Field) → size_of f ≤ limit → fitting limit (f ∷ fs) ≡ f ∷ fitting (limit - size_of f) fs
unfolding fitting
fits_first limit f fs h = ap (λ b. cond b (f ∷ fitting (limit - size_of f) fs) []) (le-leb (size_of f) limit h)

fits_none : (limit : ℕ) (f : Field) (fs : List Field) → limit < size_of f → fitting limit (f ∷ fs) ≡ []
unfolding fitting
fits_none limit f fs h = ap (λ b. cond b (f ∷ fitting (limit - size_of f) fs) []) (lt-leb (size_of f) limit h)

sum_cons : (f : Field) (fs : List Field) → sum_by size_of (f ∷ fs) ≡ size_of f + sum_by size_of fs
sum_cons f fs = sum_by-cons size_of f fs

fits_empty : (limit : ℕ) → fitting limit [] ≡ []
unfolding fitting
fits_empty limit = refl

pub fits_all : (limit : ℕ) (fs : List Field) → sum_by size_of fs ≤ limit → fitting limit fs ≡ fs
fits_all limit [] h = fits_empty limit
fits_all limit (f ∷ fs) h =
    let s = sum_cons f fs in
    fits_first limit f fs (omega arith) ∙ ap (λ xs. f ∷ xs) (fits_all (limit - size_of f) fs (omega arith))

-- where all are too many, the last one doesn't fit
pub drops_last : (limit : ℕ) (fs : List Field) (x : Field) → limit < sum_by size_of (fs ++ x ∷ []) → fitting limit (fs ++ x ∷ []) ≡ fitting limit fs
unfolding fitting
drops_last limit [] x h = let s = sum_cons x [] in fits_none limit x [] (omega arith)
drops_last limit (f ∷ fs) x h =
    let s : sum_by size_of ((f ∷ fs) ++ x ∷ []) ≡ size_of f + sum_by size_of (fs ++ x ∷ []) = sum_cons f (fs ++ x ∷ []) in
    elim (cases_lt limit (size_of f)) [
      | inl small ↦ fits_none limit f (fs ++ x ∷ []) small ∙ sym (fits_none limit f fs small)
      | inr large ↦
          fits_first limit f (fs ++ x ∷ []) large
          ∙ ap (λ xs. f ∷ xs) (drops_last (limit - size_of f) fs x (omega arith))
          ∙ sym (fits_first limit f fs large)
    ]

pub sum_push : (fs : List Field) (x : Field) → sum_by size_of (fs ++ x ∷ []) ≡ sum_by size_of fs + size_of x
sum_push fs x = sum_by-append size_of fs (x ∷ []) ∙ ap (λ n. sum_by size_of fs + n) (sum_cons x [] ∙ add-zero (size_of x))

pub stores_none : (limit : ℕ) (f : Field) (fs : List Field) → limit < size_of f → fitting limit (f ∷ fs) ≡ []
stores_none limit f fs h = fits_none limit f fs h

pub stores : (limit : ℕ) (f : Field) (fs kept : List Field) → size_of f ≤ limit → kept ≡ fitting (limit - size_of f) fs → f ∷ kept ≡ fitting limit (f ∷ fs)
stores limit f fs kept h e = ap (λ xs. f ∷ xs) e ∙ sym (fits_first limit f fs h)

pub stores_at : (limit size : ℕ) (f : Field) (fs kept : List Field) → size ≡ size_of f → size ≤ limit → kept ≡ fitting (limit - size) fs → f ∷ kept ≡ fitting limit (f ∷ fs)
stores_at limit size f fs kept e h k =
    let le : size_of f ≤ limit = omega arith in
    stores limit f fs kept le (k ∙ ap (λ n. fitting (limit - n) fs) e)
