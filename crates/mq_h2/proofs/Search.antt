-- What a search by halving says of a list that rises.
use Rattle.std.proofs.Common.{◌≡◌, ◌<◌, ℕ, false, eqb, List, length, get_or, Result, Ok, Err, sym, arith, tests}
use Rattle.std.specs.List.{list_any}
use Rattle.std.specs.List.Sorted.{IsBinarySearchResult, IsNonDecreasing}
use Rattle.std.specs.Ordering.{nat_cmp}
use Rattle.std.specs.Result.{is_ok}
use Rattle.std.proofs.lemmas.Bool.{eq-eqb}
use Rattle.std.proofs.lemmas.List.Folds.{list_any_at, list_any_none}
use Rattle.std.proofs.lemmas.List.Elements.{All-from_get_or}
use Rattle.std.proofs.lemmas.List.Sorted.{searched}

-- it finds what is there
pub found : (xs : List ℕ) (x : ℕ) (r : Result ℕ ℕ) → IsBinarySearchResult (λ y. nat_cmp y x) xs r → IsNonDecreasing xs → is_ok r ≡ list_any (λ g. eqb g x) xs
found xs x (Ok i) at up =
    let is = searched xs x (Ok i) at (λ i j le lt. up i j 0 le lt) in
    sym (list_any_at (λ g. eqb g x) xs i 0 is.0 (eq-eqb (get_or xs i 0) x is.1))
found xs x (Err i) at up =
    let is = searched xs x (Err i) at (λ i j le lt. up i j 0 le lt) in
    let other : (k : ℕ) → k < length xs → eqb (get_or xs k 0) x ≡ false = λ k in_xs.
    grind (arith, tests, is.1 k, is.2 k) in
    sym (list_any_none (λ g. eqb g x) xs (All-from_get_or (λ g. eqb g x ≡ false) xs 0 other))
