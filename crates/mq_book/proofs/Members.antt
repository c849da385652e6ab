-- Members of lists.
use Rattle.std.proofs.Common.{◌≡◌, zero, suc, ◌<◌, Bool, true, false, cond, List, [], ◌∷◌, length, get_or, map, sym, refl, subst, arith}
use Rattle.std.specs.Prelude.{IsTrue, not}
use Rattle.std.proofs.lemmas.Bool.{both_ways, not-true, not_from_false, false_from_ne_true}
use Rattle.std.specs.List.{All, Any, Contains, filter, flat_map}
use Rattle.std.proofs.lemmas.List.{get_or_default}
use Rattle.std.proofs.lemmas.List.Elements.{All-contains, All-contains_itself, All-filter, filter_passes, Contains-append_left, Contains-append_right}

pub contains_head : {X : Type 0} (x : X) (xs : List X) → Contains (x ∷ xs) x
contains_head x xs = let less : 0 < length (x ∷ xs) = omega arith in (0, less, refl)

pub contains_tail : {X : Type 0} (y : X) (xs : List X) (x : X) → Contains xs x → Contains (y ∷ xs) x
contains_tail y xs x (k, less, is) = let below : suc k < length (y ∷ xs) = omega (arith, less) in (suc k, below, is)

pub in_filter : {X : Type 0} (p : X → Bool) (xs : List X) (x : X) → Contains (filter p xs) x → Contains xs x
in_filter p xs x h = All-contains (Contains xs) (filter p xs) x (All-filter p (Contains xs) xs (All-contains_itself xs)) h

pub passes : {X : Type 0} (p : X → Bool) (xs : List X) (x : X) → Contains (filter p xs) x → p x ≡ true
passes p xs x h = All-contains (λ y. p y ≡ true) (filter p xs) x (filter_passes p xs) h

kept_step : {X : Type 0} (b : Bool) (y : X) (fs : List X) (x : X) → Contains fs x → Contains (cond b (y ∷ fs) fs) x
kept_step true y fs x h = contains_tail y fs x h
kept_step false y fs x h = h

kept_head : {X : Type 0} (b : Bool) (x : X) (fs : List X) → b ≡ true → Contains (cond b (x ∷ fs) fs) x
kept_head true x fs e = contains_head x fs
kept_head false x fs e = cc

pub stays : {X : Type 0} (p : X → Bool) (xs : List X) (x : X) → Contains xs x → p x ≡ true → Contains (filter p xs) x
stays p [] x (k, less, is) e = absurd (omega (arith, less))
stays p (y ∷ ys) x (zero, less, is) e = subst (λ z. Contains (cond (p z) (z ∷ filter p ys) (filter p ys)) x) (sym is) (kept_head (p x) x (filter p ys) e)
stays p (y ∷ ys) x (suc k, less, is) e = let below : k < length ys = omega (arith, less) in kept_step (p y) y (filter p ys) x (stays p ys x (k, below, is) e)

pub in_map : {X Y : Type 0} (f : X → Y) (xs : List X) (x : X) → Contains xs x → Contains (map f xs) (f x)
in_map f [] x (k, less, is) = absurd (omega (arith, less))
in_map f (y ∷ ys) x (zero, less, is) = subst (λ z. Contains (map f (z ∷ ys)) (f x)) (sym is) (contains_head (f x) (map f ys))
in_map f (y ∷ ys) x (suc k, less, is) = let below : k < length ys = omega (arith, less) in contains_tail (f y) (map f ys) (f x) (in_map f ys x (k, below, is))

pub in_flat_map : {X Y : Type 0} (f : X → List Y) (xs : List X) (x : X) (y : Y) → Contains xs x → Contains (f x) y → Contains (flat_map f xs) y
in_flat_map f [] x y (k, less, is) h = absurd (omega (arith, less))
in_flat_map f (z ∷ zs) x y (zero, less, is) h = Contains-append_left (f z) (flat_map f zs) y (subst (λ w. Contains (f w) y) (sym is) h)
in_flat_map f (z ∷ zs) x y (suc k, less, is) h = let below : k < length zs = omega (arith, less) in Contains-append_right (f z) (flat_map f zs) y (in_flat_map f zs x y (k, below, is) h)

pub any_from : {X : Type 0} (P : X → Type 0) (xs : List X) (x : X) → Contains xs x → P x → Any P xs
any_from P xs x h p = (h.0, x, h.1, h.2, p)

pub in_none : {X : Type 0} (x : X) → Contains [] x → ⊥
in_none x (k, less, is) = omega (arith, less)

-- not one of a list
pub none_any : {X : Type 0} (P : X → Type 0) (xs : List X) (b : Bool) → (IsTrue b → Any P xs) × (Any P xs → IsTrue b) → (IsTrue (not b) → All (λ x. ¬ (P x)) xs) × (All (λ x. ¬ (P x)) xs → IsTrue (not b))
none_any P xs b h = (
  λ passed k d less p. both_ways b (not-true b passed) (h.1 (k, get_or xs k d, less, get_or_default xs k (get_or xs k d) d less, p)),
  λ all. not_from_false b (false_from_ne_true b (λ t. let x = h.0 t in all x.0 x.1 x.2 (subst P (sym x.3) x.4))),
)
