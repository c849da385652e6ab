-- Which seat of a ring is the first that can act.
use Rattle.std.proofs.Common.{◌≡◌, inl, inr, ◌⊎◌, ℕ, zero, suc, ◌<◌, ◌≤◌, Bool, true, false, not}
use Rattle.std.proofs.Common.{List, [], ◌∷◌, All, Option, Some, None, nat_lt, nat_le, slice_get, filter, find, take_while, append-nil, refl, ap, subst, ◌∙◌}
use Rattle.std.proofs.lemmas.Bool.{cases_lt, le-leb, leb-true, lt-ltb, ltb-true}
use Rattle.std.proofs.lemmas.List.Elements.{All-cons, All-head, All-tail, All-nil}
use Rattle.std.proofs.lemmas.List.Folds.{find-append}
use Rattle.std.specs.Option.{option_or}
use Rattle.mq_machine.specs.Turn.{Seat, place_of, ring_from}
use Rattle.mq_actor.proofs.Places.{none_passing, first_passing, while_append, all_passing, while_passing}

-- what holds at each place holds of all
pub all_at : {A : Type 0} (W : A → Type 0) (xs : List A) → ((a : ℕ) (x : A) → slice_get xs a ≡ Some x → W x) → All W xs
all_at W [] each = All-nil W
all_at W (x ∷ xs) each = All-cons W x xs (each 0 x refl) (all_at W xs (λ a y at. each (suc a) y at))

-- what holds of all holds at each place
pub at_all : {A : Type 0} (W : A → Type 0) (xs : List A) → All W xs → (a : ℕ) (x : A) → slice_get xs a ≡ Some x → W x
at_all W [] all a y at = absurd cc
at_all W (x ∷ xs) all zero y at = let e : x ≡ y = cc in subst W e (All-head W x xs all)
at_all W (x ∷ xs) all (suc a) y at = at_all W xs (All-tail W x xs all) a y at

-- In the ring that begins with `from`, the seat x at place a of the list comes before the seat y at place b.
abbrev pub Precedes : ℕ → ℕ → Seat → ℕ → Seat → Type 0
Precedes from a x b y =
    ((from ≤ place_of x) × (place_of y < from)) ⊎
    (((from ≤ place_of x) × (from ≤ place_of y) × (a < b)) ⊎ ((place_of x < from) × (place_of y < from) × (a < b)))

abbrev late : ℕ → Seat → Bool
late from s = nat_le from (place_of s)

abbrev early : ℕ → Seat → Bool
early from s = nat_lt (place_of s) from

-- the first that can act
pub first_in_ring : (can : Seat → Bool) (from : ℕ) (seats : List Seat) (b : ℕ) (y : Seat) → slice_get seats b ≡ Some y → can y ≡ true
    → ((a : ℕ) (x : Seat) → slice_get seats a ≡ Some x → Precedes from a x b y → can x ≡ false) → find can (ring_from from seats) ≡ Some y
first_in_ring can from seats b y at can_y before =
    find-append can (filter (late from) seats) (filter (early from) seats) ∙ by_case (cases_lt (place_of y) from) where
      by_case : (place_of y < from) ⊎ (from ≤ place_of y)
          → option_or (find can (filter (late from) seats)) (find can (filter (early from) seats)) ≡ Some y
      by_case (inl lt) =
          ap {B = Option Seat} (λ (o : Option Seat). option_or o (find can (filter (early from) seats)))
          (none_passing can (late from) seats (λ a x at_a is. before a x at_a (inl (leb-true from (place_of x) is, lt))))
          ∙ first_passing can (early from) seats b y at (lt-ltb (place_of y) from lt) can_y
          (λ a x at_a is less. before a x at_a (inr (inr (ltb-true (place_of x) from is, lt, less))))
      by_case (inr le) =
          ap {B = Option Seat} (λ (o : Option Seat). option_or o (find can (filter (early from) seats)))
          (first_passing can (late from) seats b y at (le-leb from (place_of y) le) can_y
          (λ a x at_a is less. before a x at_a (inr (inl (leb-true from (place_of x) is, le, less)))))

-- none can
pub none_in_ring : (can : Seat → Bool) (from : ℕ) (seats : List Seat) → ((a : ℕ) (x : Seat) → slice_get seats a ≡ Some x → can x ≡ false)
    → find can (ring_from from seats) ≡ None
none_in_ring can from seats none =
    find-append can (filter (late from) seats) (filter (early from) seats)
    ∙ ap {B = Option Seat} (λ (o : Option Seat). option_or o (find can (filter (early from) seats)))
    (none_passing can (late from) seats (λ a x at is. none a x at))
    ∙ none_passing can (early from) seats (λ a x at is. none a x at)

-- what holds of those that come before the first
pub before_in_ring : (can : Seat → Bool) (W : Seat → Type 0) (from : ℕ) (seats : List Seat) (b : ℕ) (y : Seat)
    → slice_get seats b ≡ Some y → can y ≡ true → ((a : ℕ) (x : Seat) → slice_get seats a ≡ Some x → Precedes from a x b y → W x)
    → All W (take_while (λ s. not (can s)) (ring_from from seats))
before_in_ring can W from seats b y at can_y before = by_case (cases_lt (place_of y) from) where
  fails : not (can y) ≡ false
  fails = ap {B = Bool} (λ (c : Bool). not c) can_y

  by_case : (place_of y < from) ⊎ (from ≤ place_of y) → All W (take_while (λ s. not (can s)) (ring_from from seats))
  by_case (inl lt) =
      let P : List Seat → Type 0 = λ ss. All W (take_while (λ s. not (can s)) ss) in
      while_append (λ s. not (can s)) W (filter (late from) seats) (filter (early from) seats)
      (all_passing (λ s. not (can s)) W (late from) seats (λ a x at_a is. before a x at_a (inl (leb-true from (place_of x) is, lt))))
      (subst P (append-nil (filter (early from) seats))
      (while_passing (λ s. not (can s)) W (early from) seats [] b y at (lt-ltb (place_of y) from lt) fails
      (λ a x at_a is less. before a x at_a (inr (inr (ltb-true (place_of x) from is, lt, less))))))
  by_case (inr le) =
      while_passing (λ s. not (can s)) W (late from) seats (filter (early from) seats) b y at (le-leb from (place_of y) le) fails
      (λ a x at_a is less. before a x at_a (inr (inl (leb-true from (place_of x) is, le, less))))
