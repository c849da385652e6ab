-- The list of a worker's connections: places and numbers, and the seats beside them.
use Rattle.std.proofs.Common.{◌≡◌, ◌≢◌, inl, inr, ◌⊎◌, ℕ, zero, suc, ◌+◌, ◌<◌, ◌≤◌, ◌==◌, Bool, true, false, cond}
use Rattle.std.proofs.Common.{List, [], ◌∷◌, ◌++◌, map, length, remove, Option, Some, None, slice_get, slice_set, find, refl, sym, ap, subst, ◌∙◌, arith}
use Rattle.std.proofs.lemmas.Bool.{cases_eq, eq-eqb, ne_eqb}
use Rattle.mq_talk.specs.declared.goal.Goal.{Goal}
use Rattle.mq_talk.specs.declared.goal.Goal.TheVariants as goal
use Rattle.mq_actor.proofs.Cores.{AreApart}
use Rattle.mq_machine.specs.State.{Held, Tunnel, Worker}
use Rattle.mq_machine.specs.Turn.{Seat, Offers, Inbox, Of, seats_of, replace}
use Rattle.mq_step.specs.Holds.{numbers_of as ids_of, port_number}

-- ---- of maps, sets and removals

-- what a map has at a place
pub get_map : {A B : Type 0} (f : A → B) (xs : List A) (i : ℕ) (x : A) → slice_get xs i ≡ Some x → slice_get (map f xs) i ≡ Some (f x)
get_map f [] i x at = absurd cc
get_map {A} {B} f (y ∷ xs) zero x at = let e : y ≡ x = cc in ap {B = Option B} (λ (z : A). Some (f z)) e
get_map f (y ∷ xs) (suc i) x at = get_map f xs i x at

-- where what a map has at a place is from
pub map_get : {A B : Type 0} (f : A → B) (xs : List A) (i : ℕ) (y : B) → slice_get (map f xs) i ≡ Some y
    → (x : A) × (slice_get xs i ≡ Some x) × (y ≡ f x)
map_get f [] i y at = absurd cc
map_get f (x ∷ xs) zero y at = let e : f x ≡ y = cc in (x, refl, sym e)
map_get f (x ∷ xs) (suc i) y at = map_get f xs i y at

-- a tunnel has this number
abbrev pub HasNumber : List Tunnel → ℕ → Type 0
HasNumber ts n = (j : ℕ) × (t : Tunnel) × (slice_get ts j ≡ Some t) × (t.id ≡ n)

-- a number of a tunnel for UDP is that of one of them
pub number_at : (ts : List Tunnel) (i n : ℕ) → slice_get (ids_of ts) i ≡ Some n → HasNumber ts n
number_at [] i n at = absurd cc
number_at (u ∷ ts) i n at = by_goal u.goal i at (λ k at_k. later (number_at ts k n at_k)) where
  later : HasNumber ts n → HasNumber (u ∷ ts) n
  later (j, t, at_t, is) = (suc j, t, at_t, is)

  by_goal : (g : Goal) (k : ℕ) → slice_get (port_number g u.id ++ ids_of ts) k ≡ Some n → ((k : ℕ) → slice_get (ids_of ts) k ≡ Some n → HasNumber (u ∷ ts) n) → HasNumber (u ∷ ts) n
  by_goal (goal.Udp addr port) zero at_k rest = (0, u, refl, cc)
  by_goal (goal.Udp addr port) (suc k) at_k rest = rest k at_k
  by_goal (goal.Ip area protocol) k at_k rest = rest k at_k

-- a map of a list without the element at a place
pub map_remove : {A B : Type 0} (f : A → B) (xs : List A) (i : ℕ) → map f (remove xs i) ≡ remove (map f xs) i
map_remove f [] zero = refl
map_remove f [] (suc i) = refl
map_remove f (x ∷ xs) zero = refl
map_remove {A} {B} f (x ∷ xs) (suc i) = ap (λ (ys : List B). f x ∷ ys) (map_remove f xs i)

-- what was set at a place stands there
pub get_set_same : {A : Type 0} (xs : List A) (i : ℕ) (x y : A) → slice_get xs i ≡ Some x → slice_get (slice_set xs i y) i ≡ Some y
get_set_same [] i x y at = absurd cc
get_set_same (z ∷ xs) zero x y at = refl
get_set_same (z ∷ xs) (suc i) x y at = get_set_same xs i x y at

-- other places stay
pub get_set_other : {A : Type 0} (xs : List A) (i j : ℕ) (y : A) → i ≢ j → slice_get (slice_set xs i y) j ≡ slice_get xs j
get_set_other [] zero j y ne = refl
get_set_other [] (suc i) j y ne = refl
get_set_other (x ∷ xs) zero zero y ne = absurd (ne refl)
get_set_other (x ∷ xs) zero (suc j) y ne = refl
get_set_other (x ∷ xs) (suc i) zero y ne = refl
get_set_other (x ∷ xs) (suc i) (suc j) y ne = get_set_other xs i j y (λ same. ne (ap (λ (k : ℕ). suc k) same))

-- where what is left stood
pub get_removed : {A : Type 0} (xs : List A) (i j : ℕ) (x : A) → slice_get (remove xs i) j ≡ Some x
    → ((j < i) × (slice_get xs j ≡ Some x)) ⊎ ((i ≤ j) × (slice_get xs (suc j) ≡ Some x))
get_removed [] zero j x at = absurd cc
get_removed [] (suc i) j x at = absurd cc
get_removed (y ∷ xs) zero j x at = inr (omega arith, at)
get_removed (y ∷ xs) (suc i) zero x at = inl (omega arith, at)
get_removed {A} (y ∷ xs) (suc i) (suc j) x at = by_case (get_removed xs i j x at) where
  by_case : ((j < i) × (slice_get xs j ≡ Some x)) ⊎ ((i ≤ j) × (slice_get xs (suc j) ≡ Some x))
      → ((suc j < suc i) × (slice_get (y ∷ xs) (suc j) ≡ Some x)) ⊎ ((suc i ≤ suc j) × (slice_get (y ∷ xs) (suc (suc j)) ≡ Some x))
  by_case (inl (less, is)) = inl (omega (arith, less), is)
  by_case (inr (less, is)) = inr (omega (arith, less), is)

-- what stands in a list with one more at its end
pub get_pushed : {A : Type 0} (xs : List A) (y : A) (i : ℕ) (x : A) → slice_get (xs ++ y ∷ []) i ≡ Some x
    → (slice_get xs i ≡ Some x) ⊎ ((i ≡ length xs) × (x ≡ y))
get_pushed [] y zero x at = let e : y ≡ x = cc in inr (refl, sym e)
get_pushed [] y (suc i) x at = absurd cc
get_pushed (z ∷ xs) y zero x at = inl at
get_pushed {A} (z ∷ xs) y (suc i) x at = by_case (get_pushed xs y i x at) where
  by_case : (slice_get xs i ≡ Some x) ⊎ ((i ≡ length xs) × (x ≡ y))
      → (slice_get (z ∷ xs) (suc i) ≡ Some x) ⊎ ((suc i ≡ length (z ∷ xs)) × (x ≡ y))
  by_case (inl is) = inl is
  by_case (inr (is, e)) = inr (ap (λ (k : ℕ). suc k) is, e)

-- ---- seats

-- the seat of the connection at place i is at place i + 2
pub seat_at : (w : Worker) (i : ℕ) (h : Held) → slice_get w.conns i ≡ Some h → slice_get (seats_of w) (i + 2) ≡ Some (Of h.conn.number)
seat_at w i h at =
    let e : suc (suc i) ≡ i + 2 = omega arith in
    subst (λ (k : ℕ). slice_get (seats_of w) k ≡ Some (Of h.conn.number)) e (get_map (λ (g : Held). Of g.conn.number) w.conns i h at)

-- what stands at a place of the seats
pub at_seat : (w : Worker) (k : ℕ) (x : Seat) → slice_get (seats_of w) k ≡ Some x
    → ((k ≡ 0) × (x ≡ Offers)) ⊎
    (((k ≡ 1) × (x ≡ Inbox)) ⊎
    ((i : ℕ) × (h : Held) × (k ≡ i + 2) × (slice_get w.conns i ≡ Some h) × (x ≡ Of h.conn.number)))
at_seat w zero x at = let e : Offers ≡ x = cc in inl (refl, sym e)
at_seat w (suc zero) x at = let e : Inbox ≡ x = cc in inr (inl (refl, sym e))
at_seat w (suc (suc i)) x at =
    let found = map_get (λ (g : Held). Of g.conn.number) w.conns i x at in
    let e : suc (suc i) ≡ i + 2 = omega arith in
    inr (inr (i, found.0, e, found.1, found.2))

-- ---- numbers

apart_tail : (x : Held) (hs : List Held) → AreApart (x ∷ hs) → AreApart hs
apart_tail x hs apart = λ i j a b at_a at_b same. let e : suc i ≡ suc j = apart (suc i) (suc j) a b at_a at_b same in omega (arith, e)

apart_first : (x : Held) (hs : List Held) (i : ℕ) (h : Held) → AreApart (x ∷ hs) → slice_get hs i ≡ Some h → x.conn.number ≢ h.conn.number
apart_first x hs i h apart at = λ same. let e : 0 ≡ suc i = apart 0 (suc i) x h refl at same in omega (arith, e)

number_same : (x h : Held) → x ≡ h → x.conn.number == h.conn.number ≡ true
number_same x h e = eq-eqb x.conn.number h.conn.number (ap (λ (g : Held). g.conn.number) e)

-- the connection of a number is the one that stands at a place
pub found_at : (hs : List Held) (i : ℕ) (h : Held) → AreApart hs → slice_get hs i ≡ Some h
    → find (λ (g : Held). g.conn.number == h.conn.number) hs ≡ Some h
found_at [] i h apart at = absurd cc
found_at (x ∷ hs) zero h apart at =
    let e : x ≡ h = cc in
    ap {B = Option Held} (λ (b : Bool). cond b (Some x) (find (λ (g : Held). g.conn.number == h.conn.number) hs)) (number_same x h e)
    ∙ ap {B = Option Held} (λ (g : Held). Some g) e
found_at (x ∷ hs) (suc i) h apart at =
    ap {B = Option Held} (λ (b : Bool). cond b (Some x) (find (λ (g : Held). g.conn.number == h.conn.number) hs))
    (ne_eqb x.conn.number h.conn.number (apart_first x hs i h apart at))
    ∙ found_at hs i h (apart_tail x hs apart) at

-- where the connection of a number stands
pub at_found : (hs : List Held) (number : ℕ) (h : Held) → find (λ (g : Held). g.conn.number == number) hs ≡ Some h
    → (i : ℕ) × (slice_get hs i ≡ Some h) × (h.conn.number ≡ number)
at_found [] number h is = absurd cc
at_found (x ∷ hs) number h is = by_case (cases_eq x.conn.number number) (λ later. at_found hs number h later) where
  rest : Option Held
  rest = find (λ (g : Held). g.conn.number == number) hs

  test : (b : Bool) → x.conn.number == number ≡ b → cond b (Some x) rest ≡ Some h
  test b so = ap {B = Option Held} (λ (c : Bool). cond c (Some x) rest) (sym so) ∙ is

  Found : List Held → Type 0
  Found xs = (i : ℕ) × (slice_get xs i ≡ Some h) × (h.conn.number ≡ number)

  further : Found hs → Found (x ∷ hs)
  further (i, at, same) = (suc i, at, same)

  by_case : (x.conn.number ≡ number) ⊎ (x.conn.number ≡ number → ⊥) → (rest ≡ Some h → Found hs) → Found (x ∷ hs)
  by_case (inl same) later =
      let here : Some x ≡ Some h = test true (eq-eqb x.conn.number number same) in
      let e : x ≡ h = cc in
      (0, here, ap (λ (g : Held). g.conn.number) (sym e) ∙ same)
  by_case (inr ne) later = further (later (test false (ne_eqb x.conn.number number ne)))

-- replacing by number is setting at the place
pub replace_sets : (hs : List Held) (i : ℕ) (h g : Held) → AreApart hs → slice_get hs i ≡ Some h
    → replace h.conn.number (Some g) hs ≡ slice_set hs i g
replace_sets [] i h g apart at = absurd cc
replace_sets (x ∷ hs) zero h g apart at =
    let e : x ≡ h = cc in
    ap {B = List Held} (λ (b : Bool). cond b (g ∷ hs) (x ∷ replace h.conn.number (Some g) hs)) (number_same x h e)
replace_sets (x ∷ hs) (suc i) h g apart at =
    ap {B = List Held} (λ (b : Bool). cond b (g ∷ hs) (x ∷ replace h.conn.number (Some g) hs))
    (ne_eqb x.conn.number h.conn.number (apart_first x hs i h apart at))
    ∙ ap (λ (xs : List Held). x ∷ xs) (replace_sets hs i h g (apart_tail x hs apart) at)

-- replacing by nothing is removing at the place
pub replace_removes : (hs : List Held) (i : ℕ) (h : Held) → AreApart hs → slice_get hs i ≡ Some h → replace h.conn.number None hs ≡ remove hs i
replace_removes [] i h apart at = absurd cc
replace_removes (x ∷ hs) zero h apart at =
    let e : x ≡ h = cc in
    ap {B = List Held} (λ (b : Bool). cond b hs (x ∷ replace h.conn.number None hs)) (number_same x h e)
replace_removes (x ∷ hs) (suc i) h apart at =
    ap {B = List Held} (λ (b : Bool). cond b hs (x ∷ replace h.conn.number None hs))
    (ne_eqb x.conn.number h.conn.number (apart_first x hs i h apart at))
    ∙ ap (λ (xs : List Held). x ∷ xs) (replace_removes hs i h (apart_tail x hs apart) at)

-- ---- numbers that stay apart

-- a change of each connection that leaves its number
pub apart_map : (f : Held → Held) → ((h : Held) → (f h).conn.number ≡ h.conn.number) → (hs : List Held) → AreApart hs → AreApart (map f hs)
apart_map f keeps hs apart = λ i j a b at_a at_b same. by_parts i j a b same (map_get f hs i a at_a) (map_get f hs j b at_b) where
  Stood : ℕ → Held → Type 0
  Stood i a = (x : Held) × (slice_get hs i ≡ Some x) × (a ≡ f x)

  number_of : (a x : Held) → a ≡ f x → a.conn.number ≡ x.conn.number
  number_of a x is = ap (λ (h : Held). h.conn.number) is ∙ keeps x

  by_parts : (i j : ℕ) (a b : Held) → a.conn.number ≡ b.conn.number → Stood i a → Stood j b → i ≡ j
  by_parts i j a b same (x, at_x, of_x) (y, at_y, of_y) = apart i j x y at_x at_y (sym (number_of a x of_x) ∙ same ∙ number_of b y of_y)

-- a connection became one with the same number
pub apart_set : (hs : List Held) (i : ℕ) (h g : Held) → slice_get hs i ≡ Some h → g.conn.number ≡ h.conn.number
    → AreApart hs → AreApart (slice_set hs i g)
apart_set hs i h g at number_is apart = λ j k a b at_a at_b same. by_parts j k a b same (stood j a at_a) (stood k b at_b) where
  Stood : ℕ → Held → Type 0
  Stood j a = (x : Held) × (slice_get hs j ≡ Some x) × (a.conn.number ≡ x.conn.number)

  by_parts : (j k : ℕ) (a b : Held) → a.conn.number ≡ b.conn.number → Stood j a → Stood k b → j ≡ k
  by_parts j k a b same (x, at_x, of_x) (y, at_y, of_y) = apart j k x y at_x at_y (sym of_x ∙ same ∙ of_y)

  -- what stands at a place has the number of what stood there
  stood : (j : ℕ) (a : Held) → slice_get (slice_set hs i g) j ≡ Some a → Stood j a
  stood j a at_a = by_case (cases_eq i j) where
    by_case : (i ≡ j) ⊎ (i ≡ j → ⊥) → Stood j a
    by_case (inl here) =
        let set : slice_get (slice_set hs i g) j ≡ Some g = subst (λ (k : ℕ). slice_get (slice_set hs i g) k ≡ Some g) here (get_set_same hs i h g at) in
        let both : Some g ≡ Some a = sym set ∙ at_a in
        let e : g ≡ a = cc in
        (h, subst (λ (k : ℕ). slice_get hs k ≡ Some h) here at, ap (λ (x : Held). x.conn.number) (sym e) ∙ number_is)
    by_case (inr ne) = (a, sym (get_set_other hs i j g ne) ∙ at_a, refl)

-- a connection is gone
pub apart_removed : (hs : List Held) (i : ℕ) → AreApart hs → AreApart (remove hs i)
apart_removed hs i apart = λ j k a b at_a at_b same. by_cases j k a b same (get_removed hs i j a at_a) (get_removed hs i k b at_b) where
  Stood : ℕ → Held → Type 0
  Stood j a = ((j < i) × (slice_get hs j ≡ Some a)) ⊎ ((i ≤ j) × (slice_get hs (suc j) ≡ Some a))

  by_cases : (j k : ℕ) (a b : Held) → a.conn.number ≡ b.conn.number → Stood j a → Stood k b → j ≡ k
  by_cases j k a b same (inl (less, at_a)) (inl (low, at_b)) = apart j k a b at_a at_b same
  by_cases j k a b same (inl (less, at_a)) (inr (high, at_b)) = let e = apart j (suc k) a b at_a at_b same in omega (arith, e, less, high)
  by_cases j k a b same (inr (more, at_a)) (inl (low, at_b)) = let e = apart (suc j) k a b at_a at_b same in omega (arith, e, more, low)
  by_cases j k a b same (inr (more, at_a)) (inr (high, at_b)) = let e = apart (suc j) (suc k) a b at_a at_b same in omega (arith, e)

-- a connection came whose number no other has
pub apart_pushed : (hs : List Held) (g : Held) → ((i : ℕ) (h : Held) → slice_get hs i ≡ Some h → h.conn.number ≢ g.conn.number)
    → AreApart hs → AreApart (hs ++ g ∷ [])
apart_pushed hs g new apart = λ j k a b at_a at_b same. by_cases j k a b same (get_pushed hs g j a at_a) (get_pushed hs g k b at_b) where
  Stands : ℕ → Held → Type 0
  Stands j a = (slice_get hs j ≡ Some a) ⊎ ((j ≡ length hs) × (a ≡ g))

  by_cases : (j k : ℕ) (a b : Held) → a.conn.number ≡ b.conn.number → Stands j a → Stands k b → j ≡ k
  by_cases j k a b same (inl at_a) (inl at_b) = apart j k a b at_a at_b same
  by_cases j k a b same (inl at_a) (inr (last, e)) = absurd (new j a at_a (same ∙ ap (λ (h : Held). h.conn.number) e))
  by_cases j k a b same (inr (last, e)) (inl at_b) = absurd (new k b at_b (sym same ∙ ap (λ (h : Held). h.conn.number) e))
  by_cases j k a b same (inr (here, e)) (inr (there, f)) = here ∙ sym there
