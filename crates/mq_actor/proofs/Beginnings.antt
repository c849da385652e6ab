-- Where a part of the ring begins among connections whose numbers rise, where a number is, and what keeps them rising.
use Rattle.std.proofs.Common.{refl, ◌≡◌, ◌⊎◌, inl, inr, ◌∙◌, sym, ap, subst, ℕ, zero, suc, ◌+◌, ◌-◌, ◌<◌, ◌≤◌, ◌==◌, ◌&&◌, ◌||◌, not, Bool, true, false, cond, List, [], ◌∷◌, length, position, remove, nat_lt, nat_le, slice_get, slice_set, slice_index_or, Option, Some, None}
use Rattle.std.specs.Bool.{then_some}
use Rattle.std.specs.Option.{option_map_or}
use native.Mathlib.Omega.{arith}
use Rattle.std.proofs.lemmas.Bool.{cases_eq, ltb-true, ltb-false, lt-ltb, le-ltb, le-leb, lt-leb, eqb-true, ne_eqb}
use Rattle.std.proofs.lemmas.List.Sums.{position_or_len_is}
use Rattle.std.proofs.lemmas.Option.{slice_get-get_or}
use Rattle.mq_step.proofs.Others.{at_within}
use Rattle.mq_held.specs.declared.held.Held.{Held as HeldBy}
use Rattle.mq_actor.specs.Passing.{is_in_part}
use Rattle.mq_actor.specs.Beginnings.{first_place, stands_before}
use Rattle.mq_actor.specs.Conns.{NumbersRise, stands_at}
use Rattle.mq_actor.proofs.Lists.{get_set_same, get_set_other, get_removed}
use Rattle.mq_actor.proofs.Rising.{first_at}

-- ---- which seats are before one

-- one that is there, with its seat before
stood : {L : Type 0} (from : ℕ) (hs : List (HeldBy L)) (place : ℕ) → stands_before from hs place ≡ true
    → (h : HeldBy L) × (slice_get hs place ≡ Some h) × (h.number + 2 < from)
stood {L} from hs place e = by (slice_get hs place) refl e where
  by : (o : Option (HeldBy L)) → slice_get hs place ≡ o → option_map_or (λ (h : HeldBy L). nat_lt (h.number + 2) from) o false ≡ true
      → (h : HeldBy L) × (slice_get hs place ≡ Some h) × (h.number + 2 < from)
  by None is e = absurd cc
  by (Some h) is e = (h, is, ltb-true (h.number + 2) from e)

-- one that is there, with its seat not before
stood_not : {L : Type 0} (from : ℕ) (hs : List (HeldBy L)) (place : ℕ) → stands_before from hs place ≡ false
    → (h : HeldBy L) → slice_get hs place ≡ Some h → from ≤ h.number + 2
stood_not {L} from hs place e h at =
    ltb-false (h.number + 2) from (ap (λ (o : Option (HeldBy L)). option_map_or (λ (h : HeldBy L). nat_lt (h.number + 2) from) o false) (sym at) ∙ e)

-- ---- where a part begins

some_by : (b : Bool) (i : ℕ) → ◌≡◌ {A = Option ℕ} (cond b (Some i) None) (then_some b i)
some_by true i = refl
some_by false i = refl

-- at this place, where none before it is in the part, and it is
begins : {L : Type 0} (first : HeldBy L) (rest : List (HeldBy L)) (upper : Bool) (from i : ℕ) → i ≤ length (first ∷ rest)
    → ((k : ℕ) → k < i → is_in_part upper from ((slice_index_or (first ∷ rest) k first).number + 2) ≡ false)
    → (i < length (first ∷ rest) → is_in_part upper from ((slice_index_or (first ∷ rest) i first).number + 2) ≡ true)
    → first_place upper from (first ∷ rest) ≡ then_some (nat_lt i (length (first ∷ rest))) i
begins {L} first rest upper from i le before here =
    let p : HeldBy L → Bool = λ h. is_in_part upper from (h.number + 2) in
    first_at p (first ∷ rest) i (position_or_len_is p (first ∷ rest) i first le before here) ∙ some_by (nat_lt i (length (first ∷ rest))) i

-- those behind one whose seat isn't before have theirs not before either
none_lower : {L : Type 0} (first : HeldBy L) (rest : List (HeldBy L)) (from : ℕ) → NumbersRise (first ∷ rest) → nat_lt (first.number + 2) from ≡ false
    → (k : ℕ) → k < length (first ∷ rest) → nat_lt ((slice_index_or (first ∷ rest) k first).number + 2) from ≡ false
none_lower first rest from rises e zero lt = e
none_lower {L} first rest from rises e (suc k) lt =
    let h : HeldBy L = slice_index_or (first ∷ rest) (suc k) first in
    let up : first.number < h.number = rises 0 (suc k) first h refl (slice_get-get_or (first ∷ rest) (suc k) first lt) (omega arith) in
    let high : from ≤ first.number + 2 = ltb-false (first.number + 2) from e in
    le-ltb (h.number + 2) from (omega (arith, up, high))

-- the lower part begins with the first of all, or has none
pub lower_begins : {L : Type 0} (from : ℕ) (hs : List (HeldBy L)) → NumbersRise hs → first_place false from hs ≡ then_some (stands_before from hs 0) 0
lower_begins from [] rises = refl
lower_begins {L} from (first ∷ rest) rises = by (nat_lt (first.number + 2) from) refl where
  by : (b : Bool) → nat_lt (first.number + 2) from ≡ b → first_place false from (first ∷ rest) ≡ then_some (stands_before from (first ∷ rest) 0) 0
  by true e =
      begins first rest false from 0 (omega arith) (λ k lt. absurd (omega (arith, lt))) (λ lt. e)
      ∙ ap {B = Option ℕ} (λ (b : Bool). then_some b 0) (lt-ltb 0 (length (first ∷ rest)) (omega arith) ∙ sym e)
  by false e =
      begins first rest false from (length (first ∷ rest)) (omega arith) (none_lower first rest from rises e) (λ lt. absurd (omega (arith, lt)))
      ∙ ap {B = Option ℕ} (λ (b : Bool). then_some b (length (first ∷ rest))) (le-ltb (length (first ∷ rest)) (length (first ∷ rest)) (omega arith))
      ∙ ap {B = Option ℕ} (λ (b : Bool). then_some b 0) (sym e)

-- the upper part begins at a place, where the one before it is in the lower part, and its own isn't
pub upper_begins : {L : Type 0} (from : ℕ) (hs : List (HeldBy L)) (place : ℕ) → NumbersRise hs
    → (not (stands_before from hs place) && (place == 0 || stands_before from hs (place - 1))) ≡ true
    → first_place true from hs ≡ then_some (nat_lt place (length hs)) place
upper_begins {L} from hs place rises is = by (stands_before from hs place) refl (place == 0) refl (stands_before from hs (place - 1)) refl is where
  high : stands_before from hs place ≡ false → (h : HeldBy L) → slice_get hs place ≡ Some h → nat_le from (h.number + 2) ≡ true
  high e h at = le-leb from (h.number + 2) (stood_not from hs place e h at)

  at_place : (gs : List (HeldBy L)) → gs ≡ hs → stands_before from hs place ≡ false → place ≤ length gs
      → ((k : ℕ) → k < place → (h : HeldBy L) → slice_get hs k ≡ Some h → h.number + 2 < from) → first_place true from hs ≡ then_some (nat_lt place (length hs)) place
  at_place [] same e le low =
      let zero_is : place ≡ 0 = omega (arith, le) in
      subst (λ (xs : List (HeldBy L)). first_place true from xs ≡ then_some (nat_lt place (length xs)) place) same
      (sym (ap (λ (b : Bool). then_some b place) (le-ltb place 0 (omega arith))))
  at_place (first ∷ rest) same e le low =
      let gs = first ∷ rest in
      let get : (k : ℕ) → k < length gs → slice_get hs k ≡ Some (slice_index_or gs k first) = λ k lt. ap (λ (xs : List (HeldBy L)). slice_get xs k) (sym same) ∙ slice_get-get_or gs k first lt in
      subst (λ (xs : List (HeldBy L)). first_place true from xs ≡ then_some (nat_lt place (length xs)) place) same
      (begins first rest true from place le
      (λ k lt. let less : k < length gs = omega (arith, lt, le) in lt-leb from ((slice_index_or gs k first).number + 2) (low k lt (slice_index_or gs k first) (get k less)))
      (λ lt. high e (slice_index_or gs place first) (get place lt)))

  below : (b : HeldBy L) → slice_get hs (place - 1) ≡ Some b → b.number + 2 < from → (k : ℕ) → k < place → (h : HeldBy L) → slice_get hs k ≡ Some h → h.number + 2 < from
  below b is low k lt h at = by_case (cases_eq k (place - 1)) where
    by_case : (k ≡ place - 1) ⊎ (k ≡ place - 1 → ⊥) → h.number + 2 < from
    by_case (inl same) =
        let both : Some h ≡ Some b = sym at ∙ ap (λ (j : ℕ). slice_get hs j) same ∙ is in
        let e : h ≡ b = cc in
        subst (λ (g : HeldBy L). g.number + 2 < from) (sym e) low
    by_case (inr ne) =
        let less : k < place - 1 = omega (arith, lt, ne) in
        let up : h.number < b.number = rises k (place - 1) h b at is less in
        omega (arith, up, low)

  by : (b : Bool) → stands_before from hs place ≡ b → (z : Bool) → (place == 0) ≡ z → (d : Bool) → stands_before from hs (place - 1) ≡ d → (not b && (z || d)) ≡ true
      → first_place true from hs ≡ then_some (nat_lt place (length hs)) place
  by true e z ez d ed is = absurd cc
  by false e true ez d ed is =
      let start : place ≡ 0 = eqb-true place 0 ez in
      at_place hs refl e (omega (arith, start)) (λ k lt. absurd (omega (arith, lt, start)))
  by false e false ez true ed is =
      let b = stood from hs (place - 1) ed in
      let within = at_within hs (place - 1) b.0 b.1 in
      at_place hs refl e (omega (arith, within)) (below b.0 b.1 b.2)
  by false e false ez false ed is = absurd cc

-- ---- where a number is

-- at a place where one has it
pub has_at : {L : Type 0} (hs : List (HeldBy L)) (number place : ℕ) → NumbersRise hs → stands_at number hs place ≡ true → position (λ (h : HeldBy L). h.number == number) hs ≡ Some place
has_at {L} hs number place rises e = by (slice_get hs place) refl e where
  p : HeldBy L → Bool
  p h = h.number == number

  by : (o : Option (HeldBy L)) → slice_get hs place ≡ o → option_map_or p o false ≡ true → position p hs ≡ Some place
  by None at e = absurd cc
  by (Some h) at e =
      let lt : place < length hs = at_within hs place h at in
      let here : Some (slice_index_or hs place h) ≡ Some h = sym (slice_get-get_or hs place h lt) ∙ at in
      let same : slice_index_or hs place h ≡ h = cc in
      let is : h.number ≡ number = eqb-true h.number number e in
      let before : (k : ℕ) → k < place → p (slice_index_or hs k h) ≡ false =
      λ k less. let up : (slice_index_or hs k h).number < h.number = rises k place (slice_index_or hs k h) h (slice_get-get_or hs k h (omega (arith, less, lt))) at less in
      ne_eqb (slice_index_or hs k h).number number (λ equal. omega (arith, up, is, equal)) in
      first_at p hs place (position_or_len_is p hs place h (omega (arith, lt)) before (λ within. ap p same ∙ e))
      ∙ ap {B = Option ℕ} (λ (b : Bool). cond b (Some place) None) (lt-ltb place (length hs) lt)

-- ---- what keeps numbers rising

-- one became another of the same number
pub rise_set : {L : Type 0} (hs : List (HeldBy L)) (place : ℕ) (was now : HeldBy L) → slice_get hs place ≡ Some was → now.number ≡ was.number
    → NumbersRise hs → NumbersRise (slice_set hs place now)
rise_set {L} hs place was now at same rises i j x y at_x at_y less =
    let a = from_set i x at_x in
    let b = from_set j y at_y in
    let up : a.0.number < b.0.number = rises i j a.0 b.0 a.1 b.1 less in
    omega (arith, up, a.2, b.2)
  where
    from_set : (k : ℕ) (z : HeldBy L) → slice_get (slice_set hs place now) k ≡ Some z → (w : HeldBy L) × (slice_get hs k ≡ Some w) × (w.number ≡ z.number)
    from_set k z at_z = by (cases_eq place k) where
      by : (place ≡ k) ⊎ (place ≡ k → ⊥) → (w : HeldBy L) × (slice_get hs k ≡ Some w) × (w.number ≡ z.number)
      by (inl here) =
          let set : slice_get (slice_set hs place now) k ≡ Some now = subst (λ (l : ℕ). slice_get (slice_set hs place now) l ≡ Some now) here (get_set_same hs place was now at) in
          let both : Some now ≡ Some z = sym set ∙ at_z in
          let e : now ≡ z = cc in
          (was, subst (λ (l : ℕ). slice_get hs l ≡ Some was) here at, sym same ∙ ap (λ (h : HeldBy L). h.number) e)
      by (inr ne) = (z, sym (get_set_other hs place k now ne) ∙ at_z, refl)

-- one is gone
pub rise_removed : {L : Type 0} (hs : List (HeldBy L)) (place : ℕ) → NumbersRise hs → NumbersRise (remove hs place)
rise_removed {L} hs place rises i j x y at_x at_y less = by (get_removed hs place i x at_x) (get_removed hs place j y at_y) where
  Stood : ℕ → HeldBy L → Type 0
  Stood k z = ((k < place) × (slice_get hs k ≡ Some z)) ⊎ ((place ≤ k) × (slice_get hs (suc k) ≡ Some z))

  by : Stood i x → Stood j y → x.number < y.number
  by (inl (low, a)) (inl (high, b)) = rises i j x y a b less
  by (inl (low, a)) (inr (high, b)) = rises i (suc j) x y a b (omega (arith, less))
  by (inr (low, a)) (inl (high, b)) = absurd (omega (arith, low, high, less))
  by (inr (low, a)) (inr (high, b)) = rises (suc i) (suc j) x y a b (omega (arith, less))
