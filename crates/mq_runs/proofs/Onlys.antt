-- Lists of which one element at most has what is meant.
use Rattle.std.proofs.Common.{◌≡◌, ◌≤◌, ◌+◌, ℕ, zero, suc, Bool, true, false, cond, List, [], ◌∷◌, ◌++◌, slice_get, slice_set, Some, None, refl, sym, subst, ap, ◌∙◌, arith, inl, inr, append-nil}
use Rattle.std.specs.Prelude.{find, ◌==◌}
use Rattle.std.specs.List.{flat_map}
use Rattle.std.proofs.lemmas.Bool.{eq-eqb}
use Rattle.std.proofs.lemmas.List.Concat.{flat_map-append}
use Rattle.mq_machine.specs.State.{Held}
use Rattle.mq_machine.specs.Turn.{replace}
use Rattle.mq_play.proofs.Lists.{some_same}
use Rattle.mq_runs.proofs.Ranks.{Among, zero_or}
use Rattle.mq_runs.proofs.Sums.{total, total_append}
use Rattle.mq_runs.proofs.Workers.{is_numbered}

-- x has become y, and all others are the same
pub record Changed {A : Type 0} (x y : A) (xs ys : List A) : Type 0 where
  pub front : List A
  pub back : List A
  pub was : xs ≡ front ++ x ∷ back
  pub now : ys ≡ front ++ y ∷ back

-- x is gone
pub record Removed {A : Type 0} (x : A) (xs ys : List A) : Type 0 where
  pub front : List A
  pub back : List A
  pub was : xs ≡ front ++ x ∷ back
  pub now : ys ≡ front ++ back

-- what f gives of a list is what it gives of the elements that g counts
module _ {A N : Type 0} (f : A → List N) (g : A → ℕ) (none : (x : A) → g x ≡ 0 → f x ≡ []) where
  pub none_flat : (xs : List A) → total g xs ≡ 0 → flat_map f xs ≡ []
  none_flat [] e = refl
  none_flat (x ∷ xs) e = let here = none x (omega (arith, e)) in let rest = none_flat xs (omega (arith, e)) in ap (λ (l : List N). l ++ flat_map f xs) here ∙ rest

  in_total : (front back : List A) (x : A) → total g (front ++ x ∷ back) ≡ total g front + (g x + total g back)
  in_total front back x = total_append g front (x ∷ back)

  in_flat : (front back : List A) (x : A) → flat_map f (front ++ x ∷ back) ≡ flat_map f front ++ (f x ++ flat_map f back)
  in_flat front back x = flat_map-append f front (x ∷ back)

  -- where only the one counts
  only_flat : (front back : List A) (x : A) → total g front ≡ 0 → total g back ≡ 0 → flat_map f (front ++ x ∷ back) ≡ f x
  only_flat front back x no_front no_back =
      in_flat front back x ∙ (ap (λ (l : List N). l ++ (f x ++ flat_map f back)) (none_flat front no_front) ∙ (ap (λ (l : List N). f x ++ l) (none_flat back no_back) ∙ append-nil (f x)))

  same_flat : (front back : List A) (x y : A) → f x ≡ f y → flat_map f (front ++ x ∷ back) ≡ flat_map f (front ++ y ∷ back)
  same_flat front back x y same = in_flat front back x ∙ (ap (λ (l : List N). flat_map f front ++ (l ++ flat_map f back)) same ∙ sym (in_flat front back y))

  -- where nothing comes and nothing goes
  pub still : (old new more less : List N) → old ≡ new → more ≡ [] → less ≡ [] → old ++ more ≡ less ++ new
  still old new more less same no_more no_less = ap (λ (l : List N). old ++ l) no_more ∙ (append-nil old ∙ (same ∙ sym (ap (λ (l : List N). l ++ new) no_less)))

  -- what comes and goes in one is what comes and goes in the list
  pub change_flat : (x y : A) (xs ys : List A) (more less : List N) → Changed x y xs ys → total g xs ≤ 1 → (g x ≡ 0 → (more ≡ []) × (less ≡ [])) → (1 ≤ g y → f x ++ more ≡ less ++ f y) → 1 ≤ total g ys
      → flat_map f xs ++ more ≡ less ++ flat_map f ys
  change_flat x y xs ys more less c few only goes some =
      let was = ap (total g) c.was in
      let now = ap (total g) c.now in
      let in_was = in_total c.front c.back x in
      let in_now = in_total c.front c.back y in
      elim (zero_or (g x)) [
        | inl zero_x ↦ (
            let calm = only zero_x in
            let empty = none x zero_x in
            let same : f x ≡ f y = elim (zero_or (g y)) [
              | inl zero_y ↦ empty ∙ sym (none y zero_y)
              | inr one ↦ (let step = goes one in sym (append-nil (f x)) ∙ (ap (λ (l : List N). f x ++ l) (sym calm.0) ∙ (step ∙ ap (λ (l : List N). l ++ f y) calm.1)))
            ] in
            still (flat_map f xs) (flat_map f ys) more less (ap (flat_map f) c.was ∙ (same_flat c.front c.back x y same ∙ sym (ap (flat_map f) c.now))) calm.0 calm.1)
        | inr one ↦ (
            let no_front : total g c.front ≡ 0 = omega (arith, was, in_was, few, one) in
            let no_back : total g c.back ≡ 0 = omega (arith, was, in_was, few, one) in
            let counts : 1 ≤ g y = omega (arith, now, in_now, no_front, no_back, some) in
            let old = ap (flat_map f) c.was ∙ only_flat c.front c.back x no_front no_back in
            let new = ap (flat_map f) c.now ∙ only_flat c.front c.back y no_front no_back in
            ap (λ (l : List N). l ++ more) old ∙ (goes counts ∙ ap (λ (l : List N). less ++ l) (sym new)))
      ]

  pub remove_flat : (x : A) (xs ys : List A) (more less : List N) → Removed x xs ys → total g xs ≤ 1 → (g x ≡ 0 → (more ≡ []) × (less ≡ [])) → 1 ≤ total g ys → flat_map f xs ++ more ≡ less ++ flat_map f ys
  remove_flat x xs ys more less c few only some =
      let was = ap (total g) c.was in
      let now = ap (total g) c.now in
      let in_was = in_total c.front c.back x in
      let in_now = total_append g c.front c.back in
      let zero_x : g x ≡ 0 = omega (arith, was, now, in_was, in_now, few, some) in
      let calm = only zero_x in
      let empty = none x zero_x in
      let same : flat_map f xs ≡ flat_map f ys =
      ap (flat_map f) c.was ∙ (in_flat c.front c.back x ∙ (ap (λ (l : List N). flat_map f c.front ++ (l ++ flat_map f c.back)) empty ∙ (sym (flat_map-append f c.front c.back) ∙ sym (ap (flat_map f) c.now)))) in
      still (flat_map f xs) (flat_map f ys) more less same calm.0 calm.1

-- one of a list, with what stands before and behind it
split_at : {A : Type 0} (x : A) (xs : List A) → Among x xs → (front : List A) × (back : List A) × (xs ≡ front ++ x ∷ back)
split_at x [] among = absurd among
split_at x (y ∷ ys) (inl same) = ([], ys, ap (λ z. z ∷ ys) same)
split_at x (y ∷ ys) (inr more) = let rest = split_at x ys more in (y ∷ rest.0, rest.1, ap (λ l. y ∷ l) rest.2)

-- where it alone counts, it gives all
pub among_flat : {A N : Type 0} (f : A → List N) (g : A → ℕ) (none : (x : A) → g x ≡ 0 → f x ≡ []) (x : A) (xs : List A) → Among x xs → 1 ≤ g x → total g xs ≤ 1 → flat_map f xs ≡ f x
among_flat f g none x xs among one few =
    let s = split_at x xs among in
    let all = ap (total g) s.2 in
    let sum = in_total f g none s.0 s.1 x in
    ap (flat_map f) s.2 ∙ only_flat f g none s.0 s.1 x (omega (arith, all, sum, few, one)) (omega (arith, all, sum, few, one))

-- ---- which lists are so

pub changed_first : {A : Type 0} (x y : A) (xs : List A) → Changed x y (x ∷ xs) (y ∷ xs)
changed_first x y xs = record { front = []; back = xs; was = refl; now = refl }

pub changed_later : {A : Type 0} (x y z : A) (xs ys : List A) → Changed x y xs ys → Changed x y (z ∷ xs) (z ∷ ys)
changed_later x y z xs ys c = record { front = z ∷ c.front; back = c.back; was = ap (λ l. z ∷ l) c.was; now = ap (λ l. z ∷ l) c.now }

removed_later : {A : Type 0} (x z : A) (xs ys : List A) → Removed x xs ys → Removed x (z ∷ xs) (z ∷ ys)
removed_later x z xs ys c = record { front = z ∷ c.front; back = c.back; was = ap (λ l. z ∷ l) c.was; now = ap (λ l. z ∷ l) c.now }

pub set_changed : {A : Type 0} (xs : List A) (i : ℕ) (x y : A) → slice_get xs i ≡ Some x → Changed x y xs (slice_set xs i y)
set_changed [] zero x y e = absurd cc
set_changed [] (suc i) x y e = absurd cc
set_changed (z ∷ xs) zero x y e = subst (λ w. Changed x y (w ∷ xs) (y ∷ xs)) (sym (some_same e)) (changed_first x y xs)
set_changed (z ∷ xs) (suc i) x y e = changed_later x y z xs (slice_set xs i y) (set_changed xs i x y e)

-- a connection of a worker, by its number
some_by : (n : ℕ) (h new g : Held) (hs : List Held) (b : Bool) → cond b (Some g) (find (λ (h : Held). h.conn.number == n) hs) ≡ Some h → (find (λ (h : Held). h.conn.number == n) hs ≡ Some h → Changed h new hs (replace n (Some new) hs))
    → Changed h new (g ∷ hs) (cond b (new ∷ hs) (g ∷ replace n (Some new) hs))
some_by n h new g hs true e rest = subst (λ (x : Held). Changed h new (x ∷ hs) (new ∷ hs)) (sym (some_same e)) (changed_first h new hs)
some_by n h new g hs false e rest = changed_later h new g hs (replace n (Some new) hs) (rest e)

pub replace_changed : (n : ℕ) (h new : Held) (hs : List Held) → find (λ (h : Held). h.conn.number == n) hs ≡ Some h → Changed h new hs (replace n (Some new) hs)
replace_changed n h new [] e = absurd cc
replace_changed n h new (g ∷ hs) e = some_by n h new g hs (g.conn.number == n) e (λ e. replace_changed n h new hs e)

none_by : (n : ℕ) (h g : Held) (hs : List Held) (b : Bool) → cond b (Some g) (find (λ (h : Held). h.conn.number == n) hs) ≡ Some h → (find (λ (h : Held). h.conn.number == n) hs ≡ Some h → Removed h hs (replace n None hs))
    → Removed h (g ∷ hs) (cond b hs (g ∷ replace n None hs))
none_by n h g hs true e rest = subst (λ (x : Held). Removed h (x ∷ hs) hs) (sym (some_same e)) (record { front = []; back = hs; was = refl; now = refl })
none_by n h g hs false e rest = removed_later h g hs (replace n None hs) (rest e)

pub replace_removed : (n : ℕ) (h : Held) (hs : List Held) → find (λ (h : Held). h.conn.number == n) hs ≡ Some h → Removed h hs (replace n None hs)
replace_removed n h [] e = absurd cc
replace_removed n h (g ∷ hs) e = none_by n h g hs (g.conn.number == n) e (λ e. replace_removed n h hs e)

-- one of them, where no other has its number
one_numbered : (h : Held) (hs : List Held) → Among h hs → 1 ≤ total (is_numbered h.conn.number) hs
one_numbered h [] x = absurd x
one_numbered h (g ∷ hs) (inl same) =
    let is : (g.conn.number == h.conn.number) ≡ true = eq-eqb g.conn.number h.conn.number (ap (λ (h : Held). h.conn.number) same) in
    rw is (omega arith)
one_numbered h (g ∷ hs) (inr more) = let rest = one_numbered h hs more in omega (arith, rest)

only_by : (h new g : Held) (hs : List Held) (b : Bool) → (g.conn.number == h.conn.number) ≡ b → Among h (g ∷ hs) → cond b 1 0 + total (is_numbered h.conn.number) hs ≤ 1
    → (Among h hs → Changed h new hs (replace h.conn.number (Some new) hs)) → Changed h new (g ∷ hs) (cond b (new ∷ hs) (g ∷ replace h.conn.number (Some new) hs))
only_by h new g hs true is (inl same) few rest = subst (λ (x : Held). Changed h new (x ∷ hs) (new ∷ hs)) (sym same) (changed_first h new hs)
only_by h new g hs true is (inr more) few rest = let one = one_numbered h hs more in absurd (omega (arith, one, few))
only_by h new g hs false is (inl same) few rest =
    let yes : (g.conn.number == h.conn.number) ≡ true = eq-eqb g.conn.number h.conn.number (ap (λ (h : Held). h.conn.number) same) in
    absurd cc
only_by h new g hs false is (inr more) few rest = changed_later h new g hs (replace h.conn.number (Some new) hs) (rest more)

pub among_changed : (h new : Held) (hs : List Held) → Among h hs → total (is_numbered h.conn.number) hs ≤ 1 → Changed h new hs (replace h.conn.number (Some new) hs)
among_changed h new [] among few = absurd among
among_changed h new (g ∷ hs) among few = only_by h new g hs (g.conn.number == h.conn.number) refl among few (λ more. among_changed h new hs more (omega (arith, few)))
