-- A path is split into values in one way.
use Rattle.std.proofs.Common.{◌≡◌, ℕ, true, false, List, [], ◌∷◌, ◌++◌, sym, ◌∙◌, ap, refl, arith, true≢false}
use Rattle.std.proofs.lemmas.Bool.{and_parts}
use Rattle.std.specs.List.{list_all}
use Rattle.mq_target.specs.Classes.{is_delimiter, is_value_byte, begins, ends_or_begins}
use Rattle.mq_target.specs.Matching.{IsValue, SplitsAt}

pub value_begins : (first rest : List ℕ) → IsValue first → begins is_value_byte (first ++ rest) ≡ true
value_begins [] rest h = absurd (omega (arith, h.0))
value_begins (x ∷ xs) rest h = (and_parts (is_value_byte x) (list_all is_value_byte xs) h.1).0

pub same_front : (front a b : List ℕ) → front ++ a ≡ front ++ b → a ≡ b
same_front [] a b e = e
same_front (x ∷ xs) a b e = same_front xs a b (let t : xs ++ a ≡ xs ++ b = cc in t)

-- values are as long as they can be
pub same_value : (first x rest y : List ℕ) → list_all is_value_byte first ≡ true → list_all is_value_byte x ≡ true
    → begins is_value_byte rest ≡ false → begins is_value_byte y ≡ false → first ++ rest ≡ x ++ y → (first ≡ x) × (rest ≡ y)
same_value [] [] rest y p q r s e = (refl, e)
same_value [] (b ∷ bs) rest y p q r s e =
    absurd (true≢false (sym (and_parts (is_value_byte b) (list_all is_value_byte bs) q).0 ∙ sym (ap (begins is_value_byte) e) ∙ r))
same_value (b ∷ bs) [] rest y p q r s e =
    absurd (true≢false (sym (and_parts (is_value_byte b) (list_all is_value_byte bs) p).0 ∙ ap (begins is_value_byte) e ∙ s))
same_value (b ∷ bs) (c ∷ cs) rest y p q r s e =
    let head : b ≡ c = cc in
    let tail : bs ++ rest ≡ cs ++ y = cc in
    let both = same_value bs cs rest y (and_parts (is_value_byte b) (list_all is_value_byte bs) p).1 (and_parts (is_value_byte c) (list_all is_value_byte cs) q).1 r s tail in
    let same = both.0 in
    (cc, both.1)

delimiter_ends : (b : ℕ) → is_delimiter b ≡ true → is_value_byte b ≡ false
unfolding is_value_byte
delimiter_ends b h = rw h refl

pub delimited_ends : (between rest : List ℕ) → begins is_delimiter between ≡ true → begins is_value_byte (between ++ rest) ≡ false
delimited_ends [] rest h = absurd (true≢false (sym h))
delimited_ends (b ∷ bs) rest h = delimiter_ends b h

pub ended_ends : (after : List ℕ) → ends_or_begins is_delimiter after ≡ true → begins is_value_byte after ≡ false
ended_ends [] h = refl
ended_ends (b ∷ bs) h = delimiter_ends b h

-- what is left of the path behind each part
module _ (before between after path first second : List ℕ) (h : SplitsAt before between after path first second) where
  pub behind_before : (rest : List ℕ) → path ≡ before ++ rest → rest ≡ first ++ (between ++ (second ++ after))
  behind_before rest e = same_front before rest (first ++ (between ++ (second ++ after))) (sym e ∙ h.is)

  pub first_is : (x y : List ℕ) → first ++ (between ++ (second ++ after)) ≡ x ++ y → IsValue x → begins is_value_byte y ≡ false → (first ≡ x) × (between ++ (second ++ after) ≡ y)
  first_is x y e value stops = same_value first x (between ++ (second ++ after)) y h.first_value.1 value.1 h.first_ends stops e

  pub second_is : (x y : List ℕ) → second ++ after ≡ x ++ y → IsValue x → begins is_value_byte y ≡ false → (second ≡ x) × (after ≡ y)
  second_is x y e value stops = same_value second x after y h.second_value.1 value.1 h.second_ends stops e

  -- the path begins with the literals, and with a value behind them
  pub at_first : (rest : List ℕ) → path ≡ before ++ rest → begins is_value_byte rest ≡ false → ⊥
  at_first rest e bad =
      true≢false (sym (value_begins first (between ++ (second ++ after)) h.first_value) ∙ sym (ap (begins is_value_byte) (behind_before rest e)) ∙ bad)

  module _ (rest x y : List ℕ) (e : path ≡ before ++ rest) (f : rest ≡ x ++ y) (value : IsValue x) (stops : begins is_value_byte y ≡ false) where
    pub behind_first : between ++ (second ++ after) ≡ y
    behind_first = (first_is x y (sym (behind_before rest e) ∙ f) value stops).1

    module _ (left : List ℕ) (g : y ≡ between ++ left) where
      pub behind_between : second ++ after ≡ left
      behind_between = same_front between (second ++ after) left (behind_first ∙ g)

      pub at_second : begins is_value_byte left ≡ false → ⊥
      at_second bad = true≢false (sym (value_begins second after h.second_value) ∙ ap (begins is_value_byte) behind_between ∙ bad)

      pub behind_second : (u v : List ℕ) → left ≡ u ++ v → IsValue u → begins is_value_byte v ≡ false → after ≡ v
      behind_second u v k well ends = (second_is u v (behind_between ∙ k) well ends).1
