-- A step in which nothing was done asked the inbox once.
use Rattle.std.proofs.Common.{◌≡◌, ◌⊎◌, inl, inr, ℕ, Bool, true, false, Option, None, refl, ap, ◌∙◌}
use Rattle.mq_talk.specs.declared.note.Note.{Note}
use Rattle.mq_talk.specs.Mails.{Boxes, one_missed}
use Rattle.mq_actor.specs.Passing.{is_in_part}
use Rattle.mq_actor.specs.Seats.{missed_at}
use Rattle.mq_actor.proofs.Stages.{in_one, in_other}

-- what a part of the ring in which no parcel came has missed
abbrev none_at : Bool → Option Boxes → ℕ → ℕ
none_at part told missed = missed_at {A = Note} part None told missed

-- a seat that is in one part isn't in the other
not_lower : (from seat : ℕ) → is_in_part true from seat ≡ true → is_in_part false from seat ≡ false
not_lower from seat up = by_lower (is_in_part false from seat) refl where
  by_lower : (b : Bool) → is_in_part false from seat ≡ b → is_in_part false from seat ≡ false
  by_lower true down = absurd (in_one from seat up down)
  by_lower false down = down

not_upper : (from seat : ℕ) → is_in_part false from seat ≡ true → is_in_part true from seat ≡ false
not_upper from seat down = by_upper (is_in_part true from seat) refl where
  by_upper : (b : Bool) → is_in_part true from seat ≡ b → is_in_part true from seat ≡ false
  by_upper true up = absurd (in_one from seat up down)
  by_upper false up = up

-- The counts are those before, behind the upper part's inbox, behind its connections, behind the lower part's inbox and behind
-- its connections.
pub asked_once : (from later : ℕ) (told told_later : Option Boxes) (old one two three four : ℕ) → one ≡ none_at (is_in_part true from 1) told old → two ≡ one
    → later ≡ from → told_later ≡ told → three ≡ none_at (is_in_part false later 1) told_later two → four ≡ three → four ≡ one_missed told old
asked_once from later told told_later old one two three four upper passed seat tells lower last = by_part (in_other from 1) where
  lower_is : (b : Bool) → is_in_part false from 1 ≡ b → four ≡ none_at b told_later two
  lower_is b is =
      last ∙ lower ∙ ap (λ (k : ℕ). none_at (is_in_part false k 1) told_later two) seat ∙ ap (λ (c : Bool). none_at c told_later two) is

  upper_is : (b : Bool) → is_in_part true from 1 ≡ b → two ≡ none_at b told old
  upper_is b is = passed ∙ upper ∙ ap (λ (c : Bool). none_at c told old) is

  by_part : (is_in_part true from 1 ≡ true) ⊎ (is_in_part false from 1 ≡ true) → four ≡ one_missed told old
  by_part (inl up) = lower_is false (not_lower from 1 up) ∙ upper_is true up
  by_part (inr down) =
      lower_is true down ∙ ap (λ (t : Option Boxes). one_missed t two) tells ∙ ap (λ (n : ℕ). one_missed told n) (upper_is false (not_upper from 1 down))
