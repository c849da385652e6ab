-- Counts of one text behind another. Only the impl of Listener for counts cites what stands here.
use Rattle.std.specs.Prelude.{◌≡◌, ℕ, List, [], ◌∷◌, ◌++◌, false, refl}
use Rattle.std.proofs.Common.{sym, ap, ◌∙◌, append_assoc}
use Rattle.std.specs.List.{flat_map, AllByRecursion}
use Rattle.mq_play.specs.Text.{Print, printed}
use Rattle.mq_top.specs.Tallies.{Counts, Counted, counted, is_starved}

pub counted_none : (c : Counts) → Counted c c []
counted_none c = record { prints = []; text_is = refl; none = tt; is = refl }

counted_both : (ps qs : List Print) (c : Counts) → counted (ps ++ qs) c ≡ counted qs (counted ps c)
counted_both [] qs c = refl
counted_both (p ∷ ps) qs c = counted_both ps qs _

all_both : {A : Type 0} (P : A → Type 0) (xs ys : List A) → AllByRecursion P xs → AllByRecursion P ys → AllByRecursion P (xs ++ ys)
all_both P [] ys a b = b
all_both P (x ∷ xs) ys a b = (a.0, all_both P xs ys a.1 b)

flat_both : {A B : Type 0} (f : A → List B) (xs ys : List A) → flat_map f (xs ++ ys) ≡ flat_map f xs ++ flat_map f ys
flat_both f [] ys = refl
flat_both f (x ∷ xs) ys = ap (λ (rest : List _). f x ++ rest) (flat_both f xs ys) ∙ sym (append_assoc (f x) (flat_map f xs) (flat_map f ys))

pub counted_more : (a b c : Counts) (text more : List ℕ) → Counted a b text → Counted b c more → Counted a c (text ++ more)
counted_more a b c text more first next = record {
  prints = first.prints ++ next.prints;
  text_is =
      ap (λ (xs : List ℕ). xs ++ more) first.text_is
      ∙ ap (λ (xs : List ℕ). flat_map printed first.prints ++ xs) next.text_is
      ∙ sym (flat_both printed first.prints next.prints);
  none = all_both (λ p. is_starved p ≡ false) first.prints next.prints first.none next.none;
  is =
      next.is
      ∙ ap (λ (counts : Counts). counted next.prints counts) first.is
      ∙ sym (counted_both first.prints next.prints a);
}
