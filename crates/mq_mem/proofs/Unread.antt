-- What is left of pieces when bytes of the first were read.
use Rattle.std.proofs.Common.{◌≡◌, ℕ, ◌+◌, ◌<◌, List, [], ◌∷◌, length, take, drop, get_or, Some, refl, sym, ap, subst, ◌∙◌, arith}
use Rattle.std.proofs.lemmas.List.{length-drop, drop-drop}
use Rattle.mq_mem.proofs.Lists.{rest_all}
use Rattle.mq_outside.specs.Links.{fitting, behind}
use Rattle.mq_mem.specs.Links.{AllFull, IsInFirst, unread, PiecesRead}

some_left : (left : List ℕ) (others : List (List ℕ)) → 0 < length left → left ∷ others ≡ behind left others
some_left [] others some = absurd (omega arith)
some_left (b ∷ bytes) others some = refl

read_more : (items : List (List ℕ)) (taken count : ℕ) (piece left buffer : List ℕ) → 0 < length items → piece ≡ get_or items 0 piece → left ≡ drop taken piece
    → count < length left → 0 < count → count ≡ fitting (length buffer) (length left) → take count buffer ≡ take count left
    → PiecesRead (unread items taken) (unread items (taken + count)) buffer (Some count)
read_more [] taken count piece left buffer there first is more some value copied = absurd (omega arith)
read_more (p ∷ ps) taken count piece left buffer there first is more some value copied =
    let same : piece ≡ p = first in
    let here : left ≡ drop taken p = is ∙ ap (λ (q : List ℕ). drop taken q) same in
    let twice : drop count (drop taken p) ≡ drop (taken + count) p = drop-drop count taken p in
    let rest : 0 < length (drop count left) = omega (arith, length-drop count left) in
    record {
      some = some;
      count_is = value ∙ ap (λ (l : List ℕ). fitting (length buffer) (length l)) here;
      bytes_are = copied ∙ ap (λ (l : List ℕ). take count l) here;
      after_is = ap (λ (l : List ℕ). l ∷ ps) (sym twice ∙ ap (λ (l : List ℕ). drop count l) (sym here))
          ∙ some_left (drop count left) ps rest ∙ ap (λ (l : List ℕ). behind (drop count l) ps) here;
    }

pub reads_more : (items now : List (List ℕ)) (taken count : ℕ) (piece left buffer : List ℕ) → now ≡ unread items taken → 0 < length items → piece ≡ get_or items 0 piece
    → left ≡ drop taken piece → count < length left → 0 < count → count ≡ fitting (length buffer) (length left) → take count buffer ≡ take count left
    → PiecesRead now (unread items (taken + count)) buffer (Some count)
reads_more items now taken count piece left buffer view there first is more some value copied =
    let P : List (List ℕ) → Type 0 = λ all. PiecesRead all (unread items (taken + count)) buffer (Some count) in
    subst P (sym view) (read_more items taken count piece left buffer there first is more some value copied)

in_first : (items : List (List ℕ)) → AllFull items → IsInFirst items 0
in_first [] all = refl
in_first (p ∷ ps) all = all 0 p (omega arith)

-- without its first, the list is one of which nothing was read
pub without_first : (items rest : List (List ℕ)) → rest ≡ drop 1 items → AllFull items → IsInFirst rest 0 × AllFull rest
without_first items rest is all =
    let rest_full : AllFull rest = rest_all (λ (piece : List ℕ). 0 < length piece) items rest is all in
    (in_first rest rest_full, rest_full)
