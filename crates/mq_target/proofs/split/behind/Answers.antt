use Rattle.std.proofs.Common.{◌≡◌, ◌+◌, ◌++◌, ℕ, List, length, take, drop, true, false, Option, Some, None, sym, ◌∙◌, ap, take-append-drop}
use Rattle.std.specs.Borrow.{Bor}
use Rattle.std.specs.Option.{MatchOption}
use Rattle.std.specs.Str.{bytes_eq}
use Rattle.std.proofs.Math.Seq.{take-append_seam}
use Rattle.std.proofs.lemmas.Bool.{true≢false}
use Rattle.std.proofs.lemmas.Slice.Eq.{bytes_eq-Decides}
use Rattle.mq_target.proofs.split.behind.Goals as goal

stripped : (front text : List ℕ) (r : Option (Bor (List ℕ)))
    → MatchOption r (bytes_eq (take (length front) text) front ≡ false) (λ x. (bytes_eq (take (length front) text) front ≡ true) × (x.now ≡ drop (length front) text))
    → MatchOption r ((rest : List ℕ) → ¬ (text ≡ front ++ rest)) (λ rest. text ≡ front ++ rest.now)
stripped front text None h = λ rest is.
    let same : take (length front) text ≡ front = ap (take (length front)) is ∙ take-append_seam front rest in
    true≢false (sym ((bytes_eq-Decides (take (length front) text) front).1 same) ∙ h)
stripped front text (Some x) h =
    let same = (bytes_eq-Decides (take (length front) text) front).0 h.0 in
    sym (take-append-drop (length front) text) ∙ ap (λ t. t ++ drop (length front) text) same ∙ ap (λ t. front ++ t) (sym h.1)

parts : (front text : List ℕ) (r : Option (Bor (List ℕ)))
    → MatchOption r (bytes_eq (take (length front) text) front ≡ false) (λ x. (bytes_eq (take (length front) text) front ≡ true) × (x.now ≡ drop (length front) text) × (length x.now + length front ≡ length text))
    → MatchOption r (bytes_eq (take (length front) text) front ≡ false) (λ x. (bytes_eq (take (length front) text) front ≡ true) × (x.now ≡ drop (length front) text))
parts front text None h = h
parts front text (Some x) h = (h.0, h.1)

pub returns : goal.returns
returns c = stripped c.args.front.now c.args.text.now c.strip_prefix.result (parts c.args.front.now c.args.text.now c.strip_prefix.result c.strip_prefix.ensures.cases)
