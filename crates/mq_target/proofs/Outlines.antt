-- Where the parts of a template stand in its text.
use Rattle.std.proofs.Common.{◌≡◌, ℕ, ◌==◌, false, List, [], ◌∷◌, ◌++◌, Option, Some, None, sym, ◌∙◌, ap, subst, refl, arith, append_assoc, inl, inr, ◌⊎◌, ne_eqb, true≢false}
use Rattle.std.specs.Option.{MatchOption}
use Rattle.mq_text.specs.Cut.{Lacks, IsCut, IsCutOnce}
use Rattle.mq_addr.specs.declared.kind.Kind.{Kind}
use Rattle.mq_addr.specs.declared.kind.Kind.TheVariants.{Udp, Ip}
use Rattle.mq_target.specs.declared.shape.Order.{Order}
use Rattle.mq_target.specs.declared.shape.Order.TheVariants.{TargetFirst, TargetLast}
use Rattle.mq_target.specs.declared.outline.Outline.{Outline}
use Rattle.mq_target.specs.declared.outline.Outline.TheVariants.{Plain, Pair}
use Rattle.mq_target.specs.Classes.{is_variable_byte, begins}
use Rattle.mq_target.specs.Form.{IsVariable}
use Rattle.mq_target.specs.Template.{IsStart, AreAround, IsPlain, IsPair, IsTemplate, NoTemplate, pair_shape, first_name, second_name, target_name, detail_name}
use Rattle.mq_target.specs.Outlines.{IsOutline, IsPairEnd, IsPlainEnd, IsPairFound, IsPlainFound}
use Rattle.mq_target.proofs.Bytes.{lacks_none, lacks_both}
use Rattle.mq_target.proofs.Stepping.{no_closing, no_comma, no_question, literals_lack, variable_lacks}

target_variable : (kind : Kind) → IsVariable (target_name kind)
unfolding target_name is_variable_byte
target_variable Udp = (omega arith, refl)
target_variable Ip = (omega arith, refl)

detail_variable : (kind : Kind) → IsVariable (detail_name kind)
unfolding detail_name is_variable_byte
detail_variable Udp = (omega arith, refl)
detail_variable Ip = (omega arith, refl)

pub first_variable : (kind : Kind) (order : Order) → IsVariable (first_name kind order)
first_variable kind TargetFirst = target_variable kind
first_variable kind TargetLast = detail_variable kind

pub second_variable : (kind : Kind) (order : Order) → IsVariable (second_name kind order)
second_variable kind TargetFirst = detail_variable kind
second_variable kind TargetLast = target_variable kind

pub no_pair : (kind : Kind) (order : Order) (pair rest : List ℕ) → Lacks 44 pair → ¬ (IsPairEnd kind order pair rest)
no_pair kind order pair rest lacks h = lacks_none 44 (first_name kind order) (second_name kind order) (subst (Lacks 44) h.is lacks)

pub pair_cut : IsCutOnce → (kind : Kind) (order : Order) (pair rest first second : List ℕ) → IsCut 44 pair first second → IsPairEnd kind order pair rest
    → (first ≡ first_name kind order) × (second ≡ second_name kind order)
pair_cut once kind order pair rest first second cut h =
    let mine : IsCut 44 pair (first_name kind order) (second_name kind order) = record {
      is = h.is;
      first = variable_lacks 44 (first_name kind order) no_comma (first_variable kind order);
    } in
    once 44 pair first second (first_name kind order) (second_name kind order) cut mine

plain_mine : (kind : Kind) (order : Order) (first between after rest : List ℕ) → IsPlainEnd kind order first between after rest
    → IsCut 123 rest between (second_name kind order ++ 125 ∷ after)
plain_mine kind order first between after rest h = record { is = h.is; first = literals_lack between h.around.between_literals }

pub no_plain : (kind : Kind) (order : Order) (first between after rest : List ℕ) → Lacks 123 rest → ¬ (IsPlainEnd kind order first between after rest)
no_plain kind order first between after rest lacks h =
    lacks_none 123 between (second_name kind order ++ 125 ∷ after) (subst (Lacks 123) h.is lacks)

pub plain_unclosed : IsCutOnce → (kind : Kind) (order : Order) (first between after rest found behind : List ℕ) → IsCut 123 rest found behind → Lacks 125 behind
    → ¬ (IsPlainEnd kind order first between after rest)
plain_unclosed once kind order first between after rest found behind cut lacks h =
    let same = once 123 rest found behind between (second_name kind order ++ 125 ∷ after) cut (plain_mine kind order first between after rest h) in
    lacks_none 125 (second_name kind order) after (subst (Lacks 125) same.1 lacks)

-- the parts that were cut are those of the form
pub record PlainCut (kind : Kind) (order : Order) (between after found second behind : List ℕ) : Type 0 where
  pub between_is : found ≡ between
  pub second_is : second ≡ second_name kind order
  pub after_is : behind ≡ after

pub plain_cut : IsCutOnce → (kind : Kind) (order : Order) (first between after rest found behind second left : List ℕ) → IsCut 123 rest found behind → IsCut 125 behind second left
    → IsPlainEnd kind order first between after rest → PlainCut kind order between after found second left
plain_cut once kind order first between after rest found behind second left cut close h =
    let same = once 123 rest found behind between (second_name kind order ++ 125 ∷ after) cut (plain_mine kind order first between after rest h) in
    let mine : IsCut 125 behind (second_name kind order) after = record {
      is = same.1;
      first = variable_lacks 125 (second_name kind order) no_closing (second_variable kind order);
    } in
    let inner = once 125 behind second left (second_name kind order) after close mine in
    record { between_is = same.0; second_is = inner.0; after_is = inner.1 }

pub plain_around : (kind : Kind) (order : Order) (first between after rest found second left : List ℕ) → PlainCut kind order between after found second left
    → IsPlainEnd kind order first between after rest → AreAround found left
plain_around kind order first between after rest found second left cut h =
    let P : List ℕ → Type 0 = λ t. AreAround t left in
    subst P (sym cut.between_is) (subst (AreAround between) (sym cut.after_is) h.around)

module _ (once : IsCutOnce) (kind : Kind) (text before behind : List ℕ) (cut : IsCut 123 text before behind) where
  -- what stands behind the first brace of a template
  AtBrace : Order → List ℕ → List ℕ → List ℕ → Type 0
  AtBrace order between after tail =
      (tail ≡ 63 ∷ ((first_name kind order ++ 44 ∷ second_name kind order) ++ 125 ∷ []))
      ⊎ ((rest : List ℕ) × (tail ≡ first_name kind order ++ 125 ∷ rest) × IsPlainEnd kind order (first_name kind order) between after rest)

  at_brace : (order : Order) (b m a : List ℕ) → IsTemplate text (record { kind = kind; order = order; before = b; between = m; after = a }) → IsStart before × AtBrace order m a behind
  unfolding AtBrace
  at_brace order b m a (inl h) =
      let rest = m ++ 123 ∷ (second_name kind order ++ 125 ∷ a) in
      let mine : IsCut 123 text b (first_name kind order ++ 125 ∷ rest) = record { is = h.is; first = literals_lack b h.start.1 } in
      let same = once 123 text before behind b (first_name kind order ++ 125 ∷ rest) cut mine in
      (subst IsStart (sym same.0) h.start, inr (rest, same.1, record { first_is = refl; is = refl; around = h.around }))
  at_brace order b m a (inr h) =
      let tail = 63 ∷ (first_name kind order ++ 44 ∷ (second_name kind order ++ 125 ∷ [])) in
      let mine : IsCut 123 text h.front tail = record { is = h.is; first = literals_lack h.front h.start.1 } in
      let same = once 123 text before behind h.front tail cut mine in
      (subst IsStart (sym same.0) h.start, inl (same.1 ∙ ap (λ t. 63 ∷ t) (sym (append_assoc (first_name kind order) (44 ∷ second_name kind order) (125 ∷ [])))))

  pub not_started : ¬ (IsStart before) → NoTemplate kind text
  not_started bad order b m a h = bad (at_brace order b m a h).0

  pub not_closed : Lacks 125 behind → NoTemplate kind text
  unfolding AtBrace
  not_closed lacks order b m a h =
      elim (at_brace order b m a h).1 [
        | inl pair ↦ lacks_none 125 (63 ∷ (first_name kind order ++ 44 ∷ second_name kind order)) [] (subst (Lacks 125) pair lacks)
        | inr plain ↦ lacks_none 125 (first_name kind order) plain.0 (subst (Lacks 125) plain.1 lacks)
      ]

  module _ (inner rest : List ℕ) (close : IsCut 125 behind inner rest) (start : IsStart before) where
    pair_lacks : (order : Order) → Lacks 125 (63 ∷ (first_name kind order ++ 44 ∷ second_name kind order))
    pair_lacks order =
        let names = lacks_both 125 (first_name kind order) (44 ∷ second_name kind order)
        (variable_lacks 125 (first_name kind order) no_closing (first_variable kind order))
        ((λ e. omega arith), variable_lacks 125 (second_name kind order) no_closing (second_variable kind order)) in
        ((λ e. omega arith), names)

    at_pair : (order : Order) → behind ≡ 63 ∷ ((first_name kind order ++ 44 ∷ second_name kind order) ++ 125 ∷ []) → (inner ≡ 63 ∷ (first_name kind order ++ 44 ∷ second_name kind order)) × (rest ≡ [])
    at_pair order is = once 125 behind inner rest (63 ∷ (first_name kind order ++ 44 ∷ second_name kind order)) [] close (record { is = is; first = pair_lacks order })

    at_plain : (order : Order) (left : List ℕ) → behind ≡ first_name kind order ++ 125 ∷ left → (inner ≡ first_name kind order) × (rest ≡ left)
    at_plain order left is = once 125 behind inner rest (first_name kind order) left close (record { is = is; first = variable_lacks 125 (first_name kind order) no_closing (first_variable kind order) })

    no_mark : (order : Order) → begins (λ b. b == 63) (first_name kind order) ≡ false
    no_mark order = plain_begin (first_name kind order) (variable_lacks 63 (first_name kind order) no_question (first_variable kind order))
      where
        plain_begin : (t : List ℕ) → Lacks 63 t → begins (λ b. b == 63) t ≡ false
        plain_begin [] h = refl
        plain_begin (x ∷ xs) h = ne_eqb x 63 h.0

    pub from_pair : (pair : List ℕ) (r : Option Outline) → inner ≡ 63 ∷ pair
        → MatchOption r ((order : Order) → ¬ (IsPairEnd kind order pair rest)) (λ found. IsPairFound kind before pair rest found)
        → MatchOption r (NoTemplate kind text) (λ found. IsOutline kind text found)
    unfolding AtBrace
    from_pair pair None is none = λ order b m a h.
        elim (at_brace order b m a h).1 [
          | inl shown ↦
              let both = at_pair order shown in
              let same : pair ≡ first_name kind order ++ 44 ∷ second_name kind order = cc in
              none order (record { is = same; last = both.1 })
          | inr plain ↦
              let both = at_plain order plain.0 plain.1 in
              true≢false (sym (ap (begins (λ b. b == 63)) is) ∙ ap (begins (λ b. b == 63)) both.0 ∙ no_mark order)
        ]
    from_pair pair (Some (Plain order found between after)) is h = absurd h
    from_pair pair (Some (Pair order found)) is h =
        let P : List ℕ → Type 0 = λ t. IsPair text (pair_shape kind order t) in
        let shown : behind ≡ 63 ∷ (first_name kind order ++ 44 ∷ (second_name kind order ++ 125 ∷ [])) =
        close.is ∙ ap (λ t. t ++ 125 ∷ rest) is ∙ ap (λ t. 63 ∷ (t ++ 125 ∷ rest)) h.1.is
        ∙ ap (λ t. 63 ∷ ((first_name kind order ++ 44 ∷ second_name kind order) ++ 125 ∷ t)) h.1.last
        ∙ ap (λ t. 63 ∷ t) (append_assoc (first_name kind order) (44 ∷ second_name kind order) (125 ∷ [])) in
        let built : IsPair text (pair_shape kind order before) = record {
          front = before;
          is = cut.is ∙ ap (λ t. before ++ 123 ∷ t) shown;
          start = start;
          means = refl;
        } in
        subst P (sym h.0) built

    pub from_plain : (r : Option Outline) → begins (λ b. b == 63) inner ≡ false
        → MatchOption r ((order : Order) (between after : List ℕ) → ¬ (IsPlainEnd kind order inner between after rest)) (λ found. IsPlainFound kind before inner rest found)
        → MatchOption r (NoTemplate kind text) (λ found. IsOutline kind text found)
    unfolding AtBrace
    from_plain None unmarked none = λ order b m a h.
        elim (at_brace order b m a h).1 [
          | inl shown ↦
              let both = at_pair order shown in
              true≢false (sym (ap (begins (λ b. b == 63)) both.0) ∙ unmarked)
          | inr plain ↦
              let both = at_plain order plain.0 plain.1 in
              let end : IsPlainEnd kind order inner m a rest = record {
                first_is = both.0;
                is = both.1 ∙ plain.2.is;
                around = plain.2.around;
              } in
              none order m a end
        ]
    from_plain (Some (Pair order found)) unmarked h = absurd h
    from_plain (Some (Plain order found between after)) unmarked h =
        let P : List ℕ → Type 0 = λ t. IsPlain text (record { kind = kind; order = order; before = t; between = between.now; after = after.now }) in
        let shown : behind ≡ first_name kind order ++ 125 ∷ (between.now ++ 123 ∷ (second_name kind order ++ 125 ∷ after.now)) =
        close.is ∙ ap (λ t. t ++ 125 ∷ rest) h.1.first_is ∙ ap (λ t. first_name kind order ++ 125 ∷ t) h.1.is in
        let built : P before = record { is = cut.is ∙ ap (λ t. before ++ 123 ∷ t) shown; start = start; around = h.1.around } in
        subst P (sym h.0) built

pub no_braces : (kind : Kind) (text : List ℕ) → Lacks 123 text → NoTemplate kind text
no_braces kind text lacks order b m a (inl h) = lacks_none 123 b _ (subst (Lacks 123) h.is lacks)
no_braces kind text lacks order b m a (inr h) = lacks_none 123 h.front _ (subst (Lacks 123) h.is lacks)
