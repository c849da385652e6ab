-- One step over a template's text.
use Rattle.std.proofs.Common.{◌≡◌, ℕ, zero, suc, ◌<◌, ◌↔◌, Bool, true, false, ◌==◌, List, [], ◌∷◌, ◌++◌, length, sym, ◌∙◌, ap, subst, refl, arith, inl, inr, ◌⊎◌, length-append, true≢false}
use Rattle.std.proofs.lemmas.Bool.{false≢true}
use Rattle.std.specs.List.{list_all}
use Rattle.mq_text.specs.Cut.{Lacks, IsCut, IsCutOnce}
use Rattle.mq_target.specs.Classes.{is_literal, is_name_byte, is_unreserved, is_variable_byte, begins}
use Rattle.mq_target.specs.Form.{AreLiterals, IsVariable, IsTwoNames, HasRuns, may_follow}
use Rattle.mq_target.proofs.Bytes.{all_lack, lacks_none, lacks_both}

-- no brace is a literal, and none of the marks between names is a part of one
pub no_opening : is_literal 123 ≡ false
unfolding is_literal is_unreserved is_name_byte
no_opening = refl

pub no_closing : is_variable_byte 125 ≡ false
unfolding is_variable_byte
no_closing = refl

pub no_comma : is_variable_byte 44 ≡ false
unfolding is_variable_byte
no_comma = refl

pub no_question : is_variable_byte 63 ≡ false
unfolding is_variable_byte
no_question = refl

pub literals_lack : (text : List ℕ) → AreLiterals text → Lacks 123 text
literals_lack text h = all_lack is_literal 123 text no_opening h

pub variable_lacks : (b : ℕ) (name : List ℕ) → is_variable_byte b ≡ false → IsVariable name → Lacks b name
variable_lacks b name other h = all_lack is_variable_byte b name other h.1

pub names_lack : (text : List ℕ) → IsTwoNames text → Lacks 125 text
names_lack text (first, second, is, p, q) =
    subst (Lacks 125) (sym is) (lacks_both 125 first (44 ∷ second) (variable_lacks 125 first no_closing p) ((λ e. omega arith), variable_lacks 125 second no_closing q))

-- what stands between the first braces, and behind them
abbrev pub IsAt : List ℕ → List ℕ → Type 0
IsAt inner after =
    ((after ≡ []) × ((names : List ℕ) × (inner ≡ 63 ∷ names) × IsTwoNames names))
    ⊎ (IsVariable inner × (may_follow after ≡ true) × HasRuns after)

-- a text with an opening brace has runs where its literals, the part between the braces and the rest are such
pub at_brace : IsCutOnce → (text literal behind : List ℕ) → IsCut 123 text literal behind → HasRuns text
    → AreLiterals literal × ((inner after : List ℕ) × IsCut 125 behind inner after × IsAt inner after)
at_brace once text literal behind cut (zero, inl h) = absurd (lacks_none 123 literal behind (subst (Lacks 123) cut.is (literals_lack text h)))
at_brace once text literal behind cut (zero, inr (front, names, h)) =
    let mine : IsCut 123 text front (63 ∷ (names ++ 125 ∷ [])) = record { is = h.is; first = literals_lack front h.literals } in
    let same = once 123 text front (63 ∷ (names ++ 125 ∷ [])) literal behind mine cut in
    let inner : Lacks 125 (63 ∷ names) = ((λ e. omega arith), names_lack names h.two) in (
      subst AreLiterals same.0 h.literals,
      (63 ∷ names, [], record { is = sym same.1; first = inner }, inl (refl, (names, refl, h.two))),
    )
at_brace once text literal behind cut (suc n, (front, name, rest, h, more)) =
    let mine : IsCut 123 text front (name ++ 125 ∷ rest) = record { is = h.is; first = literals_lack front h.literals } in
    let same = once 123 text front (name ++ 125 ∷ rest) literal behind mine cut in (
      subst AreLiterals same.0 h.literals,
      (name, rest, record { is = sym same.1; first = variable_lacks 125 name no_closing h.variable }, inr (h.variable, h.follows, (n, more))),
    )

pub at_braces : IsCutOnce → (text literal behind inner after : List ℕ) → IsCut 123 text literal behind → IsCut 125 behind inner after → HasRuns text
    → AreLiterals literal × IsAt inner after
at_braces once text literal behind inner after cut close h =
    let (literals, (mine, rest, mine_cut, at)) = at_brace once text literal behind cut h in
    let same = once 125 behind mine rest inner after mine_cut close in
    let P : List ℕ → Type 0 = λ t. IsAt t rest in
    (literals, subst (IsAt inner) same.1 (subst P same.0 at))

-- without a closing brace there is no form
pub unclosed : IsCutOnce → (text literal behind : List ℕ) → IsCut 123 text literal behind → Lacks 125 behind → ¬ (HasRuns text)
unclosed once text literal behind cut none h =
    let (literals, (inner, after, close, at)) = at_brace once text literal behind cut h in
    lacks_none 125 inner after (subst (Lacks 125) close.is none)

-- and with both there is
pub closed : (text literal behind inner after : List ℕ) → IsCut 123 text literal behind → IsCut 125 behind inner after → AreLiterals literal → IsAt inner after → HasRuns text
closed text literal behind inner after cut close literals (inl (last, (names, is, two))) =
    let shown : behind ≡ 63 ∷ (names ++ 125 ∷ []) = close.is ∙ ap (λ (t : List ℕ). t ++ 125 ∷ after) is ∙ ap (λ (t : List ℕ). 63 ∷ (names ++ 125 ∷ t)) last in
    (zero, inr (literal, names, record { is = cut.is ∙ ap (λ (t : List ℕ). literal ++ 123 ∷ t) shown; literals = literals; two = two }))
closed text literal behind inner after cut close literals (inr (variable, follows, (n, runs))) = (
  suc n,
  (
    literal,
    inner,
    after,
    record {
      is = cut.is ∙ ap (λ (t : List ℕ). literal ++ 123 ∷ t) close.is;
      literals = literals;
      variable = variable;
      follows = follows;
    },
    runs,
  ),
)

pub no_brace : (text : List ℕ) → Lacks 123 text → HasRuns text → AreLiterals text
no_brace text lacks (zero, inl h) = h
no_brace text lacks (zero, inr (front, names, h)) = absurd (lacks_none 123 front (63 ∷ (names ++ 125 ∷ [])) (subst (Lacks 123) h.is lacks))
no_brace text lacks (suc n, (front, name, rest, h, more)) = absurd (lacks_none 123 front (name ++ 125 ∷ rest) (subst (Lacks 123) h.is lacks))

pub shorter : (text literal behind inner after : List ℕ) → IsCut 123 text literal behind → IsCut 125 behind inner after → length after < length text
shorter text literal behind inner after cut close =
    omega (arith, ap length cut.is, ap length close.is, length-append literal (123 ∷ behind), length-append inner (125 ∷ after))

-- the answers of one step, each by the texts that were cut

pub without_brace : (text : List ℕ) (answer : Bool) → Lacks 123 text → answer ≡ list_all is_literal text → (answer ≡ true) ↔ HasRuns text
without_brace text answer lacks is = ((λ yes. (zero, inl (sym is ∙ yes))), λ h. is ∙ no_brace text lacks h)

pub refused : (text : List ℕ) → ¬ (HasRuns text) → (false ≡ true) ↔ HasRuns text
refused text none = ((λ yes. absurd (false≢true yes)), λ h. absurd (none h))

pub two_at : IsCutOnce → (text first second : List ℕ) (answer : Bool) → IsCut 44 text first second
    → (answer ≡ true) ↔ (IsVariable first × IsVariable second) → (answer ≡ true) ↔ IsTwoNames text
two_at once text first second answer cut told = (
  (λ yes. (first, second, cut.is, (told.0 yes).0, (told.0 yes).1)),
  λ h.
      let (a, b, is, p, q) = h in
      let same = once 44 text a b first second (record { is = is; first = variable_lacks 44 a no_comma p }) cut in
      told.1 (subst IsVariable same.0 p, subst IsVariable same.1 q),
)

pub no_two : (text : List ℕ) → Lacks 44 text → (false ≡ true) ↔ IsTwoNames text
no_two text lacks = (
  (λ yes. absurd (false≢true yes)),
  λ h. let (a, b, is, p, q) = h in absurd (lacks_none 44 a b (subst (Lacks 44) is lacks)),
)

module _ (once : IsCutOnce) (text literal behind : List ℕ) (cut : IsCut 123 text literal behind) where
  pub other_literals : list_all is_literal literal ≡ false → ¬ (HasRuns text)
  other_literals bad h = let yes = (at_brace once text literal behind cut h).0 in false≢true (sym bad ∙ yes)

  module _ (inner after : List ℕ) (close : IsCut 125 behind inner after) (literals : AreLiterals literal) where
    pub at_pair : (pair : List ℕ) (answer : Bool) → inner ≡ 63 ∷ pair → (answer ≡ true) ↔ ((after ≡ []) × IsTwoNames pair) → (answer ≡ true) ↔ HasRuns text
    at_pair pair answer is told = (
      (λ yes. closed text literal behind inner after cut close literals (inl ((told.0 yes).0, (pair, is, (told.0 yes).1)))),
      λ h. elim ((at_braces once text literal behind inner after cut close h).1) [
        | inl two ↦
            let (names, shown, both) = two.1 in
            let same : names ≡ pair = cc in
            told.1 (two.0, subst IsTwoNames same both)
        | inr run ↦ absurd (has_question pair (subst (λ t. Lacks 63 t) is (variable_lacks 63 inner no_question run.0)))
      ],
    )
      where
        has_question : (t : List ℕ) → Lacks 63 (63 ∷ t) → ⊥
        has_question t h = h.0 refl

    pub at_run : begins (λ b. b == 63) inner ≡ false → IsVariable inner × (may_follow after ≡ true) → HasRuns after ↔ HasRuns text
    at_run no_pair goes = (
      (λ h. closed text literal behind inner after cut close literals (inr (goes.0, goes.1, h))),
      λ h. elim ((at_braces once text literal behind inner after cut close h).1) [
        | inl two ↦
            let (names, shown, both) = two.1 in
            absurd (true≢false (sym (ap (begins (λ b. b == 63)) shown) ∙ no_pair))
        | inr run ↦ run.2
      ],
    )

    pub no_run : begins (λ b. b == 63) inner ≡ false → ¬ (IsVariable inner × (may_follow after ≡ true)) → ¬ (HasRuns text)
    no_run no_pair stops h =
        elim ((at_braces once text literal behind inner after cut close h).1) [
          | inl two ↦
              let (names, shown, both) = two.1 in
              true≢false (sym (ap (begins (λ b. b == 63)) shown) ∙ no_pair)
          | inr run ↦ stops (run.0, run.1)
        ]
