-- What is found of a template in a text.
use Rattle.std.specs.Prelude.{◌≡◌, ℕ, List, [], ◌∷◌, ◌++◌}
use Rattle.mq_addr.specs.declared.kind.Kind.{Kind}
use Rattle.mq_target.specs.declared.shape.Order.{Order}
use Rattle.mq_target.specs.declared.outline.Outline.{Outline}
use Rattle.mq_target.specs.declared.outline.Outline.TheVariants.{Plain, Pair}
use Rattle.mq_target.specs.Form.{opening, closing, comma}
use Rattle.mq_target.specs.Template.{AreAround, IsPlain, IsPair, pair_shape, first_name, second_name}

-- the text is the template that is built from these parts
abbrev pub IsOutline : Kind → List ℕ → Outline → Type 0
IsOutline kind text (Plain order before between after) =
    IsPlain text (record { kind = kind; order = order; before = before.now; between = between.now; after = after.now })
IsOutline kind text (Pair order front) = IsPair text (pair_shape kind order front.now)

-- what stands behind `{?`, up to the brace, and behind that
pub record IsPairEnd (kind : Kind) (order : Order) (pair rest : List ℕ) : Type 0 where
  pub is : pair ≡ first_name kind order ++ comma ∷ second_name kind order
  pub last : rest ≡ []

-- the name in the first braces, and what stands behind them
pub record IsPlainEnd (kind : Kind) (order : Order) (first between after rest : List ℕ) : Type 0 where
  pub first_is : first ≡ first_name kind order
  pub is : rest ≡ between ++ opening ∷ (second_name kind order ++ closing ∷ after)
  pub around : AreAround between after

abbrev pub IsPairFound : Kind → List ℕ → List ℕ → List ℕ → Outline → Type 0
IsPairFound kind front pair rest (Plain order before between after) = ⊥
IsPairFound kind front pair rest (Pair order found) = (found.now ≡ front) × IsPairEnd kind order pair rest

abbrev pub IsPlainFound : Kind → List ℕ → List ℕ → List ℕ → Outline → Type 0
IsPlainFound kind before first rest (Plain order found between after) = (found.now ≡ before) × IsPlainEnd kind order first between.now after.now rest
IsPlainFound kind before first rest (Pair order front) = ⊥
