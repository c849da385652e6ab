-- The parts of a text before and behind a separator.
use Rattle.std.specs.Prelude.{◌≡◌, ◌≢◌, ℕ, List, [], ◌∷◌, ◌++◌, Option, Some, None}
use Rattle.std.specs.Borrow.{Bor}

-- the byte isn't in the text
abbrev pub Lacks : ℕ → List ℕ → Type 0
Lacks byte [] = Unit {0}
Lacks byte (b ∷ bs) = (b ≢ byte) × Lacks byte bs

-- the first separator stands between these parts
pub record IsCut (separator : ℕ) (text before behind : List ℕ) : Type 0 where
  pub is : text ≡ before ++ separator ∷ behind
  pub first : Lacks separator before

-- the parts before and behind the first separator, where there is one
abbrev pub Cuts : ℕ → List ℕ → Option (Bor (List ℕ) × Bor (List ℕ)) → Type 0
Cuts separator text None = Lacks separator text
Cuts separator text (Some parts) = IsCut separator text parts.0.now parts.1.now

-- one way to cut
abbrev pub IsCutOnce : Type 0
IsCutOnce = (separator : ℕ) (text a b c d : List ℕ) → IsCut separator text a b → IsCut separator text c d → (a ≡ c) × (b ≡ d)
