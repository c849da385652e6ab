-- The form of templates (RFC 6570, sections 2 and 3.2, narrowed to simple expansion and one last form-style query).
use Rattle.std.specs.Prelude.{◌≡◌, ℕ, zero, suc, ◌<◌, Bool, true, ◌||◌, ◌&&◌, ◌==◌, ◌⊎◌, List, [], ◌∷◌, ◌++◌, length}
use Rattle.std.specs.List.{list_all}
use Rattle.mq_target.specs.Classes.{is_literal, is_variable_byte, is_delimiter, begins}

-- `{`, `}`, `?` and `,`
abbrev pub opening : ℕ
opening = 123

abbrev pub closing : ℕ
closing = 125

abbrev pub question : ℕ
question = 63

abbrev pub comma : ℕ
comma = 44

-- literals alone
abbrev pub AreLiterals : List ℕ → Type 0
AreLiterals text = list_all is_literal text ≡ true

-- the name of a variable: letters, digits and `_`, at least one
abbrev pub IsVariable : List ℕ → Type 0
IsVariable name = (0 < length name) × (list_all is_variable_byte name ≡ true)

-- what may follow a variable: nothing, `/`, `?`, `&`, or a last `{?a,b}`, which means `?a={a}&b={b}`
abbrev pub may_follow : List ℕ → Bool
may_follow [] = true
may_follow (b ∷ []) = is_delimiter b
may_follow (b ∷ c ∷ text) = is_delimiter b || (b == opening && c == question)

-- two names with a comma between them
abbrev pub IsTwoNames : List ℕ → Type 0
IsTwoNames text = (first second : List ℕ) × (text ≡ first ++ comma ∷ second) × IsVariable first × IsVariable second

-- literals, and at last `{?first,second}`
pub record IsQuery (text literal names : List ℕ) : Type 0 where
  pub is : text ≡ literal ++ opening ∷ question ∷ (names ++ closing ∷ [])
  pub literals : AreLiterals literal
  pub two : IsTwoNames names

-- literals, a variable, and the rest
pub record IsRun (text literal name rest : List ℕ) : Type 0 where
  pub is : text ≡ literal ++ opening ∷ (name ++ closing ∷ rest)
  pub literals : AreLiterals literal
  pub variable : IsVariable name
  pub follows : may_follow rest ≡ true

-- so many variables with literals before each, and then literals alone, or a last `{?first,second}` behind them
abbrev pub Runs : ℕ → List ℕ → Type 0
Runs zero text = AreLiterals text ⊎ ((literal names : List ℕ) × IsQuery text literal names)
Runs (suc n) text = (literal name rest : List ℕ) × IsRun text literal name rest × Runs n rest

-- any number of variables
abbrev pub HasRuns : List ℕ → Type 0
HasRuns text = (n : ℕ) × Runs n text

-- the text has the form of a template, whatever the number and the names of its variables
pub record HasForm (text : List ℕ) : Type 0 where
  pub start : begins (λ b. b == 47) text ≡ true
  pub runs : HasRuns text
