-- What a path is to a template.
use Rattle.std.specs.Prelude.{◌≡◌, ℕ, ◌<◌, true, false, List, ◌++◌, length}
use Rattle.std.specs.List.{list_all}
use Rattle.percent_encoding.specs.Percent.{percent_decode}
use Rattle.mq_addr.specs.declared.kind.Kind.{Kind}
use Rattle.mq_target.specs.declared.shape.Order.{Order}
use Rattle.mq_target.specs.declared.shape.Order.TheVariants.{TargetFirst, TargetLast}
use Rattle.mq_target.specs.declared.target.Target.{Target}
use Rattle.mq_target.specs.declared.target.Matched.{Matched}
use Rattle.mq_target.specs.declared.target.Matched.TheVariants.{No, Bad, Yes}
use Rattle.mq_target.specs.Classes.{begins, is_value_byte}
use Rattle.mq_target.specs.Template.{Shape}
use Rattle.mq_target.specs.Values.{IsTarget}

-- one or more bytes, none of them `/`, `?`, `&` or `#`
abbrev pub IsValue : List ℕ → Type 0
IsValue text = (0 < length text) × (list_all is_value_byte text ≡ true)

-- the path is these literals with these values between them, each as long as it can be
pub record SplitsAt (before between after path first second : List ℕ) : Type 0 where
  pub is : path ≡ before ++ (first ++ (between ++ (second ++ after)))
  pub first_value : IsValue first
  pub first_ends : begins is_value_byte (between ++ (second ++ after)) ≡ false
  pub second_value : IsValue second
  pub second_ends : begins is_value_byte after ≡ false

-- the path is the template with these values for its variables
abbrev pub Splits : Shape → List ℕ → List ℕ → List ℕ → Type 0
Splits shape path first second = SplitsAt shape.before shape.between shape.after path first second

-- the values, percent-decoded once, are this target
abbrev pub Reads : Kind → Order → List ℕ → List ℕ → Target → Type 0
Reads kind TargetFirst first second target = IsTarget kind (percent_decode first) (percent_decode second) target
Reads kind TargetLast first second target = IsTarget kind (percent_decode second) (percent_decode first) target

-- No: the path isn't the template with any values; Bad: the values aren't well-formed; Yes: they are this target
abbrev pub Matches : Shape → List ℕ → Matched → Type 0
Matches shape path No = (first second : List ℕ) → ¬ (Splits shape path first second)
Matches shape path Bad = (first second : List ℕ) × Splits shape path first second
    × ((target : Target) → ¬ (Reads shape.kind shape.order first second target))
Matches shape path (Yes target) = (first second : List ℕ) × Splits shape path first second
    × Reads shape.kind shape.order first second target
