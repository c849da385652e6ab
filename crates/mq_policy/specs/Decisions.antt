-- What a policy says of a target: the first rule that matches decides.
use Rattle.std.specs.Prelude.{◌≡◌, ◌≢◌, ℕ, ◌+◌, ◌⊎◌, true, false, List, [], ◌∷◌, ◌++◌, length, Some, None}
use Rattle.std.specs.List.{All}
use Rattle.mq_talk.specs.declared.goal.Goal.{Goal}
use Rattle.mq_target.specs.declared.target.Target.{Target}
use Rattle.mq_policy.specs.declared.decision.Decision.{Decision}
use Rattle.mq_policy.specs.declared.decision.Decision.TheVariants.{Go, Denied, UnknownName}
use Rattle.mq_policy.specs.declared.rule.Rule.{Rule}
use Rattle.mq_policy.specs.Goals.{goal_of}
use Rattle.mq_policy.specs.Rules.{Matches, allows}
use Rattle.mq_policy.specs.Tables.{Tables}

abbrev pub NoneMatches : List Rule → Goal → Type 0
NoneMatches rules goal = All (λ rule. ¬ (Matches rule goal)) rules

-- a rule that matches, while none before it does
pub record First (rules : List Rule) (goal : Goal) : Type 0 where
  pub before : List Rule
  pub rule : Rule
  pub after : List Rule
  pub is : rules ≡ before ++ rule ∷ after
  pub matches : Matches rule goal
  pub none_before : NoneMatches before goal

-- there are no rules, or the first that matches allows
abbrev pub Allows : List Rule → Goal → Type 0
Allows rules goal = (rules ≡ []) ⊎ ((first : First rules goal) × (allows first.rule ≡ true))

-- the first rule that matches denies, and has this number, counted from 1; or there are rules and none matches, which
-- is number 0
abbrev pub Denies : List Rule → Goal → ℕ → Type 0
Denies rules goal number =
    ((first : First rules goal) × (allows first.rule ≡ false) × (number ≡ length first.before + 1))
    ⊎ ((rules ≢ []) × NoneMatches rules goal × (number ≡ 0))

-- what the rules say of a goal
abbrev pub DecidesGoal : List Rule → Goal → Decision → Type 0
DecidesGoal rules goal (Go found) = (found ≡ goal) × Allows rules goal
DecidesGoal rules goal (Denied number) = Denies rules goal number
DecidesGoal rules goal UnknownName = ⊥

-- A name that isn't in the table is unknown, whatever the rules say. Else the rules decide on where the target leads.
abbrev pub Decides : Tables → Target → Decision → Type 0
Decides tables target UnknownName = goal_of tables.names target ≡ None
Decides tables target (Go found) = (goal : Goal) × (goal_of tables.names target ≡ Some goal) × DecidesGoal tables.rules goal (Go found)
Decides tables target (Denied number) = (goal : Goal) × (goal_of tables.names target ≡ Some goal) × DecidesGoal tables.rules goal (Denied number)

-- a policy decides in one way on a target
abbrev pub HasOneDecision : Type 0
HasOneDecision = (tables : Tables) (target : Target) (a b : Decision) → Decides tables target a → Decides tables target b → a ≡ b
