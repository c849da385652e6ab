-- Rules and tables decide in one way.
use Rattle.std.proofs.Common.{◌≡◌, ℕ, ◌+◌, false, List, Option, Some, None, ap, sym, ◌∙◌, subst, refl, inl, inr}
use Rattle.std.specs.Option.{unwrap_or, IsSome}
use Rattle.std.proofs.lemmas.Bool.{both_ways}
use Rattle.mq_talk.specs.declared.goal.Goal.{Goal}
use Rattle.mq_target.specs.declared.target.Target.{Target}
use Rattle.mq_policy.specs.declared.decision.Decision.{Decision}
use Rattle.mq_policy.specs.declared.decision.Decision.TheVariants.{Go, Denied, UnknownName}
use Rattle.mq_policy.specs.declared.rule.Rule.{Rule}
use Rattle.mq_policy.specs.Goals.{goal_of}
use Rattle.mq_policy.specs.Rules.{allows}
use Rattle.mq_policy.specs.Tables.{Tables}
use Rattle.mq_policy.specs.Decisions.{Allows, Denies, DecidesGoal, Decides, HasOneDecision}
use Rattle.mq_policy.proofs.Firsts.{one_first, some_rule, some_matches}

-- no rules both allow and deny a goal
not_both : (rules : List Rule) (goal : Goal) (number : ℕ) → Allows rules goal → Denies rules goal number → ⊥
not_both rules goal number (inl none) (inl denied) = some_rule rules goal denied.0 none
not_both rules goal number (inl none) (inr denied) = denied.0 none
not_both rules goal number (inr allowed) (inl denied) =
    both_ways (allows denied.0.rule) denied.1 (ap allows (sym (one_first rules goal allowed.0 denied.0).0) ∙ allowed.1)
not_both rules goal number (inr allowed) (inr denied) = some_matches rules goal allowed.0 denied.1

one_number : (rules : List Rule) (goal : Goal) (m n : ℕ) → Denies rules goal m → Denies rules goal n → m ≡ n
one_number rules goal m n (inl a) (inl b) = a.2 ∙ ap (λ k. k + 1) (one_first rules goal a.0 b.0).1 ∙ sym b.2
one_number rules goal m n (inl a) (inr b) = absurd (some_matches rules goal a.0 b.1)
one_number rules goal m n (inr a) (inl b) = absurd (some_matches rules goal b.0 a.1)
one_number rules goal m n (inr a) (inr b) = a.2 ∙ sym b.2

same_goal : (a b : Goal) (found : Option Goal) → found ≡ Some a → found ≡ Some b → a ≡ b
same_goal a b found p q = ap (λ o. unwrap_or o a) (sym p ∙ q)

not_unknown : (a : Goal) (found : Option Goal) → found ≡ Some a → found ≡ None → ⊥
not_unknown a found p q = both_ways false refl (subst IsSome (sym p ∙ q) refl)

pub one : HasOneDecision
one tables target (Go a) (Go b) x y = ap Go (x.2.0 ∙ same_goal x.0 y.0 _ x.1 y.1 ∙ sym y.2.0)
one tables target (Go a) (Denied n) x y = absurd (not_both tables.rules x.0 n x.2.1 (subst (λ goal. Denies tables.rules goal n) (same_goal y.0 x.0 _ y.1 x.1) y.2))
one tables target (Go a) UnknownName x y = absurd (not_unknown x.0 _ x.1 y)
one tables target (Denied m) (Go b) x y = absurd (not_both tables.rules y.0 m y.2.1 (subst (λ goal. Denies tables.rules goal m) (same_goal x.0 y.0 _ x.1 y.1) x.2))
one tables target (Denied m) (Denied n) x y = ap Denied (one_number tables.rules x.0 m n x.2 (subst (λ goal. Denies tables.rules goal n) (same_goal y.0 x.0 _ y.1 x.1) y.2))
one tables target (Denied m) UnknownName x y = absurd (not_unknown x.0 _ x.1 y)
one tables target UnknownName (Go b) x y = absurd (not_unknown y.0 _ y.1 x)
one tables target UnknownName (Denied n) x y = absurd (not_unknown y.0 _ y.1 x)
one tables target UnknownName UnknownName x y = refl

-- what the rules decide on the goal of a target is decided on the target
pub decided : (tables : Tables) (target : Target) (goal : Goal) (decision : Decision) → goal_of tables.names target ≡ Some goal → DecidesGoal tables.rules goal decision
    → Decides tables target decision
decided tables target goal (Go found) leads h = (goal, leads, h)
decided tables target goal (Denied number) leads h = (goal, leads, h)
decided tables target goal UnknownName leads h = absurd h
