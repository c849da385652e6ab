use Rattle.std.proofs.Common.{sym, ◌∙◌, subst}
use Rattle.mq_policy.specs.Decisions.{DecidesGoal, Decides}
use Rattle.mq_policy.proofs.Decided.{decided}
use Rattle.mq_policy.proofs.policy.Policy.decide.Goals as goal

pub returns-in-Some : goal.returns-in-Some
returns-in-Some c =
    let on_goal = subst (λ rules. DecidesGoal rules c.in-Some.goal c.decide_goal.result) c.as_slice.ensures.value c.decide_goal.ensures in
    let on_target = decided (record { names = c.self.inside.names; rules = c.self.inside.rules.items }) c.args.target.now c.in-Some.goal c.decide_goal.result (sym c.goal_of.ensures ∙ c.in-Some.is) on_goal in
    subst (λ tables. Decides tables c.args.target.now c.decide_goal.result) c.self.view_is on_target
