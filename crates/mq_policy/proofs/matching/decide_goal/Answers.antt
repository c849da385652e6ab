use Rattle.std.proofs.Common.{true, false, None, refl, ap, sym, ◌+◌, inl, inr}
use Rattle.mq_policy.specs.declared.rule.Rule.TheVariants.{Udp}
use Rattle.mq_policy.proofs.Firsts.{first_at}
use Rattle.mq_policy.proofs.matching.decide_goal.Goals as goal

pub returns-in-Some : goal.returns-in-Some
returns-in-Some c =
    let found = c.in-Some.ensures in
    let first = first_at c.args.rules.now c.args.goal c.in-Some.place (Udp false None 0 0) true found.0 found.1 found.2 c.if-allows.ensures in
    (refl, inr (first.0, first.1))

pub returns-in-Some-2 : goal.returns-in-Some-2
returns-in-Some-2 c =
    let found = c.in-Some.ensures in
    let first = first_at c.args.rules.now c.args.goal c.in-Some.place (Udp false None 0 0) false found.0 found.1 found.2 c.if-allows.ensures in
    inl (first.0, first.1, ap (λ n. n + 1) (sym first.2))
