use Rattle.std.proofs.Common.{◌≡◌, ◌++◌, ◌∙◌, sym, true}
use Rattle.std.specs.Str.{bytes_eq}
use Rattle.std.proofs.lemmas.Bool.{true≢false}
use Rattle.std.proofs.lemmas.Slice.Eq.{bytes_eq-Decides}
use Rattle.mq_target.proofs.Splitting.{at_first, behind_first, at_second, behind_second}
use Rattle.mq_target.proofs.split.split.Goals as goal

pub returns-in-None-value_at : goal.returns-in-None-value_at
returns-in-None-value_at c = λ first second h.
    at_first c.args.before.now c.args.between.now c.args.after.now c.args.path.now first second h c.in-Some.rest.now c.in-Some.ensures c.in-None-value_at.ensures

pub returns-in-None-behind : goal.returns-in-None-behind
returns-in-None-behind c = λ first second h.
    let value = c.in-Some-value_at.ensures in
    c.in-None-behind.ensures (second ++ c.args.after.now)
    (sym (behind_first c.args.before.now c.args.between.now c.args.after.now c.args.path.now first second h c.in-Some.rest.now c.in-Some-value_at.parts.0.now c.in-Some-value_at.parts.1.now c.in-Some.ensures value.0 value.1 value.2))

pub returns-in-None-value_at-2 : goal.returns-in-None-value_at-2
returns-in-None-value_at-2 c = λ first second h.
    let value = c.in-Some-value_at.ensures in
    at_second c.args.before.now c.args.between.now c.args.after.now c.args.path.now first second h c.in-Some.rest.now c.in-Some-value_at.parts.0.now c.in-Some-value_at.parts.1.now c.in-Some.ensures value.0 value.1 value.2
    c.in-Some-behind.rest.now c.in-Some-behind.ensures c.in-None-value_at-2.ensures

pub returns-else-eq : goal.returns-else-eq
returns-else-eq c = λ first second h.
    let value = c.in-Some-value_at.ensures in
    let last = c.in-Some-value_at-2.ensures in
    let same : c.args.after.now ≡ c.in-Some-value_at-2.parts.1.now =
    behind_second c.args.before.now c.args.between.now c.args.after.now c.args.path.now first second h c.in-Some.rest.now c.in-Some-value_at.parts.0.now c.in-Some-value_at.parts.1.now c.in-Some.ensures value.0 value.1 value.2
    c.in-Some-behind.rest.now c.in-Some-behind.ensures c.in-Some-value_at-2.parts.0.now c.in-Some-value_at-2.parts.1.now last.0 last.1 last.2 in
    let yes : bytes_eq c.in-Some-value_at-2.parts.1.now c.args.after.now ≡ true =
    (bytes_eq-Decides c.in-Some-value_at-2.parts.1.now c.args.after.now).1 (sym same) in
    true≢false (sym yes ∙ sym c.eq.ensures ∙ c.if-eq.false)
