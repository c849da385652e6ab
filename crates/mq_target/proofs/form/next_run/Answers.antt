use Rattle.std.proofs.Common.{sym, ◌∙◌}
use Rattle.std.proofs.lemmas.Bool.{false≢true}
use Rattle.mq_target.proofs.form.next_run.Goals as goal
use Rattle.mq_target.proofs.Stepping.{without_brace, refused, unclosed, other_literals, at_pair, at_run, no_run, shorter}

pub returns-in_default : goal.returns-in_default
returns-in_default c = without_brace c.args.text.now c.are_literals.result c.in_default.ensures c.are_literals.ensures

pub returns-in_default-cut : goal.returns-in_default-cut
returns-in_default-cut c =
    refused c.args.text.now (unclosed c.cut_once.ensures c.args.text.now c.in-Some.literal.now c.in-Some.behind.now c.in-Some.ensures c.in_default-cut.ensures)

pub returns-then-not-are_literals : goal.returns-then-not-are_literals
returns-then-not-are_literals c =
    refused c.args.text.now (other_literals c.cut_once.ensures c.args.text.now c.in-Some.literal.now c.in-Some.behind.now c.in-Some.ensures (sym c.are_literals-2.ensures ∙ c.if-not-are_literals.true))

pub returns-in-Some-pair_of : goal.returns-in-Some-pair_of
returns-in-Some-pair_of c =
    at_pair c.cut_once.ensures c.args.text.now c.in-Some.literal.now c.in-Some.behind.now c.in-Some.ensures c.in-Some-cut.inner.now c.in-Some-cut.after.now c.in-Some-cut.ensures (sym c.are_literals-2.ensures ∙ c.if-not-are_literals.false)
    c.in-Some-pair_of.pair.now c.ends_in_pair.result c.in-Some-pair_of.ensures c.ends_in_pair.ensures

pub returns-in-None : goal.returns-in-None
returns-in-None c = (
  shorter c.args.text.now c.in-Some.literal.now c.in-Some.behind.now c.in-Some-cut.inner.now c.in-Some-cut.after.now c.in-Some.ensures c.in-Some-cut.ensures,
  at_run c.cut_once.ensures c.args.text.now c.in-Some.literal.now c.in-Some.behind.now c.in-Some.ensures c.in-Some-cut.inner.now c.in-Some-cut.after.now c.in-Some-cut.ensures (sym c.are_literals-2.ensures ∙ c.if-not-are_literals.false)
      c.in-None.ensures (c.goes_on.ensures.0 c.if-goes_on.true),
)

pub returns-in-None-2 : goal.returns-in-None-2
returns-in-None-2 c =
    refused c.args.text.now (no_run c.cut_once.ensures c.args.text.now c.in-Some.literal.now c.in-Some.behind.now c.in-Some.ensures c.in-Some-cut.inner.now c.in-Some-cut.after.now c.in-Some-cut.ensures (sym c.are_literals-2.ensures ∙ c.if-not-are_literals.false)
    c.in-None-2.ensures (λ h. false≢true (sym c.if-goes_on.false ∙ c.goes_on.ensures.1 h)))
