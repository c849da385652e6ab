use Rattle.std.proofs.Common.{sym, ◌∙◌}
use Rattle.std.proofs.lemmas.Bool.{true≢false}
use Rattle.mq_target.proofs.Outlines.{not_started, from_pair, from_plain}
use Rattle.mq_target.proofs.outline.outline_at.Goals as goal

pub returns-then-not-is_start : goal.returns-then-not-is_start
returns-then-not-is_start c = λ text behind cut close.
    not_started c.cut_once.ensures c.args.kind text c.args.before.now behind cut
    (λ start. true≢false (sym (c.is_start.ensures.1 start) ∙ c.if-not-is_start.true))

pub returns-in-Some : goal.returns-in-Some
returns-in-Some c = λ text behind cut close.
    from_pair c.cut_once.ensures c.args.kind text c.args.before.now behind cut c.args.inner.now c.args.rest.now close (c.is_start.ensures.0 c.if-not-is_start.false)
    c.in-Some.pair.now c.pair_outline.result c.in-Some.ensures c.pair_outline.ensures

pub returns-in-None : goal.returns-in-None
returns-in-None c = λ text behind cut close.
    from_plain c.cut_once.ensures c.args.kind text c.args.before.now behind cut c.args.inner.now c.args.rest.now close (c.is_start.ensures.0 c.if-not-is_start.false)
    c.plain_outline.result c.in-None.ensures c.plain_outline.ensures
