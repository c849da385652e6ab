use Rattle.std.proofs.Common.{Ok, ap, subst, ◌∙◌}
use Rattle.std.specs.Prelude.{Option}
use Rattle.mq_head.specs.declared.step.HeadStep.{HeadStep}
use Rattle.mq_front.specs.declared.front.Front.TheVariants.{Head, Http1}
use Rattle.mq_front.specs.declared.http1.Http1.{Http1 as One}
use Rattle.mq_front.specs.Parts.{AnswersHead}
use Rattle.mq_front.proofs.Fronts.{head_led, head_waits, reads_as}
use Rattle.mq_front.proofs.front.Front.read_head.Goals as goal

pub returns-in-Some : goal.returns-in-Some
returns-in-Some c = λ ts.
    let step = c.in_ok-step-in-Head.step in
    let reader = c.in-Head.reader in
    let P : Option One → Type 0 = λ o. AnswersHead c.args.setup.now step c.args.piece.now c.args.due.now c.behind_head.new.due o in
    reads_as c.args.setup.now ts c.args.piece.now c.args.due.now c.behind_head.new.due c.args.self.now (Head reader) (Http1 c.in-Some.one) c.in-Head.is
    (head_led c.args.setup.now ts c.args.piece.now c.args.due.now c.behind_head.new.due step reader c.in-Some.one (λ known is. c.in_ok-step-in-Head.ensures.step known is)
    (subst P c.in-Some.is (c.in_ok-one-in-Head.ensures {u = tt})))

pub returns-in_default : goal.returns-in_default
returns-in_default c = λ ts.
    let step = c.in_ok-step-in-Head.step in
    let reader = c.in-Head.reader in
    let P : Option One → Type 0 = λ o. AnswersHead c.args.setup.now step c.args.piece.now c.args.due.now c.behind_head.new.due o in
    reads_as c.args.setup.now ts c.args.piece.now c.args.due.now c.behind_head.new.due c.args.self.now (Head reader) (Head c.feed.new.self) c.in-Head.is
    (head_waits c.args.setup.now ts c.args.piece.now c.args.due.now c.behind_head.new.due step reader c.feed.new.self (λ known is. c.in_ok-step-in-Head.ensures.step known is)
    (subst P c.in_default.is (c.in_ok-one-in-Head.ensures {u = tt}))
    (λ known is more. c.feed.ensures.more known is (c.in_ok-step-in-Head.was {u = tt} ∙ ap (λ (s : HeadStep). Ok s) more)))
