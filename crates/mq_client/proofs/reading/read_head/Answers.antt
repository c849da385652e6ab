use Rattle.std.proofs.Common.{ℕ, List, Ok, IfOk, false, refl, ap, subst, ◌∙◌}
use Rattle.mq_client.specs.Answers.{IsAnswer}
use Rattle.mq_client.specs.declared.answer.Answer.{Answer}
use Rattle.mq_client.specs.declared.event.ClientEvent.TheVariants.{BadPeer}
use Rattle.mq_client.specs.Standing.{ReadsData}
use Rattle.mq_client.proofs.Stages.{head_waits, head_opens_all, head_ends}
use Rattle.mq_client.proofs.reading.read_head.Goals as goal

pub returns-in-More : goal.returns-in-More
returns-in-More c =
    head_waits c.args.reader c.feed.new.self c.args.piece.now c.args.events.now.items
    (λ came waits. c.feed.ensures.more came waits (c.in_ok-answer.was ∙ ap (λ (a : Answer). Ok a) c.in-More.is))

pub returns-in_ok-push-in-Switched : goal.returns-in_ok-push-in-Switched
returns-in_ok-push-in-Switched c =
    let piece = c.args.piece.now in
    let used = c.in-Switched.used in
    head_opens_all c.args.reader c.new.result piece used c.args.events.now.items c.push.new.self.items c.read_data.new.events.items c.read_data.result
    (λ came waits. subst (λ (a : Answer). IsAnswer came piece a) c.in-Switched.is (c.in_ok-answer.ensures.answer came waits))
    c.in_ok-push-in-Switched.ensures.items c.new.ensures (c.says_nothing.ensures.1 false)
    (subst (λ (d : List ℕ). IfOk c.read_data.result (ReadsData c.new.result d c.push.new.self.items c.read_data.new.events.items)) c.behind.ensures c.read_data.ensures)

pub returns-in_ok-push-in-Bad : goal.returns-in_ok-push-in-Bad
returns-in_ok-push-in-Bad c =
    let piece = c.args.piece.now in
    head_ends c.args.reader piece (BadPeer 1) c.args.events.now.items c.push-in-Bad.new.self.items
    (λ came waits. (subst (λ (a : Answer). IsAnswer came piece a) c.in-Bad.is (c.in_ok-answer.ensures.answer came waits), refl, refl))
    refl c.in_ok-push-in-Bad.ensures.items
