use Rattle.std.proofs.Common.{◌≡◌, ◌++◌, length, Result, Ok, ap, subst, ◌∙◌}
use Rattle.mq_wire.specs.declared.NoMemory.{NoMemory}
use Rattle.mq_client.specs.declared.answer.Answer.{Answer}
use Rattle.mq_client.specs.Answers.{IsAnswer}
use Rattle.mq_client.proofs.Heads.{answers, keeps_all}
use Rattle.mq_client.proofs.answer.AnswerReader.feed.Goals as goal

pub returns-clause-answer : goal.returns-clause-answer
returns-clause-answer c = λ bytes is.
    answers bytes c.args.piece.now c.within_limit.result.now c.extend_from_slice.new.self.items c.as_slice.result.now (length c.as_slice-before.result.now) c.in_ok-answer.answer is.1
    (ap length (c.as_slice-before.ensures.value ∙ is.0)) c.within_limit.ensures (c.in_ok-extend_from_slice.ensures.items ∙ ap (λ l. l ++ c.within_limit.result.now) is.0)
    c.as_slice.ensures.value c.in_ok-answer.ensures

same_answer : (a b : Answer) → ◌≡◌ {A = Result Answer NoMemory} (Ok a) (Ok b) → a ≡ b
same_answer a b e = cc

pub returns-clause-more : goal.returns-clause-more
returns-clause-more c = λ bytes is more.
    let piece = c.args.piece.now in
    let waits = subst (λ a. IsAnswer bytes piece a) (same_answer _ _ more) (returns-clause-answer c bytes is) in (
      keeps_all bytes piece c.within_limit.result.now c.extend_from_slice.new.self.items (length c.as_slice-before.result.now)
          (ap length (c.as_slice-before.ensures.value ∙ is.0)) c.within_limit.ensures (c.in_ok-extend_from_slice.ensures.items ∙ ap (λ l. l ++ c.within_limit.result.now) is.0)
          waits,
      waits,
    )
