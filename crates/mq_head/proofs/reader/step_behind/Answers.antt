use Rattle.std.proofs.Common.{◌≡◌, ◌++◌, ◌-◌, length, take, sym, ap, subst, ◌∙◌}
use Rattle.mq_head.specs.Heads.{head_limit, IsMore}
use Rattle.mq_head.specs.Reader.{StandsFor}
use Rattle.mq_head.specs.Parsed.{IsAnswer}
use Rattle.mq_head.specs.Steps.{IsStep}
use Rattle.mq_head.proofs.StepsLemmas.{step_from_first, kept_from_first}
use Rattle.mq_head.proofs.reader.step_behind.Goals.{In_ok-state}
use Rattle.mq_head.proofs.reader.step_behind.Goals as goal

before_is : (c : In_ok-state) → length c.as_slice-before.result.now ≡ length c.args.kept.items
before_is c = ap length c.as_slice-before.ensures.value

-- what is kept, and the first bytes of it
kept_is : (c : In_ok-state) → c.extend_from_slice.new.self.items ≡ c.args.kept.items ++ take (head_limit - length c.args.kept.items) c.args.piece.now
kept_is c =
    c.in_ok-extend_from_slice.ensures.items ∙ ap (λ t. c.args.kept.items ++ t) (c.within_limit.ensures.front ∙ ap (λ n. take (head_limit - n) c.args.piece.now) (before_is c))

front_is : (c : In_ok-state) → c.within_limit-2.result.now ≡ take head_limit c.extend_from_slice.new.self.items
front_is c = c.within_limit-2.ensures.front ∙ ap (take head_limit) c.as_slice.ensures.value

answer_is : (c : In_ok-state) → IsAnswer c.within_limit-2.result.now (length c.args.kept.items) c.in_ok-step.step
answer_is c = subst (λ n. IsAnswer c.within_limit-2.result.now n c.in_ok-step.step) (before_is c) c.in_ok-step.ensures

pub returns-clause-step : goal.returns-clause-step
returns-clause-step c = λ begun.
    let bytes = c.args.kept.items in
    let piece = c.args.piece.now in
    let front = c.within_limit-2.result.now in
    let kept = c.extend_from_slice.new.self.items in
    let step : IsStep bytes piece c.in_ok-step.step =
    step_from_first bytes piece kept front begun (kept_is c) (front_is c) c.in_ok-step.step (answer_is c) in (
      step,
      λ is_more.
          let first : IsMore front = subst (IsAnswer front (length bytes)) is_more (answer_is c) in
          let all : kept ≡ bytes ++ piece = kept_from_first bytes piece kept front begun (kept_is c) (front_is c) first in
          let more : IsMore (bytes ++ piece) = subst (IsStep bytes piece) is_more step in
          subst (StandsFor c.in_ok-state.state) all (c.in_ok-state.ensures.more is_more (subst IsMore (sym all) more)),
    )
