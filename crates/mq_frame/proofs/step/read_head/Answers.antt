use Rattle.std.proofs.Common.{◌≡◌, ℕ, ◌<◌, List, ◌++◌, length, take, ◌∙◌, sym, ap, subst, arith}
use Rattle.mq_frame.specs.Header.{header_of}
use Rattle.mq_frame.specs.Steps.{IsStep}
use Rattle.mq_frame.proofs.Steps.{step_head, step_behind}
use Rattle.mq_frame.proofs.step.read_head.Goals as goal

pub returns-in-None-clause-gives : goal.returns-in-None-clause-gives
returns-in-None-clause-gives c = λ short.
    let taken = take c.min-taken.result c.args.piece.now in
    let items : c.try_extend_from_slice.new.self.items ≡ c.args.head.items ++ taken =
    c.in-Ok.ensures.ok ∙ ap (λ (b : List ℕ). c.args.head.items ++ b) c.split_at.ensures.front in
    let few : length (c.args.head.items ++ taken) < 9 = omega (arith, ap length items, ap length c.as_slice.ensures.value, c.in-None.ensures) in
    step_head c.args.place c.args.head.items c.args.piece.now c.min-taken.result _ few (sym items, few)

pub returns-in_ok-state-in-Some-clause-gives : goal.returns-in_ok-state-in-Some-clause-gives
returns-in_ok-state-in-Some-clause-gives c = λ short.
    let front = c.split_at.result.0.now in
    let seen : c.as_slice.result.now ≡ c.args.head.items ++ front = c.as_slice.ensures.value ∙ c.in-Ok.ensures.ok in
    let nine : length (c.args.head.items ++ front) ≡ 9 = omega (arith, ap length seen, c.as_slice.ensures.fits, c.in-Some.ensures.0) in
    let P : List ℕ → Type 0 = λ p. IsStep c.args.place (c.args.head.items ++ front) p c.in_ok-state-in-Some.field-0 in
    let step = c.in_ok-state-in-Some.ensures.gives (c.args.head.items ++ front) nine (c.in-Some.ensures.1 ∙ ap header_of seen) in
    step_behind c.args.place c.args.head.items front c.args.piece.now c.min-taken.result c.in_ok-state-in-Some.field-0
    c.split_at.ensures.front (subst P c.split_at.ensures.back step)
