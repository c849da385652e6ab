use Rattle.std.proofs.Common.{◌≡◌, ◌++◌, ℕ, List, [], Ok, take, sym, ap, subst, ◌∙◌, arith}
use Rattle.std.specs.Prelude.{Option}
use Rattle.mq_head.specs.Reader.{IsHeadOf}
use Rattle.mq_head.specs.Steps.{IsStep}
use Rattle.mq_head.specs.declared.step.HeadStep.{HeadStep}
use Rattle.mq_machine.specs.Reading.{preface}
use Rattle.mq_front.specs.declared.http1.Http1.{Http1 as One}
use Rattle.mq_front.specs.Parts.{AnswersHead}
use Rattle.mq_front.proofs.Fronts.{other_led, other_waits}
use Rattle.mq_front.proofs.front.read_other.Goals as goal

pub returns-in-Some : goal.returns-in-Some
returns-in-Some c =
    let all = c.as_slice-2.result.now in
    let step = c.in_ok-step.step in
    let same : c.as_slice.result.now ≡ all = c.as_slice.ensures.value ∙ sym c.as_slice-2.ensures.value in
    let P : List ℕ → Type 0 = λ xs. IsStep [] xs step in
    let Q : Option One → Type 0 = λ o. AnswersHead c.args.setup.now step all c.args.due.now c.behind_head.new.due o in
    other_led c.args.setup.now c.args.count c.args.piece.now all c.args.due.now c.behind_head.new.due step c.in-Some.one
    (λ few.
    c.as_slice-2.ensures.value ∙ c.in_ok-extend_from_slice-2.ensures.items
    ∙ ap (λ (xs : List ℕ). xs ++ c.args.piece.now)
    (c.in_ok-extend_from_slice.ensures.items ∙ ap (λ (xs : List ℕ). xs ++ c.split_at.result.0.now) c.in_ok-bytes.ensures.items ∙ c.split_at.ensures.front
    ∙ ap (λ (n : ℕ). take n preface) (let least = c.min.ensures in let e : c.min.result ≡ c.args.count = omega (arith, least, few) in e)))
    (subst P same (c.in_ok-step.ensures.step [] c.new-reader.ensures)) (subst Q c.in-Some.is (c.in_ok-one.ensures {u = tt}))

pub returns : goal.returns
returns c =
    let all = c.as_slice-2.result.now in
    let step = c.in_ok-step.step in
    let same : c.as_slice.result.now ≡ all = c.as_slice.ensures.value ∙ sym c.as_slice-2.ensures.value in
    let P : List ℕ → Type 0 = λ xs. IsStep [] xs step in
    let Q : Option One → Type 0 = λ o. AnswersHead c.args.setup.now step all c.args.due.now c.behind_head.new.due o in
    let R : List ℕ → Type 0 = λ xs. IsHeadOf c.feed.new.self xs in
    other_waits c.args.setup.now c.args.count c.args.piece.now all c.args.due.now c.behind_head.new.due step c.feed.new.self
    (λ few.
    c.as_slice-2.ensures.value ∙ c.in_ok-extend_from_slice-2.ensures.items
    ∙ ap (λ (xs : List ℕ). xs ++ c.args.piece.now)
    (c.in_ok-extend_from_slice.ensures.items ∙ ap (λ (xs : List ℕ). xs ++ c.split_at.result.0.now) c.in_ok-bytes.ensures.items ∙ c.split_at.ensures.front
    ∙ ap (λ (n : ℕ). take n preface) (let least = c.min.ensures in let e : c.min.result ≡ c.args.count = omega (arith, least, few) in e)))
    (subst P same (c.in_ok-step.ensures.step [] c.new-reader.ensures)) (subst Q c.in-None.is (c.in_ok-one.ensures {u = tt}))
    (λ more. subst R same (c.feed.ensures.more [] c.new-reader.ensures (c.in_ok-step.was {u = tt} ∙ ap (λ (s : HeadStep). Ok s) more)))
