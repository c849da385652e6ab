use Rattle.std.proofs.Common.{◌≡◌, ℕ, List, ◌++◌, length, take, None, ◌∙◌, sym, ap, subst, arith}
use Rattle.mq_capsule.specs.Fronts.{front_of}
use Rattle.mq_capsule.specs.Steps.{IsStep}
use Rattle.mq_capsule.proofs.Fronts.{front_none}
use Rattle.mq_capsule.proofs.Steps.{front_on, front_cut, step_behind, IsCut}
use Rattle.mq_capsule.proofs.step.read_front.Goals as goal
use Rattle.mq_capsule.proofs.step.read_front.Goals.{After-saturating_sub-lacking}

pub returns-in-None-clause-some : goal.returns-in-None-clause-some
returns-in-None-clause-some c = λ none there. omega (arith, front_none c.args.control c.args.front.items none)

pub returns-in-None-clause-gives : goal.returns-in-None-clause-gives
returns-in-None-clause-gives c = λ none.
    let seen : c.as_slice.result.now ≡ c.args.front.items ++ take c.min-taken.result c.args.piece.now =
    c.as_slice.ensures.value ∙ c.in-Ok.ensures.ok ∙ ap (λ (b : List ℕ). c.args.front.items ++ b) c.split_at.ensures.front in
    front_on c.args.control c.args.front.items c.args.piece.now c.as_slice.result.now c.min-taken.result _ seen (sym c.in-None.ensures.is)
    (λ there. (sym seen ∙ c.as_slice.ensures.value, there.1))

-- the bytes of the front that were lacking
cut : (c : After-saturating_sub-lacking) → front_of c.args.control c.args.front.items ≡ None
    → IsCut c.args.control c.args.front.items c.args.piece.now c.in-Some.front c.saturating_sub-lacking.result
cut c none =
    let seen : c.as_slice.result.now ≡ c.args.front.items ++ take c.min-taken.result c.args.piece.now =
    c.as_slice.ensures.value ∙ c.in-Ok.ensures.ok ∙ ap (λ (b : List ℕ). c.args.front.items ++ b) c.split_at.ensures.front in
    front_cut c.args.control c.args.front.items c.args.piece.now c.min-taken.result c.saturating_sub-lacking.result c.in-Some.front none
    (ap (front_of c.args.control) (sym seen) ∙ sym c.in-Some.ensures.is) (omega arith) (omega arith)

pub returns-in_ok-state-in-Some-clause-some : goal.returns-in_ok-state-in-Some-clause-some
returns-in_ok-state-in-Some-clause-some c = λ none there.
    let lacking = (cut (goal.at.returns-in_ok-state-in-Some-clause-some c).After-saturating_sub-lacking none).some in omega arith

pub returns-in_ok-state-in-Some-clause-gives : goal.returns-in_ok-state-in-Some-clause-gives
returns-in_ok-state-in-Some-clause-gives c = λ none.
    let piece = c.args.piece.now in
    let rest = c.args.front.items ++ take c.saturating_sub-lacking.result piece in
    let front = (cut (goal.at.returns-in_ok-state-in-Some-clause-gives c).After-saturating_sub-lacking none).front_is in
    let P : List ℕ → Type 0 = λ p. IsStep c.args.control rest p c.in_ok-state-in-Some.field-0 in
    step_behind c.args.control c.args.front.items piece c.saturating_sub-lacking.result c.in_ok-state-in-Some.field-0
    (subst P c.split_at-in-Some.ensures.back (c.in_ok-state-in-Some.ensures.gives c.args.control rest front))

-- a front has fewer bytes than there is room for
pub returns-in-None-clause-far : goal.returns-in-None-clause-far
returns-in-None-clause-far c = λ less.
    let seen = front_none c.args.control c.as_slice.result.now (sym c.in-None.ensures.is) in
    absurd (omega (arith, less, seen, ap length c.as_slice.ensures.value, c.in-Ok.ensures.len))
