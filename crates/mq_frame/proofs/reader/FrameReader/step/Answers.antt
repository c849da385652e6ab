use Rattle.std.proofs.Common.{ℕ, List, [], ◌∷◌, refl, sym, subst, ◌∙◌, append-nil}
use Rattle.mq_frame.specs.declared.state.State.{State}
use Rattle.mq_frame.specs.Steps.{Holds, all_taken}
use Rattle.mq_frame.proofs.Readers.{went_none, went_some}
use Rattle.mq_frame.proofs.reader.FrameReader.step.Goals as goal

pub returns-in-None-clause-went : goal.returns-in-None-clause-went
returns-in-None-clause-went c =
    let step = λ (rest : List ℕ) (h : Holds c.args.self.now.state rest).
    let P : State → Type 0 = λ s. Holds s rest in
    c.in_ok-state.ensures.gives rest (subst P (sym (c.replace-state.ensures.value ∙ c.in_ok-take_in_place.ensures.leaves c.if-branch.false)) h) in
    ([], sym (append-nil c.args.frames.now.items), went_none c.args.self.now c.in_ok-state.field-0 c.args.piece.now c.requires c.in-None.is step)

pub returns-in_ok-push-in-Some-clause-went : goal.returns-in_ok-push-in-Some-clause-went
returns-in_ok-push-in-Some-clause-went c =
    let step = λ (rest : List ℕ) (h : Holds c.args.self.now.state rest).
    let P : State → Type 0 = λ s. Holds s rest in
    c.in_ok-state.ensures.gives rest (subst P (sym (c.replace-state.ensures.value ∙ c.in_ok-take_in_place.ensures.leaves c.if-branch.false)) h) in (
      c.in-Some.frame ∷ [],
      c.in_ok-push-in-Some.ensures.items,
      went_some c.args.self.now c.in_ok-state.field-0 c.args.piece.now c.in-Some.frame c.behind-self.result c.requires c.in-Some.is c.behind-self.ensures step,
    )

pub returns-then-branch-clause-went : goal.returns-then-branch-clause-went
returns-then-branch-clause-went c = (
  [],
  sym (append-nil c.args.frames.now.items),
  went_none c.args.self.now (all_taken c.take_in_place.new.state c.args.piece.now) c.args.piece.now c.requires refl
      (c.in_ok-take_in_place.ensures.takes c.if-branch.true c.args.self.now.place),
)
