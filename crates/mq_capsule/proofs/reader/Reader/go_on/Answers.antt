use Rattle.std.proofs.Common.{None, refl, ◌∙◌}
use Rattle.mq_capsule.specs.Steps.{all_taken}
use Rattle.mq_capsule.proofs.Readers.{went_step, some_used, step_boundary}
use Rattle.mq_capsule.proofs.reader.Reader.go_on.Goals as goal

pub returns-clause-some : goal.returns-clause-some
returns-clause-some c =
    some_used c.args.self.now c.replace-state.result c.args.piece.now c.in_ok-state.field-0
    (c.replace-state.ensures.value ∙ c.in_ok-take_in_place.ensures.leaves c.if-branch.false) c.in_ok-state.ensures.some c.in_ok-state.ensures.ended

pub returns-clause-went : goal.returns-clause-went
returns-clause-went c =
    went_step c.args.self.now c.replace-state.result c.args.piece.now c.in_ok-state.field-0 c.in_ok-state.field-0.told (c.replace-state.ensures.value ∙ c.in_ok-take_in_place.ensures.leaves c.if-branch.false) refl
    c.in_ok-state.ensures.gives c.in_ok-state.ensures.ended

pub returns-then-branch-clause-went : goal.returns-then-branch-clause-went
returns-then-branch-clause-went c =
    went_step c.args.self.now c.args.self.now.state c.args.piece.now (all_taken c.take_in_place.new.state c.args.piece.now) None refl refl
    (c.in_ok-take_in_place.ensures.takes c.if-branch.true c.args.self.now.control) (c.in_ok-take_in_place.ensures.open c.if-branch.true)

pub returns-clause-boundary : goal.returns-clause-boundary
returns-clause-boundary c =
    step_boundary c.args.self.now c.replace-state.result c.args.piece.now c.in_ok-state.field-0
    (c.replace-state.ensures.value ∙ c.in_ok-take_in_place.ensures.leaves c.if-branch.false) c.in_ok-state.ensures.gives c.in_ok-state.ensures.far
    c.in_ok-state.ensures.ended
