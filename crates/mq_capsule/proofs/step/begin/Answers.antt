use Rattle.std.proofs.Common.{◌≡◌, ℕ, List, Bool, Some, length}
use Rattle.std.proofs.lemmas.Result.{IfOk-weaker}
use Rattle.mq_capsule.specs.declared.step.Step.{Step}
use Rattle.mq_capsule.specs.Fronts.{front_of}
use Rattle.mq_capsule.specs.Steps.{IsKept, IsStep}
use Rattle.mq_capsule.proofs.Steps.{stop_step, kept_first}
use Rattle.mq_capsule.proofs.step.begin.Goals as goal

pub returns-in-Keep-clause-gives : goal.returns-in-Keep-clause-gives
returns-in-Keep-clause-gives c =
    let piece = c.args.piece.now in
    let size = c.in-Keep.length in
    let P : Step → Type 0 = λ s. (control : Bool) (rest : List ℕ) → IsKept control c.in-Keep.what c.new.result.items size rest → IsStep control rest piece s in
    let Q : Step → Type 0 = λ s. (control : Bool) (rest : List ℕ) → front_of control rest ≡ Some (record { plan = c.args.plan; used = length rest }) → IsStep control rest piece s in
    IfOk-weaker c.read_kept.result P Q
    (λ s gives control rest front. gives control rest (kept_first control rest c.args.plan c.in-Keep.what size c.new.result.items c.in-Keep.is c.new.ensures.items front))
    c.read_kept.ensures.gives

pub returns-in-Stop-clause-gives : goal.returns-in-Stop-clause-gives
returns-in-Stop-clause-gives c = λ control rest front. stop_step control rest c.args.piece.now c.args.plan c.in-Stop.fault c.in-Stop.is front
