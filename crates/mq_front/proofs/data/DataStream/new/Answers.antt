use Rattle.std.proofs.Common.{Bool, [], refl, subst}
use Rattle.mq_capsule.specs.Readers.{Stands}
use Rattle.mq_front.proofs.Values.{fresh}
use Rattle.mq_front.proofs.data.DataStream.new.Goals as goal

pub returns : goal.returns
returns c =
    let P : Bool → Type 0 = λ control. Stands c.new.result control [] in
    fresh (record { id = c.args.id; kind = c.kind_of.result; reader = c.new.result; n = 0 }) c.args.id c.args.goal refl c.kind_of.ensures refl (subst P c.has_values.ensures c.new.ensures)
