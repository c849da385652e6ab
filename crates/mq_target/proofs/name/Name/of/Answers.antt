use Rattle.std.proofs.Common.{subst, sym}
use Rattle.mq_target.specs.Names.{IsLowercaseName}
use Rattle.mq_target.proofs.Low.{low_name}
use Rattle.mq_target.proofs.name.Name.of.Goals as goal

pub invariant_of-result : goal.invariant_of-result
invariant_of-result c =
    subst IsLowercaseName (sym c.in_ok-text.ensures) (low_name c.args.text.now (c.is_name.ensures.0 c.if-not-is_name.false))
