use Rattle.std.proofs.Common.{◌≡◌, length}
use Rattle.mq_h2.specs.Fields.{has_late_pseudo}
use Rattle.mq_h2.proofs.fields.has_late_pseudo.Given as goal

abbrev pub invariant-loop-rest : goal.invariant-loop-rest
invariant-loop-rest l = has_late_pseudo l.fields ≡ has_late_pseudo l.rest

abbrev pub decreases-loop-rest : goal.decreases-loop-rest
decreases-loop-rest l = length l.rest
