use Rattle.std.proofs.Common.{◌≡◌, length}
use Rattle.mq_head.specs.Short.{last_line}
use Rattle.mq_head.proofs.short.last_line.Given as goal

abbrev pub invariant-loop-rest : goal.invariant-loop-rest
invariant-loop-rest l = last_line l.bytes ≡ last_line l.fn.bytes

abbrev pub decreases-loop-rest : goal.decreases-loop-rest
decreases-loop-rest l = length l.bytes
