use Rattle.std.proofs.Common.{◌≡◌, length}
use Rattle.mq_head.specs.Short.{behind}
use Rattle.mq_head.proofs.short.behind.Given as goal

abbrev pub invariant-loop-bytes : goal.invariant-loop-bytes
invariant-loop-bytes l = behind l.byte l.bytes ≡ behind l.byte l.fn.bytes

abbrev pub decreases-loop-bytes : goal.decreases-loop-bytes
decreases-loop-bytes l = length l.bytes
