use Rattle.std.proofs.Common.{◌≡◌, length}
use Rattle.mq_head.specs.Heads.{skip_line_bytes}
use Rattle.mq_head.proofs.line.skip_line_bytes.Given as goal

abbrev pub invariant-loop-bytes : goal.invariant-loop-bytes
invariant-loop-bytes l = skip_line_bytes l.bytes ≡ skip_line_bytes l.fn.bytes

abbrev pub decreases-loop-bytes : goal.decreases-loop-bytes
decreases-loop-bytes l = length l.bytes
