use Rattle.std.proofs.Common.{◌≡◌, length}
use Rattle.mq_head.specs.Target.{skip_authority}
use Rattle.mq_head.proofs.target.skip_authority.Given as goal

abbrev pub invariant-loop-text : goal.invariant-loop-text
invariant-loop-text l = skip_authority l.text ≡ skip_authority l.fn.text

abbrev pub decreases-loop-text : goal.decreases-loop-text
decreases-loop-text l = length l.text
