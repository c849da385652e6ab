use Rattle.std.proofs.Common.{◌≡◌, ◌++◌, length}
use Rattle.mq_frame.specs.Table.{pairs_of}
use Rattle.mq_frame.proofs.settings.pairs.Given as goal

-- the pairs so far, and those of the bytes that are left
abbrev pub invariant-loop-pair : goal.invariant-loop-pair
invariant-loop-pair l = l.pairs.items ++ pairs_of l.rest ≡ pairs_of l.contents

abbrev pub decreases-loop-pair : goal.decreases-loop-pair
decreases-loop-pair l = length l.rest
