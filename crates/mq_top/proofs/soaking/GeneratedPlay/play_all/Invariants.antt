use Rattle.std.proofs.Common.{ℕ, List, length}
use Rattle.mq_top.specs.Soaking.{IsSoaking}
use Rattle.mq_top.proofs.soaking.GeneratedPlay.play_all.Given as goal

-- the lines so far were played
abbrev pub invariant-loop-line : goal.invariant-loop-line
invariant-loop-line l = (lines : List (List ℕ)) → IsSoaking l.initial.self lines → IsSoaking l.self lines

abbrev pub decreases-loop-line : goal.decreases-loop-line
decreases-loop-line l = length l.self.generator
