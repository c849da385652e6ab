use Rattle.std.proofs.Common.{◌≡◌, ℕ, ◌++◌, List, length}
use Rattle.mq_output.specs.Printing.{Adds}
use Rattle.mq_output.proofs.output.write_front.Given as goal

-- the bytes before the rest were taken
abbrev pub invariant-loop-rest : goal.invariant-loop-rest
invariant-loop-rest g l =
    (front : List ℕ) × Adds (g.K.Sink.taken l.initial.sink) (g.K.Sink.taken l.sink) front × (l.bytes ≡ front ++ l.rest)
    × (g.K.Sink.faults l.sink ≡ g.K.Sink.faults l.initial.sink)

abbrev pub decreases-loop-rest : goal.decreases-loop-rest
decreases-loop-rest g l = length l.rest
