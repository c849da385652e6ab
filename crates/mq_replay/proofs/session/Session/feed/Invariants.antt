use Rattle.std.proofs.Common.{◌≡◌, ℕ, ◌++◌, List, length}
use Rattle.mq_output.specs.Printing.{Prints}
use Rattle.mq_replay.specs.Reading.{IsRead}
use Rattle.mq_replay.proofs.session.Session.feed.Given as goal

-- the bytes before the rest were read
abbrev pub invariant-loop-end : goal.invariant-loop-end
invariant-loop-end g l =
    (front : List ℕ) × (shown : List ℕ) × (l.bytes ≡ front ++ l.rest)
    × Prints g.K.Sink.taken l.initial.output l.output shown
    × ((script : List ℕ) (lines : List (List ℕ)) (text : List ℕ) → IsRead l.initial.self script lines text
    → (now : List (List ℕ)) × IsRead l.self (script ++ front) now (text ++ shown))
    × (g.K.Sink.faults l.output.sink.now ≡ g.K.Sink.faults l.initial.output.sink.now)

abbrev pub decreases-loop-end : goal.decreases-loop-end
decreases-loop-end g l = length l.rest
