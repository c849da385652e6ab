use Rattle.std.proofs.Common.{◌≡◌, drop}
use Rattle.mq_streams.specs.History.{History}
use Rattle.mq_h2.specs.State.{State, with_history}
use Rattle.mq_h2.specs.Frames.{shifts}
use Rattle.mq_h2.specs.Stand.{Goes}
use Rattle.mq_h2.proofs.parts.Core.shift.Given as goal

-- the settings so far were applied
abbrev pub invariant-loop-pair : goal.invariant-loop-pair
invariant-loop-pair l = (s : State) → Goes l.initial.self s →
    (h : History) × (shifts l.pairs s.history ≡ shifts (drop l.pair-index l.pairs) h) × Goes l.self (with_history h s)
