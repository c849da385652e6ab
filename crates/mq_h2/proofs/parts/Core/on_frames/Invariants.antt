use Rattle.mq_h2.specs.State.{State}
use Rattle.mq_h2.specs.Frames.{DoAll}
use Rattle.mq_h2.specs.Stand.{Goes}
use Rattle.mq_h2.specs.Doing.{Gave}
use Rattle.mq_h2.proofs.parts.Core.on_frames.Given as goal

-- the frames so far were done
abbrev pub invariant-loop-frame : goal.invariant-loop-frame
invariant-loop-frame l = (s : State) → Goes l.initial.self s → Gave (DoAll l.yielded s) l.initial.events.items l.events.items l.self
