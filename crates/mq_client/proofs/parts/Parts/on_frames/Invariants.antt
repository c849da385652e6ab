use Rattle.std.proofs.Common.{false}
use Rattle.mq_client.specs.Session.{Session}
use Rattle.mq_client.specs.Frames.{DoAll}
use Rattle.mq_client.specs.Talking.{Goes, Gave}
use Rattle.mq_client.proofs.parts.Parts.on_frames.Given as goal

-- the frames so far were done
abbrev pub invariant-loop-frame : goal.invariant-loop-frame
invariant-loop-frame l = (s : Session) → Goes l.initial.self s → Gave (DoAll false l.yielded s) l.initial.events.items l.events.items false l.self
