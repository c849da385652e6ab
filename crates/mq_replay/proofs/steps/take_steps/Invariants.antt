use Rattle.std.proofs.Common.{◌≡◌, ℕ, List}
use Rattle.mq_machine.specs.State.{State}
use Rattle.mq_play.specs.Play.{actor_of}
use Rattle.mq_replay.specs.Playing.{IsAt}
use Rattle.mq_replay.proofs.Onward.{Far}
use Rattle.mq_replay.proofs.steps.take_steps.Given as goal
use Rattle.mq_world.specs.Worlds.{IsWorld}

-- the steps so far were taken and shown
abbrev pub invariant-loop-left : goal.invariant-loop-left
invariant-loop-left g l =
    (shown : List ℕ) × g.L.Listener.hears l.initial.listener l.listener shown
    × ((s : State) → IsWorld l.initial.world s → IsAt s l.number (actor_of l.name)
    → (t : State) × IsWorld l.world t × IsAt t l.number (actor_of l.name) × Far g.L.Listener.may_hear s (actor_of l.name) l.count shown t l.left)
    × (g.L.Listener.faults l.listener ≡ g.L.Listener.faults l.initial.listener)

abbrev pub decreases-loop-left : goal.decreases-loop-left
decreases-loop-left g l = l.left
