use Rattle.std.proofs.Common.{◌≡◌, ℕ, List}
use Rattle.mq_machine.specs.State.{State}
use Rattle.mq_replay.proofs.Round.{Round}
use Rattle.mq_replay.proofs.turns.take_turns.Given as goal
use Rattle.mq_world.specs.Worlds.{IsWorld}

-- the steps so far were taken and shown
abbrev pub invariant-loop-left : goal.invariant-loop-left
invariant-loop-left g l =
    (shown : List ℕ) × g.L.Listener.hears l.initial.listener l.listener shown
    × ((s : State) → IsWorld l.initial.world s → (t : State) × IsWorld l.world t × Round g.L.Listener.may_hear s l.count shown t l.at l.left)
    × (g.L.Listener.faults l.listener ≡ g.L.Listener.faults l.initial.listener)

abbrev pub decreases-loop-left : goal.decreases-loop-left
decreases-loop-left g l = l.left
