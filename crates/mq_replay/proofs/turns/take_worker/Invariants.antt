use Rattle.std.proofs.Common.{◌≡◌, ℕ, ◌-◌, ◌≤◌, List, [], length}
use Rattle.std.specs.Prelude.{find}
use Rattle.mq_machine.specs.State.{State}
use Rattle.mq_machine.specs.Turn.{has_turn}
use Rattle.mq_replay.specs.Playing.{workers_from}
use Rattle.mq_replay.proofs.turns.take_worker.Given as goal
use Rattle.mq_world.specs.Worlds.{IsWorld}

-- no worker before this one has a step
abbrev pub invariant-loop-number : goal.invariant-loop-number
invariant-loop-number g l =
    (shown : List ℕ) × g.L.Listener.hears l.initial.listener l.listener shown
    × ((s : State) → IsWorld l.initial.world s → l.to ≤ length s.workers
    → (shown ≡ []) × IsWorld l.world s × (find (has_turn s) (workers_from l.from (l.to - l.from)) ≡ find (has_turn s) (workers_from l.number (l.to - l.number))))
    × (g.L.Listener.faults l.listener ≡ g.L.Listener.faults l.initial.listener)

abbrev pub decreases-loop-number : goal.decreases-loop-number
decreases-loop-number g l = l.to - l.number
