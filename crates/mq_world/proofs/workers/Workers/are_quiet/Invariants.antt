use Rattle.mq_machine.specs.State.{State}
use Rattle.mq_world.specs.Worlds.{IsWorld}
use Rattle.mq_world.proofs.Quieting.{NoneBefore}
use Rattle.mq_world.proofs.workers.Workers.are_quiet.Given as goal

-- none of so many workers has a turn
abbrev pub invariant-loop-number : goal.invariant-loop-number
invariant-loop-number l = (s : State) → IsWorld l.fn.self s → NoneBefore s l.number
