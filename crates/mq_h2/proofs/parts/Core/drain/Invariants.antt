use Rattle.std.proofs.Common.{drop, take}
use Rattle.mq_h2.specs.State.{State, with_history}
use Rattle.mq_h2.specs.Reading.{drained}
use Rattle.mq_h2.specs.Stand.{Serves}
use Rattle.mq_h2.specs.Doing.{AreWithdrawn, AreHeld, Keeps}
use Rattle.mq_h2.proofs.parts.Core.drain.Given as goal

-- the DATA of the events so far is consumed, where it was withdrawn, and that of the others isn't yet
abbrev pub invariant-loop-event : goal.invariant-loop-event
invariant-loop-event l = record {
  serves : AreWithdrawn l.gone.ids.items l.events → (s : State) → Serves l.initial.self s → AreHeld l.events s.history
      → Serves l.self (with_history (drained l.events (take l.event-index l.events) s.history) s)
      × AreHeld (drop l.event-index l.events) (drained l.events (take l.event-index l.events) s.history);
  keeps : Keeps l.initial.self l.self;
}
