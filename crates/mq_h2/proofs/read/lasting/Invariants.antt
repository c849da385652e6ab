use Rattle.std.proofs.Common.{◌≡◌}
use Rattle.std.specs.List.{filter}
use Rattle.mq_h2.specs.Reading.{lasts}
use Rattle.mq_h2.specs.Doing.{AreWithdrawn}
use Rattle.mq_h2.proofs.read.lasting.Given as goal

-- of the events so far, those that last
abbrev pub invariant-loop-event : goal.invariant-loop-event
invariant-loop-event l = AreWithdrawn l.gone.ids.items l.fn.events.items → l.told.items ≡ filter (lasts l.fn.events.items) l.yielded
