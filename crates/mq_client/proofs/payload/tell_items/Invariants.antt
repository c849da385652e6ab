use Rattle.mq_client.proofs.Told.{Told}
use Rattle.mq_client.proofs.payload.tell_items.Given as goal

-- what the items so far bring was told, and the last event isn't among it
abbrev pub invariant-loop-item : goal.invariant-loop-item
invariant-loop-item l = Told l.yielded l.initial.events.items l.events.items
