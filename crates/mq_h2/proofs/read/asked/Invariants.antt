use Rattle.std.proofs.Common.{◌≡◌, ℕ, take, eqb}
use Rattle.std.specs.List.{list_any}
use Rattle.mq_h2.specs.Reading.{asks}
use Rattle.mq_h2.proofs.read.asked.Given as goal

-- of the events so far, the requests' streams
abbrev pub invariant-loop-event : goal.invariant-loop-event
invariant-loop-event l = (id : ℕ) → list_any (λ g. eqb g id) l.ids.items ≡ list_any (asks id) (take l.event-index l.events)
