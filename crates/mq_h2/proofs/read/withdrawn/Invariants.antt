use Rattle.std.proofs.Common.{◌≡◌, ℕ, take, eqb, ◌&&◌}
use Rattle.std.specs.List.{list_any}
use Rattle.mq_h2.specs.Reading.{resets}
use Rattle.mq_h2.proofs.read.withdrawn.Given as goal

-- of the resets so far, those of streams whose requests came
abbrev pub invariant-loop-event : goal.invariant-loop-event
invariant-loop-event l = (id : ℕ) → list_any (λ g. eqb g id) l.gone.items ≡ (list_any (λ g. eqb g id) l.asked.ids.items && list_any (resets id) (take l.event-index l.events))
