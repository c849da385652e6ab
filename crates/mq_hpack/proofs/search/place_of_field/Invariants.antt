use Rattle.std.proofs.Common.{◌≡◌}
use Rattle.mq_hpack.specs.Encoder.{NoneBefore}
use Rattle.mq_hpack.proofs.search.place_of_field.Given as goal

abbrev pub invariant-loop-at : goal.invariant-loop-at
invariant-loop-at l = NoneBefore l.at (λ g. g ≡ l.field)
