use Rattle.std.proofs.Common.{◌≡◌, ◌≢◌, ◌<◌, ℕ, Some, slice_get}
use Rattle.mq_front.specs.declared.data.DataStream.{DataStream}
use Rattle.mq_front.proofs.event.place_of.Given as goal

abbrev pub invariant-loop-place : goal.invariant-loop-place
invariant-loop-place l = record {
  passed : (other : ℕ) (d : DataStream) → other < l.place → slice_get l.streams other ≡ Some d → d.id ≢ l.id;
}
