use Rattle.std.proofs.Common.{◌≤◌}
use Rattle.mq_streams.specs.declared.stream.Stream.{Stream}
use Rattle.mq_streams.proofs.Place.{rise_without, all_without}
use Rattle.mq_streams.proofs.table.Table.remove.Goals as goal

pub invariant_of-self-clause-rising : goal.invariant_of-self-clause-rising
invariant_of-self-clause-rising c = rw c.remove.ensures.items (rise_without _ _ c.requires c.args.self.now.rising)

pub invariant_of-self-clause-begun : goal.invariant_of-self-clause-begun
invariant_of-self-clause-begun c = rw c.remove.ensures.items (all_without _ _ c.requires (λ (row : Stream). row.id ≤ c.args.self.now.highest) c.args.self.now.begun)
