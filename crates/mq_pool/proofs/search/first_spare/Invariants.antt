use Rattle.std.proofs.Common.{◌-◌, ◌^◌}
use Rattle.mq_addr.specs.Block.{width}
use Rattle.mq_pool.specs.Search.{IsStart, NoneBefore}
use Rattle.mq_pool.proofs.search.first_spare.Given as goal

-- a start, before which no block is spare
abbrev pub invariant-loop-block : goal.invariant-loop-block
invariant-loop-block l = record { start : IsStart l.whole l.length l.at; none : NoneBefore l.whole l.taken l.length 0 l.at }

abbrev pub decreases-loop-block : goal.decreases-loop-block
decreases-loop-block l = 2 ^ width l.whole.addr - l.at
