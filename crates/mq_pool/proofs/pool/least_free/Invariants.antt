use Rattle.mq_addr.specs.Cover.{IsLeast}
use Rattle.mq_pool.specs.Search.{IsAmong}
use Rattle.mq_pool.proofs.pool.least_free.Given as goal

abbrev pub invariant-loop-whole : goal.invariant-loop-whole
invariant-loop-whole l = IsLeast (λ block. IsAmong l.pool l.taken l.version l.length l.whole-index block) l.best
