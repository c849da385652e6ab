use Rattle.std.proofs.Common.{arith}
use Rattle.mq_conn.specs.Queues.{behind}
use Rattle.mq_conn.proofs.queue.Queue.left.Goals as goal

pub returns : goal.returns
returns c =
    let e = c.in-Some.ensures in (
      behind e.0 c.in-Some.first.now,
      e.1,
      e.2,
      omega (arith, c.size.ensures, c.framed.ensures (behind e.0 c.in-Some.first.now) e.1 e.2, c.saturating_sub.ensures),
      omega (arith, c.size.ensures, c.saturating_sub.ensures, e.3),
    )
