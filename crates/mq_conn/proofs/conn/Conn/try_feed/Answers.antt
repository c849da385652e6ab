use Rattle.mq_conn.proofs.Feeding.{takes_so}
use Rattle.mq_conn.proofs.conn.Conn.try_feed.Goals as goal

pub returns-clause-takes : goal.returns-clause-takes
returns-clause-takes c =
    takes_so c.args.self.now c.read.new.self c.prepare.new.self c.settle.new.self c.args.setup.now c.args.piece.now c.is_asked_once.ensures.reads c.what_is_told_is_held.ensures c.in_ok-read.ensures.reads
    c.in_ok-prepare.ensures.0 c.in_ok-prepare.ensures.1 c.settle.ensures
