use Rattle.mq_front.proofs.OneStream.{ends_with, ends_without}
use Rattle.mq_front.proofs.http1.Http1.end.Goals as goal

pub returns-in-Some : goal.returns-in-Some
returns-in-Some c = ends_with c.args.self.now c.in-Some.stream c.end.result c.in-Some.is c.end.ensures

pub returns-in-None : goal.returns-in-None
returns-in-None c = ends_without c.args.self.now c.in-None.is
