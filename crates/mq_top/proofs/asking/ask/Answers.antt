use Rattle.std.proofs.Common.{refl}
use Rattle.mq_top.proofs.Asked.{asks_none}
use Rattle.mq_top.proofs.asking.ask.Goals as goal

pub udp-requires-clause-size : goal.udp-requires-clause-size
udp-requires-clause-size g c κs within = c.in-Ok.ensures.fits c.args.words.host c.args.words.target_port refl

pub returns-clause-asks : goal.returns-clause-asks
returns-clause-asks g c = asks_none c.args.words (g.S.Source.left c.args.source.now) (g.K.Sink.taken c.args.sink.now) _
