use Rattle.mq_front.proofs.Fronts.{more_all, frames_all}
use Rattle.mq_front.proofs.front.Front.read.Goals as goal

pub returns-in-Http1 : goal.returns-in-Http1
returns-in-Http1 g c =
    more_all c.args.setup.now (g.T.Tunnels.list c.args.tunnels.now) c.args.piece.now c.args.due.now c.read.new.due c.args.self.now c.in-Http1.one c.read.new.self c.read.result c.in-Http1.is c.read.ensures

pub returns-in-Http2 : goal.returns-in-Http2
returns-in-Http2 g c =
    frames_all c.reads_stand_apart.ensures c.args.setup.now (g.T.Tunnels.list c.args.tunnels.now) c.args.piece.now c.args.due.now c.read-in-Http2.new.due c.args.self.now c.in-Http2.many c.read-in-Http2.new.self
    c.read-in-Http2.result c.in-Http2.is c.read-in-Http2.ensures
