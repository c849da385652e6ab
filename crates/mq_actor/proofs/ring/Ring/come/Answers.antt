use Rattle.mq_actor.proofs.Parcels.{comes_first, misses}
use Rattle.mq_actor.proofs.ring.Ring.come.Goals as goal

pub returns-in-None-clause-comes : goal.returns-in-None-clause-comes
returns-in-None-clause-comes g c =
    misses c.args.parcel c.in-Tunnel.tunnel c.in-Tunnel.actor c.args.self.now.conns.items c.gone-in-None.result c.source_of-in-None.result c.in-Tunnel.is
    c.source_of-in-None.ensures c.in-None.ensures c.gone-in-None.ensures

pub returns-in-Some-clause-comes : goal.returns-in-Some-clause-comes
returns-in-Some-clause-comes g c =
    comes_first c.args.parcel c.in-Tunnel.tunnel c.in-Tunnel.actor c.in-Some.place c.args.self.now.conns.items c.come_at.new.self.items c.come_at.result
    c.in-Tunnel.is c.in-Some.ensures c.come_at.ensures
