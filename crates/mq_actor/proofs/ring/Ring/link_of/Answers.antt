use Rattle.std.proofs.Common.{refl}
use Rattle.mq_actor.proofs.Lending.{conn_link}
use Rattle.mq_actor.proofs.ring.Ring.link_of.Goals as goal

pub returns : goal.returns
returns g c = ((refl, λ w. conn_link c.args.self.now c.args.place w), record { writes_back = tt; value = c.link.ensures.value })
