use Rattle.std.proofs.Common.{refl}
use Rattle.mq_actor.proofs.Lending.{offer_link}
use Rattle.mq_actor.proofs.ring.Ring.offered_at.Goals as goal

pub returns : goal.returns
returns g c = ((refl, λ w. offer_link c.args.self.now c.args.place w), record { writes_back = tt; value = c.link.ensures.value })
