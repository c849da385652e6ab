use Rattle.std.proofs.Common.{refl}
use Rattle.mq_actor.proofs.Lends.{link_stands, link_numbers}
use Rattle.mq_actor.proofs.actor.Actor.link.Goals as goal

pub returns : goal.returns
returns g c = (
  refl,
  record {
    writes_back = tt;
    value = c.link.ensures.value;
    stands = λ link w stood. link_stands g.P.P.Port.most c.args.self.now.table.table c.args.self.now.ring w stood c.args.conn link;
    numbers = λ link. link_numbers c.args.self.now.ring c.args.conn link;
  },
)
