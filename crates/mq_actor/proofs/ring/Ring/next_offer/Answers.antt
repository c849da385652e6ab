use Rattle.std.proofs.Common.{◌∙◌, refl, sym, arith}
use Rattle.mq_actor.proofs.Fronts.{front_is}
use Rattle.mq_actor.proofs.ring.Ring.next_offer.Goals as goal

pub returns : goal.returns
returns g c =
    let first = front_is c.args.self.now.offered.items c.in-Some.first.now c.in-Some.ensures in
    let len = c.len.ensures in
    let lt = c.if-len-ge-MOST_LIVE.false in
    (sym c.is_in.ensures ∙ c.if-not-is_in.false, omega (arith, len, lt), c.in-Some.first.now, first.0, first.1, refl)
