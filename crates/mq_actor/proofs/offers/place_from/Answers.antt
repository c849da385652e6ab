use Rattle.std.proofs.Common.{rules, of_calls, nat_lt}
use Rattle.std.proofs.lemmas.Fn.{always_returns_same}
use Rattle.mq_actor.proofs.Rising.{below_first}
use Rattle.mq_actor.proofs.offers.place_from.Goals as goal

pub returns : goal.returns
returns g c =
    let number = c.args.number in
    c.partition_point.ensures.partitioned (λ f. nat_lt f.number number) (always_returns_same _ _ _ (λ a r f k. search (rules, of_calls)))
    (below_first c.args.list.now.items number c.requires)
