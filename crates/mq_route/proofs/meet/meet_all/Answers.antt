use Rattle.std.proofs.Common.{◌≡◌, get_or, length, subst, arith}
use Rattle.std.proofs.lemmas.List.{get_or_default}
use Rattle.mq_addr.specs.declared.addr.Addr.TheVariants.{V4}
use Rattle.mq_addr.specs.declared.range.Range.{Range}
use Rattle.mq_route.specs.Puts.{IsMeetBelow}
use Rattle.mq_route.proofs.Meets.{one_more, all_met, ordered}
use Rattle.mq_route.proofs.meet.meet_all.Goals as goal

pub loop-range-preserved : goal.loop-range-preserved
loop-range-preserved c =
    let zero : Range = record { first = V4 0; last = V4 0; protocol = 0 } in
    one_more c.args.ranges.now (get_or c.args.ranges.now c.loop-range.range-index zero) c.args.area.now c.args.asked c.loop-range.range-index c.loop-range.list.items c.in_ok-list.list.items
    (λ d. get_or_default c.args.ranges.now c.loop-range.range-index d zero c.loop-range-test.true) c.loop-range.invariant c.in_ok-list.ensures

pub returns-clause-meet : goal.returns-clause-meet
returns-clause-meet c =
    let all : c.loop-range.range-index ≡ length c.args.ranges.now = omega arith in
    all_met c.args.ranges.now c.args.area.now c.args.asked c.loop-range.list.items
    (subst (λ n. IsMeetBelow c.args.ranges.now c.args.area.now c.args.asked n c.loop-range.list.items) all c.loop-range.invariant)

pub returns-clause-ordered : goal.returns-clause-ordered
returns-clause-ordered c = ordered c.loop-range.list.items c.loop-range.invariant.maximal
