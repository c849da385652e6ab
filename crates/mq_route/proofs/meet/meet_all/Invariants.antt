use Rattle.mq_route.specs.Puts.{IsMeetBelow}
use Rattle.mq_route.proofs.meet.meet_all.Given as goal

abbrev pub invariant-loop-range : goal.invariant-loop-range
invariant-loop-range l = IsMeetBelow l.ranges l.area l.asked l.range-index l.list.items
