use Rattle.std.proofs.Common.{length, ◌-◌, ◌≡◌, ◌≤◌, ◌++◌, drop}
use Rattle.mq_route.specs.Puts.{put}
use Rattle.mq_route.proofs.put.put.Given as goal

-- what is written, and what is to be put into what is left
abbrev pub invariant-loop-next : goal.invariant-loop-next
invariant-loop-next l = record { within : l.next ≤ length l.list; same : l.new.items ++ put l.joined (drop l.next l.list) ≡ put l.fn.range l.list }

abbrev pub decreases-loop-next : goal.decreases-loop-next
decreases-loop-next l = length l.list - l.next
