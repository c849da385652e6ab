use Rattle.std.proofs.Common.{◌≡◌, length}
use Rattle.mq_addr.specs.Packet.{ones_sum_from}
use Rattle.mq_iphdr.proofs.checksum.ones_sum_from.Given as goal

-- the sum so far and the rest come to the sum of all
abbrev pub invariant-loop-rest : goal.invariant-loop-rest
invariant-loop-rest l = ones_sum_from l.sum l.rest ≡ ones_sum_from l.before l.bytes

abbrev pub decreases-loop-rest : goal.decreases-loop-rest
decreases-loop-rest l = length l.rest
