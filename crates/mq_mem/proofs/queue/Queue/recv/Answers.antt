use Rattle.std.proofs.Common.{ℕ, ◌≤◌, List, length}
use Rattle.mq_mem.proofs.Lists.{rest_all}
use Rattle.mq_mem.proofs.queue.Queue.recv.Goals as goal

pub invariant_of-self-in-Some-1 : goal.invariant_of-self-in-Some-1
invariant_of-self-in-Some-1 c = rest_all (λ (datagram : List ℕ). length datagram ≤ 65535) c.self.inside.arrived.items c.pop_front.new.self.items c.pop_front.ensures.rest c.self.invariant
