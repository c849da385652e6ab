use Rattle.mq_mem.proofs.Lists.{rest_all}
use Rattle.mq_mem.specs.Outsides.{IsNew}
use Rattle.mq_mem.proofs.acceptor.MemAcceptorAcceptor.next.Goals as goal

pub invariant_of-self-2 : goal.invariant_of-self-2
invariant_of-self-2 c = rest_all IsNew c.self.inside.coming.items c.pop_front.new.self.items c.pop_front.ensures.rest c.self.invariant
