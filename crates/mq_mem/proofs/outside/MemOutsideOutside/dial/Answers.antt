use Rattle.mq_mem.proofs.Lists.{rest_all}
use Rattle.mq_mem.specs.Outsides.{IsNew}
use Rattle.mq_mem.proofs.outside.MemOutsideOutside.dial.Goals as goal

pub invariant_of-self-in-Some : goal.invariant_of-self-in-Some
invariant_of-self-in-Some c = (rest_all IsNew c.self.inside.dialled.items c.pop_front.new.self.items c.pop_front.ensures.rest c.self.invariant.0, c.self.invariant.1, c.self.invariant.2)
