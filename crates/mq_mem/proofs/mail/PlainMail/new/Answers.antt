use Rattle.mq_mem.proofs.Boxes.{one_more}
use Rattle.mq_mem.proofs.mail.PlainMail.new.Goals as goal

pub loop-preserved : goal.loop-preserved
loop-preserved c = one_more c.loop.boxes.items c.push.new.self.items _ c.loop.counter c.loop.invariant c.in_ok-inbox.ensures c.in_ok-push.ensures.items
