use Rattle.mq_front.proofs.Fronts.{closed_many}
use Rattle.mq_front.proofs.front.Front.close.Goals as goal

pub returns-in-Http2 : goal.returns-in-Http2
returns-in-Http2 c = closed_many c.args.self.now c.in-Http2.many c.close.new.self c.args.stream c.args.begun c.args.why c.in-Http2.is c.close.ensures
