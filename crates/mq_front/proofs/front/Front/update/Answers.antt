use Rattle.std.proofs.Common.{refl}
use Rattle.mq_front.specs.declared.http2.Http2.{Http2 as Many}
use Rattle.mq_front.proofs.Fronts.{updated_many}
use Rattle.mq_front.proofs.front.Front.update.Goals as goal

pub returns-in-Http2 : goal.returns-in-Http2
returns-in-Http2 c =
    updated_many c.args.self.now c.in-Http2.many c.end_act.new.self c.in-Http2.is c.end_act.ensures.streams c.end_act.ensures.core
