use Rattle.mq_front.proofs.Fronts.{forgot_one, forgot_many}
use Rattle.mq_front.proofs.front.Front.forget.Goals as goal

pub returns-in-Http1 : goal.returns-in-Http1
returns-in-Http1 c = forgot_one c.args.self.now c.in-Http1.one c.forget.new.self c.args.stream c.in-Http1.is c.forget.ensures

pub returns-in-Http2 : goal.returns-in-Http2
returns-in-Http2 c = forgot_many c.args.self.now c.in-Http2.many c.forget-in-Http2.new.self c.args.stream c.in-Http2.is c.forget-in-Http2.ensures
