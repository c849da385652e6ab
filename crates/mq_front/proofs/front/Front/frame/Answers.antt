use Rattle.std.proofs.Common.{refl, ◌++◌}
use Rattle.mq_front.specs.declared.http2.Http2.{Http2 as Many}
use Rattle.mq_front.proofs.Fronts.{framed_many}
use Rattle.mq_front.proofs.front.Front.frame.Goals as goal

pub returns-in_ok-count-in-Http2 : goal.returns-in_ok-count-in-Http2
returns-in_ok-count-in-Http2 c =
    let old = c.in-Http2.many in
    let new : Many = record { h2 = c.send_parts.new.self; streams = old.streams } in
    framed_many c.args.self.now old new c.args.stream (c.args.front.now ++ c.args.rest.now) c.in_ok-count-in-Http2.count c.in-Http2.is refl c.in_ok-count-in-Http2.ensures
