use Rattle.mq_front.proofs.Asking.{contents}
use Rattle.mq_front.proofs.event.content.Goals as goal

pub returns : goal.returns
returns c = contents c.args.mtu c.args.id c.args.bytes.now c.args.length c.args.ends c.args.due.now c.take.new.due c.push.new.self c.args.streams.now.items c.take.new.streams.items c.push.result c.in_ok-take.ensures c.push.ensures
