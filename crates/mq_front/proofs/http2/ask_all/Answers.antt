use Rattle.mq_front.proofs.Asking.{puts_none, puts_last}
use Rattle.mq_front.proofs.http2.ask_all.Goals as goal

pub loop-event-init : goal.loop-event-init
loop-event-init g c = puts_none c.args.setup.now (g.T.Tunnels.list c.args.tunnels.now) c.args.due.now c.args.streams.now.items

pub loop-event-preserved : goal.loop-event-preserved
loop-event-preserved g c =
    puts_last c.args.setup.now (g.T.Tunnels.list c.args.tunnels.now) c.loop-event.yielded c.in-Some.event c.args.due.now c.loop-event.due c.ask.new.due c.args.streams.now.items c.loop-event.streams.items c.ask.new.streams.items
    c.loop-event.invariant c.in_ok-ask.ensures
