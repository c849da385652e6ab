use Rattle.mq_front.specs.Events.{EventsTo}
use Rattle.mq_front.proofs.http2.ask_all.Given as goal

-- what the events so far ask for was put
abbrev pub invariant-loop-event : goal.invariant-loop-event
invariant-loop-event g l = EventsTo l.fn.setup (g.T.Tunnels.list l.fn.tunnels) l.yielded l.initial.due l.due l.initial.streams.items l.streams.items
