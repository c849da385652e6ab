use Rattle.std.proofs.Common.{List, subst}
use Rattle.mq_h2.specs.declared.event.StreamEvent.{StreamEvent}
use Rattle.std.specs.Prelude.{OnOk}
use Rattle.mq_front.specs.Events.{EventsTo}
use Rattle.mq_front.proofs.Asking.{reads_all}
use Rattle.mq_front.proofs.http2.Http2.read.Goals as goal

pub returns : goal.returns
returns g c =
    let setup = c.args.setup.now in
    let ts = g.T.Tunnels.list c.args.tunnels.now in
    let P : List StreamEvent → Type 0 = λ told. OnOk c.ask_all.result (EventsTo setup ts told c.args.due.now c.ask_all.new.due c.args.self.now.streams.items c.ask_all.new.streams.items) in
    reads_all setup ts c.args.piece.now c.in_ok-events.events c.args.due.now c.ask_all.new.due c.args.self.now (record { h2 = c.feed.new.self; streams = c.ask_all.new.streams }) c.ask_all.result
    c.in_ok-events.ensures.feeds (subst P c.into_vec.ensures c.ask_all.ensures)
