use Rattle.std.proofs.Common.{sym, subst}
use Rattle.std.specs.Prelude.{OnOk}
use Rattle.mq_h2.specs.declared.event.StreamEvent.{StreamEvent}
use Rattle.mq_front.specs.Events.{EventTo}
use Rattle.mq_front.proofs.Asking.{fails_all, reset_all, breaks_all}
use Rattle.mq_front.proofs.event.ask.Goals as goal

pub returns-in-Malformed : goal.returns-in-Malformed
returns-in-Malformed g c =
    let P : StreamEvent → Type 0 = λ e. OnOk c.malformed.result (EventTo c.args.setup.now (g.T.Tunnels.list c.args.tunnels.now) e c.args.due.now c.malformed.new.due c.args.streams.now.items c.args.streams.now.items) in
    subst P (sym c.in-Malformed.is)
    (fails_all c.args.setup.now (g.T.Tunnels.list c.args.tunnels.now) c.in-Malformed.stream c.in-Malformed.code c.is_on.result c.args.due.now c.malformed.new.due c.args.streams.now.items c.malformed.result c.is_on.ensures c.malformed.ensures)

pub returns-in-Reset : goal.returns-in-Reset
returns-in-Reset g c =
    let P : StreamEvent → Type 0 = λ e. OnOk c.reset.result (EventTo c.args.setup.now (g.T.Tunnels.list c.args.tunnels.now) e c.args.due.now c.reset.new.due c.args.streams.now.items c.args.streams.now.items) in
    subst P (sym c.in-Reset.is)
    (reset_all c.args.setup.now (g.T.Tunnels.list c.args.tunnels.now) c.in-Reset.stream _ c.is_on-in-Reset.result c.args.due.now c.reset.new.due c.args.streams.now.items c.reset.result c.is_on-in-Reset.ensures c.reset.ensures)

pub returns-in-ConnectionError : goal.returns-in-ConnectionError
returns-in-ConnectionError g c =
    let P : StreamEvent → Type 0 = λ e. OnOk c.push.result (EventTo c.args.setup.now (g.T.Tunnels.list c.args.tunnels.now) e c.args.due.now c.push.new.self c.args.streams.now.items c.args.streams.now.items) in
    subst P (sym c.in-ConnectionError.is)
    (breaks_all c.args.setup.now (g.T.Tunnels.list c.args.tunnels.now) c.in-ConnectionError.code c.args.due.now c.push.new.self c.args.streams.now.items c.push.result c.push.ensures)
