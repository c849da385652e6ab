use Rattle.std.proofs.Common.{List, sym, subst}
use Rattle.mq_addr.specs.declared.entry.Asked.{Asked}
use Rattle.mq_addr.specs.declared.range.Range.{Range}
use Rattle.mq_iptun.specs.Acts.{MayAct, MayAdvertise, MayAssign}
use Rattle.mq_machine.specs.declared.act.StreamAct.{StreamAct}
use Rattle.mq_machine.specs.declared.act.StreamAct.TheVariants as stream
use Rattle.mq_machine.specs.Want.{stream_want}
use Rattle.mq_conn.specs.Conns.{tunnel_is}
use Rattle.mq_conn.specs.Wants.{WantsOf}
use Rattle.mq_conn.proofs.next.want_of.Goals as goal

pub returns-in-Assign : goal.returns-in-Assign
returns-in-Assign c = λ pump may.
    let t = tunnel_is c.args.tunnel.now in
    let K : List Asked → Type 0 = λ xs. MayAssign xs → WantsOf pump (stream_want t (stream.Assign xs)) c.want_assign.result in
    let A : StreamAct → Type 0 = λ a. MayAct a → WantsOf pump (stream_want t a) c.want_assign.result in
    subst A (sym c.in-Assign.is) (subst K c.as_slice.ensures (c.want_assign.ensures pump)) may

pub returns-in-Advertise : goal.returns-in-Advertise
returns-in-Advertise c = λ pump may.
    let t = tunnel_is c.args.tunnel.now in
    let K : List Range → Type 0 = λ xs. MayAdvertise xs → WantsOf pump (stream_want t (stream.Advertise xs)) c.want_advertise.result in
    let A : StreamAct → Type 0 = λ a. MayAct a → WantsOf pump (stream_want t a) c.want_advertise.result in
    subst A (sym c.in-Advertise.is) (subst K c.as_slice-in-Advertise.ensures (c.want_advertise.ensures pump)) may
