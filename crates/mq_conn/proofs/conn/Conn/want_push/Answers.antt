use Rattle.std.proofs.Common.{Option, refl, sym, subst}
use Rattle.mq_machine.specs.declared.act.StreamAct.TheVariants as stream
use Rattle.mq_machine.specs.State as machine
use Rattle.mq_machine.specs.Want.{tunnel_want}
use Rattle.mq_conn.specs.Wants.{WantIs}
use Rattle.mq_conn.specs.declared.want.Want.TheVariants as want
use Rattle.mq_conn.proofs.conn.Conn.want_push.Goals as goal

pub returns-in-Some : goal.returns-in-Some
returns-in-Some c = λ n packet.
    let P : Option machine.Tunnel → Type 0 = λ o. WantIs c.args.self.now.pump (want.Push c.inbox.result) (tunnel_want o (stream.Push n c.args.to packet)) in
    subst P (sym c.in-Some.ensures) (record { is = (_, refl); pushes = c.inbox.ensures; may = tt })
