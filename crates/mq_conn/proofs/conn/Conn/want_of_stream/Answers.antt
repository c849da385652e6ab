use Rattle.std.proofs.Common.{Option, sym, subst}
use Rattle.mq_machine.specs.State as machine
use Rattle.mq_machine.specs.Want.{tunnel_want}
use Rattle.mq_conn.specs.Wants.{WantsOf}
use Rattle.mq_conn.proofs.conn.Conn.want_of_stream.Goals as goal

pub returns-in-Some : goal.returns-in-Some
returns-in-Some c = λ may.
    let P : Option machine.Tunnel → Type 0 = λ o. WantsOf c.args.self.now.pump (tunnel_want o c.args.act.now) c.want_of.result in
    subst P (sym c.in-Some.ensures) (c.want_of.ensures c.args.self.now.pump may)
