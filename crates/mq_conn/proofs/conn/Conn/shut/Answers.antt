use Rattle.std.proofs.Common.{◌≡◌, Some, List, ◌∙◌, sym, subst}
use Rattle.std.proofs.lemmas.Option.{get_or_from_slice_get}
use Rattle.mq_talk.specs.declared.note.Why.TheVariants.{Port}
use Rattle.mq_conn.specs.declared.conn.First.TheVariants.{Close}
use Rattle.mq_machine.specs.Steps.{port_failed}
use Rattle.mq_conn.specs.Conns.{IsConn}
use Rattle.mq_conn.specs.declared.conn.Tunnel.{Tunnel}
use Rattle.mq_conn.specs.Frames.{HasNone, IsPlaceOf}
use Rattle.mq_conn.proofs.Framing.{shuts, shut_none}
use Rattle.mq_conn.proofs.conn.Conn.shut.Goals as goal

pub returns-in-Some : goal.returns-in-Some
returns-in-Some c = λ s stands t is waiting.
    (let old = c.args.self.now in
    let e = c.in-Some.ensures in
    let P : List Tunnel → Type 0 = λ ts. IsPlaceOf ts c.args.tunnel c.in-Some.place e.0 in
    let at = subst P c.as_slice.ensures.value e.1 in
    let read : c.index.result.now ≡ e.0 = c.index.ensures ∙ get_or_from_slice_get old.tunnels.items c.in-Some.place e.0 c.index.result.now at.at in
    let Q : Tunnel → Type 0 = λ u. IsConn (record old { first = Some (Close u.stream Port) }) (port_failed s t) in
    subst Q (sym read) (shuts old c.args.tunnel c.in-Some.place e.0 at s stands t is waiting))

pub returns-in_default : goal.returns-in_default
returns-in_default c = λ s stands t is waiting.
    (let P : List Tunnel → Type 0 = λ ts. HasNone ts c.args.tunnel in
    absurd (shut_none c.args.self.now c.args.tunnel (subst P c.as_slice.ensures.value c.in_default.ensures) s stands t is))
