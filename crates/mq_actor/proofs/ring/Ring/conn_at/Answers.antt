use Rattle.std.proofs.Common.{◌≡◌, Option, Some, refl, sym, ap, ◌∙◌}
use Rattle.mq_conn.specs.declared.conn.Conn.{Conn as Core}
use Rattle.mq_held.specs.declared.held.Held.{Held as HeldBy}
use Rattle.mq_actor.proofs.Lending.{core_there, core_none}
use Rattle.mq_actor.proofs.ring.Ring.conn_at.Goals as goal

pub returns-in_err-place : goal.returns-in_err-place
returns-in_err-place g c =
    let none = core_none c.args.self.now c.args.number (sym c.in_err-place.ensures) in
    rw (c.from_residual.ensures, none) refl

pub returns : goal.returns
returns g c =
    let x = core_there c.args.self.now c.args.number c.in_ok-place.place (sym c.in_ok-place.ensures) in
    let both : ◌≡◌ (Some c.at.result.now) (Some x.0) = sym c.at.ensures ∙ x.1 in
    let is : c.at.result.now ≡ x.0 = cc in
    ap {B = Option Core} (λ (h : HeldBy g.row.L.Denot). Some h.conn) is ∙ sym x.2
