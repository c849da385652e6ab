use Rattle.std.proofs.Common.{◌≡◌, Option, Some, refl, sym, ap, ◌∙◌}
use Rattle.mq_held.specs.declared.held.Held.{Held as HeldBy}
use Rattle.mq_actor.proofs.Lending.{at_conn, at_offer, at_none}
use Rattle.mq_actor.proofs.ring.Ring.link_at.Goals as goal

pub returns-in-Some : goal.returns-in-Some
returns-in-Some g c =
    let r = c.args.self.now in
    let x = at_conn r c.args.number c.in-Some.place (sym c.place_of.ensures ∙ c.in-Some.is) in
    let both : ◌≡◌ (Some c.at.result.now) (Some x.0) = sym c.at.ensures ∙ x.1 in
    let is : c.at.result.now ≡ x.0 = cc in
    ap {B = Option g.row.L.Denot} (λ (h : HeldBy g.row.L.Denot). Some h.link) is ∙ sym x.2

pub returns-in_err-place : goal.returns-in_err-place
returns-in_err-place g c =
    let none = at_none c.args.self.now c.args.number (sym c.place_of.ensures ∙ c.in_default.is) (sym c.in_err-place.ensures) in
    rw (c.from_residual.ensures, none) refl

pub returns : goal.returns
returns g c =
    let r = c.args.self.now in
    let x = at_offer r c.args.number c.in_ok-place.place (sym c.place_of.ensures ∙ c.in_default.is) (sym c.in_ok-place.ensures) in
    ap {B = Option g.row.L.Denot} (λ (l : g.row.L.Denot). Some l) (c.link_at.ensures x.0 x.1) ∙ sym x.2
