use Rattle.std.proofs.Common.{Some, refl, sym, ap, ◌∙◌}
use Rattle.mq_actor.proofs.Lending.{at_conn, at_offer, at_none}
use Rattle.mq_actor.proofs.ring.Ring.link.Goals as goal

pub returns-in-Some : goal.returns-in-Some
returns-in-Some g c =
    let x = at_conn c.args.self.now c.args.number c.in-Some.place (sym c.place_of.ensures ∙ c.in-Some.is) in
    (rw x.3 refl, record { writes_back = tt; value = ap (λ l. Some l) (c.link_of.ensures.value x.0 x.1) ∙ sym x.2 })

pub returns-in_err-place : goal.returns-in_err-place
returns-in_err-place g c =
    let none = at_none c.args.self.now c.args.number (sym c.place_of.ensures ∙ c.in_default.is) (sym c.in_err-place.ensures) in
    (rw c.from_residual.ensures refl, record { writes_back = tt; value = rw (c.from_residual.ensures, none) refl })

pub returns : goal.returns
returns g c =
    let x = at_offer c.args.self.now c.args.number c.in_ok-place.place (sym c.place_of.ensures ∙ c.in_default.is) (sym c.in_ok-place.ensures) in
    (rw x.3 refl, record { writes_back = tt; value = ap (λ l. Some l) (c.offered_at.ensures.value x.0 x.1) ∙ sym x.2 })
