use Rattle.std.proofs.Common.{◌==◌, Option, Some, sym, ap, ◌∙◌}
use Rattle.std.proofs.lemmas.Option.{get_or_from_slice_get}
use Rattle.mq_held.specs.declared.held.PortSeat.{PortSeat}
use Rattle.mq_actor.proofs.Lending.{found, missing}
use Rattle.mq_actor.proofs.seek.seat_among.Goals as goal

pub returns-in_err-place : goal.returns-in_err-place
returns-in_err-place c =
    c.from_residual.ensures ∙ sym (missing (λ (seat : PortSeat). seat.tunnel == c.args.tunnel) c.args.seats.now (sym c.in_err-place.ensures))

pub returns : goal.returns
returns c =
    let x = found (λ (seat : PortSeat). seat.tunnel == c.args.tunnel) c.args.seats.now c.in_ok-place.place (sym c.in_ok-place.ensures) in
    ap {B = Option PortSeat} (λ (seat : PortSeat). Some seat) (get_or_from_slice_get c.args.seats.now c.in_ok-place.place x.0 _ x.1) ∙ sym x.2
