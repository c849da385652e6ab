use Rattle.std.proofs.Common.{rules, ◌≡◌, ◌<◌, ◌≤◌, List, length, Some, None, find, ◌==◌, sym, ap, ◌∙◌}
use Rattle.std.proofs.lemmas.Option.{get_or_from_slice_get}
use Rattle.mq_held.specs.declared.held.PortSeat.{PortSeat}
use Rattle.mq_actor.proofs.Lending.{seat_there, seat_behind, no_seat}
use Rattle.mq_actor.proofs.ring.Ring.seat_at.Goals as goal

pub returns-in-Some : goal.returns-in-Some
returns-in-Some g c =
    let conns = c.args.self.now.conns in
    let less : c.loop-place.place < length conns.items = search rules in
    let here : find (λ (seat : PortSeat). seat.tunnel == c.args.tunnel) c.at.result.now.ports.items ≡ Some c.in-Some.seat =
    ap (λ (ss : List PortSeat). find (λ (seat : PortSeat). seat.tunnel == c.args.tunnel) ss) (sym c.as_slice.ensures.value) ∙ sym c.in-Some.ensures in
    sym (c.loop-place.invariant.behind ∙ seat_there conns.items c.args.tunnel c.loop-place.place c.at.result.now c.in-Some.seat less (sym (get_or_from_slice_get conns.items c.loop-place.place c.at.result.now c.at.result.now c.at.ensures)) here)

pub loop-place-preserved : goal.loop-place-preserved
loop-place-preserved g c =
    let conns = c.args.self.now.conns in
    let less : c.loop-place.place < length conns.items = search rules in
    let none : find (λ (seat : PortSeat). seat.tunnel == c.args.tunnel) c.at.result.now.ports.items ≡ None =
    ap (λ (ss : List PortSeat). find (λ (seat : PortSeat). seat.tunnel == c.args.tunnel) ss) (sym c.as_slice.ensures.value) ∙ sym c.in_default.ensures in
    record { behind = c.loop-place.invariant.behind ∙ seat_behind conns.items c.args.tunnel c.loop-place.place c.at.result.now less (sym (get_or_from_slice_get conns.items c.loop-place.place c.at.result.now c.at.result.now c.at.ensures)) none }

pub returns : goal.returns
returns g c =
    let conns = c.args.self.now.conns in
    let past : length conns.items ≤ c.loop-place.place = search rules in
    sym (c.loop-place.invariant.behind ∙ no_seat conns.items c.args.tunnel c.loop-place.place past)
