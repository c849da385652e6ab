use Rattle.std.proofs.Common.{false, true, refl}
use Rattle.mq_actor.proofs.Turns.{seat_part, try_skips}
use Rattle.mq_actor.proofs.ring.Ring.try_at.Goals as goal

pub returns-then-not-is_in-clause-gives : goal.returns-then-not-is_in-clause-gives
returns-then-not-is_in-clause-gives g c =
    let held = c.at.result.now in
    let at = c.at.ensures in
    let from = c.args.self.now.next_seat in
    let part = seat_part c.args.upper from held.number c.seat_of-seat.result c.is_in.result false c.seat_of-seat.ensures c.is_in.ensures c.if-not-is_in.true in
    (try_skips _ _ c.args.upper from c.args.place held at part, refl)

pub returns-clause-gives : goal.returns-clause-gives
returns-clause-gives g c =
    let held = c.at.result.now in
    let at = c.at.ensures in
    let part = seat_part c.args.upper c.args.self.now.next_seat held.number c.seat_of-seat.result c.is_in.result true c.seat_of-seat.ensures c.is_in.ensures c.if-not-is_in.false in
    c.act_at.ensures.gives c.args.upper held at part
