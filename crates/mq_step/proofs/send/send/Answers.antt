use Rattle.std.proofs.Common.{rules, ◌≡◌, ◌≤◌, ◌∙◌, ℕ, Some, slice_get, sym, ap, arith}
use Rattle.slab.specs.Slab.{get}
use Rattle.mq_held.specs.declared.held.PortSeat.{PortSeat}
use Rattle.mq_held.proofs.Seating.{at_place}
use Rattle.mq_machine.specs.Acting.{binder, Binder}
use Rattle.mq_step.proofs.Others.{at_within, call_others}
use Rattle.mq_step.proofs.Places.{mine_seat}
use Rattle.mq_step.proofs.Sending.{the_mine, same_port, Sends, sent_left, sent_done, sent_stands, sent_told, sent_waits, waits_stands}
use Rattle.mq_step.proofs.Wanting.{mailed}
use Rattle.mq_step.proofs.send.send.Goals as goal

pub returns-in_default-clause-gives : goal.returns-in_default-clause-gives
returns-in_default-clause-gives g c = λ o n so sn seen s held k payload want count mail has.
    let old = c.args.held.now in
    let one = the_mine g.P.P.Port.most c.args.table.now.table old s c.args.tunnel k payload held want in
    absurd (c.in_default.ensures one.place one.seat one.at_seat one.of_seat)

pub index-seat-requires : goal.index-seat-requires
index-seat-requires g c = let x = c.in-Some.ensures in let lt = at_within c.args.held.now.ports.items c.in-Some.place x.0 x.1.at in search (rules, lt)

pub returns-in-Some-send-clause-gives : goal.returns-in-Some-send-clause-gives
returns-in-Some-send-clause-gives g c = λ o n so sn seen s held k payload want count mail has. rw (c.put_note.ensures) (λ orders.
    let m = mailed seen count mail has in
    let old = c.args.held.now in
    let new = c.send.new.self in
    let table = c.args.table.now.table in
    let after = c.send.new.table.table in
    let most = g.P.P.Port.most in
    let one = the_mine most table old s c.args.tunnel k payload held want in
    let x = c.in-Some.ensures in
    let seat : c.index-seat.result.now ≡ one.seat =
    c.index-seat.ensures ∙ at_place old.ports.items c.in-Some.place x.0 c.index-seat.result.now x.1.at ∙ mine_seat most table old.ports.items s.ports c.args.tunnel one held.apart c.in-Some.place x.0 x.1.at x.1.tunnel_is in
    let key : c.index-seat.result.now.key ≡ one.seat.key = ap (λ (y : PortSeat). y.key) seat in
    let at = ap (λ (i : ℕ). get table i) key ∙ one.is.at in
    let le : most one.is.port ≤ 65535 = let e = one.is.limit in let small = one.is.small in omega (arith, e, small) in
    let r = c.in-Some-send.ensures.gives s.conn held.conn c.args.tunnel k payload want one.is.port at le in
    let kept = c.in-Some-send.ensures.kept one.is.port at in
    let same : kept.0 ≡ r.0 = same_port after c.index-seat.result.now.key kept.0 r.0 kept.1 r.1 in
    let rest = c.in-Some-send.ensures.rest in
    let sends : Sends most g.P.P.Port.holds g.P.P.Port.counts table after old new o n s c.args.tunnel k payload = record {
      held = held;
      want = want;
      one = one;
      now = r.0;
      at = ap (λ (i : ℕ). get after i) (sym key) ∙ r.1;
      limit = ap most (sym same) ∙ kept.2;
      others = λ other ne. c.in-Some-send.ensures.others other (λ e. ne (e ∙ key));
      sees = so.ports;
      sees_after = sn.ports;
      seats = ap (λ h. h.ports.items) rest;
      number = ap (λ h. h.number) rest;
      bound = ap (λ h. h.bound) rest;
    } in
    let d = r.2 one.p one.is.limit in (
      sent_left o s c.args.tunnel payload d.1.holds d.0,
      sent_done most g.P.P.Port.holds g.P.P.Port.counts table after old new o n s c.args.tunnel k payload seen m orders sends c.in-Some-send.note d.0 d.1
          (ap (λ (b : Binder). b.holds) (sn.binds_are ∙ ap (binder g.P.Ports.holds g.P.Ports.faults) c.in-Some-send.ensures.ports ∙ sym so.binds_are)),
      sent_stands most g.P.P.Port.holds g.P.P.Port.counts table after old new o n s c.args.tunnel k payload sends c.in-Some-send.note d.0 d.1 d.2,
      sent_told most g.P.P.Port.holds g.P.P.Port.counts table after old new o n s c.args.tunnel k payload sends c.in-Some-send.note d.0 d.1,
    ))

pub returns-in-Some-send-clause-others : goal.returns-in-Some-send-clause-others
returns-in-Some-send-clause-others g c = λ key port at other.
    let old = c.args.held.now in
    let x = c.in-Some.ensures in
    let seat = c.index-seat.ensures ∙ at_place old.ports.items c.in-Some.place x.0 c.index-seat.result.now x.1.at in
    let here : slice_get old.ports.items c.in-Some.place ≡ Some c.index-seat.result.now = x.1.at ∙ ap (λ (y : PortSeat). Some y) (sym seat) in
    let rest = c.in-Some-send.ensures.rest in
    let r = call_others c.args.table.now.table c.send.new.table.table old.ports.items c.send.new.self.ports.items c.in-Some.place key c.index-seat.result.now port here c.in-Some-send.ensures.others (ap (λ h. h.ports.items) rest) at other.seats_are in
    (r.0, record { seats_are = r.1; bound_is = λ is. other.bound_is (sym (ap (λ h. h.bound) rest) ∙ is) })

pub returns-in-None-clause-gives : goal.returns-in-None-clause-gives
returns-in-None-clause-gives g c = λ o n so sn seen s held k payload want count mail has.
    let old = c.args.held.now in
    let new = c.send.new.self in
    let table = c.args.table.now.table in
    let after = c.send.new.table.table in
    let most = g.P.P.Port.most in
    let one = the_mine most table old s c.args.tunnel k payload held want in
    let x = c.in-Some.ensures in
    let seat : c.index-seat.result.now ≡ one.seat =
    c.index-seat.ensures ∙ at_place old.ports.items c.in-Some.place x.0 c.index-seat.result.now x.1.at ∙ mine_seat most table old.ports.items s.ports c.args.tunnel one held.apart c.in-Some.place x.0 x.1.at x.1.tunnel_is in
    let key : c.index-seat.result.now.key ≡ one.seat.key = ap (λ (y : PortSeat). y.key) seat in
    let at = ap (λ (i : ℕ). get table i) key ∙ one.is.at in
    let le : most one.is.port ≤ 65535 = let e = one.is.limit in let small = one.is.small in omega (arith, e, small) in
    let r = c.in-None.ensures.gives s.conn held.conn c.args.tunnel k payload want one.is.port at le in
    let kept = c.in-None.ensures.kept one.is.port at in
    let same : kept.0 ≡ r.0 = same_port after c.index-seat.result.now.key kept.0 r.0 kept.1 r.1 in
    let rest = c.in-None.ensures.rest in
    let sends : Sends most g.P.P.Port.holds g.P.P.Port.counts table after old new o n s c.args.tunnel k payload = record {
      held = held;
      want = want;
      one = one;
      now = r.0;
      at = ap (λ (i : ℕ). get after i) (sym key) ∙ r.1;
      limit = ap most (sym same) ∙ kept.2;
      others = λ other ne. c.in-None.ensures.others other (λ e. ne (e ∙ key));
      sees = so.ports;
      sees_after = sn.ports;
      seats = ap (λ h. h.ports.items) rest;
      number = ap (λ h. h.number) rest;
      bound = ap (λ h. h.bound) rest;
    } in
    let same = sn.binds_are ∙ ap (binder g.P.Ports.holds g.P.Ports.faults) c.in-None.ensures.ports ∙ sym so.binds_are in (
      sent_waits most g.P.P.Port.holds g.P.P.Port.counts table after old new o n s c.args.tunnel k payload seen mail sends r.2.0 same,
      waits_stands most g.P.P.Port.holds g.P.P.Port.counts table after old new o n s c.args.tunnel k payload sends r.2.1,
    )

pub returns-in-None-clause-others : goal.returns-in-None-clause-others
returns-in-None-clause-others g c = λ key port at other.
    let old = c.args.held.now in
    let x = c.in-Some.ensures in
    let seat = c.index-seat.ensures ∙ at_place old.ports.items c.in-Some.place x.0 c.index-seat.result.now x.1.at in
    let here : slice_get old.ports.items c.in-Some.place ≡ Some c.index-seat.result.now = x.1.at ∙ ap (λ (y : PortSeat). Some y) (sym seat) in
    let rest = c.in-None.ensures.rest in
    let r = call_others c.args.table.now.table c.send.new.table.table old.ports.items c.send.new.self.ports.items c.in-Some.place key c.index-seat.result.now port here c.in-None.ensures.others (ap (λ h. h.ports.items) rest) at other.seats_are in
    (r.0, record { seats_are = r.1; bound_is = λ is. other.bound_is (sym (ap (λ h. h.bound) rest) ∙ is) })
