use Rattle.std.proofs.Common.{rules, ◌≡◌, ◌∙◌, ◌||◌, ℕ, Bool, List, length, nat_lt, Some, ap}
use Rattle.slab.specs.Slab.{get}
use Rattle.mq_held.specs.declared.held.PortSeat.{PortSeat}
use Rattle.mq_held.proofs.Seating.{at_place}
use Rattle.mq_machine.specs.Acting.{holds_of}
use Rattle.mq_step.proofs.Others.{at_within}
use Rattle.mq_actor.specs.Ready.{may_send}
use Rattle.mq_actor.specs.Seen.{Words}
use Rattle.mq_actor.proofs.Able.{sending}
use Rattle.mq_actor.proofs.quiet.could_send.Goals as goal

pub returns-in_default : goal.returns-in_default
returns-in_default g c = λ s held tells n payload want.
    let words : Words g.row.L.Denot g.row.P-P.Denot = record { most = g.P.P.Port.most; link = g.L.Link.holds; link_counts = g.L.Link.counts; port = g.P.P.Port.holds; port_counts = g.P.P.Port.counts } in
    let one = sending words c.args.table.now.table c.args.held.now s c.args.tunnel n payload held tells want in
    absurd (c.in_default.ensures one.place one.seat one.here one.of)

pub index-seat-requires : goal.index-seat-requires
index-seat-requires g c = let x = c.in-Some.ensures in let lt = at_within c.args.held.now.ports.items c.in-Some.place x.0 x.1.at in search (rules, lt)

pub returns : goal.returns
returns g c = λ s held tells n payload want.
    let words : Words g.row.L.Denot g.row.P-P.Denot = record { most = g.P.P.Port.most; link = g.L.Link.holds; link_counts = g.L.Link.counts; port = g.P.P.Port.holds; port_counts = g.P.P.Port.counts } in
    let table = c.args.table.now.table in
    let seats = c.args.held.now.ports.items in
    let one = sending words table c.args.held.now s c.args.tunnel n payload held tells want in
    let x = c.in-Some.ensures in
    let seat : c.index-seat.result.now ≡ one.seat =
    c.index-seat.ensures ∙ at_place seats c.in-Some.place x.0 c.index-seat.result.now x.1.at ∙ one.only c.in-Some.place x.0 x.1.at x.1.tunnel_is in
    let at : get table c.index-seat.result.now.key ≡ Some one.port = ap (λ (y : PortSeat). get table y.key) seat ∙ one.stands in
    let takes = c.would_take.ensures one.port at (holds_of one.p) one.tells in
    let is = c.payload.ensures s.conn held.conn c.args.tunnel n payload want in
    takes ∙ ap {B = Bool} (λ (bytes : List ℕ). nat_lt (g.P.P.Port.most one.port) (length bytes) || may_send (holds_of one.p)) is ∙ one.goes
