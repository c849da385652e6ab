use borrow.Follows.Closed.{read_of}
use Rattle.std.proofs.Common.{◌≡◌, Option, Some, sym, ap, ◌∙◌}
use Rattle.std.specs.Option.{ghost_name_of, option_map_or, option_and_then, option_copied_mut}
use Rattle.slab.specs.Slab.{get, with_value}
use Rattle.mq_machine.specs.State.{Worker}
use Rattle.mq_held.specs.declared.held.PortSeat.{PortSeat}
use Rattle.mq_ports.specs.Tables.{Changes, IsBalanced}
use Rattle.mq_actor.specs.declared.actor.Actor.{Actor}
use Rattle.mq_actor.specs.Holds.{IsWorker}
use Rattle.mq_actor.specs.Lent.{seat_at, with_port}
use Rattle.mq_actor.proofs.Lends.{lent_then, port_changes, port_stands, port_balanced}
use Rattle.mq_actor.proofs.actor.Actor.port.Goals as goal

pub returns-in-Some : goal.returns-in-Some
returns-in-Some g c =
    let Q : Type 0 = g.row.P-P.Denot in
    let a = c.args.self.now in
    let table = a.table.table in
    let seat = c.in-Some.seat in
    let most = g.P.P.Port.most in
    let place = g.P.P.Port.place in
    let past = g.P.Ports.past a.table.ports in
    let A : Type 0 = Actor g.row.L.Denot g.row.P.Denot Q in
    let with_seat : Option PortSeat → Q → A =
    λ o port. record a { table = record a.table { table = option_map_or (λ (seat : PortSeat). with_value table seat.key port) o table } } in
    let found : seat_at c.args.tunnel a.ring ≡ Some seat = sym c.in-Some.ensures in
    let at : option_copied_mut c.port_under.result ≡ get table seat.key = c.port_under.ensures.value in
    let Change : Q → Type 0 = λ was. (port : Q) → (one : PortSeat) × (seat_at c.args.tunnel a.ring ≡ Some one)
    × Changes table (with_port c.args.tunnel a.ring table port) one.key (λ old new. (old ≡ was) × (new ≡ port)) in
    let Stand : Q → Type 0 = λ was. (port : Q) (w : Worker) → most port ≡ most was → IsWorker most table a.ring w
    → IsWorker most (with_port c.args.tunnel a.ring table port) a.ring w in
    let Balance : Q → Type 0 = λ was. (port : Q) → place port ≡ place was → IsBalanced place past table.slots
    → IsBalanced place past (with_port c.args.tunnel a.ring table port).slots in (
      ap (λ (o : Option PortSeat). read_of (ghost_name_of c.port_under.result) (with_seat o) a) c.in-Some.ensures,
      record {
        writes_back = tt;
        value = at ∙ ap (λ (o : Option PortSeat). option_and_then (λ (seat : PortSeat). get table seat.key) o) c.in-Some.ensures;
        changes = lent_then c.port_under.result (get table seat.key) Change at
            (λ was is port. port_changes table a.ring c.args.tunnel seat found was port is);
        stands = lent_then c.port_under.result (get table seat.key) Stand at
            (λ was is port w same x. port_stands table a.ring c.args.tunnel seat found was port is most w same x);
        balanced = lent_then c.port_under.result (get table seat.key) Balance at
            (λ was is port same b. port_balanced table a.ring c.args.tunnel seat found was port is place past same b);
      },
    )
