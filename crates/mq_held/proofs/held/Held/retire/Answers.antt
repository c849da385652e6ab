use Rattle.std.proofs.Common.{◌≡◌, ℕ, None, remove, MatchOption, sym, ap, subst, ◌∙◌, slice_index_or}
use Rattle.slab.specs.Slab.{get, Updates}
use Rattle.mq_machine.specs.Acting.{binder, handed_back}
use Rattle.mq_held.specs.declared.held.PortSeat.{PortSeat}
use Rattle.mq_held.proofs.held.Held.retire.Goals as goal
use Rattle.mq_held.proofs.Seating.{place_once, at_place, match_map, is_handed_back}

pub returns-in-Some-clause-seat : goal.returns-in-Some-clause-seat
returns-in-Some-clause-seat g c = λ place seat is.
    let items = c.args.self.now.ports.items in
    let found = c.in-Some.ensures in
    let same : place ≡ c.in-Some.place = place_once items c.args.tunnel place c.in-Some.place seat found.0 is found.1 in
    let taken : c.remove-seat.result ≡ seat =
    c.remove-seat.ensures.value ∙ ap (λ (i : ℕ). slice_index_or items i c.remove-seat.result) (sym same) ∙ at_place items place seat c.remove-seat.result is.at in
    let key : c.remove-seat.result.key ≡ seat.key = ap (λ (x : PortSeat). x.key) taken in
    let P : ℕ → Type 0 = λ k. Updates c.args.table.now.table c.retire.new.self.table k None × MatchOption (get c.args.table.now.table k) (binder g.P.Ports.holds g.P.Ports.faults c.retire.new.self.ports ≡ binder g.P.Ports.holds g.P.Ports.faults c.args.table.now.ports)
    (λ port. binder g.P.Ports.holds g.P.Ports.faults c.retire.new.self.ports ≡ handed_back (g.P.P.Port.counts port).faults (binder g.P.Ports.holds g.P.Ports.faults c.args.table.now.ports)) in
    let base : P c.remove-seat.result.key = (
      c.retire.ensures.gone,
      match_map (get c.args.table.now.table c.remove-seat.result.key) _ (binder g.P.Ports.holds g.P.Ports.faults c.retire.new.self.ports ≡ binder g.P.Ports.holds g.P.Ports.faults c.args.table.now.ports) _
          (λ port. binder g.P.Ports.holds g.P.Ports.faults c.retire.new.self.ports ≡ handed_back (g.P.P.Port.counts port).faults (binder g.P.Ports.holds g.P.Ports.faults c.args.table.now.ports))
          (λ e. ap (λ t. binder g.P.Ports.holds g.P.Ports.faults t.ports) e) (λ q b. is_handed_back (binder g.P.Ports.holds g.P.Ports.faults c.args.table.now.ports) (binder g.P.Ports.holds g.P.Ports.faults c.retire.new.self.ports) (g.P.P.Port.counts q).faults b.1 b.2)
          c.retire.ensures.back,
    ) in
    let both = subst P key base in
    (c.remove-seat.ensures.items ∙ ap (λ (i : ℕ). remove items i) (sym same), both.0, both.1)
