use Rattle.std.proofs.Common.{List, sym, ap, ◌∙◌}
use Rattle.mq_held.specs.declared.held.Held.{Held as HeldBy}
use Rattle.mq_actor.specs.Conns.{stands_at}
use Rattle.mq_actor.proofs.Beginnings.{has_at}
use Rattle.mq_actor.proofs.conns.Conns.place_of.Goals as goal

pub returns-then-is_at : goal.returns-then-is_at
returns-then-is_at g c =
    let likely = c.likely-likely.result in
    let is = ap (λ (hs : List (HeldBy g.row.L.Denot)). stands_at c.args.number hs likely) (sym c.as_slice.ensures.value) ∙ sym c.is_at.ensures ∙ c.if-is_at.true in
    rw (← c.self.view_is) (sym (has_at c.self.inside.list.items c.args.number likely (c.self.invariant c.if-self.true) is))
