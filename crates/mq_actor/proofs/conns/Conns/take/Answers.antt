use Rattle.std.proofs.Common.{rules, ◌≡◌, List, length, sym, subst, arith}
use Rattle.std.specs.Vec.{vec_len}
use Rattle.mq_held.specs.declared.held.Held.{Held as HeldBy}
use Rattle.mq_actor.specs.Conns.{NumbersRise}
use Rattle.mq_actor.proofs.Beginnings.{rise_removed}
use Rattle.mq_actor.proofs.OwnPorts.{at_index}
use Rattle.mq_actor.proofs.conns.Conns.take.Goals as goal

pub invariant_of-self : goal.invariant_of-self
invariant_of-self g c = λ rising.
    let P : List (HeldBy g.row.L.Denot) → Type 0 = λ hs. NumbersRise hs in
    subst P (sym c.remove.ensures.items) (rise_removed c.self.inside.list.items c.args.place (c.self.invariant rising))

pub returns-clause-taken : goal.returns-clause-taken
returns-clause-taken g c =
    let conns = c.args.self.now in
    let len : vec_len conns ≡ length conns.items = search rules in
    let place = c.requires in
    at_index conns.items c.args.place c.remove.result (omega (arith, len, place)) (rw (← c.self.view_is) c.remove.ensures.value)
