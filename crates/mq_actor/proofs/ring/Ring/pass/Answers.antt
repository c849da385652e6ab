use Rattle.std.proofs.Common.{◌≡◌, ◌+◌, true, false, refl, sym, ◌∙◌}
use Rattle.mq_held.specs.declared.held.Held.{Held as HeldBy}
use Rattle.mq_actor.specs.Passing.{is_in_part}
use Rattle.mq_actor.proofs.Lending.{fails_always}
use Rattle.mq_actor.proofs.Passings.{none_passed}
use Rattle.mq_actor.proofs.ring.Ring.pass.Goals as goal

pub returns-in_default-clause-gives : goal.returns-in_default-clause-gives
returns-in_default-clause-gives g c =
    let conns = c.args.self.now.conns.items in
    let is_in = λ (h : HeldBy g.row.L.Denot). is_in_part c.args.upper c.args.self.now.next_seat (h.number + 2) in
    (none_passed _ _ _ (λ place h at is. let no : false ≡ true = sym (fails_always is_in conns (sym c.in_default.ensures) place h at) ∙ is in absurd cc), refl)
