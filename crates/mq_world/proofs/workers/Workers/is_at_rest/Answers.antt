use Rattle.std.proofs.Common.{◌≡◌, ◌<◌, Bool, true, false, not, length, Some, refl, sym, ap, ◌∙◌, arith}
use Rattle.mq_world.proofs.Resting.{rest_quiet, rests_long}
use Rattle.mq_world.proofs.Stepping.{read_at}
use Rattle.mq_world.proofs.workers.Workers.is_at_rest.Goals as goal

pub index-requires : goal.index-requires
index-requires c =
    let old = c.args.self.now in
    let long = rests_long old.rests.items old.workers.items c.requires.stands.1.rests in
    omega (arith, c.requires.number, long, old.rests.ok)

pub returns-then-index : goal.returns-then-index
returns-then-index c = λ s is yes.
    let old = c.args.self.now in
    let long = rests_long old.rests.items old.workers.items is.rests in
    let less : c.args.number < length old.rests.items = omega (arith, c.requires.number, long) in
    let said = read_at old.rests.items c.args.number c.index.result.now less c.index.ensures ∙ ap Some c.if-index.true in
    rest_quiet old s is c.args.number said (sym c.waiting.ensures ∙ none c.waiting.result yes) where
      none : (waits : Bool) → not waits ≡ true → waits ≡ false
      none true e = absurd cc
      none false e = refl
