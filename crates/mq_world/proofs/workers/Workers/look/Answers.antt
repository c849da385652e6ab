use Rattle.std.proofs.Common.{◌<◌, List, length, slice_get, sym, ap, ◌∙◌}
use borrow.Author.Tests.{ltb-true}
use Rattle.mq_plain.specs.Served.{Plain}
use Rattle.mq_world.proofs.Resting.{looked}
use Rattle.mq_world.proofs.Stepping.{read_at}
use Rattle.mq_world.proofs.workers.Workers.look.Goals as goal

pub returns-in-Some : goal.returns-in-Some
returns-in-Some c = λ s is.
    let k = c.args.number in
    let less : k < length c.deref.result.now = ltb-true _ _ (sym c.in-Some.ensures.lookup.0) in
    let there = read_at c.deref.result.now k c.in-Some.worker.now less c.in-Some.ensures.lookup.1 in
    let at = ap (λ (actors : List Plain). slice_get actors k) (sym c.deref.ensures.value) ∙ there in
    looked c.args.self.now s is k c.in-Some.worker.now c.is_quiet-is_at_rest.result c.mark.new.rests at c.is_quiet-is_at_rest.ensures c.mark.ensures
