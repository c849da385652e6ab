use Rattle.std.proofs.Common.{◌≡◌, ℕ, ◌<◌, subst, arith}
use Rattle.mq_world.specs.Worlds.{AreUntouched}
use Rattle.mq_world.proofs.workers.workers_of.Goals as goal

pub loop-number-preserved : goal.loop-number-preserved
loop-number-preserved c = λ seen boxes begun is.
    let few : c.loop-number.number < seen.config.workers = omega (arith, c.loop-number-test.true, c.loop-number.auto.number-end, is) in
    c.in_ok-add_worker.ensures seen boxes begun few (c.loop-number.invariant seen boxes begun is)

pub returns : goal.returns
returns c = λ seen boxes begun is.
    let end : c.loop-number.number ≡ c.args.count = omega (arith, c.loop-number-test.false, c.loop-number.auto.number-end) in
    subst (λ (n : ℕ). AreUntouched seen boxes c.args.setup.now c.loop-number.workers.items n) end (c.loop-number.invariant seen boxes begun is)
