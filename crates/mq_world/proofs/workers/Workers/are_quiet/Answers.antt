use Rattle.std.proofs.Common.{◌≡◌, ℕ, ◌<◌, not, length, sym, ap, subst, ◌∙◌, arith}
use Rattle.mq_world.proofs.Offered.{workers_long}
use Rattle.mq_world.proofs.Quieting.{NoneBefore, worker_quiet, one_quiet, some_acts, pump_alone}
use Rattle.mq_world.proofs.Stepping.{read_at}
use Rattle.mq_world.proofs.workers.Workers.are_quiet.Goals as goal

pub returns-then-not-is_quiet : goal.returns-then-not-is_quiet
returns-then-not-is_quiet c = λ s is.
    let old = c.args.self.now in
    let k = c.loop-number.number in
    let less : k < length old.workers.items = omega (arith, c.loop-number-test.true, c.loop-number.auto.number-end, c.len-number-end.ensures) in
    let long = workers_long old s is in
    let at = read_at old.workers.items k c.index.result.now less c.index.ensures in
    let here = worker_quiet old s is k c.index.result.now c.is_quiet.result c.waiting-is_empty.result at c.waiting-is_empty.ensures c.is_quiet.ensures in
    some_acts s k (omega (arith, less, long)) (here ∙ ap not c.if-not-is_quiet.true)

pub loop-number-preserved : goal.loop-number-preserved
loop-number-preserved c = λ s is.
    let old = c.args.self.now in
    let k = c.loop-number.number in
    let less : k < length old.workers.items = omega (arith, c.loop-number-test.true, c.loop-number.auto.number-end, c.len-number-end.ensures) in
    let at = read_at old.workers.items k c.index.result.now less c.index.ensures in
    let here = worker_quiet old s is k c.index.result.now c.is_quiet.result c.waiting-is_empty.result at c.waiting-is_empty.ensures c.is_quiet.ensures in
    one_quiet s k (c.loop-number.invariant s is) (here ∙ ap not c.if-not-is_quiet.false)

pub returns : goal.returns
returns c = λ s is.
    let old = c.args.self.now in
    let long = workers_long old s is in
    let end : c.loop-number.number ≡ length s.workers = omega (arith, c.loop-number-test.false, c.loop-number.auto.number-end, c.len-number-end.ensures, long) in
    c.pump_is_quiet.ensures s is ∙ ap not (sym (pump_alone s (subst (λ (n : ℕ). NoneBefore s n) end (c.loop-number.invariant s is))))
