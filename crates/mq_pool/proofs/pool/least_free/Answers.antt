use Rattle.std.proofs.Common.{◌≡◌, ◌+◌, get_or, length, sym, subst, arith}
use Rattle.std.proofs.lemmas.List.{get_or_default}
use Rattle.mq_addr.specs.declared.addr.Addr.TheVariants.{V4}
use Rattle.mq_addr.specs.declared.prefix.Prefix.{Prefix}
use Rattle.mq_addr.specs.Cover.{IsLeast}
use Rattle.mq_pool.specs.Search.{IsAmong}
use Rattle.mq_pool.proofs.Leasts.{one_more, all_seen}
use Rattle.mq_pool.proofs.pool.least_free.Goals as goal

pub loop-whole-preserved : goal.loop-whole-preserved
loop-whole-preserved c =
    let zero : Prefix = record { addr = V4 0; length = 0 } in
    let next = one_more c.args.pool.now c.args.taken.now c.args.version c.args.length c.loop-whole.whole-index (get_or c.args.pool.now c.loop-whole.whole-index zero) c.loop-whole.best c.first_in.result
    (λ d. get_or_default c.args.pool.now c.loop-whole.whole-index d zero c.loop-whole-test.true) c.loop-whole.invariant c.first_in.ensures in
    subst (λ r. IsLeast (λ block. IsAmong c.args.pool.now c.args.taken.now c.args.version c.args.length (c.loop-whole.whole-index + 1) block) r) (sym c.earlier-best.ensures) next

pub returns : goal.returns
returns c =
    let all : c.loop-whole.whole-index ≡ length c.args.pool.now = omega arith in
    all_seen c.args.pool.now c.args.taken.now c.args.version c.args.length c.loop-whole.best
    (subst (λ n. IsLeast (λ block. IsAmong c.args.pool.now c.args.taken.now c.args.version c.args.length n block) c.loop-whole.best) all c.loop-whole.invariant)
