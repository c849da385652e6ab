use Rattle.std.proofs.Common.{refl, max, ap, ◌∙◌}
use Rattle.mq_addr.specs.declared.prefix.Prefix.{Prefix}
use Rattle.mq_addr.specs.Block.{free_bits}
use Rattle.mq_pool.proofs.Skips.{is_spare, tried}
use Rattle.mq_pool.proofs.search.try_at.Goals as goal

pub returns-in-None : goal.returns-in-None
returns-in-None c = (
  is_spare c.within_by_bits.ensures c.args.whole.now (record { addr = c.with_number.result; length = c.args.length }) c.args.taken.now c.args.length c.args.at c.requires c.with_number.ensures.version
      c.with_number.ensures.value refl c.in-None.ensures,
  c.with_number.ensures.value,
)

pub returns-in-Some : goal.returns-in-Some
returns-in-Some c =
    let block : Prefix = record { addr = c.with_number.result; length = c.args.length } in
    let top = c.max.ensures ∙ ap (λ n. max n c.free_bits-in-Some.result) c.free_bits.ensures.value ∙ ap (λ n. max (free_bits block) n) c.free_bits-in-Some.ensures.value in
    tried c.within_by_bits.ensures c.args.whole.now c.in-Some.other block c.args.taken.now c.args.length c.args.at c.max.result c.behind.result c.requires c.in-Some.ensures.0 c.in-Some.ensures.1
    c.with_number.ensures.version c.with_number.ensures.value refl top c.behind.ensures
