use Rattle.std.proofs.Common.{◌≡◌, ◌≤◌, ◌-◌, ◌<◌, ◌*◌, ◌/◌, ◌^◌, ap, ◌∙◌, subst, arith}
use Rattle.mq_addr.specs.Block.{width, bits_of, free_bits}
use Rattle.mq_pool.proofs.Skips.{first_start, none_before, too_small}
use Rattle.mq_pool.proofs.search.first_spare.Goals as goal

pub returns-then-free_bits-full_length : goal.returns-then-free_bits-full_length
returns-then-free_bits-full_length c =
    let less : free_bits c.args.whole.now < width c.args.whole.now.addr - c.args.length = omega (arith, c.if-free_bits-full_length.true, c.free_bits.ensures.value, c.full_length.ensures.value) in
    too_small c.within_by_bits.ensures c.args.whole.now c.args.taken.now c.args.length less

pub loop-block-init : goal.loop-block-init
loop-block-init c =
    let is : c.first_of-at.result ≡ bits_of c.args.whole.now.addr / 2 ^ free_bits c.args.whole.now * 2 ^ free_bits c.args.whole.now =
    c.first_of-at.ensures ∙ ap (λ n. n / 2 ^ c.free_bits-2.result * 2 ^ c.free_bits-2.result) c.number.ensures.value
    ∙ ap (λ n. bits_of c.args.whole.now.addr / 2 ^ n * 2 ^ n) c.free_bits-2.ensures.value in
    let room : width c.args.whole.now.addr - c.args.length ≤ free_bits c.args.whole.now = omega (arith, c.if-free_bits-full_length.false, c.free_bits.ensures.value, c.full_length.ensures.value) in
    let fits : bits_of c.args.whole.now.addr < 2 ^ width c.args.whole.now.addr = subst (λ n. n < 2 ^ width c.args.whole.now.addr) c.number.ensures.value c.number.ensures.fits in
    record {
      start = first_start c.args.whole.now c.args.length c.first_of-at.result is c.requires room fits;
      none = none_before c.within_by_bits.ensures c.args.whole.now c.args.taken.now c.args.length c.first_of-at.result is;
    }
