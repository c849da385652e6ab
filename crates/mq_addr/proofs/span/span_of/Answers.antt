use Rattle.std.proofs.Common.{◌≡◌, ◌≤◌, ◌^◌, ◌*◌, ◌/◌, ◌+◌, ap, ◌∙◌, refl, arith}
use Rattle.mq_addr.specs.declared.range.Range.{Range}
use Rattle.mq_addr.specs.Block.{bits_of, width, free_bits}
use Rattle.mq_addr.specs.Aligned.{after}
use Rattle.mq_addr.proofs.Numbers.{after_fits}
use Rattle.mq_addr.proofs.Spans.{same_addresses, is_range}
use Rattle.mq_addr.proofs.span.span_of.Goals as goal

pub with_number-requires-2 : goal.with_number-requires-2
with_number-requires-2 c =
    let small : c.free_bits-free.result ≤ width c.args.block.now.addr = omega (arith, c.free_bits-free.ensures.value) in
    omega (arith, after_fits c.number-bits.result c.free_bits-free.result (width c.args.block.now.addr) small c.number-bits.ensures.fits, c.last_of.ensures)

pub returns : goal.returns
returns c =
    let r : Range = record { first = c.with_number.result; last = c.with_number-2.result; protocol = c.args.protocol } in
    let first : bits_of r.first ≡ bits_of c.args.block.now.addr / 2 ^ free_bits c.args.block.now * 2 ^ free_bits c.args.block.now =
    c.with_number.ensures.value ∙ c.first_of.ensures ∙ ap (λ n. n / 2 ^ c.free_bits-free.result * 2 ^ c.free_bits-free.result) c.number-bits.ensures.value
    ∙ ap (λ n. bits_of c.args.block.now.addr / 2 ^ n * 2 ^ n) c.free_bits-free.ensures.value in
    let last : bits_of r.last + 1 ≡ after (bits_of c.args.block.now.addr) (free_bits c.args.block.now) =
    ap (λ n. n + 1) c.with_number-2.ensures.value ∙ c.last_of.ensures ∙ ap (λ n. after n c.free_bits-free.result) c.number-bits.ensures.value
    ∙ ap (λ n. after (bits_of c.args.block.now.addr) n) c.free_bits-free.ensures.value in
    record {
      range = is_range c.args.block.now r c.with_number.ensures.version c.with_number-2.ensures.version first last;
      protocol = refl;
      same = same_addresses c.args.block.now r c.with_number.ensures.version first last;
    }
