use Rattle.std.proofs.Common.{arith}
use Rattle.std.proofs.lemmas.Bool.{leb-true}
use Rattle.mq_addr.proofs.Within.{by_bits}
use Rattle.mq_addr.proofs.prefix.covers.Goals as goal

pub returns-then-free_bits : goal.returns-then-free_bits
returns-then-free_bits c =
    let bits = by_bits c.args.part.now c.args.whole.now in (
      λ yes. bits.1 (omega (arith, c.if-free_bits.true, c.free_bits.ensures.value, c.free_bits-2.ensures.value), c.contains.ensures.0 yes),
      λ h. c.contains.ensures.1 (bits.0 h).1,
    )

pub returns-else-free_bits : goal.returns-else-free_bits
returns-else-free_bits c =
    let bits = by_bits c.args.part.now c.args.whole.now in (
      λ yes. absurd (omega (arith, c.if-free_bits.false, leb-true _ _ yes)),
      λ h. let less = (bits.0 h).0 in absurd (omega (arith, c.if-free_bits.false, c.free_bits.ensures.value, c.free_bits-2.ensures.value, less)),
    )
