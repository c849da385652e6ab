use Rattle.std.proofs.Common.{arith, ◌/◌, ◌^◌, ℕ}
use Rattle.std.proofs.Math.Nat.{add-mul}
use Rattle.mq_addr.proofs.Numbers.{after_fits}
use Rattle.mq_addr.proofs.aligned.last_of.Goals as goal

pub overflow_add-result : goal.overflow_add-result
overflow_add-result c =
    let q : ℕ = c.args.number / 2 ^ c.args.bits in
    omega (arith, after_fits c.args.number c.args.bits 128 c.requires c.ranges.number.fits, add-mul q 1 (2 ^ c.args.bits), c.first_of.ensures, c.power.ensures.value)
