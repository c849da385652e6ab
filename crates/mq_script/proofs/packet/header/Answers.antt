use Rattle.std.proofs.Common.{◌≡◌, ◌+◌, ◌-◌, ◌/◌, ◌%◌, refl, arith}
use Rattle.mq_iphdr.specs.Onward.{summed}
use Rattle.mq_script.specs.Generated.{header}
use Rattle.mq_script.proofs.Checksums.{header_sum}
use Rattle.mq_script.proofs.packet.header.Goals as goal

pub returns : goal.returns
unfolding header summed
returns c =
    let words = header_sum (20 + c.args.size) c.args.client c.args.target (omega arith) (omega arith) (omega arith) in
    let high : (65535 - c.ones_add-sum-2.result) / 256 % 256 ≡ (65535 - c.ones_add-sum-2.result) / 256 = omega arith in
    rw (c.to_be_bytes.ensures, c.to_be_bytes-2.ensures, c.to_be_bytes-3.ensures, words, high, c.ones_add-sum-2.ensures, c.ones_add-sum.ensures, c.from-length.ensures, c.from.ensures) refl
