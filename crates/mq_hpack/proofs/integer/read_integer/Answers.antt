use Rattle.std.proofs.Common.{◌*◌, ◌%◌, ◌^◌, ◌<◌, ◌∙◌, sym, arith}
use Rattle.std.proofs.lemmas.Nat.{one_shl}
use Rattle.mq_hpack.proofs.Integers.{no_byte, first_byte_at, full_byte_at}
use Rattle.mq_hpack.proofs.integer.read_integer.Goals as goal

pub returns-in_err-first : goal.returns-in_err-first
returns-in_err-first c = rw c.from_residual.ensures (sym (no_byte c.args.prefix c.args.bytes.now c.in_err-first.ensures.cases))

pub returns-then-low-full : goal.returns-then-low-full
returns-then-low-full c =
    let up : c.args.prefix < 64 = omega (arith, c.requires.1) in
    sym (first_byte_at c.args.prefix (1 * 2 ^ c.args.prefix % 2 ^ 64) c.from.result c.in_ok-first.first.now c.in_ok-first.rest.now c.args.bytes.now
    (one_shl c.args.prefix 64 up) c.in_ok-first.ensures.cases.0 c.from.ensures c.if-low-full.true)

pub returns : goal.returns
returns c =
    let up : c.args.prefix < 64 = omega (arith, c.requires.1) in
    c.read_further.ensures
    ∙ sym (full_byte_at c.args.prefix (1 * 2 ^ c.args.prefix % 2 ^ 64) c.from.result c.in_ok-first.first.now c.in_ok-first.rest.now c.args.bytes.now
    (one_shl c.args.prefix 64 up) c.in_ok-first.ensures.cases.0 c.from.ensures c.if-low-full.false)
