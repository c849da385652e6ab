use Rattle.std.proofs.Common.{◌+◌, ◌-◌, ◌*◌, ◌∷◌, ◌∙◌, ap, sym, arith}
use Rattle.mq_hpack.specs.Integer.{further}
use Rattle.mq_hpack.proofs.Integers.{ended, more_byte, fits, fits_not, whole_is, too_large, part_small, part_below, worth_small, worth_next}
use Rattle.mq_hpack.proofs.integer.read_further.Goals as goal

pub overflow_mul-from : goal.overflow_mul-from
overflow_mul-from c =
    let s = worth_small c.loop.counter c.loop-test.true in
    let e = c.loop.invariant.worth in
    let p = part_small c.from.result c.loop.worth (omega arith) (omega arith) in
    omega arith

pub overflow_add-number : goal.overflow_add-number
overflow_add-number c =
    let s = worth_small c.loop.counter c.loop-test.true in
    let e = c.loop.invariant.worth in
    let p = part_small c.from.result c.loop.worth (omega arith) (omega arith) in
    let w = c.loop.invariant.within in
    omega arith

pub returns-in_err-whole : goal.returns-in_err-whole
returns-in_err-whole c =
    let n = c.loop.number + c.from.result * c.loop.worth in
    let large = fits_not c.try_from.result n c.try_from.ensures (sym c.ok.ensures.value ∙ c.in_err-whole.was) in
    rw c.from_residual-in_err-whole.ensures (sym (ended c.loop.counter c.loop.worth c.loop.number c.from.result c.args.full c.args.bytes.now c.loop.rest.now c.in_ok-byte.byte.now c.in_ok-byte.after.now
    c.loop.invariant.read c.in_ok-byte.ensures.cases.0 c.from.ensures c.loop-test.true c.if-byte-lt128.true ∙ too_large n c.in_ok-byte.after.now large))

pub returns-then-byte-lt128 : goal.returns-then-byte-lt128
returns-then-byte-lt128 c =
    let n = c.loop.number + c.from.result * c.loop.worth in
    let whole = fits c.try_from.result n c.in_ok-whole.whole c.try_from.ensures (sym c.ok.ensures.value ∙ c.in_ok-whole.was) in
    rw whole.1 (sym (ended c.loop.counter c.loop.worth c.loop.number c.from.result c.args.full c.args.bytes.now c.loop.rest.now c.in_ok-byte.byte.now c.in_ok-byte.after.now
    c.loop.invariant.read c.in_ok-byte.ensures.cases.0 c.from.ensures c.loop-test.true c.if-byte-lt128.true ∙ whole_is n c.in_ok-byte.after.now whole.0))

pub overflow_mul-number : goal.overflow_mul-number
overflow_mul-number c =
    let s = worth_small c.loop.counter c.loop-test.true in
    let e = c.loop.invariant.worth in
    let p = part_small (c.from-in-loop.result - 128) c.loop.worth (omega arith) (omega arith) in
    omega arith

pub overflow_add-number-in-loop : goal.overflow_add-number-in-loop
overflow_add-number-in-loop c =
    let s = worth_small c.loop.counter c.loop-test.true in
    let e = c.loop.invariant.worth in
    let p = part_small (c.from-in-loop.result - 128) c.loop.worth (omega arith) (omega arith) in
    let w = c.loop.invariant.within in
    omega arith

pub overflow_mul-worth : goal.overflow_mul-worth
overflow_mul-worth c =
    let s = worth_small c.loop.counter c.loop-test.true in
    let e = c.loop.invariant.worth in
    omega arith

pub loop-preserved : goal.loop-preserved
loop-preserved c =
    let rest = c.in_ok-byte.ensures.cases.0 in
    let e = c.loop.invariant.worth in
    let p = part_below (c.from-in-loop.result - 128) c.loop.worth (omega arith) in
    let w = c.loop.invariant.within in
    record {
      read = c.loop.invariant.read ∙ ap (λ xs. further (5 - c.loop.counter) c.loop.worth c.loop.number xs) rest
          ∙ ap (λ b. further (5 - c.loop.counter) c.loop.worth c.loop.number (b ∷ c.in_ok-byte.after.now)) (sym c.from-in-loop.ensures)
          ∙ more_byte c.loop.counter c.loop.worth c.loop.number c.from-in-loop.result c.in_ok-byte.after.now c.loop-test.true (omega arith);
      within = omega arith;
      worth = ap (λ n. n * 128) e ∙ worth_next c.loop.counter;
    }
