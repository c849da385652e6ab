use Rattle.std.proofs.Common.{sym, ◌∙◌, ap, arith, rules}
use Rattle.std.proofs.lemmas.List.{take_all}
use Rattle.std.proofs.lemmas.Result.{err_from_is_err_and}
use Rattle.mq_huff.specs.Coded.{bits}
use Rattle.mq_huff.proofs.Reading.{start, walked, told, ends_coded, ends_badly}
use Rattle.mq_huff.proofs.decoding.walk.Goals as goal

pub loop-byte-init : goal.loop-byte-init
loop-byte-init c = record {
  bytes = rw c.in_ok-out.ensures.items (search rules);
  state = omega arith;
  walked = rw c.in_ok-out.ensures.items start;
}

pub loop-byte-preserved : goal.loop-byte-preserved
loop-byte-preserved c = record {
  bytes = c.read_byte.ensures.bytes;
  state = omega arith;
  walked = walked c.args.text.now c.loop-byte.out.items c.read_byte.new.out.items c.loop-byte.byte-index c.loop-byte.state c.in_ok-state.state
      (omega arith) c.loop-byte.invariant.walked c.in_ok-state.ensures.steps;
}

pub returns-in_err-state : goal.returns-in_err-state
returns-in_err-state c =
    let p = err_from_is_err_and c.from_residual-in_err-state.result c.from_residual-in_err-state.ensures.1 in
    rw (p.1, p.2) (told c.args.text.now c.loop-byte.out.items c.read_byte.new.out.items c.loop-byte.byte-index c.loop-byte.state c.in_err-state.field-0.0
    (omega arith) c.read_byte.ensures.bytes c.loop-byte.invariant.walked c.in_err-state.ensures.steps)

pub returns-then-state-lt-PADDED : goal.returns-then-state-lt-PADDED
returns-then-state-lt-PADDED c =
    let e = take_all c.loop-byte.byte-index c.args.text.now (omega arith) in
    ends_coded c.args.text.now c.loop-byte.out.items c.loop-byte.state c.if-state-lt-PADDED.true c.loop-byte.invariant.bytes
    (ap (λ x. bits x) (sym e) ∙ c.loop-byte.invariant.walked)

pub returns-else-state-lt-PADDED : goal.returns-else-state-lt-PADDED
returns-else-state-lt-PADDED c =
    let e = take_all c.loop-byte.byte-index c.args.text.now (omega arith) in
    ends_badly c.args.text.now c.loop-byte.out.items c.loop-byte.state c.if-state-lt-PADDED.false c.loop-byte.invariant.state c.loop-byte.invariant.bytes
    (ap (λ x. bits x) (sym e) ∙ c.loop-byte.invariant.walked)
