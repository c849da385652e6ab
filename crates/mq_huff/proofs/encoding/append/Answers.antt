use Rattle.std.proofs.Common.{ℕ, List, ◌<◌, [], arith, length, subst}
use Rattle.std.proofs.lemmas.List.{take_all}
use Rattle.std.proofs.lemmas.Result.{err_from_is_err_and, IfOk-weaker}
use Rattle.mq_huff.specs.Code.{bits_of}
use Rattle.mq_huff.specs.Coded.{joined}
use Rattle.mq_huff.specs.Encoded.{AppendsBits, AppendsPadded}
use Rattle.mq_huff.proofs.Writing.{nothing_put, code_waits, puts, puts_padded, then_put}
use Rattle.mq_huff.proofs.encoding.append.Goals as goal
use Rattle.mq_huff.proofs.encoding.append.Goals.{then-waiting-ge32+in_ok-word, else-waiting-ge32}

pub loop-byte-init : goal.loop-byte-init
unfolding bits_of
loop-byte-init c = record {
  fits = omega arith;
  few = omega arith;
  written = nothing_put c.args.out.now.items [];
}

pub loop-byte-preserved : goal.loop-byte-preserved
loop-byte-preserved c =
    let lt : c.loop-byte.byte-index < length c.args.text.now = omega arith in
    let few = c.loop-byte.invariant.few in
    let a = code_waits c.args.out.now.items c.loop-byte.out.items c.args.text.now c.loop-byte.byte-index c.loop-byte.word c.loop-byte.waiting
    c.code_at-code.result.size c.code_at-code.result.number c.from-size.result c.from.result c.with_bits-word.result lt
    c.loop-byte.invariant.written c.code_at-code.ensures.code c.from-size.ensures c.from.ensures c.with_bits-word.ensures.joined in
    elim c.if-waiting-ge32.branch [
      | then-waiting-ge32+in_ok-word w ↦ rw (w.out-is, w.word-is, w.waiting-is) (record {
        fits = w.in_ok-word.ensures.fits;
        few = omega (arith, c.code_at-code.ensures.short, c.from-size.ensures);
        written = puts c.args.out.now.items c.loop-byte.out.items w.put_word.new.out.items _ _ _ a w.in_ok-word.ensures.ok;
      })
      | else-waiting-ge32 w ↦ rw (w.out-is, w.word-is, w.waiting-is) (record {
        fits = c.with_bits-word.ensures.fits;
        few = omega arith;
        written = a;
      })
    ]

pub returns-in_err-word-clause-err : goal.returns-in_err-word-clause-err
returns-in_err-word-clause-err c =
    let p = err_from_is_err_and c.from_residual.result c.from_residual.ensures.1 in
    rw p.1 (then_put c.args.out.now.items c.loop-byte.out.items c.put_word.new.out.items _ _ c.loop-byte.invariant.written c.in_err-word.ensures.err)

pub returns-clause-ok : goal.returns-clause-ok
returns-clause-ok c =
    let all = take_all c.loop-byte.byte-index c.args.text.now (omega arith) in
    let a = subst (λ (xs : List ℕ). AppendsBits c.args.out.now.items c.loop-byte.out.items (bits_of c.loop-byte.waiting c.loop-byte.word) (joined xs)) all c.loop-byte.invariant.written in
    IfOk-weaker c.finish.result
    (λ _. AppendsPadded c.loop-byte.out.items c.finish.new.out.items (bits_of c.loop-byte.waiting c.loop-byte.word))
    (λ _. AppendsPadded c.args.out.now.items c.finish.new.out.items (joined c.args.text.now))
    (λ _ h. puts_padded c.args.out.now.items c.loop-byte.out.items c.finish.new.out.items _ _ a h)
    c.finish.ensures.ok
