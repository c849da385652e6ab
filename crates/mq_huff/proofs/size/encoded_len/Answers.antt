use Rattle.std.proofs.Common.{◌<◌, ◌+◌, ◌/◌, ◌∙◌, length, sym, ap, arith}
use Rattle.std.proofs.lemmas.List.{take_all}
use Rattle.mq_huff.specs.Coded.{joined}
use Rattle.mq_huff.proofs.Bits.{length-bits_of}
use Rattle.mq_huff.proofs.Reading.{length-joined_more}
use Rattle.mq_huff.proofs.Unique.{length-coded}
use Rattle.mq_huff.proofs.size.encoded_len.Goals as goal

pub loop-byte-preserved : goal.loop-byte-preserved
loop-byte-preserved c =
    let lt : c.loop-byte.byte-index < length c.args.text.now = omega arith in
    let more = length-joined_more c.args.text.now c.loop-byte.byte-index lt in
    let size = ap (λ x. length x) c.code_at.ensures.code ∙ length-bits_of c.code_at.result.size c.code_at.result.number in
    record {
      counted = omega arith;
      small = omega arith;
    }

pub returns-clause-len : goal.returns-clause-len
returns-clause-len c =
    let e = take_all c.loop-byte.byte-index c.args.text.now (omega arith) in
    ap (λ n. (n + 7) / 8) (c.loop-byte.invariant.counted ∙ ap (λ xs. length (joined xs)) e)

pub returns-clause-coded : goal.returns-clause-coded
returns-clause-coded c = λ coded h.
    let e = take_all c.loop-byte.byte-index c.args.text.now (omega arith) in
    ap (λ n. (n + 7) / 8) (c.loop-byte.invariant.counted ∙ ap (λ xs. length (joined xs)) e) ∙ sym (length-coded c.args.text.now coded h)
