use Rattle.std.proofs.Common.{◌+◌, ◌*◌, ◌^◌, arith}
use Rattle.mq_huff.proofs.Bits.{bits_of-joined}
use Rattle.mq_huff.proofs.Writing.{moved, below, fits_word}
use Rattle.mq_huff.proofs.encoding.with_bits.Goals as goal

pub overflow_add-result : goal.overflow_add-result
overflow_add-result c =
    let e = moved c.args.word c.args.waiting c.args.size c.requires.word_fits c.requires.room in
    let l = below c.args.word c.args.waiting c.args.number c.args.size c.requires.word_fits c.requires.number_fits in
    let f = fits_word (c.args.word * 2 ^ c.args.size + c.args.number) (c.args.waiting + c.args.size) l c.requires.room in
    rw e (omega arith)

pub returns-clause-fits : goal.returns-clause-fits
returns-clause-fits c =
    let e = moved c.args.word c.args.waiting c.args.size c.requires.word_fits c.requires.room in
    rw e (below c.args.word c.args.waiting c.args.number c.args.size c.requires.word_fits c.requires.number_fits)

pub returns-clause-joined : goal.returns-clause-joined
returns-clause-joined c =
    let e = moved c.args.word c.args.waiting c.args.size c.requires.word_fits c.requires.room in
    rw e (bits_of-joined c.args.waiting c.args.size c.args.word c.args.number c.requires.number_fits)
